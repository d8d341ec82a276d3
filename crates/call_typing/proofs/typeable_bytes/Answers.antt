-- Each byte, without its top bit, can be typed.
use mathlib.Core.Path.{◌≡◌, refl, ◌∙◌}
use mathlib.Core.Bool.{Bool, true, false, cond, ◌&&◌}
use mathlib.Core.List.{List, [], ◌∷◌}
use Prim.Native.Nat.{ℕ, ◌%◌}
use Rattle.std.proofs.Common.{rules, tests}
use Rattle.std.specs.List.{list_all}
use Rattle.std.proofs.lemmas.Iterator.{YieldsList-from_slice}
use Rattle.std.proofs.lemmas.Iterator.Search.{all_from_yields_List}
use Rattle.lists.specs.Bytes.{all}
use Rattle.disk_volume.specs.Name.{strip}
use Rattle.call_typing.specs.Typing.{typeable_byte}
use Rattle.call_typing.proofs.typeable_bytes.Goals as goal

both : (a b : Bool) → (a && b) ≡ cond a b false
both true b = refl
both false b = refl

all_stripped : (l : List ℕ) → list_all (λ x. typeable_byte (x % 128)) l ≡ all typeable_byte (strip l)
unfolding all strip
all_stripped [] = refl
all_stripped (x ∷ xs) = rw (all_stripped xs) (both (typeable_byte (x % 128)) (all typeable_byte (strip xs)))

pub returns : goal.returns
returns c =
    let name = c.args.name.now in
    all_from_yields_List (λ x. typeable_byte (x % 128)) _ _ _ c.all.ensures.ran (YieldsList-from_slice name cc) (λ x b q k. search (rules, tests)) ∙ all_stripped name
