-- Laws of make: where its tests are passed the lowest empty slot is one of the directory's, and a new entry has 32 bytes.
use mathlib.Core.Path.{◌≡◌, refl, sym, ◌∙◌}
use mathlib.Core.Bool.{Bool, true, false, false≢true}
use mathlib.Core.List.{List, [], ◌∷◌}
use Prim.Native.Nat.{ℕ, ◌<◌}
use native.Mathlib.Omega.{arith}
use lib.Dec.{leb, ltb}
use lib.ListN.{length, length-append}
use borrow.Author.Tests.{leb-false}
use Rattle.disk_geometry.specs.declared.Geometry.{Geometry}
use Rattle.disk_volume.specs.declared.Wanted.TheVariants.{Empty, File}
use Rattle.disk_geometry.specs.Geometry.{slots}
use Rattle.disk_volume.specs.Directory.{find_slot}
use Rattle.call_answers.specs.declared.Refusal.{Refusal}
use Rattle.call_answers.specs.declared.Refusal.TheVariants.{Exists, NoRoom}
use Rattle.call_answers.specs.Refusal.{is_none, test, first, first_met}
use Rattle.call_answers.proofs.Ladder.{unmet}
use Rattle.call_make.specs.Make.{make_tests, fresh_entry}

pub empty_slot_below : (g : Geometry) (v : List ℕ) (u : ℕ) (name : List ℕ) → is_none (first_met (make_tests g v u name)) ≡ true → find_slot g v u name Empty < slots g
unfolding make_tests
empty_slot_below g v u name e =
    let full = leb (slots g) (find_slot g v u name Empty) in
    let taken = ltb (find_slot g v u name File) (slots g) in
    leb-false (slots g) (find_slot g v u name Empty) (unmet NoRoom full [] refl (unmet Exists taken (test NoRoom full ∷ []) refl e).1).0

-- neither of two refusals is one where the first of them is none
pub later_clear : (a b : Refusal) → is_none (first a b) ≡ true → is_none b ≡ true
later_clear a b e = go (is_none a) refl
  where
    go : (t : Bool) → is_none a ≡ t → is_none b ≡ true
    go true h = rw h at e
    go false h = absurd (false≢true (sym h ∙ rw h at e))

pub fresh_length : (u : ℕ) (name : List ℕ) → length name ≡ 11 → length (fresh_entry u name) ≡ 32
unfolding fresh_entry
fresh_length u name e = simp length-append (omega arith)
