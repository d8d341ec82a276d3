-- As many bytes as there is room for are laid at the place.
use mathlib.Core.Path.{◌≡◌, refl, sym}
use Prim.Native.Nat.{◌+◌, ◌-◌}
use native.Mathlib.Omega.{arith}
use borrow.Author.Rules.{rules}
use lib.ListN.{take}
use lib.Seq.{drop-drop}
use Rattle.text.proofs.TextLaws.{puts_laid}
use Rattle.text.proofs.Writer.bytes.Goals as goal

pub returns : goal.returns
returns c =
    let b = c.min-start.result in
    let n = c.min-n.result in
    let z : b + n - b ≡ n = omega arith in
    let copied : c.copy_from_slice.new.self ≡ take n c.args.s.now = search rules in
    record {
      buffer = refl;
      text_is = rw (z, drop-drop, copied) (sym (puts_laid c.args.s.now c.args.self.now.out.now c.args.self.now.at b n (search rules) (search rules)));
    }
