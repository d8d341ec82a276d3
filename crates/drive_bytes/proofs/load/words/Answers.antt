-- The words below k are read, the others are still zero.
use mathlib.Core.Path.{◌≡◌, sym, ap, ◌∙◌}
use Prim.Native.Nat.{◌+◌, ◌*◌, ◌-◌}
use native.Mathlib.Omega.{arith}
use native.Mathlib.Numerals.{add-one}
use Rattle.lists.specs.Bytes.{part}
use Rattle.drive_bytes.specs.Layout.{held_at, held_word, words_at}
use Rattle.drive_bytes.proofs.WordLaws.{read_next}
use Rattle.drive_bytes.proofs.load.words.Goals as goal

pub loop-k-init : goal.loop-k-init
unfolding words_at
loop-k-init c = c.requires.1.1

pub loop-k-preserved : goal.loop-k-preserved
unfolding part
loop-k-preserved c =
    let l = c.loop-k in
    let s = c.args.s.now in
    let z : 32 + 8 * l.k + 8 - (32 + 8 * l.k) ≡ 8 = omega arith in
    let e : c.eight_of.result ≡ held_word s l.k = rw z at c.eight_of.ensures in
    rw (l.invariant, e) (read_next s l.k (omega (arith, c.requires.1.0)) ∙ ap (held_at s) (sym (add-one l.k)))
