-- The bytes up to the present place are laid, a record or what is wanted of it at a time.
use Rattle.load_records.proofs.ImageLaws.{laid_more}
use Rattle.load_records.specs.Records.{image}
use Rattle.load_records.specs.CodeReading.{bare}
use Rattle.lists.specs.Bytes.{part}
use native.Mathlib.Omega.{arith}
use lib.ListN.{length}
use lib.Seq.{take_all}
use Prim.Native.Nat.{ℕ, ◌+◌, ◌-◌}
use mathlib.Core.Path.{◌≡◌, refl, sym, ap, ◌∙◌}
use Rattle.load_records.proofs.lay_image.Goals as goal

pub loop-at-init : goal.loop-at-init
unfolding part
loop-at-init c = (omega arith, refl)

pub loop-at-preserved : goal.loop-at-preserved
loop-at-preserved c =
    let a = c.args in
    let l = c.loop-at in
    let k = c.min-k.result in
    let z : l.at + k - l.at ≡ k = omega arith in
    let w = laid_more (bare a.front) a.volume.now a.fcb.now a.from l.out _ l.at k _ z (omega arith) l.invariant.1 (omega arith) (omega arith) c.lay_record.ensures in
    (rw w.0 (omega arith), w.1)

pub returns : goal.returns
returns c =
    let a = c.args in
    let l = c.loop-at in
    let z : l.at ≡ length a.out.now = omega arith in
    sym (take_all l.at l.out (omega arith)) ∙ l.invariant.1 ∙ ap (λ (n : ℕ). part (image (bare a.front) a.volume.now a.fcb.now) a.from n) z
