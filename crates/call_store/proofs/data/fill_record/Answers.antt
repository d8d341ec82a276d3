-- By whether it is the record that is written: the block mask leaves its place within the block.
use mathlib.Core.Path.{◌≡◌, sym, ap, ◌∙◌}
use mathlib.Core.Logic.{◌≢◌}
use Prim.Native.Nat.{◌%◌}
use lib.Bits.{bit_and}
use borrow.Author.Tests.{eq-eqb, ne_eqb}
use Rattle.disk_geometry.specs.Geometry.{records}
use Rattle.disk_geometry.proofs.ShiftLaws.{block_shift}
use Rattle.call_store.proofs.data.fill_record.Goals as goal

pub returns-then-k-n : goal.returns-then-k-n
returns-then-k-n c =
    let place_within : (let a = c.args in bit_and a.n c.blm.result ≡ a.n % records a.g) = ap (bit_and c.args.n) c.blm.ensures ∙ (block_shift c.args.g c.requires.volume.0).remainder c.args.n in
    let a = c.args in
    let e : a.k ≡ a.n % records a.g = c.if-k-n.true ∙ place_within in
    record {
      volume_after = c.put_record.ensures.volume_after ∙ rw (eq-eqb a.k (a.n % records a.g) e);
      left_after = c.put_record.ensures.left_after;
    }

pub returns : goal.returns
returns c =
    let place_within : (let a = c.args in bit_and a.n c.blm.result ≡ a.n % records a.g) = ap (bit_and c.args.n) c.blm.ensures ∙ (block_shift c.args.g c.requires.volume.0).remainder c.args.n in
    let a = c.args in
    let e : a.k ≢ a.n % records a.g = λ q. c.if-k-n.false (q ∙ sym place_within) in
    record {
      volume_after = c.put_record-2.ensures.volume_after ∙ rw (ne_eqb a.k (a.n % records a.g) e);
      left_after = c.put_record-2.ensures.left_after;
    }
