-- The places passed so far are good, and the blocks in them are held beside those of the lower slots.
use mathlib.Core.Path.{◌≡◌, sym, ap, ◌∙◌}
use mathlib.Core.Bool.{Bool, cond, false≢true, not}
use mathlib.Core.List.{List}
use Prim.Native.Nat.{ℕ}
use native.Mathlib.Nat.{sub-zero}
use native.Mathlib.Omega.{arith}
use borrow.Author.Rules.{rules}
use borrow.Author.Tests.{not-true}
use lib.ListN.{length}
use Rattle.lists.proofs.BoolLaws.{and_left}
use Rattle.lists.proofs.BoundedLaws.{passed_start, passed_next, passed_fails, passed_all}
use Rattle.disk_volume.specs.Entry.{block_in}
use Rattle.disk_geometry.specs.Geometry.{places}
use Rattle.disk_volume.specs.Directory.{slot_at}
use Rattle.disk_volume.proofs.EntryLaws.{lent_slot}
use Rattle.disk_held.specs.Held.{hold}
use Rattle.disk_held.proofs.WordsLaws.{length_words}
use Rattle.disk_maps.proofs.HeldLaws.{no_places, zero_place, zero_good, block_place, place_test}
use Rattle.disk_maps.proofs.take_map.Goals as goal
use Rattle.disk_maps.proofs.take_map.Goals.{then-b-ne0+else-not-take_block, else-b-ne0}

pub loop-p-init : goal.loop-p-init
loop-p-init c = (c.requires.i_bound.1 ∙ no_places _ _ _, passed_start)

pub take_block-requires : goal.take_block-requires
take_block-requires c = (search rules, ap length c.loop-p.invariant.0 ∙ length_words _)

pub returns-then-not-take_block : goal.returns-then-not-take_block
returns-then-not-take_block c =
    let block : (let a = c.args in c.block_in-b.result ≡ block_in a.g (slot_at a.g a.volume.now a.i) c.loop-p.p) = (let a = c.args in
    let at = c.slot_start-at in
    rw (← lent_slot a.g a.volume.now a.i at.result at.ensures.0) c.block_in-b.ensures.0) in
    let a = c.args in
    let l = c.loop-p in
    let t = c.take_block in
    let bad = place_test a.g a.volume.now a.i l.p c.requires.volume.0 c.block_in-b.result block c.if-b-ne0.true l.held l.invariant.0
    ∙ sym t.ensures.value ∙ not-true t.result (ap not c.if-not-take_block.true) in
    record {
      value = rw sub-zero at (sym (passed_fails l.invariant.1 (search rules) bad));
      held_after = λ h. absurd (false≢true h);
    }

pub loop-p-preserved : goal.loop-p-preserved
loop-p-preserved c =
    let block : (let a = c.args in c.block_in-b.result ≡ block_in a.g (slot_at a.g a.volume.now a.i) c.loop-p.p) = (let a = c.args in
    let at = c.slot_start-at in
    rw (← lent_slot a.g a.volume.now a.i at.result at.ensures.0) c.block_in-b.ensures.0) in
    let a = c.args in
    let law = c.requires.volume.0 in
    let l = c.loop-p in
    let b = c.block_in-b.result in
    let e = block in
    elim c.if-b-ne0.branch [
      | then-b-ne0+else-not-take_block w ↦
          let taken = w.if-not-take_block.false in
          let good =
          place_test a.g a.volume.now a.i l.p law b e w.if-b-ne0.true l.held l.invariant.0
          ∙ sym w.take_block.ensures.value
          ∙ taken in
          let in_g = and_left _ _ (sym w.take_block.ensures.value ∙ taken) in
          let next = ap (λ (t : Bool). cond t (hold l.held b) l.held) taken ∙ ap (λ (h : List ℕ). hold h b) l.invariant.0 in
          (w.held-is ∙ w.take_block.ensures.held_after ∙ next ∙ block_place a.g a.volume.now a.i l.p law b e in_g, passed_next l.invariant.1 (search rules) good)
      | else-b-ne0 w ↦
          let z = sym e ∙ w.if-b-ne0.false in
          (w.held-is ∙ l.invariant.0 ∙ zero_place a.g a.volume.now a.i l.p law z, passed_next l.invariant.1 (search rules) (zero_good a.g a.volume.now a.i l.p z))
    ]

pub returns : goal.returns
returns c =
    let l = c.loop-p in
    let z : l.p ≡ places c.args.g = omega (arith, c.places-p-end.ensures.0) in
    record {
      value = rw sub-zero at (sym (passed_all l.invariant.1 (search rules)));
      held_after = λ h. rw (← z) l.invariant.0;
    }
