-- An empty slot changes nothing; another one's number is entered among those that are in order.
use mathlib.Core.Path.{sym, ap, ◌∙◌}
use mathlib.Core.List.{List}
use Prim.Native.Nat.{ℕ}
use native.Mathlib.Omega.{arith}
use lib.ListN.{take}
use borrow.Author.Tests.{eq-eqb, ne_eqb}
use borrow.Author.Rules.{rules}
use Rattle.lists.specs.Bytes.{byte}
use Rattle.disk_geometry.proofs.GeometryLaws.{bounds}
use Rattle.disk_volume.specs.Directory.{slot_at}
use Rattle.disk_volume.proofs.EntryLaws.{lent_slot}
use Rattle.fresh_order.specs.CodeKeys.{entered}
use Rattle.fresh_sorting.specs.CodeKept.{key_in}
use Rattle.fresh_sorting.proofs.SortedLaws.{room_left, kept_rise, still_in_order, entered_in_order}
use Rattle.fresh_sorting.proofs.enter_slot.Goals as goal

pub returns-then-e : goal.returns-then-e
returns-then-e c =
    let a = c.args in
    let at = c.slot_start-at in
    let e = lent_slot a.g a.volume.now a.i at.result at.ensures.0 in
    still_in_order a.g a.volume.now c.requires.accepted a.i c.requires.i_bound.0 a.kept.now a.m c.requires.i_bound.1
    (eq-eqb (byte (slot_at a.g a.volume.now a.i) 0) 229 (sym (ap (λ (l : List ℕ). byte l 0) e) ∙ c.if-e.true))

pub key_of-key-requires : goal.key_of-key-requires
key_of-key-requires c =
    record {
      volume_and = search rules;
      i_lt_most_slots = omega (arith, c.requires.i_bound.0, (bounds c.args.g c.requires.accepted.0).slots_high);
    }

pub enter-requires : goal.enter-requires
enter-requires c =
    let a = c.args in (
      room_left a.g a.volume.now c.requires.accepted a.i c.requires.i_bound.0 a.kept.now a.m c.requires.i_bound.1,
      kept_rise a.g a.volume.now c.requires.accepted a.i c.requires.i_bound.0 a.kept.now a.m c.requires.i_bound.1,
    )

pub returns : goal.returns
returns c =
    let a = c.args in
    let v = a.volume.now in
    let at = c.slot_start-at in
    let e = lent_slot a.g v a.i at.result at.ensures.0 in
    let used = ne_eqb (byte (slot_at a.g v a.i) 0) 229 (λ h. c.if-e.false (ap (λ (l : List ℕ). byte l 0) e ∙ h)) in
    let key = c.key_of-key.ensures ∙ ap (λ (l : List ℕ). key_in a.g v l a.i) e in
    entered_in_order a.g v c.requires.accepted a.i c.requires.i_bound.0 a.kept.now a.m c.requires.i_bound.1 used
    c.enter.new.kept c.enter.ensures.kept_len_unchanged (c.enter.ensures.kept_after ∙ ap (λ (x : ℕ). entered (take a.m a.kept.now) x) key)
