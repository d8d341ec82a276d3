-- No slot passed so far is empty, so what is still to be searched gives the whole.
use Rattle.std.proofs.Common.{◌≡◌, ℕ, ◌+◌, ◌-◌, Bool, List, take, drop, sym, ap, ◌∙◌, arith}
use Rattle.lists.proofs.BoundedLaws.{searched_start, searched_next, searched_hit, searched_none}
use Rattle.disk_geometry.specs.declared.Geometry.{Geometry}
use Rattle.disk_geometry.specs.Geometry.{slot_start}
use Rattle.disk_volume.specs.declared.Wanted.{Wanted}
use Rattle.disk_volume.specs.declared.Wanted.TheVariants.{Empty}
use Rattle.disk_volume.specs.Name.{strip}
use Rattle.disk_volume.specs.Directory.{fits, slot_fits}
use Rattle.disk_volume.proofs.EntryLaws.{lent_slot}
use Rattle.disk_volume.proofs.directory.empty_by_slots.Goals as goal

-- the entry of slot i as it is lent
seen : (g : Geometry) (v : List ℕ) (u : ℕ) (n : List ℕ) (w : Wanted) (i at : ℕ) (r : Bool) → at ≡ slot_start g i → r ≡ fits g u n w (take (at + 32 - at) (drop at v)) → slot_fits g v u n w i ≡ r
seen g v u n w i at r z e = sym (e ∙ ap (fits g u n w) (lent_slot g v i at z))

pub loop-i-init : goal.loop-i-init
loop-i-init c = searched_start

pub returns-then-has : goal.returns-then-has
returns-then-has c =
    let a = c.args in
    let s = seen a.g a.volume.now a.user (strip a.name.now) Empty c.loop-i.i _ _ c.slot_start-at.ensures.0 c.has.ensures in
    (sym (searched_hit c.loop-i.invariant (omega arith) (s ∙ c.if-has.true)), omega arith)

pub loop-i-preserved : goal.loop-i-preserved
loop-i-preserved c =
    let a = c.args in
    let s = seen a.g a.volume.now a.user (strip a.name.now) Empty c.loop-i.i _ _ c.slot_start-at.ensures.0 c.has.ensures in
    searched_next c.loop-i.invariant (omega arith) (s ∙ c.if-has.false)

pub returns : goal.returns
returns c = (sym (searched_none c.loop-i.invariant (omega arith) ∙ omega arith), omega arith)
