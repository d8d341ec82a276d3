-- The name of the control block is stripped once, and what is then done is what the definitions say.
use mathlib.Core.Path.{◌≡◌, sym, ap, ◌∙◌}
use Rattle.lists.specs.Bytes.{part}
use Rattle.disk_volume.proofs.NameLaws.{strip_strip}
use Rattle.disk_volume.specs.Name.{strip, name_at, name_of}
use Rattle.call_make.proofs.make_file.Goals as goal

pub returns-then-is_none : goal.returns-then-is_none
unfolding name_at part
returns-then-is_none c =
    let named : c.lay_name.new.dst ≡ name_of c.args.fcb.now = c.lay_name.ensures in
    let once : strip c.lay_name.new.dst ≡ name_of c.args.fcb.now = ap strip named ∙ (unfold name_at in strip_strip (part c.args.fcb.now 1 11)) in
    let w = c.make_why-plan in
    let t = sym c.is_none.ensures ∙ c.if-is_none.true in
    let n = once in
    let o = c.put_slot in record { why_value = rw n at w.ensures.why_value; slot_value = rw n at w.ensures.slot_value; volume_after = rw (t, ← n, ← c.fresh_entry-e.ensures) o.ensures.volume_after; fcb_after = rw (t, ← named) c.set_made.ensures; left_after = rw t o.ensures.left_after }

pub returns-else-is_none : goal.returns-else-is_none
unfolding name_at part
returns-else-is_none c =
    let named : c.lay_name.new.dst ≡ name_of c.args.fcb.now = c.lay_name.ensures in
    let once : strip c.lay_name.new.dst ≡ name_of c.args.fcb.now = ap strip named ∙ (unfold name_at in strip_strip (part c.args.fcb.now 1 11)) in
    let w = c.make_why-plan in
    let t = sym c.is_none.ensures ∙ c.if-is_none.false in
    let n = once in
    record {
      why_value = rw n at w.ensures.why_value;
      slot_value = rw n at w.ensures.slot_value;
      volume_after = rw t;
      fcb_after = rw t;
      left_after = rw t;
    }
