-- The plan is the ladder's answer; where it goes on, the slot and the block are the record's.
use mathlib.Core.Path.{sym, ◌∙◌}
use Rattle.lists.specs.Bytes.{part}
use Rattle.disk_volume.specs.Name.{name_at, name_of}
use Rattle.call_read.specs.Read.{read_bytes}
use Rattle.call_read.proofs.ReadLaws.{Goes, plan_go, plan_no}
use Rattle.call_read.proofs.read.read_record.Goals as goal

pub act-requires : goal.act-requires
unfolding name_at part
act-requires c =
    let goes : (let a = c.args in Goes a.g a.volume.now a.user (name_of a.fcb.now) a.n a.missing c.in-Ok.plan.slot c.in-Ok.plan.block) = (let a = c.args in
    plan_go a.g a.volume.now a.user (name_of a.fcb.now) a.n a.missing c.requires.n_lt_file_records.1 c.in-Ok.plan (sym c.plan.ensures ∙ c.in-Ok.is)) in
    let k = goes in
    record {
      volume_and = c.requires.volume_and;
      slot_bound = (k.slot_in, (k.block_in, c.requires.n_lt_file_records.0));
    }

pub returns-in-Err : goal.returns-in-Err
unfolding name_at part
returns-in-Err c =
    let a = c.args in
    let k = plan_no a.g a.volume.now a.user (name_of a.fcb.now) a.n a.missing c.requires.n_lt_file_records.1 c.in-Err.why (sym c.plan.ensures ∙ c.in-Err.is) in
    record {
      value = k.0;
      fcb_after = rw k.1;
      buffer_after = rw k.1;
    }

pub returns-in-Ok : goal.returns-in-Ok
unfolding read_bytes name_at part
returns-in-Ok c =
    let goes : (let a = c.args in Goes a.g a.volume.now a.user (name_of a.fcb.now) a.n a.missing c.in-Ok.plan.slot c.in-Ok.plan.block) = (let a = c.args in
    plan_go a.g a.volume.now a.user (name_of a.fcb.now) a.n a.missing c.requires.n_lt_file_records.1 c.in-Ok.plan (sym c.plan.ensures ∙ c.in-Ok.is)) in
    let k = goes in
    record {
      value = sym k.clear;
      fcb_after = rw (← k.slot_is) c.act.ensures.fcb_after;
      buffer_after = rw (← k.block_is) c.act.ensures.buffer_after;
    }
