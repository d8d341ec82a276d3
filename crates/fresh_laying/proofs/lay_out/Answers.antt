-- The entries in order, then blank slots and blank blocks: that is the fresh disk.
use mathlib.Core.Path.{◌≡◌, ◌∙◌}
use lib.ListN.{length, take}
use lib.Seq.{length-take-le}
use Rattle.fresh_laying.proofs.KeptLaws.{kept_few, kept_long, kept_is, numbers_low, laid_out}
use Rattle.fresh_laying.proofs.lay_out.Goals as goal

pub lay_entries-next-requires : goal.lay_entries-next-requires
lay_entries-next-requires c =
    let o = c.order_of-m in
    record {
      accepted = (c.requires.accepted, c.requires.second_len);
      in_order = kept_is c.args.g c.args.first.now c.requires.accepted o.new.kept o.result o.ensures;
    }

pub blank_slots-requires : goal.blank_slots-requires
blank_slots-requires c =
    let o = c.order_of-m in
    record {
      volume = (c.requires.accepted.0, c.lay_entries-next.auto.second ∙ c.requires.second_len);
      k_bound = kept_few c.args.g c.args.first.now c.requires.accepted o.new.kept o.result o.ensures;
    }

pub blank_blocks-requires : goal.blank_blocks-requires
blank_blocks-requires c =
    let o = c.order_of-m in
    let l = c.lay_entries-next in
    let is = kept_is c.args.g c.args.first.now c.requires.accepted o.new.kept o.result o.ensures in
    record {
      volume = (c.requires.accepted.0, c.blank_slots.auto.second ∙ l.auto.second ∙ c.requires.second_len);
      b_bound = numbers_low c.args.g c.args.first.now c.requires.accepted (take o.result o.new.kept) is l.result l.ensures.value;
    }

pub returns : goal.returns
returns c =
    let o = c.order_of-m in
    let l = c.lay_entries-next in
    let long = kept_long c.args.g c.args.first.now c.requires.accepted o.new.kept o.result o.ensures in
    let many : length (take o.result o.new.kept) ≡ o.result = length-take-le o.result o.new.kept long in
    let is = kept_is c.args.g c.args.first.now c.requires.accepted o.new.kept o.result o.ensures in
    laid_out c.args.g c.args.first.now c.requires.accepted (take o.result o.new.kept) is c.args.second.now c.requires.second_len
    l.result l.new.second c.blank_slots.new.second c.blank_blocks.new.second l.ensures.value l.ensures.second_after
    (rw many c.blank_slots.ensures) c.blank_blocks.ensures
