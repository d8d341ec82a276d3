-- The tests in the definition's order.
use Rattle.disk_faults.specs.CodeLadder.{entry_rule}
use Rattle.disk_volume.specs.Name.{name_at}
use Rattle.lists.specs.Bytes.{part}
use borrow.Author.Tests.{le-leb, lt-leb, eq-eqb, ne_eqb}
use Rattle.disk_faults.proofs.entry_rule.Goals as goal

pub returns-then-e-gt-LAST_USER : goal.returns-then-e-gt-LAST_USER
unfolding entry_rule
returns-then-e-gt-LAST_USER c = rw (lt-leb _ 15 c.if-e-gt-LAST_USER.true)

pub returns-then-not-good_name : goal.returns-then-not-good_name
unfolding entry_rule name_at part
returns-then-not-good_name c = rw (le-leb _ 15 c.if-e-gt-LAST_USER.false, ← c.good_name.ensures, c.if-not-good_name.true)

pub returns-then-not-good_top_bits : goal.returns-then-not-good_top_bits
unfolding entry_rule name_at part
returns-then-not-good_top_bits c =
    rw (le-leb _ 15 c.if-e-gt-LAST_USER.false, ← c.good_name.ensures, c.if-not-good_name.false, ← c.good_top_bits.ensures, c.if-not-good_top_bits.true)

pub returns-then-e-gt31 : goal.returns-then-e-gt31
unfolding entry_rule name_at part
returns-then-e-gt31 c =
    rw (le-leb _ 15 c.if-e-gt-LAST_USER.false, ← c.good_name.ensures, c.if-not-good_name.false, ← c.good_top_bits.ensures, c.if-not-good_top_bits.false, lt-leb _ 31 c.if-e-gt31.true)

pub returns-then-e-ne0 : goal.returns-then-e-ne0
unfolding entry_rule name_at part
returns-then-e-ne0 c =
    rw (le-leb _ 15 c.if-e-gt-LAST_USER.false, ← c.good_name.ensures, c.if-not-good_name.false, ← c.good_top_bits.ensures, c.if-not-good_top_bits.false, le-leb _ 31 c.if-e-gt31.false, ne_eqb _ 0 c.if-e-ne0.true)

pub returns-then-e-gt15 : goal.returns-then-e-gt15
unfolding entry_rule name_at part
returns-then-e-gt15 c =
    rw (le-leb _ 15 c.if-e-gt-LAST_USER.false, ← c.good_name.ensures, c.if-not-good_name.false, ← c.good_top_bits.ensures, c.if-not-good_top_bits.false, le-leb _ 31 c.if-e-gt31.false, eq-eqb _ 0 c.if-e-ne0.false, lt-leb _ 15 c.if-e-gt15.true)

pub returns-then-e-gt-FULL_EXTENT : goal.returns-then-e-gt-FULL_EXTENT
unfolding entry_rule name_at part
returns-then-e-gt-FULL_EXTENT c =
    rw (le-leb _ 15 c.if-e-gt-LAST_USER.false, ← c.good_name.ensures, c.if-not-good_name.false, ← c.good_top_bits.ensures, c.if-not-good_top_bits.false, le-leb _ 31 c.if-e-gt31.false, eq-eqb _ 0 c.if-e-ne0.false, le-leb _ 15 c.if-e-gt15.false, lt-leb _ 128 c.if-e-gt-FULL_EXTENT.true)

pub returns : goal.returns
unfolding entry_rule name_at part
returns c =
    rw (le-leb _ 15 c.if-e-gt-LAST_USER.false, ← c.good_name.ensures, c.if-not-good_name.false, ← c.good_top_bits.ensures, c.if-not-good_top_bits.false, le-leb _ 31 c.if-e-gt31.false, eq-eqb _ 0 c.if-e-ne0.false, le-leb _ 15 c.if-e-gt15.false, le-leb _ 128 c.if-e-gt-FULL_EXTENT.false)
