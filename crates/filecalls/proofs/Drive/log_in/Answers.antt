-- Down the ladder of log-in: each return has passed the tests above it, and the inspection tells the last one, the words and the count.
use Rattle.filecalls.specs.LogIn.{log_in_tests, refused_log_in, log_in}
use Rattle.call_answers.specs.Refusal.{first_met}
use Rattle.disk_rules.specs.GoodSlot.{lowest_bad}
use Rattle.disk_geometry.specs.Geometry.{lawful, bytes, slots}
use borrow.Author.Tests.{lt-ltb, le-ltb, ne_eqb, eq-eqb}
use lib.ListN.{length}
use native.Mathlib.Omega.{arith}
use Prim.Native.Nat.{◌<◌, ◌≤◌}
use mathlib.Core.Bool.{true}
use mathlib.Core.Path.{refl, ◌≡◌, sym, ◌∙◌}
use Rattle.filecalls.proofs.Drive.log_in.Goals as goal

pub returns-then-not-is_lawful : goal.returns-then-not-is_lawful
unfolding log_in log_in_tests first_met refused_log_in
returns-then-not-is_lawful c = c.closed_reply.ensures ∙ rw (← c.is_lawful.ensures, c.if-not-is_lawful.true)

pub bytes-requires : goal.bytes-requires
bytes-requires c =
    let law : lawful c.args.g ≡ true = sym c.is_lawful.ensures ∙ c.if-not-is_lawful.false in
    law

pub returns-then-not-whole : goal.returns-then-not-whole
unfolding log_in log_in_tests first_met refused_log_in
returns-then-not-whole c =
    let law : lawful c.args.g ≡ true = sym c.is_lawful.ensures ∙ c.if-not-is_lawful.false in
    c.closed_reply-then-not-whole.ensures ∙ rw (law, ← c.bytes.ensures, ne_eqb _ _ c.if-not-whole.true)

pub inspect-found-requires : goal.inspect-found-requires
inspect-found-requires c =
    let law : lawful c.args.g ≡ true = sym c.is_lawful.ensures ∙ c.if-not-is_lawful.false in
    let whole : length c.args.volume.now ≡ bytes c.args.g = c.if-not-whole.false ∙ c.bytes.ensures in
    record {
      volume = (law, whole);
      held_value = refl;
    }

pub slots-requires : goal.slots-requires
slots-requires c =
    let law : lawful c.args.g ≡ true = sym c.is_lawful.ensures ∙ c.if-not-is_lawful.false in
    law

pub returns-then-found-slots : goal.returns-then-found-slots
unfolding log_in log_in_tests first_met refused_log_in
returns-then-found-slots c =
    let law : lawful c.args.g ≡ true = sym c.is_lawful.ensures ∙ c.if-not-is_lawful.false in
    let a = c.args in
    let s = c.inspect-found.ensures.slot_value.0 in
    let h : lowest_bad a.g a.volume.now < slots a.g = omega (arith, c.if-found-slots.true, s, c.slots.ensures.0) in
    c.closed_reply-then-found-slots.ensures ∙ rw (law, ← c.bytes.ensures, eq-eqb _ _ c.if-not-whole.false, lt-ltb _ _ h, s)

pub returns : goal.returns
unfolding log_in log_in_tests first_met refused_log_in
returns c =
    let law : lawful c.args.g ≡ true = sym c.is_lawful.ensures ∙ c.if-not-is_lawful.false in
    let a = c.args in
    let n = c.slots.ensures.0 in
    let h : slots a.g ≤ lowest_bad a.g a.volume.now = omega (arith, c.if-found-slots.false, c.inspect-found.ensures.slot_value.0, n) in
    let found = c.inspect-found.ensures.held_after (omega (arith, c.if-found-slots.false, c.inspect-found.ensures.slot_value.1, n)) in
    rw (law, ← c.bytes.ensures, eq-eqb _ _ c.if-not-whole.false, le-ltb _ _ h, c.logged_in-drive.ensures, found.0, found.1)
