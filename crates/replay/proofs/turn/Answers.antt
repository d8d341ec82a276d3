-- A turn takes no more bytes than the window's unread part has.
use Rattle.std.proofs.Common.{rules, arith, length-take, length-drop, Fits, w64}
use Rattle.std.specs.Prelude.{ℕ, ◌+◌, ◌-◌, ◌^◌, ◌<◌, ◌≤◌, List, length, take, drop}
use Rattle.replay.proofs.turn.Goals as goal

used_within : (from to used : ℕ) (xs : List ℕ) → from ≤ to → to ≤ length xs → used ≤ length (take (to - from) (drop from xs)) → from + used ≤ to
used_within from to used xs h k u = omega (arith, simp (length-take, length-drop) at u)

small : (a b to : ℕ) → a + b ≤ to → to < 2 ^ 64 → Fits w64 (a + b)
small a b to h k = omega arith

pub overflow_add-unread : goal.overflow_add-unread
overflow_add-unread c =
    let r = c.refill-u.ensures.from_le_to in
    small _ _ _ (used_within _ _ _ _ r.0 r.1 c.take_turn-t.ensures.next_value.1.1) (search rules)

pub returns : goal.returns
returns c =
    let r = c.refill-u.ensures.from_le_to in
    (used_within _ _ _ _ r.0 r.1 c.take_turn-t.ensures.next_value.1.1, search rules)
