-- The lowest start has room, and where it is beyond 16 bits none has.
use mathlib.Core.Path.{◌≡◌, refl, sym, ◌∙◌}
use mathlib.Core.Bool.{Bool, true, false, true≢false}
use mathlib.Core.List.{List}
use Prim.Native.Nat.{ℕ, ◌≤◌, ◌<◌}
use native.Mathlib.Omega.{arith}
use borrow.Author.Tests.{ltb-true, ltb-false}
use lib.Dec.{ltb}
use Rattle.lists.specs.Bounded.{low_from}
use Rattle.lists.proofs.BoundedLaws.{low_hit, low_miss}
use Rattle.memory_spans.specs.declared.Span.{Span}
use Rattle.memory_spans.specs.Span.{paragraphs}
use Rattle.memory_spans.specs.Room.{has_room}
use Rattle.memory_room.specs.Starts.{lowest_start}

pub lowest_has : (pieces regions : List Span) (k : ℕ) → lowest_start pieces regions k < paragraphs → has_room pieces regions k (lowest_start pieces regions k) ≡ true
unfolding lowest_start
lowest_has pieces regions k h = (low_hit (has_room pieces regions k) 0 paragraphs (low_from (has_room pieces regions k) 0 paragraphs) refl (omega arith)).passes

-- no lower start has room
pub lowest_low : (pieces regions : List Span) (k s : ℕ) → lowest_start pieces regions k < paragraphs → has_room pieces regions k s ≡ true → lowest_start pieces regions k ≤ s
unfolding lowest_start
lowest_low pieces regions k s h e = go (ltb s (low_from (has_room pieces regions k) 0 paragraphs)) refl
  where
    go : (t : Bool) → ltb s (low_from (has_room pieces regions k) 0 paragraphs) ≡ t → low_from (has_room pieces regions k) 0 paragraphs ≤ s
    go true u =
        let f = low_hit (has_room pieces regions k) 0 paragraphs (low_from (has_room pieces regions k) 0 paragraphs) refl (omega arith) in
        absurd (true≢false (sym e ∙ f.first s (omega arith) (ltb-true s (low_from (has_room pieces regions k) 0 paragraphs) u)))
    go false u = ltb-false s (low_from (has_room pieces regions k) 0 paragraphs) u

-- no start has room: the lowest is beyond 16 bits, and the other way round
pub lowest_none : (pieces regions : List Span) (k : ℕ) → paragraphs ≤ lowest_start pieces regions k → (s : ℕ) → s < paragraphs → has_room pieces regions k s ≡ false
unfolding lowest_start
lowest_none pieces regions k h s a = low_miss (has_room pieces regions k) 0 paragraphs (omega arith) s (omega arith) (omega arith)

pub none_lowest : (pieces regions : List Span) (k : ℕ) → ((s : ℕ) → s < paragraphs → has_room pieces regions k s ≡ false) → ltb (lowest_start pieces regions k) paragraphs ≡ false
none_lowest pieces regions k h = go (ltb (lowest_start pieces regions k) paragraphs) refl
  where
    go : (t : Bool) → ltb (lowest_start pieces regions k) paragraphs ≡ t → ltb (lowest_start pieces regions k) paragraphs ≡ false
    go false e = e
    go true e =
        let a = ltb-true (lowest_start pieces regions k) paragraphs e in
        absurd (true≢false (sym (lowest_has pieces regions k a) ∙ h (lowest_start pieces regions k) a))
