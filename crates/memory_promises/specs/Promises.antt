-- The promises of the memory calls and of a group's grant. proofs/Theorem.antt and proofs/GroupTheorem.antt prove each statement under its name.
use Rattle.std.specs.Prelude.{◌≡◌, Some, None, true, false, List, [], ◌∷◌, ◌++◌, ◌⊎◌, ℕ, ◌+◌, ◌≤◌, ◌<◌, min, length, get_or, Ok, Err}
use Rattle.memory_spans.specs.declared.Span.{Span}
use Rattle.memory_spans.specs.Span.{places, paragraphs, none, end, covers}
use Rattle.memory_spans.specs.Room.{free, taken}
use Rattle.memory_spans.specs.Rules.{lawful}
use Rattle.memory_room.specs.Starts.{grant_of}
use Rattle.memory_calls.specs.declared.Table.{Table}
use Rattle.memory_calls.specs.declared.Mcb.{Mcb}
use Rattle.memory_calls.specs.declared.Reply.{Reply}
use Rattle.memory_calls.specs.declared.Refusal.{Refusal}
use Rattle.memory_calls.specs.declared.Refusal.TheVariants.{NoRoom}
use Rattle.memory_calls.specs.Table.{pieces_of, regions_of, within_rules}
use Rattle.memory_calls.specs.Calls.{memory_call}

-- ---- "a refusal alters nothing"
abbrev pub RefusalAltersNothing : Type 0
RefusalAltersNothing =
    (f bytes : ℕ) (t : Table) (b : Mcb) (why : Refusal)
    → (memory_call f bytes t b).answer ≡ Err why
    → ((memory_call f bytes t b).table ≡ t) × ((memory_call f bytes t b).mcb ≡ b)

-- ---- any list of memory calls, each on the table that the one before it left
pub record Request : Type 0 where
  pub function : ℕ
  pub mcb : Mcb

unfoldable pub after : ℕ → Table → List Request → Table
after bytes t [] = t
after bytes t (c ∷ cs) = after bytes (memory_call c.function bytes t c.mcb).table cs

-- a table within the rules: no paragraph is in two regions, and every region lies in one piece
pub record InPiece (region : Span) (pieces : List Span) : Type 0 where
  pub place : ℕ
  pub below : place < length pieces
  pub from : (get_or pieces place none).start ≤ region.start
  pub to : end region ≤ end (get_or pieces place none)

pub record Kept (bytes : ℕ) (t : Table) : Type 0 where
  pub rules : within_rules bytes t ≡ true
  pub once : (i j p : ℕ)
      → i < j
      → j < length (regions_of t)
      → covers (get_or (regions_of t) i none) p ≡ true
      → covers (get_or (regions_of t) j none) p ≡ true
      → ⊥
  pub inside : (i : ℕ) → i < length (regions_of t) → InPiece (get_or (regions_of t) i none) (pieces_of t)

abbrev pub StaysWithinRules : Type 0
StaysWithinRules = (bytes : ℕ) (t : Table) → within_rules bytes t ≡ true → (cs : List Request) → Kept bytes (after bytes t cs)

-- ---- "62 no such room exists": room for k paragraphs at s is k paragraphs, at least one, of one piece, none of them granted
pub record Room (pieces regions : List Span) (k s : ℕ) : Type 0 where
  pub some : 0 < k
  pub place : ℕ
  pub below : place < length pieces
  pub clear : (p : ℕ) → s ≤ p → p < s + k → (covers (get_or pieces place none) p ≡ true) × (taken regions p ≡ false)

abbrev pub Exactly : Type 0 → Type 0 → Type 0
Exactly A B = (A → B) × (B → A)

-- the answer 62 of each call, on a table within the rules; in 55 and 56 where a region place is left
pub record NoRoomExactly (bytes : ℕ) (t : Table) (b : Mcb) : Type 0 where
  pub longest_run : Exactly
      ((memory_call 53 bytes t b).answer ≡ Err NoRoom)
      ((s k : ℕ) → s < paragraphs → k ≤ b.length → Room (pieces_of t) (regions_of t) k s → ⊥)
  pub test : Exactly ((memory_call 54 bytes t b).answer ≡ Err NoRoom) (Room (pieces_of t) (regions_of t) b.length b.base → ⊥)
  pub grant : t.granted < places → Exactly
      ((memory_call 55 bytes t b).answer ≡ Err NoRoom)
      ((s : ℕ) → s < paragraphs → Room (pieces_of t) (regions_of t) b.length s → ⊥)
  pub grant_at_lem : t.granted < places → Exactly
      ((memory_call 56 bytes t b).answer ≡ Err NoRoom)
      (Room (pieces_of t) (regions_of t) b.length b.base → ⊥)

abbrev pub NoRoomMeansNoRoom : Type 0
NoRoomMeansNoRoom = (bytes : ℕ) (t : Table) (b : Mcb) → within_rules bytes t ≡ true → NoRoomExactly bytes t b

-- ---- 53 gives "the longest free run, lowest of equals, at most the length asked", and leaves the table: no start has room for more
-- paragraphs than the run, and none below its start has as many
pub record LongestRun (t : Table) (b : Mcb) (r : Reply) : Type 0 where
  pub run : ℕ
  pub there : Room (pieces_of t) (regions_of t) run r.mcb.base
  pub longest : (s k : ℕ) → s < paragraphs → Room (pieces_of t) (regions_of t) k s → k ≤ run
  pub lowest : (s : ℕ) → Room (pieces_of t) (regions_of t) run s → r.mcb.base ≤ s
  pub cut : r.mcb.length ≡ min run b.length
  pub table : r.table ≡ t

abbrev pub GivesLongestRun : Type 0
GivesLongestRun = (bytes : ℕ) (t : Table) (b : Mcb) → (memory_call 53 bytes t b).answer ≡ Ok tt → LongestRun t b (memory_call 53 bytes t b)

-- ---- "Freed room is granted again": after a grant and the free of the same region, by the control block that the grant left, the regions
-- are what they were, and so is every free paragraph; the same request is granted again, and the same region
pub record Restored (f bytes : ℕ) (t : Table) (b : Mcb) (r : Reply) : Type 0 where
  pub done : r.answer ≡ Ok tt
  pub regions : regions_of r.table ≡ regions_of t
  pub same_free : (p : ℕ) → free (pieces_of r.table) (regions_of r.table) p ≡ free (pieces_of t) (regions_of t) p
  pub again : (memory_call f bytes r.table b).answer ≡ Ok tt
  pub same_region : (memory_call f bytes r.table b).mcb ≡ (memory_call f bytes t b).mcb

abbrev pub GrantThenFree : Type 0
GrantThenFree =
    (f bytes : ℕ) (t : Table) (b : Mcb)
    → (f ≡ 55) ⊎ (f ≡ 56)
    → (memory_call f bytes t b).answer ≡ Ok tt
    → Restored f bytes t b (memory_call 57 bytes (memory_call f bytes t b).table (memory_call f bytes t b).mcb)

-- ---- a group of a CMD file: what it is granted keeps the rules and is at least what it needs; it is granted nothing exactly where
-- neither its base nor, with a base of 0, any start has room
abbrev pub GroupKeepsRules : Type 0
GroupKeepsRules =
    (bytes : ℕ) (pieces regions : List Span) (base need most : ℕ) (s : Span)
    → lawful bytes pieces regions ≡ true
    → grant_of pieces regions base need most ≡ Some s
    → (lawful bytes pieces (regions ++ (s ∷ [])) ≡ true) × (need ≤ s.length)

abbrev pub NowhereMeansNoRoom : Type 0
NowhereMeansNoRoom =
    (pieces regions : List Span) (base need most : ℕ)
    → Exactly
    (grant_of pieces regions base need most ≡ None)
    ((s : ℕ) → s < paragraphs → (base ≡ 0) ⊎ (s ≡ base) → Room pieces regions need s → ⊥)
