-- What the tests of a search tell where they do not refuse, and what a search leaves.
use mathlib.Core.Path.{◌≡◌, refl, sym, ap, ◌∙◌}
use mathlib.Core.Bool.{Bool, true, false, not, cond, ◌&&◌, false≢true, true≢false}
use mathlib.Core.List.{List, [], ◌∷◌}
use Prim.Native.Nat.{ℕ, ◌%◌, ◌≤◌, ◌<◌}
use lib.Dec.{leb, ltb}
use lib.ListN.{length}
use borrow.Author.Tests.{not-false, ltb-true, lt-ltb, le-ltb, le-leb, lt-leb}
use Rattle.lists.proofs.BoolLaws.{and_parts}
use Rattle.disk_geometry.specs.Geometry.{lawful, slots}
use Rattle.disk_volume.specs.Record.{slot_record}
use Rattle.call_answers.specs.declared.Refusal.{Refusal}
use Rattle.call_answers.specs.declared.Refusal.TheVariants.{NoMatch}
use Rattle.call_answers.specs.declared.Answer.TheVariants.{Done, Refused}
use Rattle.call_answers.specs.Refusal.{Test, test, is_none, first_met}
use Rattle.call_search.specs.declared.SearchKind.{SearchKind}
use Rattle.call_search.specs.declared.SearchKind.TheVariants.{Nothing, Pattern, Everything}
use Rattle.filecalls.specs.declared.KeptSearch.{KeptSearch}
use Rattle.filecalls.specs.declared.Drive.{Drive}
use Rattle.filecalls.specs.declared.Reply.{Reply}
use Rattle.filecalls.specs.State.{good_pattern, good_kept, good_search, is_open}
use Rattle.filecalls.specs.Tests.{closed_state, volume_length, buffer_length}
use Rattle.disk_stores.specs.Stores.{laid}
use Rattle.filecalls.specs.Outcome.{unless, outcome, left, with_search, changed_state}
use Rattle.filecalls.specs.CodeReady.{Lent}
use Rattle.filecalls.specs.CodeLadder.{lent_tests, first_lent}
use Rattle.filecalls.specs.Search.{is_kept, kept_at, hit_act}
use Rattle.filecalls.proofs.OutcomeLaws.{clears}
use Rattle.filecalls.proofs.StateLaws.{lent_clear, both_clear}
use Rattle.filecalls.proofs.LentLaws.{lengths_passed}

-- what code knows once `first_why` has not refused
pub record First (d : Drive) (v f b : List ℕ) : Type 0 where
  pub none : is_none (first_met (first_lent d v f b)) ≡ true
  pub lent : Lent d (length v) (length f) (length b)

pub first_passed : (d : Drive) (v f b : List ℕ) {why : Refusal} {t : Bool}
    → why ≡ first_met (first_lent d v f b) → t ≡ is_none why → not t ≡ false → First d v f b
unfolding first_lent
first_passed d v f b e i h =
    let n = clears (first_lent d v f b) e i h in
    let xs = lent_tests d (length v) (length f) (length b) in
    record { none = n; lent = lent_clear d (length v) (length f) (length b) (both_clear xs _ n).0 }

-- the tests that search next, lent no control block, asks first
abbrev pub next_lent : Drive → List ℕ → List ℕ → List Test
next_lent d v b = closed_state d ∷ volume_length d v ∷ buffer_length b ∷ []

pub no_block : (d : Drive) (v b : List ℕ) → first_met (lent_tests d (length v) 36 (length b)) ≡ first_met (next_lent d v b)
unfolding lent_tests first_met
no_block d v b = refl

-- what code knows once they have not refused
pub record Next (d : Drive) (v b : List ℕ) : Type 0 where
  pub none : is_none (first_met (next_lent d v b)) ≡ true
  pub lent : Lent d (length v) 36 (length b)

pub next_passed : (d : Drive) (v b : List ℕ) {why : Refusal} {t : Bool}
    → why ≡ first_met (lent_tests d (length v) 36 (length b)) → t ≡ is_none why → not t ≡ false → Next d v b
next_passed d v b e i h =
    let p = lengths_passed d (length v) 36 (length b) e i h in
    record { none = sym (ap is_none (no_block d v b)) ∙ p.none; lent = p.lent }

-- the last hit of an open search is a slot
pub kept_below : (kind : SearchKind) (user last : ℕ) (pattern : List ℕ) (n : ℕ) → is_kept kind ≡ true → good_kept kind user last pattern n ≡ true → last < n
kept_below Nothing user last pattern n k e = absurd (false≢true k)
kept_below Pattern user last pattern n k e =
    ltb-true last n (and_parts (leb user 15) (ltb last n) (and_parts (leb user 15 && ltb last n) (good_pattern pattern) e).0).1
kept_below Everything user last pattern n k e = ltb-true last n (and_parts (leb user 15) (ltb last n) e).1

-- a kept search that stands outside is outside the rules
pub kept_outside : (kind : SearchKind) (user last : ℕ) (pattern : List ℕ) (n : ℕ) → is_kept kind ≡ true → (leb user 15 && ltb last n) ≡ false → good_kept kind user last pattern n ≡ false
kept_outside Nothing user last pattern n k e = absurd (false≢true k)
kept_outside Pattern user last pattern n k e = rw e
kept_outside Everything user last pattern n k e = e

-- within, the pattern alone is left to be asked, and only where there is one
pub pattern_within : (kind : SearchKind) (user last : ℕ) (pattern : List ℕ) (n : ℕ) → kind ≡ Pattern → (leb user 15 && ltb last n) ≡ true → good_kept kind user last pattern n ≡ good_pattern pattern
pattern_within kind user last pattern n k e = rw (k, e)

pub all_within : (kind : SearchKind) (user last : ℕ) (pattern : List ℕ) (n : ℕ) → kind ≡ Everything → (leb user 15 && ltb last n) ≡ true → good_kept kind user last pattern n ≡ true
all_within kind user last pattern n k e = rw (k, e)

-- a search that is not kept is within the rules
pub not_kept : (kind : SearchKind) (user last : ℕ) (pattern : List ℕ) (n : ℕ) → is_kept kind ≡ false → good_kept kind user last pattern n ≡ true
not_kept Nothing user last pattern n k = refl
not_kept Pattern user last pattern n k = absurd (true≢false k)
not_kept Everything user last pattern n k = absurd (true≢false k)

-- another geometry or user closes the state, whatever the search; lawful ones leave the search to be asked
pub outside_closed : (d : Drive) {t : Bool} → t ≡ lawful d.geometry → (t && leb d.user 15) ≡ false → is_open d ≡ false
unfolding is_open
outside_closed d e h = rw (← e, h)

pub search_left : (d : Drive) {t : Bool} → t ≡ lawful d.geometry → not (t && leb d.user 15) ≡ false → is_open d ≡ good_search d
unfolding is_open
search_left d {t} e h = rw (← e, not-false (t && leb d.user 15) h)

-- what a search leaves that came to slot i, j in the code: a hit, and none
module _ (d : Drive) (v f b : List ℕ) (q : KeptSearch) (i : ℕ) where
  pub hits : {r : Reply} {k : KeptSearch} {j : ℕ} {b' : List ℕ} → j ≡ i → j < slots d.geometry
      → b' ≡ cond (ltb j (slots d.geometry)) (slot_record d.geometry v j) b → k ≡ kept_at q j
      → r ≡ record { answer = Done (j % 4); drive = with_search d k }
      → left r v f b' ≡ outcome d v f b (unless (test NoMatch (leb (slots d.geometry) i) ∷ []) (hit_act d v f q i))
  unfolding outcome unless first_met hit_act changed_state laid
  hits {r} {k} {j} {b'} s h eb ek er =
      rw (er, ek, eb, ← s, lt-ltb j (slots d.geometry) h, lt-leb (slots d.geometry) j h)

  pub misses : {r : Reply} {j : ℕ} {b' : List ℕ} → j ≡ i → slots d.geometry ≤ j
      → b' ≡ cond (ltb j (slots d.geometry)) (slot_record d.geometry v j) b
      → r ≡ record { answer = Refused NoMatch; drive = d }
      → left r v f b' ≡ outcome d v f b (unless (test NoMatch (leb (slots d.geometry) i) ∷ []) (hit_act d v f q i))
  unfolding outcome unless first_met
  misses {r} {j} {b'} s h eb er = rw (er, eb, ← s, le-ltb j (slots d.geometry) h, le-leb (slots d.geometry) j h)
