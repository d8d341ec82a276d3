-- What the tests of the calls tell.
use mathlib.Core.Path.{◌≡◌, refl, sym, ◌∙◌}
use mathlib.Core.Bool.{Bool, true, false, cond, ◌&&◌, ◌||◌, true≢false}
use mathlib.Core.List.{List}
use Prim.Native.Nat.{ℕ, ◌≤◌, ◌<◌}
use native.Mathlib.Decide.{dec_lt}
use native.Mathlib.Omega.{arith}
use borrow.Author.Tests.{ltb-true, leb-true, eqb-false, le-leb}
use lib.Dec.{leb, eqb}
use lib.ListN.{length, length-take, get_or, get_or-eq_default}
use lib.Seq.{get_or-take}
use Rattle.lists.proofs.BoolLaws.{and_parts}
use Rattle.memory_spans.specs.declared.Span.{Span}
use Rattle.memory_spans.specs.Span.{places, paragraphs, none, end, any_of}
use Rattle.std.specs.Prelude.{Option, Some, None}
use Rattle.memory_regions.specs.Freeing.{edge}
use Rattle.memory_regions.specs.CodeFreeing.{first_edge}
use Rattle.memory_regions.proofs.FreeLaws.{first_any}
use Rattle.memory_spans.specs.Rules.{lawful}
use Rattle.memory_spans.proofs.MemberLaws.{in_at}
use Rattle.memory_spans.proofs.RulesLaws.{region_in_memory}
use Rattle.memory_room.specs.Starts.{lowest_start, longest}
use Rattle.memory_room.proofs.CandidateLaws.{longest_there}
use Rattle.memory_calls.specs.declared.Table.{Table}
use Rattle.memory_calls.specs.Table.{pieces_of, regions_of, within_rules}
use Rattle.memory_calls.specs.CodeReady.{Ready}

pub record Within (bytes : ℕ) (t : Table) : Type 0 where
  pub few_pieces : t.used ≤ places
  pub few_regions : t.granted ≤ places
  pub law : lawful bytes (pieces_of t) (regions_of t) ≡ true

pub within_facts : (bytes : ℕ) (t : Table) → within_rules bytes t ≡ true → Within bytes t
unfolding within_rules
within_facts bytes t e =
    let a = and_parts (leb t.used places && leb t.granted places) (lawful bytes (pieces_of t) (regions_of t)) e in
    let b = and_parts (leb t.used places) (leb t.granted places) a.0 in
    record { few_pieces = leb-true t.used places b.0; few_regions = leb-true t.granted places b.1; law = a.1 }

pub within_test : (bytes : ℕ) (t : Table) → Within bytes t → within_rules bytes t ≡ true
unfolding within_rules
within_test bytes t w = rw (le-leb t.used places w.few_pieces, le-leb t.granted places w.few_regions, w.law)

-- each region of a table within the rules ends at a paragraph that 16 bits can name, or straight behind the last of them
region_ends : (bytes : ℕ) (t : Table) → Within bytes t → (i : ℕ) → i < t.granted → end (get_or t.regions i none) ≤ paragraphs
region_ends bytes t w i h = rw (← get_or-take t.granted t.regions i none h) (go (dec_lt i (length (regions_of t))))
  where
    go : Dec (i < length (regions_of t)) → end (get_or (regions_of t) i none) ≤ paragraphs
    go (yes l) = (region_in_memory bytes (pieces_of t) (regions_of t) w.law (get_or (regions_of t) i none) (in_at (regions_of t) i l)).0
    go (no l) = rw (get_or-eq_default (regions_of t) none {n = i} (omega (arith, l))) (omega arith)

pub within_ready : (bytes : ℕ) (t : Table) → within_rules bytes t ≡ true → Ready t
within_ready bytes t e =
    let w = within_facts bytes t e in
    record { few_pieces = w.few_pieces; few_regions = w.few_regions; named = region_ends bytes t w }

or_right : (a b : Bool) → (a || b) ≡ false → b ≡ false
or_right false b e = e
or_right true b e = absurd (true≢false e)

-- the longest run begins where 16 bits can name it
pub longest_named : (pieces regions : List Span) (a : Bool) (k s : ℕ)
    → k ≡ longest pieces regions
    → s ≡ lowest_start pieces regions k
    → (a || eqb k 0) ≡ false
    → s < paragraphs
longest_named pieces regions a k s e f z =
    let n = eqb-false k 0 (or_right a (eqb k 0) z) in
    let p : 0 < k = omega (arith, n) in
    rw (f, e) (longest_there pieces regions (rw e at p))

-- what the search for a region to free tells
pub record FreeAt (part : Span) (t : Table) (at : ℕ) : Type 0 where
  pub few : length (regions_of t) ≤ places
  pub first : at ≡ first_edge part (regions_of t)
  pub below : at < length (regions_of t)
  pub named : end (get_or (regions_of t) at none) ≤ paragraphs

pub found_edge : (part : Span) (l : List Span) (at : ℕ) → Some at ≡ cond (any_of (edge part) l) (Some (first_edge part l)) None
    → (any_of (edge part) l ≡ true) × (at ≡ first_edge part l)
found_edge part l at e = go (any_of (edge part) l) e
  where
    go : (b : Bool) → Some at ≡ cond b (Some (first_edge part l)) None → (b ≡ true) × (at ≡ first_edge part l)
    go true f = (refl, (cc))
    go false f = (cc)

pub not_found : (part : Span) (l : List Span) → ◌≡◌ {A = Option ℕ} None (cond (any_of (edge part) l) (Some (first_edge part l)) None) → any_of (edge part) l ≡ false
not_found part l e = go (any_of (edge part) l) e
  where
    go : (b : Bool) → ◌≡◌ {A = Option ℕ} None (cond b (Some (first_edge part l)) None) → b ≡ false
    go true f = (cc)
    go false f = refl

pub found : (part : Span) (t : Table) (at : ℕ) → Ready t → Some at ≡ cond (any_of (edge part) (regions_of t)) (Some (first_edge part (regions_of t))) None → FreeAt part t at
found part t at r e =
    let f = found_edge part (regions_of t) at e in
    let b : at < length (regions_of t) = ltb-true at (length (regions_of t)) (rw f.1 (sym (first_any part (regions_of t)) ∙ f.0)) in
    let n : length (regions_of t) ≤ t.granted = rw length-take (omega arith) in
    record {
      few = omega (arith, n, r.few_regions);
      first = f.1;
      below = b;
      named = rw (get_or-take t.granted t.regions at none (omega arith)) (r.named at (omega arith));
    }
