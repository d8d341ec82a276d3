-- The loop that grants one group after the other; and what a group is granted lies in the memory.
use mathlib.Core.Path.{◌≡◌, refl, sym, ap, ◌∙◌}
use mathlib.Core.Bool.{true}
use mathlib.Core.List.{List, [], ◌∷◌, ◌++◌, append_assoc, append-nil}
use Prim.Native.Nat.{ℕ, zero, suc, ◌+◌, ◌-◌, ◌*◌, ◌≤◌, ◌<◌}
use native.Mathlib.Numerals.{add-one}
use native.Mathlib.Omega.{arith}
use lib.ListN.{length, take, get_or, length-append}
use Rattle.memory_spans.specs.declared.Span.{Span}
use Rattle.memory_spans.specs.Span.{places, paragraph_bytes, none, end}
use Rattle.memory_spans.specs.Rules.{lawful}
use Rattle.memory_spans.proofs.MemberLaws.{In, in_first_lem, in_later}
use Rattle.memory_spans.proofs.RulesLaws.{region_in_memory}
use Rattle.std.specs.Prelude.{Option, Some, None}
use Rattle.memory_regions.specs.declared.Regions.{Regions}
use Rattle.memory_regions.specs.Places.{places_of}
use Rattle.memory_regions.proofs.PlaceLaws.{padded_used}
use Rattle.memory_promises.proofs.GroupTheorem.{group_keeps_rules}
use Rattle.load_header.specs.Header.{base_at, most_at, need}
use Rattle.load_grants.specs.Grants.{followed, granted_to, grants}

-- ---- the loop: what was granted so far, and what is still to be granted
pub record Granting (h : List ℕ) (pieces regions : List Span) (k : ℕ) (so : Regions) (i : ℕ) : Type 0 where
  pub sofar : List Span
  pub rest : grants h pieces regions 0 k ≡ sofar ++ grants h pieces (regions ++ sofar) i (k - i)
  pub is : so ≡ places_of (regions ++ sofar)
  pub number : length sofar ≡ i

less : (k i : ℕ) → i < k → k - i ≡ suc (k - (i + 1))
less k i h = omega arith

pub granting_start : (h : List ℕ) (pieces regions : List Span) (k : ℕ) {so : Regions} → so ≡ places_of regions → Granting h pieces regions k so 0
granting_start h pieces regions k e =
    record {
      sofar = [];
      rest = let z : k - 0 ≡ k = omega arith in rw (z, append-nil regions);
      is = e ∙ ap places_of (sym (append-nil regions));
      number = refl;
    }

module _ {h : List ℕ} {pieces regions : List Span} {k : ℕ} {so : Regions} {i : ℕ} (g : Granting h pieces regions k so i) where
  length_used : length (regions ++ g.sofar) ≡ length regions + i
  length_used = rw length-append (omega (arith, g.number))

  -- the regions in use are those that were there and those granted so far
  used : i < k → length regions + k ≤ places → take so.count so.list ≡ regions ++ g.sofar
  used l few = ap (λ (x : Regions). take x.count x.list) g.is ∙ padded_used places (regions ++ g.sofar) (omega (arith, length_used))

  pub room_for_one : {u : List Span} → i < k → length regions + k ≤ places → u ≡ take so.count so.list → length u < places
  room_for_one l few e = let z = ap length (e ∙ used l few) in omega (arith, length_used)

  -- group i is granted s
  step : {s : Span} → i < k → granted_to h pieces (regions ++ g.sofar) i ≡ Some s
      → grants h pieces regions 0 k ≡ (g.sofar ++ (s ∷ [])) ++ grants h pieces (regions ++ (g.sofar ++ (s ∷ []))) (i + 1) (k - (i + 1))
  unfolding grants followed
  step {s} l e =
      g.rest
      ∙ rw (less k i l, e, add-one, append_assoc g.sofar (s ∷ []) (grants h pieces (regions ++ (g.sofar ++ (s ∷ []))) (suc i) (k - suc i)), ← append_assoc regions g.sofar (s ∷ []))

  pub granting_next : {u v : List Span} {s : Span} {next : Regions} → i < k → length regions + k ≤ places → u ≡ take so.count so.list → v ≡ take so.count so.list
      → granted_to h pieces u i ≡ Some s → next ≡ places_of (v ++ (s ∷ [])) → Granting h pieces regions k next (i + 1)
  granting_next {u} {v} {s} {next} l few eu ev e f =
      record {
        sofar = g.sofar ++ (s ∷ []);
        rest = step l (ap (λ (x : List Span). granted_to h pieces x i) (sym (eu ∙ used l few)) ∙ e);
        is = f ∙ ap (λ (x : List Span). places_of (x ++ (s ∷ []))) (ev ∙ used l few) ∙ ap places_of (append_assoc regions g.sofar (s ∷ []));
        number = rw length-append (omega (arith, g.number));
      }

  -- group i has no room
  pub granting_stop : {u : List Span} → i < k → length regions + k ≤ places → u ≡ take so.count so.list → granted_to h pieces u i ≡ None
      → so ≡ places_of (regions ++ grants h pieces regions 0 k)
  unfolding grants followed
  granting_stop {u} l few eu e =
      let w : granted_to h pieces (regions ++ g.sofar) i ≡ None = ap (λ (x : List Span). granted_to h pieces x i) (sym (eu ∙ used l few)) ∙ e in
      let all : grants h pieces regions 0 k ≡ g.sofar = g.rest ∙ rw (less k i l, w) (append-nil g.sofar) in
      rw all g.is

  pub granting_end : k ≤ i → so ≡ places_of (regions ++ grants h pieces regions 0 k)
  unfolding grants
  granting_end l =
      let z : k - i ≡ 0 = omega arith in
      let all : grants h pieces regions 0 k ≡ g.sofar = g.rest ∙ rw z (append-nil g.sofar) in
      rw all g.is

-- ---- what the groups are granted keeps the rules, is at least what they need, and lies in the memory
pub in_last : (l : List Span) (s : Span) → In s (l ++ (s ∷ []))
in_last [] s = in_first_lem s []
in_last (x ∷ l) s = in_later s x (l ++ (s ∷ [])) (in_last l s)

pub record Fits (bytes : ℕ) (h : List ℕ) (i : ℕ) (s : Span) : Type 0 where
  pub enough : need h i ≤ s.length
  pub inside : paragraph_bytes * end s ≤ bytes

module _ (bytes : ℕ) (h : List ℕ) (pieces : List Span) where
  given : (regions : List Span) (i : ℕ) (s : Span) → lawful bytes pieces regions ≡ true → granted_to h pieces regions i ≡ Some s
      → (lawful bytes pieces (regions ++ (s ∷ [])) ≡ true) × Fits bytes h i s
  given regions i s e g =
      let k = group_keeps_rules bytes pieces regions (base_at h i) (need h i) (most_at h i) s e g in
      (k.0, record { enough = k.1; inside = (region_in_memory bytes pieces (regions ++ (s ∷ [])) k.0 s (in_last regions s)).1 })

  pub grants_fit : (regions : List Span) (i k : ℕ) → lawful bytes pieces regions ≡ true → length (grants h pieces regions i k) ≡ k
      → (j : ℕ) → j < k → Fits bytes h (i + j) (get_or (grants h pieces regions i k) j none)
  unfolding grants followed
  grants_fit regions i zero e n j b = absurd (omega arith)
  grants_fit regions i (suc k) e n j b = go (granted_to h pieces regions i) refl n (λ s x y j z. grants_fit (regions ++ (s ∷ [])) (suc i) k x y j z) j b
    where
      go : (g : Option Span)
          → granted_to h pieces regions i ≡ g
          → length (followed g (λ s. grants h pieces (regions ++ (s ∷ [])) (suc i) k)) ≡ suc k
          → ((s : Span)
          → lawful bytes pieces (regions ++ (s ∷ [])) ≡ true
          → length (grants h pieces (regions ++ (s ∷ [])) (suc i) k) ≡ k
          → (j : ℕ) → j < k
          → Fits bytes h (suc i + j) (get_or (grants h pieces (regions ++ (s ∷ [])) (suc i) k) j none))
          → (j : ℕ)
          → j < suc k
          → Fits bytes h (i + j) (get_or (followed g (λ s. grants h pieces (regions ++ (s ∷ [])) (suc i) k)) j none)
      go None q n ih j b = absurd (omega (arith, n))
      go (Some s) q n ih zero b = let z : i + 0 ≡ i = omega arith in rw z (given regions i s e q).1
      go (Some s) q n ih (suc j) b =
          let z : suc i + j ≡ i + suc j = omega arith in
          rw (← z) (ih s (given regions i s e q).0 (omega (arith, n)) j (omega arith))

  pub grants_keep : (regions : List Span) (i k : ℕ) → lawful bytes pieces regions ≡ true → lawful bytes pieces (regions ++ grants h pieces regions i k) ≡ true
  unfolding grants followed
  grants_keep regions i zero e = rw (append-nil regions) e
  grants_keep regions i (suc k) e = go (granted_to h pieces regions i) refl (λ s x. grants_keep (regions ++ (s ∷ [])) (suc i) k x)
    where
      go : (g : Option Span)
          → granted_to h pieces regions i ≡ g
          → ((s : Span)
          → lawful bytes pieces (regions ++ (s ∷ [])) ≡ true
          → lawful bytes pieces ((regions ++ (s ∷ [])) ++ grants h pieces (regions ++ (s ∷ [])) (suc i) k) ≡ true)
          → lawful bytes pieces (regions ++ followed g (λ s. grants h pieces (regions ++ (s ∷ [])) (suc i) k)) ≡ true
      go None q ih = rw (append-nil regions) e
      go (Some s) q ih = rw (append_assoc regions (s ∷ []) (grants h pieces (regions ++ (s ∷ [])) (suc i) k)) at (ih s (given regions i s e q).0)

-- no more is granted than there are groups
pub grants_few : (h : List ℕ) (pieces regions : List Span) (i k : ℕ) → length (grants h pieces regions i k) ≤ k
unfolding grants followed
grants_few h pieces regions i zero = omega arith
grants_few h pieces regions i (suc k) = go (granted_to h pieces regions i) (λ s. grants_few h pieces (regions ++ (s ∷ [])) (suc i) k)
  where
    go : (g : Option Span)
        → ((s : Span) → length (grants h pieces (regions ++ (s ∷ [])) (suc i) k) ≤ k)
        → length (followed g (λ s. grants h pieces (regions ++ (s ∷ [])) (suc i) k)) ≤ suc k
    go None ih = omega arith
    go (Some s) ih = omega (arith, ih s)
