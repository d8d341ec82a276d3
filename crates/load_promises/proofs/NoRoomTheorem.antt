-- 62 exactly where a group has no room: the list of what is granted ends there and nowhere else.
use mathlib.Core.Path.{◌≡◌, refl, ap}
use mathlib.Core.Bool.{Bool, true, false, cond}
use mathlib.Core.List.{List, [], ◌∷◌, ◌++◌, append_assoc, append-nil}
use Prim.Native.Nat.{ℕ, zero, suc, ◌+◌, ◌<◌}
use native.Mathlib.Omega.{arith}
use borrow.Author.Tests.{lt-ltb, le-ltb, ltb-true}
use lib.Dec.{ltb}
use lib.ListN.{length}
use Rattle.std.specs.Prelude.{Option, Some, None, Err}
use Rattle.filecalls.specs.declared.Drive.{Drive}
use Rattle.memory_spans.specs.declared.Span.{Span}
use Rattle.memory_spans.specs.Span.{places}
use Rattle.memory_calls.specs.declared.Table.{Table}
use Rattle.memory_calls.specs.Table.{pieces_of, regions_of}
use Rattle.memory_promises.proofs.GroupTheorem.{nowhere_means_no_room}
use Rattle.load_header.specs.Header.{groups, base_at, need, most_at}
use Rattle.load_records.specs.Records.{record_of, image}
use Rattle.load_grants.specs.Grants.{followed, granted_to, grants}
use Rattle.loading.specs.declared.LoadRefusal.TheVariants.{NoRoom}
use Rattle.loading.specs.Load.{refusing, grants_of, loaded, placed, load}
use Rattle.load_promises.specs.Promises.{NoneFor, Reached, LoadNoRoom}

-- ---- where the list of what is granted ends
record Stop (h : List ℕ) (pieces regions : List Span) (i k : ℕ) : Type 0 where
  pub group : ℕ
  pub below : group < k
  pub before : length (grants h pieces regions i group) ≡ group
  pub nowhere : granted_to h pieces (regions ++ grants h pieces regions i group) (i + group) ≡ None

module _ (h : List ℕ) (pieces : List Span) where
  ends : (regions : List Span) (i k : ℕ) → length (grants h pieces regions i k) < k → Stop h pieces regions i k
  unfolding grants followed
  ends regions i zero l = absurd (omega arith)
  ends regions i (suc k) l = go (granted_to h pieces regions i) refl l (λ s x. ends (regions ++ (s ∷ [])) (suc i) k x)
    where
      go : (g : Option Span)
          → granted_to h pieces regions i ≡ g
          → length (followed g (λ s. grants h pieces (regions ++ (s ∷ [])) (suc i) k)) < suc k
          → ((s : Span) → length (grants h pieces (regions ++ (s ∷ [])) (suc i) k) < k → Stop h pieces (regions ++ (s ∷ [])) (suc i) k)
          → Stop h pieces regions i (suc k)
      go None q l ih =
          record { group = 0; below = omega arith; before = refl; nowhere = let z : i + 0 ≡ i = omega arith in rw (append-nil regions, z) q }
      go (Some s) q l ih =
          let r = ih s (omega arith) in
          let z : suc i + r.group ≡ i + suc r.group = omega arith in
          let e = rw (append_assoc regions (s ∷ []) (grants h pieces (regions ++ (s ∷ [])) (suc i) r.group)) at r.nowhere in
          record { group = suc r.group; below = omega (arith, r.below); before = rw q (ap suc r.before); nowhere = rw (← z, q) e }

  ended : (regions : List Span) (i k a : ℕ) → a < k → length (grants h pieces regions i a) ≡ a
      → granted_to h pieces (regions ++ grants h pieces regions i a) (i + a) ≡ None → length (grants h pieces regions i k) < k
  unfolding grants followed
  ended regions i zero a l e n = absurd (omega arith)
  ended regions i (suc k) zero l e n =
      let z : i + 0 ≡ i = omega arith in
      let w : granted_to h pieces regions i ≡ None = rw (append-nil regions, z) at n in
      rw w (omega arith)
  ended regions i (suc k) (suc a) l e n = go (granted_to h pieces regions i) refl e n (λ s x y. ended (regions ++ (s ∷ [])) (suc i) k a (omega arith) x y)
    where
      go : (g : Option Span)
          → granted_to h pieces regions i ≡ g
          → length (followed g (λ s. grants h pieces (regions ++ (s ∷ [])) (suc i) a)) ≡ suc a
          → granted_to h pieces (regions ++ followed g (λ s. grants h pieces (regions ++ (s ∷ [])) (suc i) a)) (i + suc a) ≡ None
          → ((s : Span)
          → length (grants h pieces (regions ++ (s ∷ [])) (suc i) a) ≡ a
          → granted_to h pieces ((regions ++ (s ∷ [])) ++ grants h pieces (regions ++ (s ∷ [])) (suc i) a) (suc i + a) ≡ None
          → length (grants h pieces (regions ++ (s ∷ [])) (suc i) k) < k)
          → length (followed g (λ s. grants h pieces (regions ++ (s ∷ [])) (suc i) k)) < suc k
      go None q e n ih = absurd (omega (arith, e))
      go (Some s) q e n ih =
          let z : suc i + a ≡ i + suc a = omega arith in
          let y = ih s (omega (arith, e)) (rw (append_assoc regions (s ∷ []) (grants h pieces (regions ++ (s ∷ [])) (suc i) a), z) n) in
          omega (arith, y)

-- ---- the call
reached : (d : Drive) (v f : List ℕ) (t : Table) (memory : List ℕ) → Reached d v f t memory
    → load d v f t memory
    ≡ refusing (ltb (length (grants_of (record_of d v f 0) t)) (groups (record_of d v f 0))) NoRoom t memory
    (loaded (record_of d v f 0) (grants_of (record_of d v f 0) t) (image d v f) t memory)
unfolding load placed
reached d v f t memory r = rw (r.read, r.rules, r.header, r.whole, le-ltb places (t.granted + groups (record_of d v f 0)) r.left)

none_for : (h : List ℕ) (t : Table) → Stop h (pieces_of t) (regions_of t) 0 (groups h) → NoneFor h t
none_for h t s =
    let z : 0 + s.group ≡ s.group = omega arith in
    let l : List Span = regions_of t ++ grants h (pieces_of t) (regions_of t) 0 s.group in
    record {
      group = s.group;
      below = s.below;
      before = s.before;
      nowhere = (nowhere_means_no_room (pieces_of t) l (base_at h s.group) (need h s.group) (most_at h s.group)).0 (rw z at s.nowhere);
    }

stops : (h : List ℕ) (t : Table) → NoneFor h t → length (grants_of h t) < groups h
stops h t s =
    let z : 0 + s.group ≡ s.group = omega arith in
    let l : List Span = regions_of t ++ grants h (pieces_of t) (regions_of t) 0 s.group in
    let n = (nowhere_means_no_room (pieces_of t) l (base_at h s.group) (need h s.group) (most_at h s.group)).1 s.nowhere in
    ended h (pieces_of t) (regions_of t) 0 (groups h) s.group s.below s.before (rw z n)

pub load_no_room : LoadNoRoom
unfolding loaded
load_no_room d v f t memory r = (λ e. to (ltb (length (grants_of h t)) (groups h)) refl (rw (reached d v f t memory r) at e), from)
  where
    h : List ℕ
    h = record_of d v f 0

    to : (x : Bool) → ltb (length (grants_of h t)) (groups h) ≡ x
        → (cond x (refusing true NoRoom t memory (loaded h (grants_of h t) (image d v f) t memory)) (loaded h (grants_of h t) (image d v f) t memory)).reply.answer ≡ Err NoRoom
        → NoneFor h t
    to true u e = none_for h t (ends h (pieces_of t) (regions_of t) 0 (groups h) (ltb-true (length (grants_of h t)) (groups h) u))
    to false u e = let z : ◌≡◌ {A = ℕ} 0 1 = cc in absurd (omega arith)

    from : NoneFor h t → (load d v f t memory).reply.answer ≡ Err NoRoom
    from s = rw (reached d v f t memory r, lt-ltb (length (grants_of h t)) (groups h) (stops h t s))
