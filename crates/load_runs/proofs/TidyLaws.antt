-- A call over a table that was laid and read again leaves what it leaves over the table itself, laid and read again.
use mathlib.Core.Path.{◌≡◌, refl, sym, ap}
use mathlib.Core.Bool.{Bool, true, false, cond, ◌&&◌, ◌||◌}
use mathlib.Core.List.{List, [], ◌∷◌, ◌++◌}
use Prim.Native.Nat.{ℕ, ◌≤◌, ◌<◌}
use native.Mathlib.Omega.{arith}
use borrow.Author.Tests.{ltb-true}
use lib.Dec.{leb, ltb, eqb}
use lib.ListN.{length, length-append}
use Rattle.std.specs.Prelude.{Ok}
use Rattle.memory_spans.specs.declared.Span.{Span}
use Rattle.memory_spans.specs.Span.{places, paragraphs, span}
use Rattle.memory_spans.specs.Room.{has_room}
use Rattle.memory_room.specs.Starts.{lowest_start, longest}
use Rattle.memory_regions.specs.Places.{padded}
use Rattle.memory_regions.specs.Freeing.{freeable, freed}
use Rattle.memory_regions.proofs.PlaceLaws.{padded_used}
use Rattle.memory_calls.specs.declared.Table.{Table}
use Rattle.memory_calls.specs.declared.Mcb.{Mcb}
use Rattle.memory_calls.specs.declared.Reply.{Reply}
use Rattle.memory_calls.specs.Table.{pieces_of, regions_of, with_regions, within_rules}
use Rattle.memory_calls.specs.Calls.{EVERY, done, longest_run_of, tested, granting, granted, granted_at, freeing, freeing_part, free_all, serve, memory_call}
use Rattle.memory_calls.proofs.CallLaws.{within_facts}
use Rattle.memory_promises.proofs.RulesKept.{freed_length}
use Rattle.load_runs.proofs.LaysLaws.{Lays, tidy, pieces_tidy, regions_tidy, rules_tidy, used_le}

abbrev pub tidied : Reply → Reply
tidied r = record { answer = r.answer; table = tidy r.table; mcb = r.mcb }

both : (test : Bool) (x' y' x y : Reply) → (test ≡ true → x' ≡ tidied x) → (test ≡ false → y' ≡ tidied y) → cond test x' y' ≡ tidied (cond test x y)
both test x' y' x y a b = go test refl
  where
    go : (t : Bool) → test ≡ t → cond t x' y' ≡ tidied (cond t x y)
    go true e = a e
    go false e = b e

-- other regions of a tidy table
with_tidy : (t : Table) (l : List Span) → length l ≤ places → with_regions (tidy t) l ≡ tidy (with_regions t l)
with_tidy t l h =
    ap (λ (x : List Span). record { pieces = padded places (pieces_of t); used = t.used; regions = padded places x; granted = length l })
    (sym (padded_used places l h))

module _ (bytes : ℕ) (t : Table) (c : Lays t) (rules : within_rules bytes t ≡ true) (b : Mcb) where
  p : pieces_of (tidy t) ≡ pieces_of t
  p = pieces_tidy bytes t c rules

  r : regions_of (tidy t) ≡ regions_of t
  r = regions_tidy bytes t c rules

  run_tidy : longest_run_of (tidy t) b ≡ tidied (longest_run_of t b)
  unfolding longest_run_of
  run_tidy = rw (p, r) (both (eqb b.length 0 || eqb (longest (pieces_of t) (regions_of t)) 0) _ _ _ _ (λ e. refl) (λ e. refl))

  test_tidy : tested (tidy t) b ≡ tidied (tested t b)
  unfolding tested
  test_tidy = rw (p, r) (both (has_room (pieces_of t) (regions_of t) b.length b.base) _ _ _ _ (λ e. refl) (λ e. refl))

  -- a region more, where a place is left
  grant_tidy : (s : ℕ) → t.granted < places → granting (tidy t) s b.length ≡ tidied (granting t s b.length)
  grant_tidy s h =
      let l = regions_of t ++ (span s b.length ∷ []) in
      rw r (ap (λ (x : Table). done x s b.length) (with_tidy t l (rw length-append (omega (arith, used_le t.regions t.granted)))))

  lowest_tidy : granted (tidy t) b ≡ tidied (granted t b)
  unfolding granted
  lowest_tidy =
      rw p
      (both (ltb t.granted places) _ _ _ _
      (λ e.
      rw r
      (both (ltb (lowest_start (pieces_of t) (regions_of t) b.length) paragraphs) _ _ _ _
      (λ g. rw r at (grant_tidy (lowest_start (pieces_of t) (regions_of t) b.length) (ltb-true t.granted places e)))
      (λ g. refl)))
      (λ e. refl))

  there_tidy : granted_at (tidy t) b ≡ tidied (granted_at t b)
  unfolding granted_at
  there_tidy =
      rw p
      (both (ltb t.granted places) _ _ _ _
      (λ e.
      rw r
      (both (has_room (pieces_of t) (regions_of t) b.length b.base) _ _ _ _
      (λ g. rw r at (grant_tidy b.base (ltb-true t.granted places e)))
      (λ g. refl)))
      (λ e. refl))

  clear_tidy : with_regions (tidy t) [] ≡ tidy (with_regions t [])
  clear_tidy = with_tidy t [] (omega arith)

  free_tidy : freeing (tidy t) b ≡ tidied (freeing t b)
  unfolding freeing freeing_part
  free_tidy =
      let part = span b.base b.length in
      both (eqb b.ext EVERY) _ _ _ _
      (λ e. ap (λ (x : Table). done x b.base b.length) clear_tidy)
      (λ e.
      rw r
      (both (freeable part (regions_of t)) _ _ _ _
      (λ g.
      ap (λ (x : Table). done x b.base b.length)
      (with_tidy t (freed part (regions_of t))
      (omega (arith, freed_length part (regions_of t), used_le t.regions t.granted, (within_facts bytes t rules).few_regions))))
      (λ g. refl)))

  all_tidy : free_all (tidy t) b ≡ tidied (free_all t b)
  all_tidy = ap (λ (x : Table). record { answer = Ok tt; table = x; mcb = b }) clear_tidy

  pub call_tidy : (f : ℕ) → memory_call f bytes (tidy t) b ≡ tidied (memory_call f bytes t b)
  unfolding memory_call serve
  call_tidy f =
      rw (rules_tidy bytes t c rules, rules)
      (both (leb 53 f && leb f 58) _ _ _ _
      (λ x.
      both (eqb f 53) _ _ _ _ (λ e. run_tidy)
      (λ e. both (eqb f 54) _ _ _ _ (λ e. test_tidy)
      (λ e. both (eqb f 55) _ _ _ _ (λ e. lowest_tidy)
      (λ e. both (eqb f 56) _ _ _ _ (λ e. there_tidy)
      (λ e. both (eqb f 57) _ _ _ _ (λ e. free_tidy) (λ e. all_tidy))))))
      (λ x. refl))
