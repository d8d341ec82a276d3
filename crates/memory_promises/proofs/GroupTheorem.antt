-- The promises of a group's grant.
use mathlib.Core.Path.{◌≡◌, refl, sym, ◌∙◌}
use mathlib.Core.Bool.{Bool, true, false, cond, ◌&&◌, true≢false}
use mathlib.Core.List.{List, [], ◌∷◌, ◌++◌}
use mathlib.Core.Logic.{◌⊎◌, inl, inr, ⊎_elim}
use Prim.Native.Nat.{ℕ, ◌≤◌, ◌<◌, max, min}
use native.Mathlib.Decide.{ℕ_discrete}
use native.Mathlib.Omega.{arith}
use borrow.Author.Tests.{ltb-true, ltb-false, lt-ltb, eq-eqb, ne_eqb}
use lib.Dec.{ltb, eqb}
use Rattle.lists.proofs.BoolLaws.{and_parts}
use Rattle.memory_spans.specs.declared.Span.{Span}
use Rattle.memory_spans.specs.Span.{paragraphs, span}
use Rattle.memory_spans.specs.Rules.{lawful}
use Rattle.memory_spans.specs.Room.{room, has_room}
use Rattle.memory_spans.proofs.RulesLaws.{lawful_facts, lawful_test}
use Rattle.memory_spans.proofs.RoomLaws.{room_facts, room_test, has_roomy}
use Rattle.std.specs.Prelude.{Option, Some, None}
use Rattle.memory_room.specs.Starts.{lowest_start, grant_at, grant_of}
use Rattle.memory_promises.specs.Promises.{GroupKeepsRules, NowhereMeansNoRoom, Room}
use Rattle.memory_promises.proofs.RulesKept.{grant_keeps}
use Rattle.memory_promises.proofs.RoomPlaces.{has_room_lem, room_none}
use Rattle.memory_promises.proofs.StartLaws.{lowest_has, lowest_none}

at_keeps : (bytes : ℕ) (pieces regions : List Span) (start need most : ℕ) (s : Span)
    → lawful bytes pieces regions ≡ true
    → grant_at pieces regions start need most ≡ Some s
    → (lawful bytes pieces (regions ++ (s ∷ [])) ≡ true) × (need ≤ s.length)
unfolding grant_at
at_keeps bytes pieces regions start need most s e g = go (ltb start paragraphs && has_room pieces regions need start) refl g
  where
    go : (t : Bool)
        → (ltb start paragraphs && has_room pieces regions need start) ≡ t
        → cond t (Some (span start (min (max most need) (room pieces regions start)))) None ≡ Some s
        → (lawful bytes pieces (regions ++ (s ∷ [])) ≡ true) × (need ≤ s.length)
    go false u v = let z : ◌≡◌ {A = ℕ} 0 1 = cc in absurd (omega arith)
    go true u v =
        let f = room_facts pieces regions need start (and_parts (ltb start paragraphs) (has_room pieces regions need start) u).1 in
        let z : span start (min (max most need) (room pieces regions start)) ≡ s = cc in
        let h = room_test pieces regions (min (max most need) (room pieces regions start)) start (omega (arith, f.0, f.1)) (omega arith) in
        let k = grant_keeps bytes pieces regions (min (max most need) (room pieces regions start)) start (lawful_facts bytes pieces regions e) (has_roomy pieces regions (min (max most need) (room pieces regions start)) start h) in
        rw (← z) (lawful_test bytes pieces (regions ++ (span start (min (max most need) (room pieces regions start)) ∷ [])) k, omega (arith, f.1))

pub group_keeps_rules : GroupKeepsRules
unfolding grant_of
group_keeps_rules bytes pieces regions base need most s e g = at_keeps bytes pieces regions (cond (eqb base 0) (lowest_start pieces regions need) base) need most s e g

at_nowhere : (pieces regions : List Span) (start need most : ℕ) → start < paragraphs → grant_at pieces regions start need most ≡ None → has_room pieces regions need start ≡ false
unfolding grant_at
at_nowhere pieces regions start need most h g = go (has_room pieces regions need start) refl (rw (lt-ltb start paragraphs h) at g)
  where
    go : (t : Bool)
        → has_room pieces regions need start ≡ t
        → cond t (Some (span start (min (max most need) (room pieces regions start)))) None ≡ None
        → has_room pieces regions need start ≡ false
    go false u v = u
    go true u v = let z : ◌≡◌ {A = ℕ} 0 1 = cc in absurd (omega arith)

nowhere_at : (pieces regions : List Span) (start need most : ℕ) → (start < paragraphs → has_room pieces regions need start ≡ true → ⊥) → grant_at pieces regions start need most ≡ None
unfolding grant_at
nowhere_at pieces regions start need most h = go (ltb start paragraphs && has_room pieces regions need start) refl
  where
    go : (t : Bool)
        → (ltb start paragraphs && has_room pieces regions need start) ≡ t
        → ◌≡◌ {A = Option Span} (cond t (Some (span start (min (max most need) (room pieces regions start)))) None) None
    go false u = refl
    go true u =
        let a = and_parts (ltb start paragraphs) (has_room pieces regions need start) u in
        absurd (h (ltb-true start paragraphs a.0) a.1)

module _ (pieces regions : List Span) (need most : ℕ) where
  anywhere : grant_at pieces regions (lowest_start pieces regions need) need most ≡ None → (s : ℕ) → s < paragraphs → has_room pieces regions need s ≡ false
  anywhere g s a = go (ltb (lowest_start pieces regions need) paragraphs) refl
    where
      go : (t : Bool) → ltb (lowest_start pieces regions need) paragraphs ≡ t → has_room pieces regions need s ≡ false
      go true u =
          let b = ltb-true (lowest_start pieces regions need) paragraphs u in
          absurd (true≢false (sym (lowest_has pieces regions need b) ∙ at_nowhere pieces regions (lowest_start pieces regions need) need most b g))
      go false u = lowest_none pieces regions need (ltb-false (lowest_start pieces regions need) paragraphs u) s a

pub nowhere_means_no_room : NowhereMeansNoRoom
unfolding grant_of
nowhere_means_no_room pieces regions base need most = (to (ℕ_discrete base 0), from (ℕ_discrete base 0))
  where
    to : Dec (base ≡ 0)
        → grant_at pieces regions (cond (eqb base 0) (lowest_start pieces regions need) base) need most ≡ None
        → (s : ℕ) → s < 65536 → (base ≡ 0) ⊎ (s ≡ base) → Room pieces regions need s → ⊥
    to (yes z) g s a c = room_none pieces regions need s (anywhere pieces regions need most (rw (eq-eqb base 0 z) at g) s a)
    to (no z) g s a c =
        ⊎_elim
        (λ w. absurd (z w))
        (λ w. rw w (room_none pieces regions need base (at_nowhere pieces regions base need most (omega arith) (rw (ne_eqb base 0 z) at g))))
        c

    from : Dec (base ≡ 0)
        → ((s : ℕ) → s < 65536 → (base ≡ 0) ⊎ (s ≡ base) → Room pieces regions need s → ⊥)
        → grant_at pieces regions (cond (eqb base 0) (lowest_start pieces regions need) base) need most ≡ None
    from (yes z) h =
        rw (eq-eqb base 0 z)
        (nowhere_at pieces regions (lowest_start pieces regions need) need most
        (λ a e. h (lowest_start pieces regions need) a (inl z) (has_room_lem pieces regions need (lowest_start pieces regions need) e)))
    from (no z) h = rw (ne_eqb base 0 z) (nowhere_at pieces regions base need most (λ a e. h base a (inr refl) (has_room_lem pieces regions need base e)))
