-- Marks: an entry whose mark is not set has no twin in a lower slot, and one slot more keeps every mark set.
use mathlib.Core.Path.{◌≡◌, refl, sym, ap, ◌∙◌}
use mathlib.Core.Bool.{Bool, true, false, ◌||◌, or-true, true≢false}
use mathlib.Core.List.{List}
use Prim.Native.Nat.{ℕ, ◌+◌, ◌<◌}
use native.Mathlib.Decide.{ℕ_discrete}
use native.Mathlib.Omega.{arith}
use Rattle.lists.proofs.BoundedLaws.{any_none, every_true, every_intro}
use Rattle.disk_geometry.specs.declared.Geometry.{Geometry}
use Rattle.disk_volume.specs.Entry.{is_empty}
use Rattle.disk_volume.specs.Directory.{slot_at}
use Rattle.disk_held.specs.Held.{room, holds, hold}
use Rattle.disk_held.proofs.HoldLaws.{holds_hold_same, holds_hold_other}
use Rattle.disk_rules.specs.GoodSlot.{seen_below}
use Rattle.disk_marks.specs.CodeMarks.{entry_mark, all_marked}
use Rattle.disk_rules.proofs.TwinLaws.{twin, Twins, twin_true}

module _ (g : Geometry) (v : List ℕ) where
  -- slot j is empty, or the mark of its entry is set
  abbrev marked_at : List ℕ → ℕ → Bool
  marked_at marks j = is_empty (slot_at g v j) || holds marks (entry_mark g (slot_at g v j))

  module _ (marks : List ℕ) (i : ℕ) (below : all_marked g v marks i ≡ true) where
    -- a lower entry has its mark set
    set_below : (j : ℕ) → j < i → is_empty (slot_at g v j) ≡ false → holds marks (entry_mark g (slot_at g v j)) ≡ true
    unfolding all_marked
    set_below j h used = rw used at (every_true (marked_at marks) 0 i below j (omega arith) (omega arith))

    -- so an entry whose mark is not set has no twin below
    pub unmarked : is_empty (slot_at g v i) ≡ false → holds marks (entry_mark g (slot_at g v i)) ≡ false → seen_below g v i ≡ false
    unfolding seen_below
    unmarked used n = any_none (λ j. twin g e (slot_at g v j)) 0 i (λ j a l. at j (omega arith) (twin g e (slot_at g v j)) refl)
      where
        e : List ℕ
        e = slot_at g v i

        clash : (j : ℕ) → j < i → Twins g e (slot_at g v j) → ⊥
        clash j h t =
            let u : is_empty (slot_at g v j) ≡ false = rw (← t.user) used in
            true≢false (sym (set_below j h u) ∙ (rw (t.user, t.name, t.group) at n))

        at : (j : ℕ) → j < i → (x : Bool) → twin g e (slot_at g v j) ≡ x → twin g e (slot_at g v j) ≡ false
        at j h true q = absurd (clash j h (twin_true g e (slot_at g v j) q))
        at j h false q = q

    -- ---- one slot more
    pub still_marked : is_empty (slot_at g v i) || holds marks (entry_mark g (slot_at g v i)) ≡ true → all_marked g v marks (i + 1) ≡ true
    unfolding all_marked
    still_marked own = every_intro (marked_at marks) 0 (i + 1) (λ j a l. elim (ℕ_discrete j i) [
      | yes z ↦ rw z own
      | no n ↦ every_true (marked_at marks) 0 i below j (omega arith) (omega arith)
    ])

    pub now_marked : entry_mark g (slot_at g v i) < room marks → all_marked g v (hold marks (entry_mark g (slot_at g v i))) (i + 1) ≡ true
    unfolding all_marked
    now_marked fits = every_intro (marked_at (hold marks m)) 0 (i + 1) (λ j a l. at j (omega arith) (ℕ_discrete (entry_mark g (slot_at g v j)) m) (is_empty (slot_at g v j)) refl)
      where
        m : ℕ
        m = entry_mark g (slot_at g v i)

        at : (j : ℕ) → j < i + 1 → Dec (entry_mark g (slot_at g v j) ≡ m) → (x : Bool) → is_empty (slot_at g v j) ≡ x → marked_at (hold marks m) j ≡ true
        at j l d true q = rw q
        at j l (yes z) false q = rw (z, holds_hold_same marks m fits, or-true)
        at j l (no n) false q =
            let k : j < i = elim (ℕ_discrete j i) [ yes z ↦ absurd (n (ap (λ (x : ℕ). entry_mark g (slot_at g v x)) z)) | no w ↦ omega arith ] in
            rw (holds_hold_other marks m fits (entry_mark g (slot_at g v j)) n, set_below j k q, or-true)

  -- no slot at all
  pub none_marked : (marks : List ℕ) → all_marked g v marks 0 ≡ true
  unfolding all_marked
  none_marked marks = every_intro (marked_at marks) 0 0 (λ j a l. absurd (omega arith))
