-- What the call leaves is the fresh disk, where it is done, and both volumes as they were, where it is refused.
use mathlib.Core.Path.{◌≡◌, refl, sym, ap, ◌∙◌}
use mathlib.Core.Bool.{Bool, true, false, true≢false}
use mathlib.Core.List.{List}
use mathlib.Core.Logic.{◌⊎◌, inl, inr}
use Prim.Native.Nat.{ℕ}
use native.Mathlib.Omega.{arith}
use lib.Dec.{eqb}
use lib.ListN.{length}
use borrow.Author.Tests.{eq-eqb, eqb-true, le-ltb}
use Rattle.disk_geometry.specs.declared.Geometry.{Geometry}
use Rattle.disk_geometry.specs.Geometry.{floppy, lawful, bytes, slots}
use Rattle.disk_rules.specs.GoodSlot.{lowest_bad}
use Rattle.disk_rules.specs.Named.{free_of}
use Rattle.call_answers.specs.declared.Refusal.TheVariants.{VolumeLength}
use Rattle.call_answers.specs.declared.Answer.{Answer}
use Rattle.call_answers.specs.declared.Answer.TheVariants.{Ready, Refused}
use Rattle.call_answers.specs.Answer.{succeeded}
use Rattle.call_answers.specs.Refusal.{first_met}
use Rattle.filecalls.specs.LogIn.{log_in, log_in_tests}
use Rattle.filecalls.proofs.ReadyLaws.{Accepted, accepted}
use Rattle.fresh_volume.specs.Copy.{fresh}
use Rattle.fresh_volume.proofs.Copied.{fresh_size}
use Rattle.fresh_copy.specs.FreshCopy.{Copied, copied, fresh_copy}
use Rattle.fresh_copy.proofs.CopyLaws.{first_refused, second_refused, copy_done}
use Rattle.fresh_holds.specs.Holds.{Worn, HoldsOf, SpareOf}
use Rattle.fresh_holds.specs.CallHolds.{left_second, CallHolds}
use Rattle.fresh_holds.proofs.HoldsLaws.{fresh_holds, spare_kept}

-- a way to copy that gives the fresh disk on every second volume of the length
alike : (copy : Geometry → List ℕ → List ℕ → List ℕ) (g : Geometry) (v w : List ℕ) → ((x : List ℕ) → length x ≡ bytes g → copy g v x ≡ fresh g v x)
    → length w ≡ bytes g → HoldsOf fresh g v w → HoldsOf copy g v w
alike copy g v w is size h =
    record {
      same_present = λ u name n low. rw (is w size) (h.same_present u name n low);
      same_bytes = λ u name n low there. rw (is w size) (h.same_bytes u name n low there);
      same_heads = λ k low. rw (is w size) (h.same_heads k low);
      same_blocks = λ k p n low in_map used. rw (is w size) (h.same_blocks k p n low in_map used);
      no_more = λ k low high. rw (is w size) (h.no_more k low high);
      passes = rw (is w size) h.passes;
      as_many_free = rw (is w size) h.as_many_free;
      again = rw (is w size) h.again;
      again_elsewhere = λ x s. rw (is w size, is x s) (h.again_elsewhere x s);
      again_records = λ x s q low. rw (is w size) (h.again_records x s q low);
      again_straight = λ p x s. rw (is w size) (h.again_straight p x s);
    }

-- the volume of a fresh disk is logged in with its own free blocks
log_in_ready : (g : Geometry) (v : List ℕ) → lawful g ≡ true → length v ≡ bytes g → lowest_bad g v ≡ slots g → (log_in g v).answer ≡ Ready (free_of g v)
unfolding log_in log_in_tests first_met
log_in_ready g v law size good = rw (law, eq-eqb (length v) (bytes g) size, le-ltb (lowest_bad g v) (slots g) (omega (arith, good)))

-- the ways out: refused, with both volumes as they were; or the first is accepted and the second has its length
record Refusal (g : Geometry) (v w : List ℕ) : Type 0 where
  told : Answer
  no : succeeded told ≡ false
  is : copied told v w ≡ fresh_copy g v w

abbrev Way : Geometry → List ℕ → List ℕ → Type 0
Way g v w = Refusal g v w ⊎ (Accepted g v × (length w ≡ bytes g))

way : (g : Geometry) (v w : List ℕ) → Way g v w
way g v w = go (succeeded (log_in g v).answer) refl (eqb (length w) (bytes g)) refl
  where
    go : (a : Bool) → succeeded (log_in g v).answer ≡ a → (b : Bool) → eqb (length w) (bytes g) ≡ b → Way g v w
    go false p b q = inl (record { told = (log_in g v).answer; no = p; is = first_refused g v w refl p })
    go true p false q = inl (record { told = Refused VolumeLength; no = refl; is = second_refused g v w refl p q })
    go true p true q = inr (accepted g v p, eqb-true (length w) (bytes g) q)

is_fresh : (g : Geometry) (v x : List ℕ) → Accepted g v → length x ≡ bytes g → copied (log_in g v).answer v (fresh g v x) ≡ fresh_copy g v x
is_fresh g v x k size = copy_done g v x refl (ap succeeded k.answer) (eq-eqb (length x) (bytes g) size) refl

module _ (g : Geometry) (v w : List ℕ) where
  first : Way g v w → (fresh_copy g v w).first ≡ v
  first (inl r) = sym (ap (λ (c : Copied). c.first) r.is)
  first (inr (k, size)) = sym (ap (λ (c : Copied). c.first) (is_fresh g v w k size))

  second : Way g v w → succeeded (fresh_copy g v w).answer ≡ false → left_second g v w ≡ w
  second (inl r) f = sym (ap (λ (c : Copied). c.second) r.is)
  second (inr (k, size)) f = absurd (true≢false (sym (ap succeeded k.answer) ∙ ap (λ (c : Copied). succeeded c.answer) (is_fresh g v w k size) ∙ f))

  module _ (ok : succeeded (fresh_copy g v w).answer ≡ true) where
    done : Way g v w → Accepted g v × (length w ≡ bytes g)
    done (inl r) = absurd (true≢false (sym ok ∙ sym (ap (λ (c : Copied). succeeded c.answer) r.is) ∙ r.no))
    done (inr d) = d

    laid : (x : List ℕ) → length x ≡ bytes g → left_second g v x ≡ fresh g v x
    laid x size = sym (ap (λ (c : Copied). c.second) (is_fresh g v x (done (way g v w)).0 size))

    worn : Worn g v w
    worn = let d = done (way g v w) in record { law = d.0.law; size = d.0.size; ok = d.0.good; second = d.1 }

    all : HoldsOf fresh g v w
    all = fresh_holds g v w worn

    holds : HoldsOf left_second g v w
    holds = alike left_second g v w laid (done (way g v w)).1 all

    says : (log_in g (left_second g v w)).answer ≡ (fresh_copy g v w).answer
    says =
        let d = done (way g v w) in
        let size = fresh_size g v d.0.law d.0.size d.0.good w d.1 in
        rw (laid w d.1) (log_in_ready g (fresh g v w) d.0.law size all.passes) ∙ ap Ready all.as_many_free
        ∙ sym d.0.answer ∙ ap (λ (c : Copied). c.answer) (is_fresh g v w d.0 d.1)

-- an eight-inch image
spare_left : (v w : List ℕ) → succeeded (fresh_copy floppy v w).answer ≡ true → SpareOf left_second v w
spare_left v w ok =
    let k = worn floppy v w ok in
    let is = laid floppy v w ok w k.second in
    let h = spare_kept v w k in
    record { reserved = rw is h.reserved; last_six = λ q low high. rw is (h.last_six q low high) }

pub call_holds : CallHolds
call_holds = record {
  first_stays = λ g v w. first g v w (way g v w);
  refused_stays = λ g v w. second g v w (way g v w);
  done_holds = holds;
  done_spare = spare_left;
  done_says = says;
}
