-- A mixed run at the seam is one at the door: the drive's bytes carry the state from deed to deed, and a replacement leaves both.
use mathlib.Core.Path.{◌≡◌, refl, sym, ap, ap₂, ◌∙◌, subst}
use mathlib.Core.Bool.{Bool, true, false, ◌&&◌, ◌||◌, false≢true}
use mathlib.Core.Logic.{⊎_elim}
use mathlib.Core.List.{List, [], ◌∷◌}
use Prim.Native.Nat.{ℕ, ◌+◌, ◌*◌, ◌%◌, ◌<◌}
use native.Mathlib.Omega.{arith}
use lib.Dec.{eqb}
use lib.ListN.{length}
use borrow.Author.Tests.{eq-eqb}
use Rattle.disk_geometry.specs.declared.Geometry.{Geometry}
use Rattle.disk_geometry.specs.Geometry.{lawful, bytes, slots, blocks}
use Rattle.disk_rules.specs.GoodSlot.{lowest_bad}
use Rattle.call_answers.specs.Answer.{succeeded}
use Rattle.call_served.specs.declared.Call.TheVariants.{LogIn}
use Rattle.call_served.specs.Asked.{Asked}
use Rattle.call_served.specs.Calls.{call_of}
use Rattle.filecalls.specs.declared.Drive.{Drive}
use Rattle.filecalls.specs.declared.Reply.{Reply}
use Rattle.bdos.specs.Step.{step}
use Rattle.drive_bytes.specs.Layout.{drive_bytes, decoded}
use Rattle.drive_bytes.proofs.LentLaws.{open_length}
use Rattle.std.specs.Prelude.{Result, Ok, Err}
use Rattle.desk.specs.declared.Why.{Why}
use Rattle.desk.specs.Answer.{number_of, value_of}
use Rattle.desk.specs.Replace.{replacement}
use Rattle.seam_calls.specs.Seam.{Sealed, log_in_at_seam}
use Rattle.seam_desk.specs.Sigla.{replace_at_seam}
use Rattle.churawel.proofs.LastingLaws.{Lasts}
use Rattle.churawel.proofs.FaithfulHolds.{log_in_carried, log_in_opens, log_in_geometry, log_in_faithful, step_lasts, step_log_in, step_back}
use Rattle.demands.specs.AtSeam.{succeeded_in}
use Rattle.demands.proofs.Inspected.{accepted_sound}
use Rattle.demands.proofs.Acts.{Consistent}
use Rattle.demands.proofs.CallsKeep.{log_in_is, logged_in_lem}
use Rattle.demands.proofs.AtSeamHolds.{call_is_step, through_told}
use Rattle.desk_keeps.proofs.ReplacesHolds as sigla
use Rattle.desk_promises.specs.Mixed.{Deed, calls, replaces, drive_after, volume_after, is_done, was_done, names, ending, ending_state, named_in, LentTo, AllLent}
use Rattle.desk_promises.specs.MixedAtSeam.{drive_from, volume_from, told_done, HandedOver, ending_at_seam, drive_ending, named_at_seam, AllHandedOver, MixedAtSeam}
use Rattle.desk_promises.proofs.MixedHolds.{deed_keeps, runs, kept_by_more}
use Rattle.desk_promises.proofs.ColumnsAtSeamHold.{sealed_by_column}
use Rattle.desk_promises.proofs.ColumnsHold.{by_column}

-- the drive's bytes stand for a state that lasts, with the geometry of the log-in; the volume agrees with it
record Carries (g : Geometry) (s v : List ℕ) : Type 0 where
  lasts : Lasts (decoded s)
  own : (decoded s).geometry ≡ g
  consistent : Consistent (decoded s) v

-- ---- one deed, at the seam and at the door
record SameDeed (g : Geometry) (x : Deed) (s v : List ℕ) : Type 0 where
  drive : decoded (drive_from x s v) ≡ drive_after g x (decoded s) v
  volume : volume_from x s v ≡ volume_after g x (decoded s) v
  done : was_done g x (decoded s) v ≡ true → told_done x s v ≡ true
  lasts : Lasts (drive_after g x (decoded s) v)

module _ (c : Asked) (small : c.parameter < 256) (d : Drive) (v : List ℕ) (l : Lasts d) (k : Consistent d v) where
  again : call_of c.function ≡ LogIn → Lasts (step d.geometry c d v).drive
  again e =
      let is = log_in_is d.geometry k.law v k.size k.sound in
      rw (step_log_in d.geometry c d v e)
      (record { carried = log_in_carried d.geometry v; opens = log_in_opens d.geometry v (ap (λ (r : Reply). succeeded r.answer) is) })

  lasts_after : Lasts (step d.geometry c d v).drive
  lasts_after = ⊎_elim again (λ x. x) (step_lasts d l.carried l.opens c small v)

same_call : (c : Asked) (s v : List ℕ) → c.parameter < 256 → Lasts (decoded s) → Consistent (decoded s) v → SameDeed (decoded s).geometry (calls c) s v
same_call c s v small l k =
    let is = call_is_step c s v l.opens in
    record {
      drive = ap (λ (o : Sealed). decoded o.drive) is ∙ step_back (decoded s) l.carried l.opens c small v s (open_length s l.opens);
      volume = ap (λ (o : Sealed). o.volume) is;
      done = λ t. ap (succeeded_in c) is ∙ through_told s (decoded s).geometry c (decoded s) v ∙ t;
      lasts = lasts_after c small (decoded s) v l k;
    }

-- a count has the number 0
done_number : (a : Result ℕ Why) → is_done a ≡ true → eqb ((number_of a + 65536 * value_of a) % 65536) 0 ≡ true
done_number (Ok n) t = let z : (0 + 65536 * n) % 65536 ≡ 0 = omega arith in eq-eqb _ _ z
done_number (Err why) t = absurd (false≢true t)

same_deed : (g : Geometry) (x : Deed) (s v : List ℕ) → Carries g s v → HandedOver x v → SameDeed g x s v
unfolding replace_at_seam
same_deed g (calls c) s v k small = subst (λ (h : Geometry). SameDeed h (calls c) s v) k.own (same_call c s v small.0 k.lasts k.consistent)
same_deed g (replaces fcb chapter old new) s v k small =
    let stays = (sigla.replaces (decoded s) v fcb chapter old new small.0 small.1).state_stays in
    record {
      drive = sym stays;
      volume = refl;
      done = done_number (replacement (decoded s) v fcb chapter old new).answer;
      lasts = subst Lasts (sym stays) k.lasts;
    }

lent_to : (x : Deed) (v : List ℕ) → HandedOver x v → LentTo x v
lent_to (calls c) v small = small.1
lent_to (replaces fcb chapter old new) v small = small

-- ---- a run
record SameMixed (g : Geometry) (xs : List Deed) (s v : List ℕ) : Type 0 where
  volume : ending_at_seam xs s v ≡ ending g xs (decoded s) v
  named : (u : ℕ) (name : List ℕ) → named_at_seam xs s v u name ≡ false → named_in g xs (decoded s) v u name ≡ false
  lent : AllLent g xs (decoded s) v
  ends : Carries g (drive_ending xs s v) (ending_at_seam xs s v)

-- what is named at the door is named at the seam
not_named : (t t' n r r' : Bool) → (t ≡ true → t' ≡ true) → (r' ≡ false → r ≡ false) → ((t' && n) || r') ≡ false → ((t && n) || r) ≡ false
not_named true t' n r r' a b h = go t' n (a refl) h
  where
    go : (x y : Bool) → x ≡ true → ((x && y) || r') ≡ false → (y || r) ≡ false
    go true true e q = absurd (false≢true (sym q))
    go true false e q = b q
    go false y e q = absurd (false≢true e)
not_named false true true r r' a b h = absurd (false≢true (sym h))
not_named false true false r r' a b h = b h
not_named false false n r r' a b h = b h

same_mixed : (g : Geometry) (xs : List Deed) (s v : List ℕ) → Carries g s v → AllHandedOver xs s v → SameMixed g xs s v
unfolding ending_at_seam drive_ending named_at_seam AllHandedOver ending ending_state named_in AllLent
same_mixed g [] s v k small = record { volume = refl; named = λ u name h. h; lent = tt; ends = k }
same_mixed g (x ∷ xs) s v k small =
    let one = same_deed g x s v k small.0 in
    let keeps = deed_keeps g x (decoded s) v k.own k.consistent (lent_to x v small.0) in
    let next : Carries g (drive_from x s v) (volume_from x s v)
    = rw one.volume (record {
      lasts = subst Lasts (sym one.drive) one.lasts;
      own = ap (λ (d : Drive). d.geometry) one.drive ∙ keeps.geometry ∙ k.own;
      consistent = subst (λ (d : Drive). Consistent d (volume_after g x (decoded s) v)) (sym one.drive) keeps.consistent;
    }) in
    let rest = same_mixed g xs (drive_from x s v) (volume_from x s v) next small.1 in
    record {
      volume = rest.volume ∙ ap₂ (λ d w. ending g xs d w) one.drive one.volume;
      named = λ u name h.
          not_named (was_done g x (decoded s) v) (told_done x s v) (names x (decoded s) u name) _ _ one.done
          (λ e. sym (ap₂ (λ d w. named_in g xs d w u name) one.drive one.volume) ∙ rest.named u name e) h;
      lent = (lent_to x v small.0, subst (λ (w : List ℕ). AllLent g xs (drive_after g x (decoded s) v) w) one.volume (subst (λ (d : Drive). AllLent g xs d (volume_from x s v)) one.drive rest.lent));
      ends = rest.ends;
    }

-- ---- log-in first
log_in_carries : (g : Geometry) → lawful g ≡ true → (v : List ℕ) → length v ≡ bytes g → lowest_bad g v ≡ slots g
    → (s : List ℕ) → length s ≡ drive_bytes (blocks g) → Carries g (log_in_at_seam g v s).drive v
log_in_carries g law v size ok s e =
    let sound = accepted_sound g v ok in
    let is = log_in_is g law v size sound in
    let opens = log_in_opens g v (ap (λ (r : Reply). succeeded r.answer) is) in
    let back = log_in_faithful g v s e in
    record {
      lasts = subst Lasts (sym back) (record { carried = log_in_carried g v; opens = opens });
      own = ap (λ (d : Drive). d.geometry) back ∙ log_in_geometry g v opens;
      consistent = subst (λ (d : Drive). Consistent d v) (sym back) (subst (λ (r : Reply). Consistent r.drive v) (sym is) (logged_in_lem g law v size sound));
    }

pub mixed_at_seam : MixedAtSeam
mixed_at_seam g law v size ok s e xs small =
    let t = (log_in_at_seam g v s).drive in
    let start = log_in_carries g law v size ok s e in
    let run = same_mixed g xs t v start small in
    let kept = runs g xs (decoded t) v start.own start.consistent run.lent in
    record {
      kept = rw run.volume (kept_by_more run.named kept);
      by_column = λ low fcb chapter old new old16 new16.
          sealed_by_column g law (drive_ending xs t v) (ending_at_seam xs t v) run.ends.own run.ends.consistent.size
          (by_column _ _ fcb chapter old new run.ends.consistent low old16 new16);
    }
