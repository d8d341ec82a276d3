-- A run at the seam is one at the door, so what holds of a replacement after it holds of the exported function.
use mathlib.Core.Path.{◌≡◌, refl, sym, ap, ◌∙◌, subst}
use mathlib.Core.Bool.{true}
use mathlib.Core.List.{List}
use Prim.Native.Nat.{ℕ}
use lib.ListN.{length}
use Rattle.disk_geometry.specs.declared.Geometry.{Geometry}
use Rattle.disk_geometry.specs.Geometry.{lawful, bytes, slots}
use Rattle.disk_rules.specs.GoodSlot.{lowest_bad}
use Rattle.filecalls.specs.declared.Drive.{Drive}
use Rattle.filecalls.specs.declared.Reply.{Reply}
use Rattle.filecalls.specs.State.{closed}
use Rattle.call_served.specs.Calls.{call_of}
use Rattle.bdos.specs.Step.{does, step}
use Rattle.drive_bytes.specs.Layout.{decoded}
use Rattle.std.specs.Prelude.{Result, Ok, Err}
use Rattle.desk.specs.declared.Why.{Why}
use Rattle.desk.specs.Replace.{replacement}
use Rattle.seam_words.specs.Answered.{answered}
use Rattle.seam_desk.specs.Sigla.{replace_at_seam}
use Rattle.demands.specs.Run.{final, final_state}
use Rattle.demands.specs.AtSeam.{volume_left, drive_left, logs_in}
use Rattle.demands.proofs.Inspected.{accepted_sound}
use Rattle.demands.proofs.CallsKeep.{log_in_is}
use Rattle.demands.proofs.AtSeamHolds.{seam_runs, is_log_in, bytes_lent, log_in_answer, demand3_at_seam, always_ready}
use Rattle.desk_promises.specs.Columns.{ByColumn}
use Rattle.desk_promises.specs.ColumnsAtSeam.{ByColumnAtSeam, ColumnsAtSeam}
use Rattle.desk_promises.proofs.ColumnsHold.{sigla_by_column}

-- refused or not, the volume keeps its length and passes inspection
module _ (d : Drive) (v fcb : List ℕ) (chapter old new : ℕ) (all : ByColumn d v fcb chapter old new) where
  record Sound (w : List ℕ) : Type 0 where
    size : length w ≡ length v
    good : lowest_bad d.geometry w ≡ slots d.geometry

  sound_after : Sound (replacement d v fcb chapter old new).volume
  sound_after = go (replacement d v fcb chapter old new).answer refl
    where
      go : (r : Result ℕ Why) → (replacement d v fcb chapter old new).answer ≡ r → Sound (replacement d v fcb chapter old new).volume
      go (Err why) e = rw (all.replaces.refused_keeps why e) (record { size = refl; good = all.inspected })
      go (Ok n) e = let a = all.replaces.altered n e in record { size = a.length_stays; good = a.inspected all.inspected }

-- so the exported function leaves a volume that a log-in accepts
module _ (g : Geometry) (law : lawful g ≡ true) (s w : List ℕ) (own : (decoded s).geometry ≡ g) (size : length w ≡ bytes (decoded s).geometry) {fcb : List ℕ} {chapter old new : ℕ} where
  pub sealed_by_column : ByColumn (decoded s) w fcb chapter old new → ByColumnAtSeam g s w fcb chapter old new
  unfolding replace_at_seam
  sealed_by_column x =
      let after = sound_after (decoded s) w fcb chapter old new x in
      record {
        leaves = refl;
        by_column = x;
        accepts_again = λ t q.
            log_in_answer g _ t q
            ∙ ap (λ (r : Reply). answered r.answer)
            (log_in_is g law _ (after.size ∙ size ∙ ap bytes own)
            (accepted_sound g _ (subst (λ (h : Geometry). lowest_bad h (replacement (decoded s) w fcb chapter old new).volume ≡ slots h) own after.good)));
      }

pub columns_at_seam : ColumnsAtSeam
unfolding final final_state step does call_of
columns_at_seam g law v size ok s e cs small lent fcb chapter old new old16 new16 =
    let run = seam_runs g law v size ok s e cs small in
    let ready = always_ready g law v size ok s e cs small in
    let kept = (demand3_at_seam g law v size ok s e cs small closed).kept in
    sealed_by_column g law (drive_left g v s cs) (volume_left g v s cs) ready.geometry_is (kept.length_kept ∙ size ∙ sym (ap bytes ready.geometry_is))
    (rw (run.state_is, run.volume_is) (sigla_by_column g law v size ok logs_in is_log_in cs (bytes_lent cs small) closed (rw run.volume_is at lent) fcb chapter old new old16 new16))
