-- A run at the seam is one at the door and leaves the drive open, so `churawel_cut` cuts the door's stores, and what holds of its
-- cuts there holds of them at the seam.
use mathlib.Core.Path.{◌≡◌, sym, ap, ◌∙◌}
use mathlib.Core.Bool.{true}
use mathlib.Core.List.{List}
use Prim.Native.Nat.{ℕ, ◌+◌, ◌*◌, min}
use lib.ListN.{length}
use borrow.Author.Tests.{eq-eqb}
use Rattle.disk_geometry.specs.declared.Geometry.{Geometry}
use Rattle.disk_geometry.specs.Geometry.{blocks}
use Rattle.disk_stores.specs.Stores.{cut}
use Rattle.filecalls.specs.declared.Reply.{Reply}
use Rattle.filecalls.specs.State.{is_open, closed}
use Rattle.filecalls.specs.Stores.{refused_by}
use Rattle.call_served.specs.Asked.{Asked}
use Rattle.call_served.specs.Calls.{call_of}
use Rattle.bdos.specs.Step.{does, step}
use Rattle.bdos.specs.Stores.{stores_of}
use Rattle.drive_bytes.specs.Layout.{drive_bytes, blocks_at, decoded}
use Rattle.drive_bytes.proofs.LoadLaws.{drive_whole}
use Rattle.drive_bytes.proofs.RoundTripHolds.{open_drive}
use Rattle.drive_bytes.proofs.LentLaws.{open_length}
use Rattle.seam_words.specs.Answered.{answered}
use Rattle.seam_calls.specs.Seam.{Sealed, sealed, zeros, cut_at_seam}
use Rattle.demands.specs.Run.{final, final_state}
use Rattle.demands.specs.AtSeam.{call_at_seam, volume_left, drive_left, logs_in}
use Rattle.demands.specs.Cuts.{CutAnywhere}
use Rattle.demands.specs.CutsAtSeam.{AnyCutAtSeam}
use Rattle.demands.proofs.Inspected.{accepted_sound}
use Rattle.demands.proofs.CallsKeep.{log_in_is}
use Rattle.demands.proofs.AtSeamHolds.{call_is_step, seam_runs, is_log_in, bytes_lent, log_in_answer, demand3_at_seam, always_ready}
use Rattle.demands.proofs.CutsHold.{any_cut}

-- a drive that is open, by its bytes s, as many as lent
module _ (g : Geometry) (c : Asked) (s v : List ℕ) (opens : is_open (decoded s) ≡ true) (same : (decoded s).geometry ≡ g) (lent : List ℕ) (size : length lent ≡ drive_bytes (blocks g)) where
  pub cut_open_lem : (most : ℕ) → cut_at_seam most c.function c.parameter s v c.fcb c.buffer
      ≡ sealed (refused_by (step g c (decoded s) v).answer + 65536 * min most (length (stores_of c (decoded s) v))) (zeros lent)
      (cut g v most (stores_of c (decoded s) v)) c.fcb c.buffer
  unfolding cut_at_seam
  cut_open_lem most =
      let whole : length s ≡ length lent = open_length s opens ∙ ap (λ (h : Geometry). drive_bytes (blocks h)) same ∙ sym size in
      rw (eq-eqb (length s) (drive_bytes (blocks_at s)) (drive_whole s (open_drive s opens)), opens, whole)
      (ap (λ (h : Geometry). sealed (refused_by (step h c (decoded s) v).answer + 65536 * min most (length (stores_of c (decoded s) v))) (zeros lent)
      (cut h v most (stores_of c (decoded s) v)) c.fcb c.buffer) same)

  call_volume : (call_at_seam c s v).volume ≡ (step g c (decoded s) v).volume
  call_volume = ap (λ (o : Sealed). o.volume) (call_is_step c s v opens) ∙ ap (λ (h : Geometry). (step h c (decoded s) v).volume) same

pub any_cut_at_seam : AnyCutAtSeam
unfolding final final_state step does call_of
any_cut_at_seam g law v size ok s e cs small c from =
    let run = seam_runs g law v size ok s e cs small in
    let ready = always_ready g law v size ok s e cs small in
    let kept = (demand3_at_seam g law v size ok s e cs small closed).kept in
    let is = cut_open_lem g c (drive_left g v s cs) (volume_left g v s cs) ready.opens ready.geometry_is s e in
    let x : CutAnywhere stores_of g c (decoded (drive_left g v s cs)) (volume_left g v s cs)
    = rw (run.state_is, run.volume_is) (any_cut g law v size ok logs_in is_log_in cs (bytes_lent cs small) closed c from.1) in
    record {
      leaves = is;
      anywhere = x;
      enough = λ most h.
          ap (λ (o : Sealed). o.volume) (is most) ∙ x.enough most h
          ∙ sym (call_volume g c (drive_left g v s cs) (volume_left g v s cs) ready.opens ready.geometry_is s e);
      accepts_cut = λ most t q.
          let w = x.harmless most in
          rw (is most)
          (log_in_answer g _ t q
          ∙ ap (λ (r : Reply). answered r.answer) (log_in_is g law _ (w.length_kept ∙ kept.length_kept ∙ size) (accepted_sound g _ w.inspected)));
    }
