-- What code learns on its way to a file's line, as the definitions say it.
use mathlib.Core.Path.{◌≡◌, sym, ap, ◌∙◌}
use mathlib.Core.Bool.{Bool, true, false, not}
use mathlib.Core.List.{List}
use Prim.Native.Nat.{ℕ, ◌≤◌, ◌<◌}
use lib.Dec.{leb, eqb}
use lib.ListN.{length}
use borrow.Author.Tests.{not-true, not-false, eq-eqb, ne_eqb, le-leb, lt-leb}
use Rattle.disk_geometry.specs.Geometry.{lawful, bytes, slots}
use Rattle.disk_volume.specs.Directory.{slot_at}
use Rattle.files.specs.Files.{next_file}
use Rattle.files.specs.Line.{file_length, file_bytes}
use Rattle.call_answers.specs.declared.Refusal.TheVariants.{Closed, VolumeLength, BufferLength, NoMatch}
use Rattle.call_answers.specs.declared.Answer.TheVariants.{Ready, Refused}
use Rattle.call_answers.specs.Refusal.{first_met}
use Rattle.filecalls.specs.declared.Front.{Front}
use Rattle.filecalls.specs.CodeFront.{front_of, joined}
use Rattle.filecalls.specs.State.{is_open}
use Rattle.filecalls.proofs.StateLaws.{is_open_lem}
use Rattle.drive_bytes.specs.Layout.{decoded}
use Rattle.seam_words.specs.Answered.{answered}
use Rattle.seam_looks.specs.File.{shown, file_at_seam}
use Rattle.seam_words.proofs.FrontLaws.{front_open}

-- w, t: the front of the state in the drive's bytes, and what `is_open` answered of it
module _ (s : List ℕ) {w : Front} {t : Bool} (is : w ≡ front_of (decoded s)) (asks : (held : List ℕ) → t ≡ is_open (joined w held)) where
  same_geometry : w.geometry ≡ (decoded s).geometry
  same_geometry = ap (λ (x : Front). x.geometry) is

  opened : not t ≡ false → is_open (decoded s) ≡ true
  opened h = sym (front_open (decoded s) is asks) ∙ not-false t h

  pub open_lawful : not t ≡ false → lawful w.geometry ≡ true
  open_lawful h = rw same_geometry (is_open_lem (decoded s) (opened h)).law

  module _ (v : List ℕ) (from : ℕ) (f : List ℕ) where
    pub file_closed : {r : ℕ} → not t ≡ true → r ≡ answered (Refused Closed) → shown r f ≡ file_at_seam s v from f
    unfolding file_at_seam first_met
    file_closed h e = rw (sym (front_open (decoded s) is asks) ∙ not-true t h, e)

    pub file_volume : {r b : ℕ} → not t ≡ false → b ≡ bytes w.geometry → (length v ≡ b → ⊥) → r ≡ answered (Refused VolumeLength)
        → shown r f ≡ file_at_seam s v from f
    unfolding file_at_seam first_met
    file_volume h q n e =
        let k : eqb (length v) (bytes (decoded s).geometry) ≡ false = rw same_geometry at (ne_eqb (length v) (bytes w.geometry) (λ z. n (z ∙ sym q))) in
        rw (opened h, k, e)

    -- the volume has its length
    module _ {b : ℕ} (h : not t ≡ false) (q : b ≡ bytes w.geometry) (l : length v ≡ b) where
      whole : eqb (length v) (bytes (decoded s).geometry) ≡ true
      whole = rw same_geometry at (eq-eqb (length v) (bytes w.geometry) (l ∙ q))

      pub file_length_lem : {r : ℕ} → (length f ≡ file_length → ⊥) → r ≡ answered (Refused BufferLength) → shown r f ≡ file_at_seam s v from f
      unfolding file_at_seam first_met
      file_length_lem n e = rw (opened h, whole, ne_eqb (length f) file_length n, e)

      pub file_none : {r slot k : ℕ} → length f ≡ file_length → slot ≡ next_file w.geometry v from → k ≡ slots w.geometry → k ≤ slot
          → r ≡ answered (Refused NoMatch) → shown r f ≡ file_at_seam s v from f
      unfolding file_at_seam first_met
      file_none {r} {slot} {k} m next all n e =
          let none : leb (slots (decoded s).geometry) (next_file (decoded s).geometry v from) ≡ true
          = rw same_geometry at (le-leb (slots w.geometry) (next_file w.geometry v from) (rw (← next, ← all) n)) in
          rw (opened h, whole, eq-eqb (length f) file_length m, none, e)

      pub file_done : {r slot k : ℕ} {after : List ℕ} → length f ≡ file_length → slot ≡ next_file w.geometry v from → k ≡ slots w.geometry → slot < k
          → after ≡ file_bytes w.geometry v (slot_at w.geometry v slot) → r ≡ answered (Ready slot) → shown r after ≡ file_at_seam s v from f
      unfolding file_at_seam first_met
      file_done {r} {slot} {k} m next all n lays e =
          let some : leb (slots (decoded s).geometry) (next_file (decoded s).geometry v from) ≡ false
          = rw same_geometry at (lt-leb (slots w.geometry) (next_file w.geometry v from) (rw (← next, ← all) n)) in
          rw (opened h, whole, eq-eqb (length f) file_length m, some, e, lays, next, same_geometry)
