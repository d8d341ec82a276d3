-- A drive's bytes with another front, and with other words, are the bytes of the state with these.
use mathlib.Core.Path.{◌≡◌, refl, sym, ap, ap₂, ◌∙◌}
use mathlib.Core.Bool.{true, cond}
use mathlib.Core.List.{List, [], ◌∷◌, ◌++◌, append_assoc}
use Prim.Native.Nat.{ℕ}
use native.Mathlib.Omega.{arith}
use lib.ListN.{length, take, drop, length-append}
use lib.Seq.{take_at, drop_at}
use borrow.Author.Tests.{eq-eqb}
use Rattle.disk_geometry.specs.Geometry.{blocks}
use Rattle.disk_geometry.specs.declared.Geometry.{Geometry}
use Rattle.filecalls.specs.declared.Drive.{Drive}
use Rattle.filecalls.specs.declared.Front.{Front}
use Rattle.filecalls.specs.declared.KeptSearch.{KeptSearch}
use Rattle.filecalls.specs.CodeFront.{front_of, joined}
use Rattle.numbers.specs.Numbers.{Bytes, bytes_of}
use Rattle.drive_bytes.specs.Layout.{stored_words, drive_bytes, head_bytes, search_bytes, placing_bytes, held_bytes, front_bytes, encoded, encoded_in, fields, is_drive}
use Rattle.drive_bytes.specs.CodeLaid.{with_front, with_words}
use Rattle.drive_bytes.proofs.LoadLaws.{drive_whole}
use Rattle.drive_bytes.proofs.LayLaws.{length_head, length_search}
use Rattle.drive_bytes.proofs.RoundTripHolds.{front_size, encoded_fields}

-- ---- laid into the bytes of any state
-- the bytes of a search, and of as many words as the state stores
abbrev searched : KeptSearch → List ℕ
searched q = search_bytes q.kind q.user q.last q.pattern

abbrev stored : Drive → List ℕ → List ℕ
stored d held = held_bytes held 0 (stored_words (blocks d.geometry))

-- what stands behind the search
behind_search : (d : Drive) → drop 24 (encoded d) ≡ placing_bytes d.geometry ++ stored d d.held
unfolding encoded front_bytes
behind_search d =
    let q = d.search in
    let head = head_bytes d.geometry d.user d.protected in
    let front = head ++ searched q in
    let size : length front ≡ 24 = omega (arith, length-append head (searched q), length_head d.geometry d.user d.protected, length_search q.kind q.user q.last q.pattern) in
    ap (drop 24) (append_assoc front (placing_bytes d.geometry) (stored d d.held)) ∙ drop_at front (placing_bytes d.geometry ++ stored d d.held) 24 size

front_over : (d : Drive) (f : Front) → f.geometry ≡ d.geometry → with_front (encoded d) f ≡ encoded (joined f d.held)
front_over d f e =
    let head = head_bytes d.geometry f.user f.protected in
    let search = searched f.search in
    let words = stored d d.held in
    let sizes : take 6 (encoded d) ++ (f.user ∷ cond f.protected 1 0 ∷ []) ≡ head = unfold encoded front_bytes head_bytes bytes_of in refl in
    let laid : with_front (encoded d) f ≡ head ++ search ++ placing_bytes d.geometry ++ words =
    ap₂ (λ (x y : List ℕ). x ++ search ++ y) sizes (behind_search d) ∙ sym (append_assoc (head ++ search) (placing_bytes d.geometry) words) in
    laid ∙ (unfold encoded front_bytes in ap (λ (g : Geometry). encoded (record { geometry = g; user = f.user; protected = f.protected; search = f.search; held = d.held })) (sym e))

words_over : (d : Drive) (held : List ℕ) → take 32 (encoded d) ++ stored d held ≡ encoded (joined (front_of d) held)
unfolding encoded front_bytes
words_over d held = ap (λ (x : List ℕ). x ++ stored d held) (take_at (front_bytes d) (stored d d.held) 32 (front_size d))

-- ---- laid into a drive's bytes, which keep their length
in_place : (s : List ℕ) (d : Drive) → length s ≡ drive_bytes (blocks d.geometry) → encoded d ≡ encoded_in d s
unfolding encoded_in
in_place s d e = rw (eq-eqb (length s) (drive_bytes (blocks d.geometry)) e)

module _ (s : List ℕ) (bytes : Bytes s) (drive : is_drive s ≡ true) where
  size : length s ≡ drive_bytes (blocks (fields s).geometry)
  unfolding fields
  size = drive_whole s drive

  own : s ≡ encoded (fields s)
  own = sym (encoded_fields s bytes drive)

  pub front_laid : (f : Front) → f.geometry ≡ (fields s).geometry → with_front s f ≡ encoded_in (joined f (fields s).held) s
  front_laid f e =
      ap (λ (l : List ℕ). with_front l f) own ∙ front_over (fields s) f e
      ∙ in_place s (joined f (fields s).held) (size ∙ ap (λ (g : Geometry). drive_bytes (blocks g)) (sym e))

  pub words_laid : (held : List ℕ) → with_words s held ≡ encoded_in (joined (front_of (fields s)) held) s
  words_laid held =
      let same : with_words s held ≡ take 32 s ++ stored (fields s) held = unfold fields in refl in
      same ∙ ap (λ (l : List ℕ). take 32 l ++ stored (fields s) held) own ∙ words_over (fields s) held
      ∙ in_place s (joined (front_of (fields s)) held) size
