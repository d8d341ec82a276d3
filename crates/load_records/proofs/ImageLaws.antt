-- The image: a part of it that lies within one record, and parts laid one behind the other.
use mathlib.Core.Path.{◌≡◌, sym, ap, ◌∙◌}
use mathlib.Core.List.{List, ◌++◌}
use Prim.Native.Nat.{ℕ, ◌+◌, ◌*◌, ◌/◌, ◌%◌, ◌≤◌, ◌<◌}
use native.Mathlib.Omega.{arith}
use lib.ListN.{length, take, drop, length-append, length-take, length-drop}
use Rattle.lists.specs.Bytes.{part}
use Rattle.joined.specs.Joined.{joined}
use Rattle.lists.proofs.PartLaws.{length_part}
use Rattle.joined.proofs.JoinedLaws.{part_add, joined_length, joined_part, take_laid}
use Rattle.disk_geometry.specs.Geometry.{record_bytes}
use Rattle.filecalls.specs.declared.Drive.{Drive}
use Rattle.load_records.specs.Records.{record_of, image_records, image}
use Rattle.load_records.proofs.RecordLaws.{record_length}

pub image_length : (d : Drive) (v f : List ℕ) → length (image d v f) ≡ record_bytes * image_records d v f
unfolding image
image_length d v f = joined_length (record_of d v f) record_bytes (record_length d v f) 1 (image_records d v f)

-- a part of the image that lies within one record
pub image_part_lem : (d : Drive) (v f : List ℕ) (place m : ℕ) → place % record_bytes + m ≤ record_bytes → place / record_bytes < image_records d v f
    → part (image d v f) place m ≡ part (record_of d v f (place / record_bytes + 1)) (place % record_bytes) m
unfolding image
image_part_lem d v f place m h k =
    let z : record_bytes * (place / record_bytes) + place % record_bytes ≡ place = omega arith in
    let y : 1 + place / record_bytes ≡ place / record_bytes + 1 = omega arith in
    ap (λ (x : ℕ). part (joined (record_of d v f) 1 (image_records d v f)) x m) (sym z)
    ∙ joined_part (record_of d v f) record_bytes (record_length d v f) 1 (image_records d v f) (place / record_bytes) (place % record_bytes) m k h
    ∙ ap (λ (x : ℕ). part (record_of d v f x) (place % record_bytes) m) y

-- a part of it laid straight behind what stands before it
pub laid_next : (image : List ℕ) (from : ℕ) (l x rest : List ℕ) (a m : ℕ) → a ≤ length l → take a l ≡ part image from a → length x ≡ m → x ≡ part image (from + a) m
    → take (a + m) (take a l ++ (x ++ rest)) ≡ part image from (a + m)
laid_next image from l x rest a m h e n z =
    ap (λ (k : ℕ). take (a + k) (take a l ++ (x ++ rest))) (sym n) ∙ take_laid l x rest a h ∙ ap (λ (w : List ℕ). w ++ x) e ∙ ap (λ (w : List ℕ). part image from a ++ w) z
    ∙ sym (part_add image from a m)

-- a turn of the loop: k bytes of a record are laid behind the first a bytes
pub laid_more : (d : Drive) (v f : List ℕ) (from : ℕ) (l x : List ℕ) (a k m : ℕ) → m ≡ k → a + k ≤ length l → take a l ≡ part (image d v f) from a
    → (from + a) % record_bytes + k ≤ record_bytes → (from + a) / record_bytes < image_records d v f
    → x ≡ part (record_of d v f ((from + a) / record_bytes + 1)) ((from + a) % record_bytes) (length (take m (drop a l)))
    → (length (take a l ++ (x ++ drop m (drop a l))) ≡ length l) × (take (a + k) (take a l ++ (x ++ drop m (drop a l))) ≡ part (image d v f) from (a + k))
laid_more d v f from l x a k m z fits e h q w =
    let n : length (take m (drop a l)) ≡ k = rw z (simp (length-take, length-drop) (omega arith)) in
    let y : x ≡ part (record_of d v f ((from + a) / record_bytes + 1)) ((from + a) % record_bytes) k = w ∙ ap (part (record_of d v f ((from + a) / record_bytes + 1)) ((from + a) % record_bytes)) n in
    let s : length x ≡ k = ap length y ∙ length_part (record_of d v f ((from + a) / record_bytes + 1)) ((from + a) % record_bytes) k (omega (arith, record_length d v f ((from + a) / record_bytes + 1))) in
    let i : x ≡ part (image d v f) (from + a) k = y ∙ sym (image_part_lem d v f (from + a) k h q) in (
      simp (length-append, length-take, length-drop) (omega (arith, s)),
      laid_next (image d v f) from l x (drop m (drop a l)) a k (omega arith) e s i,
    )
