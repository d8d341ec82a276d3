-- The records of a call of several that were done before the cut: present with their new bytes.
use mathlib.Core.Path.{◌≡◌, refl, ap, ◌∙◌}
use mathlib.Core.Logic.{inl}
use mathlib.Core.Bool.{true, cond}
use mathlib.Core.List.{List, [], ◌++◌}
use Prim.Native.Nat.{ℕ, zero, suc, ◌+◌, ◌-◌, ◌*◌, ◌≤◌, ◌<◌}
use native.Mathlib.Omega.{arith}
use lib.ListN.{length, length-append}
use Rattle.lists.specs.Bytes.{part}
use Rattle.disk_stores.specs.Stores.{cut}
use Rattle.disk_stores.proofs.LaidLaws.{cut_second}
use Rattle.call_fcb.specs.Fcb.{position}
use Rattle.call_answers.specs.Answer.{value_of, succeeded}
use Rattle.filecalls.specs.declared.Drive.{Drive}
use Rattle.filecalls.specs.Leaves.{write_sequential_leaves}
use Rattle.several.specs.Several.{on_piece, singles}
use Rattle.several.proofs.SinglesCutLaws.{piece_buffer}
use Rattle.filecalls.specs.Stores.{sequential_stores}
use Rattle.several.specs.Stores.{singles_stores}
use Rattle.demands.specs.Demand2.{Present}
use Rattle.demands.proofs.Acts.{Consistent}
use Rattle.demands.proofs.StoresInTurn.{told_done_lem}
use Rattle.demands.proofs.SeveralWritesCut.{mine_laid, write_kept, to_next, forth, back, singles_cut}

pub singles_done : (j k i t : ℕ) (d : Drive) (v f b : List ℕ) → Consistent d v → j < k → 128 * (i + k) ≤ length b → value_of (singles write_sequential_leaves i (suc j) d v f b).answer ≡ i + suc j
    → length (singles_stores i (suc j) d v f b) ≤ t
    → Present d f (cut d.geometry v t (singles_stores i k d v f b)) (position f + j) (part b (128 * (i + j)) 128)
unfolding singles_stores on_piece
singles_done j zero i t d v f b c j< fits all enough = absurd (omega arith)
singles_done zero (suc k) i t d v f b c j< fits all enough =
    let r = part b (128 * i) 128 in
    let o = on_piece write_sequential_leaves i d v f b in
    let mine = sequential_stores d v f r in
    let rest = singles_stores (suc i) k o.drive o.volume o.fcb o.buffer in
    let ok : succeeded o.answer ≡ true = (told_done_lem 0 i d v f b all).0 in
    let x = to_next d v f r c ok in
    let l = length-append mine (cond (succeeded o.answer) [] []) in
    let h : length mine ≤ t = omega arith in
    let z : position f + 0 ≡ position f = omega arith in
    let y : i + 0 ≡ i = omega arith in
    let low : position f < position o.fcb = omega (arith, x.position_is) in
    let same = piece_buffer i d v f b (omega arith) in
    let later = singles_cut k (suc i) (t - length mine) o.drive o.volume o.fcb o.buffer o.buffer refl (write_kept d v f r c).consistent (rw same (omega arith)) in
    rw (z, y, ok, cut_second d.geometry v mine rest t h, mine_laid d v f r c)
    (back d v f r c ok _ (position f) r
    (rw x.geometry_is at (later.all.records_stay (position f) (inl low) r (forth d v f r c ok o.volume (position f) r x.written))))
singles_done (suc j) (suc k) i t d v f b c j< fits all enough =
    let r = part b (128 * i) 128 in
    let o = on_piece write_sequential_leaves i d v f b in
    let mine = sequential_stores d v f r in
    let rest = singles_stores (suc i) k o.drive o.volume o.fcb o.buffer in
    let first = singles_stores (suc i) (suc j) o.drive o.volume o.fcb o.buffer in
    let both = told_done_lem (suc j) i d v f b all in
    let ok : succeeded o.answer ≡ true = both.0 in
    let x = to_next d v f r c ok in
    let same : o.buffer ≡ b = piece_buffer i d v f b (omega arith) in
    let l : length (mine ++ first) ≡ length mine + length first = length-append mine first in
    let e : length (mine ++ first) ≤ t = rw ok at enough in
    let h : length mine ≤ t = omega arith in
    let z : position f + suc j ≡ position o.fcb + j = omega (arith, x.position_is) in
    let y : i + suc j ≡ suc i + j = omega arith in
    let p = singles_done j k (suc i) (t - length mine) o.drive o.volume o.fcb o.buffer (write_kept d v f r c).consistent (omega arith)
    (rw same (omega arith)) both.1 (omega arith) in
    let q = back d v f r c ok _ _ _ (rw x.geometry_is at p) in
    rw (z, y, ok, cut_second d.geometry v mine rest t h, mine_laid d v f r c)
    (record { is_present = q.is_present; has_bytes = q.has_bytes ∙ ap (λ (m : List ℕ). part m (128 * (suc i + j)) 128) same })
