-- The edition desk at the seam: the state in a drive's bytes, the answer's two halves, and a place in a list that fits 32 bits.
use mathlib.Core.Path.{◌≡◌, ap}
use mathlib.Core.Bool.{Bool, true, false, not, ◌||◌}
use mathlib.Core.List.{List}
use Prim.Native.Nat.{ℕ, ◌+◌, ◌*◌, ◌<◌}
use native.Mathlib.Omega.{arith}
use lib.ListN.{length}
use borrow.Author.Tests.{not-false, leb-false}
use Rattle.lists.proofs.BoolLaws.{or_parts}
use Rattle.filecalls.specs.declared.Front.{Front}
use Rattle.filecalls.specs.declared.Drive.{Drive}
use Rattle.filecalls.specs.CodeFront.{front_of, joined}
use Rattle.drive_bytes.specs.Layout.{fields, is_drive, decoded}
use Rattle.std.specs.Prelude.{Result, Ok, Err}
use Rattle.desk_manuscripts.specs.declared.Place.{Place}
use Rattle.desk_manuscripts.specs.declared.Place.TheVariants.{Own, House}
use Rattle.desk_manuscripts.specs.declared.Unexplained.{Unexplained}
use Rattle.desk_manuscripts.specs.declared.Unexplained.TheVariants.{Lists}
use Rattle.desk_manuscripts.specs.Manuscript.{where_of, InLists}
use Rattle.desk.specs.declared.Reply.{Reply}
use Rattle.desk.specs.Answer.{number_of, value_of}
use Rattle.desk.specs.Replace.{Desk, left, replacement}
use Rattle.desk.proofs.ReplaceLaws.{value_small}
use Rattle.seam_desk.specs.Sigla.{replaced, replace_at_seam, start_of, in_high, sealed_where, too_long, manuscript_at_seam}

-- ---- the state: its front and its held blocks, read apart
pub state_is : (s : List ℕ) {t : Bool} {w : Front} {held : List ℕ} → t ≡ is_drive s → not t ≡ false → w ≡ front_of (fields s) → held ≡ (fields s).held
    → joined w held ≡ decoded s
unfolding decoded
state_is s {t} i n f h = rw (← i, not-false t n, f, h)

-- ---- a replacement
module _ (d : Drive) (v fcb : List ℕ) (chapter old new : ℕ) (reply : Reply) {v' : List ℕ} (e : left reply v' ≡ replacement d v fcb chapter old new) where
  answer_is : reply.answer ≡ (replacement d v fcb chapter old new).answer
  answer_is = ap (λ (x : Desk). x.answer) e

  -- the matching records fit the high half
  pub count_fits : {m : ℕ} → m ≡ value_of reply.answer → m < 65536
  count_fits q = rw (q, answer_is) (value_small d v fcb chapter old new)

  pub replaced_is : (s : List ℕ) {n m r : ℕ} → d ≡ decoded s → n ≡ number_of reply.answer → m ≡ value_of reply.answer → r ≡ n + 65536 * m
      → replaced r v' ≡ replace_at_seam s v fcb chapter old new
  unfolding replace_at_seam
  replaced_is s ed en em er = rw (er, en, em, answer_is, ap (λ (x : Desk). x.volume) e, ed)

-- ---- which manuscript a siglum means
start_fits : (o h : ℕ) → o < in_high → h < in_high → (w : Result Place Unexplained) → InLists o h w → start_of w < in_high
start_fits o h x y (Ok (Own i)) k = omega (arith, x, k)
start_fits o h x y (Ok (House j)) k = omega (arith, y, k)
start_fits o h x y (Err why) k = omega arith

module _ (own house : List ℕ) {a b : Bool} (x : a ≡ too_long own) (y : b ≡ too_long house) where
  pub told_too_long : (siglum : ℕ) {r : ℕ} → (a || b) ≡ true → r ≡ sealed_where (Err Lists) → r ≡ manuscript_at_seam siglum own house
  unfolding manuscript_at_seam
  told_too_long siglum t e = rw (← x, ← y, t) e

  module _ (short : (a || b) ≡ false) where
    pub told_fits : (w : Result Place Unexplained) → InLists (length own) (length house) w → start_of w < in_high
    told_fits w k =
        let s = or_parts a b short in
        start_fits (length own) (length house) (leb-false in_high (length own) (rw (← x) s.0)) (leb-false in_high (length house) (rw (← y) s.1)) w k

    pub told_where : (siglum : ℕ) {w : Result Place Unexplained} {r : ℕ} → w ≡ where_of siglum own house → r ≡ sealed_where w → r ≡ manuscript_at_seam siglum own house
    unfolding manuscript_at_seam
    told_where siglum k e = rw (← x, ← y, short, ← k) e
