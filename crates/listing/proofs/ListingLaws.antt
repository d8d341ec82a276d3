-- Laws of the listing: loops that append, and what log-in's answer tells.
use mathlib.Core.Path.{◌≡◌, refl, sym, ap, ◌∙◌}
use mathlib.Core.Bool.{Bool, true, false}
use mathlib.Core.List.{List, [], ◌∷◌, ◌++◌, append_assoc}
use Rattle.std.proofs.lemmas.List.{append-nil, take_more}
use native.Mathlib.Nat.{add-zero, zero-add}
use Prim.Native.Nat.{ℕ, zero, suc, ◌+◌, ◌%◌, ◌<◌}
use native.Mathlib.Numerals.{add-one}
use native.Mathlib.Omega.{arith}
use lib.Dec.{eqb}
use lib.ListN.{length, get_or, take}
use borrow.Author.Tests.{eqb-true}
use Rattle.disk_geometry.specs.declared.Geometry.{Geometry}
use Rattle.disk_geometry.specs.Geometry.{lawful, bytes}
use Rattle.disk_volume.specs.Name.{strip}
use Rattle.call_answers.specs.declared.Refusal.TheVariants.{VolumeLength}
use Rattle.call_answers.specs.declared.Answer.{Answer}
use Rattle.call_answers.specs.declared.Answer.TheVariants.{Ready, Refused}
use Rattle.call_answers.specs.Refusal.{first_met}
use Rattle.filecalls.specs.declared.Reply.{Reply}
use Rattle.filecalls.specs.LogIn.{log_in, log_in_tests, refused_log_in}
use Rattle.listing.specs.Listing.{geometry_v, line_at, lines_from, listing_for, listing}

-- ---- a loop that appends bytes without their top bits
strip_append : (l m : List ℕ) → strip (l ++ m) ≡ strip l ++ strip m
unfolding strip
strip_append [] m = refl
strip_append (x ∷ l) m = rw (strip_append l m)

pub strip_more : (s : List ℕ) (i : ℕ) → i < length s → strip (take (i + 1) s) ≡ strip (take i s) ++ (get_or s i 0 % 128) ∷ []
unfolding strip
strip_more s i h = rw (take_more s i 0 h, strip_append)

-- ---- a loop that appends lines
lines_more : (g : Geometry) (v : List ℕ) (i k : ℕ) → lines_from g v i (k + 1) ≡ lines_from g v i k ++ line_at g v (i + k)
unfolding lines_from
lines_more g v i zero = rw (add-zero, append-nil)
lines_more g v i (suc k) =
    let z : suc i + k ≡ i + suc k = omega arith in
    let more : lines_from g v (suc i) (suc k) ≡ lines_from g v (suc i) k ++ line_at g v (suc i + k) = rw add-one at (lines_more g v (suc i) k) in
    rw (add-one, append_assoc, ← z) (ap (λ (l : List ℕ). line_at g v i ++ l) more)

pub next_line : (g : Geometry) (v : List ℕ) (i : ℕ) → lines_from g v 0 (i + 1) ≡ lines_from g v 0 i ++ line_at g v i
next_line g v i = rw (zero-add i) at (lines_more g v 0 i)

-- ---- a volume that log-in accepts has V's length
pub whole : (v : List ℕ) (free : ℕ) → (log_in geometry_v v).answer ≡ Ready free → length v ≡ bytes geometry_v
unfolding log_in log_in_tests first_met refused_log_in lawful bytes
whole v free r = go (eqb (length v) (bytes geometry_v)) refl
  where
    go : (t : Bool) → eqb (length v) (bytes geometry_v) ≡ t → length v ≡ bytes geometry_v
    go true e = eqb-true (length v) (bytes geometry_v) e
    go false e =
        let f : (log_in geometry_v v).answer ≡ Refused VolumeLength = rw e in
        let z : ◌≡◌ {A = ℕ} 0 1 = cc in
        absurd (omega arith)

-- what log-in answered says what is listed, and whether lines may be read
module _ (v : List ℕ) {g : Geometry} {r : Reply} (is-v : g ≡ geometry_v) (said : r ≡ log_in g v) where
  answered : (a : Answer) → r.answer ≡ a → (log_in geometry_v v).answer ≡ a
  answered a e = ap (λ (x : Geometry). (log_in x v).answer) (sym is-v) ∙ sym (ap (λ (x : Reply). x.answer) said) ∙ e

  pub listing_is : listing v ≡ listing_for r.answer g v
  unfolding listing
  listing_is = rw (is-v, said, is-v)

  pub may_list : (free : ℕ) → r.answer ≡ Ready free → (lawful g ≡ true) × (length v ≡ bytes g)
  unfolding lawful bytes
  may_list free e = rw is-v (refl, whole v free (answered (Ready free) e))
