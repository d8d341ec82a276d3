-- Laws of bytes laid one by one and part after part.
use mathlib.Core.Path.{◌≡◌, refl, sym, ap, ◌∙◌}
use mathlib.Core.Bool.{Bool, true, false, cond}
use mathlib.Core.List.{List, [], ◌∷◌, ◌++◌, append-nil}
use mir.Val.{bool_byte}
use Prim.Native.Nat.{ℕ, ◌+◌, ◌-◌, ◌/◌, ◌%◌, ◌≤◌}
use native.Mathlib.Omega.{arith}
use lib.ListN.{length, take, drop, set, take-append-drop}
use lib.Seq.{length-take-le, take-append-add, take_at, take_all}
use Rattle.std.specs.Int.{w64, to_le_bytes}
use Rattle.lists.specs.Bytes.{byte, part, put}
use Rattle.lists.proofs.PartLaws.{length_put}
use Rattle.disk_geometry.specs.declared.Geometry.{Geometry}
use Rattle.call_search.specs.declared.SearchKind.{SearchKind}
use Rattle.call_search.specs.declared.SearchKind.TheVariants.{Nothing, Pattern, Everything}
use Rattle.numbers.specs.Numbers.{bytes_of, bytes_from}
use Rattle.drive_bytes.specs.Layout.{head_bytes, kept_bytes, search_bytes, placing_bytes}
use Rattle.numbers.proofs.NumberLaws.{part_bytes, bytes_from_lem}

-- a number's two lowest bytes, as std lays them
pub two_lowest : (x : ℕ) (l : List ℕ) → l ≡ to_le_bytes w64 x → bytes_of 2 x ≡ byte l 0 ∷ byte l 1 ∷ []
unfolding bytes_of
two_lowest x l e = rw e

pub two_taken : (x : ℕ) (l : List ℕ) → l ≡ to_le_bytes w64 x → take 2 l ≡ bytes_of 2 x
unfolding bytes_of
two_taken x l e = rw e

-- two stores, two bytes and what is behind them fill sixteen
pub sixteen_stored : (l : List ℕ) → length l ≡ 16 → (a b c d : ℕ) (p : List ℕ) → length p ≡ 12
    → (let x = put (set (set l 0 a) 1 b) 2 2 (c ∷ d ∷ []) in put x 4 (length x - 4) p) ≡ a ∷ b ∷ c ∷ d ∷ bytes_from p 0 12
unfolding bytes_from put
sixteen_stored l size a b c d p long =
    ap (λ (y : List ℕ). let x = put (set (set y 0 a) 1 b) 2 2 (c ∷ d ∷ []) in put x 4 (length x - 4) p) (sym (bytes_from_lem l 16 size))
    ∙ ap (λ (q : List ℕ). a ∷ b ∷ c ∷ d ∷ q) (append-nil p ∙ sym (bytes_from_lem p 12 long))

-- ---- parts laid one after the other: the first k bytes are laid
record Laid (size : ℕ) (l : List ℕ) (k : ℕ) (bytes : List ℕ) : Type 0 where
  whole : length l ≡ size
  laid : take k l ≡ bytes

take_put : (l : List ℕ) (a n : ℕ) (new : List ℕ) → a + n ≤ length l → length new ≡ n → take (a + n) (put l a n new) ≡ take a l ++ new
unfolding put
take_put l a n new fits e =
    let k : length (take a l) ≡ a = length-take-le a l (omega arith) in
    let z : a + n ≡ length (take a l) + n = omega arith in
    rw (z, take-append-add, take_at new (drop n (drop a l)) n e)

laid_first : {size : ℕ} (l : List ℕ) (n : ℕ) (new : List ℕ) → length l ≡ size → n ≤ size → length new ≡ n → Laid size (put l 0 n new) n new
laid_first l n new w fits e =
    let z : 0 + n ≡ n = omega arith in
    let h : 0 + n ≤ length l = omega arith in
    record { whole = length_put l 0 n h new e ∙ w; laid = rw z at (take_put l 0 n new h e) }

laid_next : {size k : ℕ} {l bytes : List ℕ} (n : ℕ) (new : List ℕ) → Laid size l k bytes → k + n ≤ size → length new ≡ n
    → Laid size (put l k n new) (k + n) (bytes ++ new)
laid_next {size} {k} {l} {bytes} n new p fits e =
    let h : k + n ≤ length l = omega (arith, p.whole) in
    record { whole = length_put l k n h new e ∙ p.whole; laid = take_put l k n new h e ∙ rw p.laid }

-- three parts fill the first bytes, and a fourth the rest
module _ (l a b c : List ℕ) (i j k : ℕ) (fits : i + j + k ≤ length l) (ea : length a ≡ i) (eb : length b ≡ j) (ec : length c ≡ k) where
  laid_three : Laid (length l) (put (put (put l 0 i a) i j b) (i + j) k c) (i + j + k) (a ++ b ++ c)
  laid_three = laid_next k c (laid_next j b (laid_first l i a refl (omega arith) ea) (omega arith) eb) fits ec

  pub three_laid : take (i + j + k) (put (put (put l 0 i a) i j b) (i + j) k c) ≡ a ++ b ++ c
  three_laid = laid_three.laid

pub four_laid : (l a b c d : List ℕ) (i j k m : ℕ) → length l ≡ i + j + k + m → length a ≡ i → length b ≡ j → length c ≡ k → length d ≡ m
    → put (put (put (put l 0 i a) i j b) (i + j) k c) (i + j + k) m d ≡ a ++ b ++ c ++ d
four_laid l a b c d i j k m w ea eb ec ed =
    let p = laid_next m d (laid_three l a b c i j k (omega arith) ea eb ec) (omega arith) ed in
    sym (take_all (i + j + k + m) _ (omega (arith, p.whole))) ∙ p.laid

-- two stores and a part lay bytes 6 to 23
pub front_stored : (s search : List ℕ) (user flag : ℕ) → 8 ≤ length s
    → put (set (set s 6 user) 7 flag) 8 16 search ≡ take 6 s ++ (user ∷ flag ∷ []) ++ search ++ drop 24 s
unfolding put part bytes_from
front_stored s search user flag h =
    let e : bytes_from s 0 8 ++ drop 8 s ≡ s = ap (λ (l : List ℕ). l ++ drop 8 s) (sym (part_bytes s 0 8 h)) ∙ take-append-drop 8 s in
    ap (λ (l : List ℕ). put (set (set l 6 user) 7 flag) 8 16 search) (sym e)
    ∙ ap (λ (l : List ℕ). take 6 l ++ (user ∷ flag ∷ []) ++ search ++ drop 24 l) e

-- how long the parts of a drive are
pub length_head : (g : Geometry) (user : ℕ) (protected : Bool) → length (head_bytes g user protected) ≡ 8
unfolding head_bytes bytes_of
length_head g user protected = refl

pub length_search : (kind : SearchKind) (user last : ℕ) (pattern : List ℕ) → length (search_bytes kind user last pattern) ≡ 16
unfolding search_bytes kept_bytes bytes_of bytes_from
length_search Nothing user last pattern = refl
length_search Pattern user last pattern = refl
length_search Everything user last pattern = refl

pub length_placing : (g : Geometry) → length (placing_bytes g) ≡ 8
unfolding bytes_of
length_placing g = refl

-- the placing as a word
pub placing_word : (g : Geometry) → bytes_of 8 (g.placing % 256) ≡ placing_bytes g
unfolding bytes_of
placing_word g =
    let low : g.placing % 256 % 256 ≡ g.placing % 256 = omega arith in
    let high : g.placing % 256 / 256 ≡ 0 = omega arith in
    rw (low, high)

-- a test as a byte
pub flag_byte : (t : Bool) → bool_byte t ≡ cond t 1 0
flag_byte true = refl
flag_byte false = refl
