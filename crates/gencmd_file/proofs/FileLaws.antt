-- The file, part by part: each part is laid behind the one before.
use mathlib.Core.Path.{◌≡◌, refl, sym, ap, ◌∙◌}
use mathlib.Core.Bool.{Bool, true, false, cond}
use mathlib.Core.List.{List, [], ◌++◌, append_assoc}
use Prim.Native.Nat.{ℕ, zero, suc, ◌+◌, ◌*◌, ◌-◌, ◌≤◌}
use native.Mathlib.Omega.{arith}
use lib.Dec.{eqb}
use lib.ListN.{length, take, drop, replicate, length-append, length-take, length-drop, length-replicate}
use lib.Seq.{take_at, drop_at, drop-drop, length-take-le}
use Rattle.lists.specs.Bytes.{put}
use Rattle.numbers.specs.Numbers.{bytes_of}
use Rattle.text.specs.Text.{Text, text, puts}
use Rattle.text.proofs.TextLaws.{puts_room}
use Rattle.memory_spans.specs.Span.{paragraph_bytes}
use Rattle.load_header.specs.Header.{CODE, DATA, EXTRA, STACK}
use Rattle.gencmd_lines.specs.Line.{Line}
use Rattle.gencmd_groups.specs.declared.Groups.{Groups}
use Rattle.gencmd_groups.specs.Groups.{group_bytes}
use Rattle.gencmd_groups.proofs.ListLaws.{length_list}
use Rattle.gencmd_file.specs.File.{header_bytes, descriptor, descriptors, header, image, image_end, file_length, file_with}
use Rattle.gencmd_file.specs.CodePlan.{image_of}

-- ---- one part behind the other
-- what a part becomes that is lent from a to a + n, where that depends on its length alone
pub lent_put : (l new : List ℕ) (a n : ℕ) (bytes : ℕ → List ℕ) → a + n ≤ length l → new ≡ bytes (length (take (a + n - a) (drop a l)))
    → take a l ++ (new ++ drop (a + n - a) (drop a l)) ≡ put l a n (bytes n)
unfolding put
lent_put l new a n bytes h e =
    let z : a + n - a ≡ n = omega arith in
    let k : length (take n (drop a l)) ≡ n = simp (length-take, length-drop) (omega arith) in
    rw (e, z, k)

-- out is l with the m bytes from a on replaced by x
pub record Put (l : List ℕ) (a m : ℕ) (x out : List ℕ) : Type 0 where
  pub is : out ≡ put l a m x
  pub size : length x ≡ m

joins : (l x y : List ℕ) (a m n : ℕ) → a ≤ length l → length x ≡ m → put (put l a m x) (a + m) n y ≡ put l a (m + n) (x ++ y)
unfolding put
joins l x y a m n h s =
    let k : length (take a l ++ x) ≡ a + m = rw (length-append, length-take-le a l h) (omega arith) in
    let e : take a l ++ (x ++ drop m (drop a l)) ≡ (take a l ++ x) ++ drop m (drop a l) = sym (append_assoc (take a l) x (drop m (drop a l))) in
    rw (e, take_at (take a l ++ x) (drop m (drop a l)) (a + m) k, drop_at (take a l ++ x) (drop m (drop a l)) (a + m) k, drop-drop n m (drop a l)) (simp append_assoc)

-- the next n bytes are replaced too
pub and_put : {l x out more : List ℕ} {a m n b : ℕ} (y : List ℕ) → Put l a m x out → a ≤ length l → b ≡ a + m → more ≡ put out b n y → length y ≡ n → Put l a (m + n) (x ++ y) more
and_put {l} {x} {out} {more} {a} {m} {n} {b} y p h e q s =
    record { is = q ∙ rw (e, p.is) (joins l x y a m n h p.size); size = rw length-append (omega (arith, p.size)) }

pub put_one : {l x out : List ℕ} {a m : ℕ} → out ≡ put l a m x → length x ≡ m → Put l a m x out
put_one e s = record { is = e; size = s }

-- ---- the header
length_descriptor : (g n : ℕ) → length (descriptor g n) ≤ 9
unfolding descriptor bytes_of
length_descriptor g n = go (eqb n 0) (bytes_of 1 g ++ (bytes_of 2 n ++ (bytes_of 2 0 ++ (bytes_of 2 n ++ bytes_of 2 n)))) (omega arith)
  where
    go : (t : Bool) (l : List ℕ) → length l ≤ 9 → length (cond t [] l) ≤ 9
    go true l h = omega arith
    go false l h = h

pub length_descriptors : (s : Groups) → length (descriptors s) ≤ header_bytes
unfolding descriptors
length_descriptors s =
    simp length-append
    (omega (arith, length_descriptor CODE s.code, length_descriptor DATA s.«data», length_descriptor EXTRA s.extra, length_descriptor STACK s.stack))

drop_replicate : (k n : ℕ) → drop k (replicate {A = ℕ} n 0) ≡ replicate (n - k) 0
drop_replicate zero n = let z : n - 0 ≡ n = omega arith in rw z
drop_replicate (suc k) zero = let z : 0 - suc k ≡ 0 = omega arith in rw z
drop_replicate (suc k) (suc n) = let z : suc n - suc k ≡ n - k = omega arith in rw z (drop_replicate k n)

-- descriptors appended to zeros
pub header_is : (s : Groups) (zeros out : List ℕ) (r : ℕ) → zeros ≡ replicate header_bytes 0 → text out r ≡ puts (text zeros 0) (descriptors s) → out ≡ header s
unfolding header
header_is s zeros out r z e =
    let h : 0 + length (descriptors s) ≤ length (replicate {A = ℕ} header_bytes 0) = omega (arith, length_descriptors s) in
    let k : 0 + length (descriptors s) ≡ length (descriptors s) = omega arith in
    ap (λ (t : Text). t.bytes) (e ∙ ap (λ (l : List ℕ). puts (text l 0) (descriptors s)) z ∙ puts_room (descriptors s) (replicate header_bytes 0) 0 h)
    ∙ ap (λ (l : List ℕ). descriptors s ++ l) (ap (λ (n : ℕ). drop n (replicate {A = ℕ} header_bytes 0)) k ∙ drop_replicate (length (descriptors s)) header_bytes)

pub length_header : (s : Groups) → length (header s) ≡ header_bytes
unfolding header
length_header s = rw (length-append, length-replicate) (omega (arith, length_descriptors s))

-- ---- the image
pub length_image : (ls : List Line) (a b c d : ℕ) → length (image_of ls a b c d) ≡ a + (b + (c + d))
length_image ls a b c d = simp (length-append, length_list)

pub image_is : (ls : List Line) {l out : List ℕ} {at : ℕ} (a b c d : ℕ)
    → Put l at (a + b + c + d) (((group_bytes ls CODE a ++ group_bytes ls DATA b) ++ group_bytes ls EXTRA c) ++ group_bytes ls STACK d) out
    → out ≡ put l at (a + (b + (c + d))) (image_of ls a b c d)
image_is ls a b c d p = p.is ∙ (let z : a + b + c + d ≡ a + (b + (c + d)) = omega arith in rw z (simp append_assoc))

-- ---- the file
length_start : (ls : List Line) (s : Groups) → length (header s ++ image ls s) ≡ image_end s
unfolding image
length_start ls s = rw (length-append, length_header, length_image) (omega arith)

pub length_file : (ls : List Line) (s : Groups) → length (file_with ls s) ≡ file_length s
unfolding file_with
length_file ls s = rw (length-append, length-replicate) (omega (arith, length_start ls s))

-- the image of these sizes in bytes
abbrev pub sized : List Line → Groups → List ℕ
sized ls s = image_of ls (paragraph_bytes * s.code) (paragraph_bytes * s.«data») (paragraph_bytes * s.extra) (paragraph_bytes * s.stack)

-- header, image and zeros laid one behind the other
pub file_is : (ls : List Line) (s : Groups) (o out : List ℕ) (m z : ℕ) → m ≡ file_length s → z ≡ file_length s - image_end s
    → Put o 0 m ((header s ++ sized ls s) ++ replicate z 0) out → out ≡ file_with ls s ++ drop (file_length s) o
unfolding file_with put
file_is ls s o out m z e f p = p.is ∙ rw (e, length_start ls s, f) (unfold image in refl)
