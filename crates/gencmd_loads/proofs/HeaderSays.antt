-- The header read back: descriptor by descriptor, and a form of 0 behind them.
use mathlib.Core.Path.{◌≡◌, refl, sym, ap, ◌∙◌}
use mathlib.Core.Bool.{Bool, true, false, cond}
use mathlib.Core.List.{List, [], ◌∷◌, ◌++◌, append_assoc, append-nil}
use Prim.Native.Nat.{ℕ, zero, suc, ◌+◌, ◌*◌, ◌-◌, ◌/◌, ◌%◌, ◌≤◌, ◌<◌}
use native.Mathlib.Omega.{arith}
use borrow.Author.Tests.{ne_eqb}
use lib.Dec.{eqb}
use lib.ListN.{length, get_or, replicate, length-append, get_or-append}
use lib.Seq.{get_or-append-add}
use Rattle.lists.specs.Bytes.{byte}
use Rattle.lists.proofs.BoundedLaws.{low_is}
use Rattle.numbers.specs.Numbers.{bytes_of, two}
use Rattle.load_header.specs.Header.{CODE, DATA, EXTRA, STACK, SHARED_CODE, descriptors as places, descriptor_bytes, form_at, length_at, groups, type_at}
use Rattle.gencmd_groups.specs.declared.Groups.{Groups}
use Rattle.gencmd_groups.specs.CodeMeasure.{SizeWithin}
use Rattle.gencmd_file.specs.File.{header_bytes, descriptor, descriptors, header}
use Rattle.gencmd_loads.specs.Loads.{Group, nobody, there, groups_of, Says}
use Rattle.gencmd_loads.proofs.GroupLaws.{Rising, rising, rising_at, rising_few}

-- ---- the descriptors are those of the groups that are there
abbrev one : Group → List ℕ
one g = bytes_of 1 g.type ++ (bytes_of 2 g.size ++ (bytes_of 2 0 ++ (bytes_of 2 g.size ++ bytes_of 2 g.size)))

abbrev described : List Group → List ℕ
described [] = []
described (g ∷ gs) = one g ++ described gs

descriptor_there : (g n : ℕ) (gs : List Group) → descriptor g n ++ described gs ≡ described (there g n ++ gs)
unfolding descriptor
descriptor_there g n gs = go (eqb n 0)
  where
    go : (t : Bool) → cond t [] (bytes_of 1 g ++ (bytes_of 2 n ++ (bytes_of 2 0 ++ (bytes_of 2 n ++ bytes_of 2 n)))) ++ described gs
        ≡ described (cond t [] (record { type = g; size = n } ∷ []) ++ gs)
    go true = refl
    go false = refl

descriptors_are : (s : Groups) → descriptors s ≡ described (groups_of s)
unfolding descriptors
descriptors_are s =
    ap (λ (x : List ℕ). descriptor CODE s.code ++ (descriptor DATA s.«data» ++ (descriptor EXTRA s.extra ++ x)))
    (sym (append-nil (descriptor STACK s.stack)) ∙ descriptor_there STACK s.stack [])
    ∙ ap (λ (x : List ℕ). descriptor CODE s.code ++ (descriptor DATA s.«data» ++ x)) (descriptor_there EXTRA s.extra _)
    ∙ ap (λ (x : List ℕ). descriptor CODE s.code ++ x) (descriptor_there DATA s.«data» _)
    ∙ descriptor_there CODE s.code _

header_is : (s : Groups) → header s ≡ described (groups_of s) ++ replicate (header_bytes - length (descriptors s)) 0
unfolding header
header_is s = ap (λ (x : List ℕ). x ++ replicate (header_bytes - length (descriptors s)) 0) (descriptors_are s)

-- ---- their bytes
nine : (g : Group) → length (one g) ≡ descriptor_bytes
unfolding bytes_of
nine g = refl

length_described : (gs : List Group) → length (described gs) ≡ descriptor_bytes * length gs
length_described [] = refl
length_described (g ∷ gs) = let k = length_described gs in rw length-append (omega (arith, nine g))

byte_described : (gs : List Group) (z : List ℕ) (i j : ℕ) → i < length gs → j < descriptor_bytes
    → byte (described gs ++ z) (descriptor_bytes * i + j) ≡ byte (one (get_or gs i nobody)) j
byte_described [] z i j h k = absurd (omega arith)
byte_described (g ∷ gs) z zero j h k =
    let e : descriptor_bytes * 0 + j ≡ j = omega arith in
    rw (append_assoc (one g) (described gs) z, e) (get_or-append (one g) (described gs ++ z) 0 j (omega (arith, nine g)))
byte_described (g ∷ gs) z (suc i) j h k =
    let e : descriptor_bytes * suc i + j ≡ length (one g) + (descriptor_bytes * i + j) = omega (arith, nine g) in
    rw (append_assoc (one g) (described gs) z, e)
    (get_or-append-add (one g) (described gs ++ z) (descriptor_bytes * i + j) 0 ∙ byte_described gs z i j (omega arith) k)

zero_behind : (gs : List Group) (k : ℕ) → byte (described gs ++ replicate k 0) (descriptor_bytes * length gs) ≡ 0
zero_behind gs k =
    let e : descriptor_bytes * length gs ≡ length (described gs) + 0 = omega (arith, length_described gs) in
    rw e (get_or-append-add (described gs) (replicate k 0) 0 0 ∙ first k)
  where
    first : (k : ℕ) → byte (replicate k 0) 0 ≡ 0
    first zero = refl
    first (suc k) = refl

-- ---- as load reads them
back : (n : ℕ) → n < 256 * 256 → n % 256 + 256 * (n / 256 % 256) ≡ n
back n h = omega arith

type_is : (x : ℕ) → 0 < x → x ≤ STACK → cond (eqb (x % 256 % 16) SHARED_CODE) CODE (x % 256 % 16) ≡ x
type_is x h k =
    let z : x % 256 % 16 ≡ x = omega arith in
    rw (z, ne_eqb x SHARED_CODE (λ e. omega arith))

module _ (gs : List Group) (k : ℕ) (r : Rising 0 gs) where
  abbrev h : List ℕ
  h = described gs ++ replicate k 0

  at : (i j : ℕ) → i < length gs → j < descriptor_bytes → byte h (descriptor_bytes * i + j) ≡ byte (one (get_or gs i nobody)) j
  at i j l m = byte_described gs (replicate k 0) i j l m

  form_is : (i : ℕ) → i < length gs → form_at h i ≡ (get_or gs i nobody).type % 256
  unfolding bytes_of
  form_is i l = let e : descriptor_bytes * i ≡ descriptor_bytes * i + 0 = omega arith in rw e (at i 0 l (omega arith))

  -- the number that stands so many bytes behind a form
  two_is : (i j : ℕ) → i < length gs → j + 1 < descriptor_bytes
      → two h (descriptor_bytes * i + j) ≡ byte (one (get_or gs i nobody)) j + 256 * byte (one (get_or gs i nobody)) (j + 1)
  two_is i j l m =
      let e : descriptor_bytes * i + j + 1 ≡ descriptor_bytes * i + (j + 1) = omega arith in
      rw (e, at i j l (omega arith), at i (j + 1) l m)

  size_is : (i : ℕ) → i < length gs → length_at h i ≡ (get_or gs i nobody).size
  unfolding bytes_of
  size_is i l = two_is i 1 l (omega arith) ∙ back (get_or gs i nobody).size (rising_at 0 gs r i l).word

  says : Says h gs
  unfolding groups type_at bytes_of
  says =
      let few = rising_few 0 gs (omega arith) r in
      record {
        number =
            low_is (λ i. eqb (form_at h i) 0) 0 places (length gs)
            (record {
              from = omega arith;
              below = omega arith;
              passes = rw (zero_behind gs k);
              first = λ m a b. rw (form_is m b) (ne_eqb ((get_or gs m nobody).type % 256) 0 (λ e. let s = rising_at 0 gs r m b in omega (arith, s.low, s.high)));
            });
        type = λ i l. let s = rising_at 0 gs r i l in rw (form_is i l) (type_is (get_or gs i nobody).type s.low s.high);
        size = size_is;
        base = λ i l. two_is i 3 l (omega arith);
        least = λ i l. two_is i 5 l (omega arith) ∙ back (get_or gs i nobody).size (rising_at 0 gs r i l).word ∙ sym (size_is i l);
        most = λ i l. two_is i 7 l (omega arith) ∙ back (get_or gs i nobody).size (rising_at 0 gs r i l).word ∙ sym (size_is i l);
      }

pub header_says : (s : Groups) → SizeWithin s → Says (header s) (groups_of s)
header_says s w = rw (header_is s) (says (groups_of s) (header_bytes - length (descriptors s)) (rising s w))
