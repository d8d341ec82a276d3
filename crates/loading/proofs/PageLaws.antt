-- The base page, as its code lays it.
use mathlib.Core.Path.{◌≡◌, refl}
use mathlib.Core.Bool.{true, false, ◌&&◌}
use mathlib.Core.List.{List}
use Prim.Native.Nat.{ℕ, ◌+◌}
use native.Mathlib.Omega.{arith}
use lib.Dec.{eqb}
use lib.ListN.{length}
use Rattle.joined.specs.Joined.{joined}
use Rattle.numbers.specs.Numbers.{bytes_of}
use Rattle.memory_spans.specs.declared.Span.{Span}
use Rattle.load_header.specs.Header.{CODE, DATA, groups}
use Rattle.loading.specs.Page.{field_bytes, page_bytes, region_of, shown_of, last_of, field_of, field, base_page}

-- ---- with code alone data is shown as code
module _ (h : List ℕ) (granted : List Span) (type : ℕ) {n : ℕ} (e : n ≡ groups h) where
  pub shown_code : {s : Span} → (eqb n 1 && eqb type DATA) ≡ true → s ≡ region_of h granted CODE → s ≡ shown_of h granted type
  unfolding shown_of
  shown_code t z = let u : (eqb (groups h) 1 && eqb type DATA) ≡ true = rw (← e) t in rw u z

  pub shown_own : {s : Span} → (eqb n 1 && eqb type DATA) ≡ false → s ≡ region_of h granted type → s ≡ shown_of h granted type
  unfolding shown_of
  shown_own t z = let u : (eqb (groups h) 1 && eqb type DATA) ≡ false = rw (← e) t in rw u z

module _ (h : List ℕ) (type : ℕ) {n : ℕ} (e : n ≡ groups h) where
  pub last_one : (eqb n 1 && eqb type CODE) ≡ true → 1 ≡ last_of h type
  unfolding last_of
  last_one t = let u : (eqb (groups h) 1 && eqb type CODE) ≡ true = rw (← e) t in rw u

  pub last_zero : (eqb n 1 && eqb type CODE) ≡ false → 0 ≡ last_of h type
  unfolding last_of
  last_zero t = let u : (eqb (groups h) 1 && eqb type CODE) ≡ false = rw (← e) t in rw u

-- ---- the fields, one behind the other
length_field : (s : Span) (last : ℕ) → length (field_of s last) ≡ field_bytes
unfolding field_of bytes_of
length_field s last = refl

pub field_length : (h : List ℕ) (granted : List Span) (type : ℕ) → length (field h granted type) ≡ field_bytes
unfolding field
field_length h granted type = length_field (shown_of h granted type) (last_of h type)

pub field_is : (h : List ℕ) (granted : List Span) (i : ℕ) {s : Span} {last : ℕ} {x : List ℕ} → s ≡ shown_of h granted (i + 1) → last ≡ last_of h (i + 1)
    → x ≡ field_of s last → x ≡ field h granted (CODE + i)
unfolding field
field_is h granted i u w z = let q : CODE + i ≡ i + 1 = omega arith in rw (q, z, u, w)

pub page_length : (h : List ℕ) (granted : List Span) → length (base_page h granted) ≡ page_bytes
unfolding base_page joined field field_of bytes_of
page_length h granted = refl
