-- An entry of twelve bytes and zeros, as make and a write in a new group lay it: it has no block and is in order if its
-- user and its name are.
use mathlib.Core.Path.{◌≡◌, refl, sym, ap, ◌∙◌}
use mathlib.Core.Logic.{◌≢◌}
use mathlib.Core.Bool.{true, false}
use mathlib.Core.List.{List, ◌∷◌, ◌++◌}
use Prim.Native.Nat.{ℕ, zero, suc, ◌+◌, ◌-◌, ◌≤◌, ◌<◌}
use native.Mathlib.Omega.{arith}
use lib.ListN.{length, take, drop, replicate, length-append}
use lib.Seq.{take_at, get_or-append-add, take_all}
use Rattle.lists.specs.Bytes.{byte, part}
use Rattle.lists.proofs.PartLaws.{length_part, part_part, byte_part}
use Rattle.disk_geometry.specs.declared.Geometry.{Geometry}
use Rattle.disk_volume.specs.Name.{strip, name_at, name_of, good_name}
use Rattle.disk_volume.specs.Entry.{Entry, block_in}
use Rattle.disk_volume.proofs.NameLaws.{length_strip, byte_strip, strip_strip}
use Rattle.disk_volume.proofs.MapLaws.{block_zero}
use Rattle.disk_rules.proofs.GoodLaws.{top_bits_good, good_top_bits_lem}
use Rattle.call_make.specs.Make.{fresh_entry}
use Rattle.call_entry.specs.Grown.{like_entry}
use Rattle.demands.proofs.Orderly.{InOrder}

byte_zeros : (n k : ℕ) → byte (replicate n 0) k ≡ 0
byte_zeros zero k = refl
byte_zeros (suc n) zero = refl
byte_zeros (suc n) (suc k) = byte_zeros n k

module _ (l : List ℕ) (twelve : length l ≡ 12) where
  new_head : part (l ++ replicate 20 0) 0 12 ≡ l
  unfolding part
  new_head = take_at l (replicate 20 0) 12 twelve

  new_length : length (l ++ replicate 20 0) ≡ 32
  new_length = length-append l (replicate 20 0) ∙ rw twelve

  new_byte : (k : ℕ) → k < 12 → byte (l ++ replicate 20 0) k ≡ byte l k
  new_byte k h =
      let z : 0 + k ≡ k = omega arith in
      sym (rw z at (byte_part (l ++ replicate 20 0) 0 12 k h)) ∙ ap (λ (x : List ℕ). byte x k) new_head

  new_zero : (k : ℕ) → byte (l ++ replicate 20 0) (12 + k) ≡ 0
  new_zero k = ap (λ (x : ℕ). byte (l ++ replicate 20 0) (x + k)) (sym twelve) ∙ get_or-append-add l (replicate 20 0) k 0 ∙ byte_zeros 20 k

  new_block : (g : Geometry) (p : ℕ) → block_in g (l ++ replicate 20 0) p ≡ 0
  new_block g =
      block_zero g (l ++ replicate 20 0) (λ k h.
      let z : k ≡ 12 + (k - 12) = omega arith in
      ap (byte (l ++ replicate 20 0)) z ∙ new_zero (k - 12))

  new_name_lem : name_of (l ++ replicate 20 0) ≡ name_of l
  unfolding name_at
  new_name_lem =
      ap strip (sym (part_part (l ++ replicate 20 0) 0 12 (omega (arith, new_length)) 1 11 (omega arith)) ∙ ap (λ (x : List ℕ). part x 1 11) new_head)

  new_in_order : (g : Geometry) → byte l 0 ≤ 15 → good_name false (name_of l) ≡ true → ((k : ℕ) → k < 11 → k ≢ 8 → k ≢ 9 → byte l (1 + k) < 128)
      → InOrder g (l ++ replicate 20 0)
  new_in_order g user name top = record {
    fields = record {
      user = rw (new_byte 0 (omega arith)) user;
      ex = omega (arith, new_zero 0);
      s1 = new_zero 1;
      s2 = omega (arith, new_zero 2);
      rc = omega (arith, new_zero 3);
    };
    name = rw new_name_lem name;
    top_bits = good_top_bits_lem (l ++ replicate 20 0) (λ k a b c. rw (new_byte (1 + k) (omega arith)) (top k a b c));
    range = λ p p< nz. absurd (nz (new_block g p));
    once = λ p q p< q< nz same. absurd (nz (new_block g p));
  }

-- ---- the entry that make lays: u is the user, name the stripped name of a control block
module _ (u : ℕ) (f : List ℕ) (f36 : length f ≡ 36) where
  eleven : length (name_of f) ≡ 11
  unfolding name_at
  eleven = length_strip (part f 1 11) ∙ length_part f 1 11 (omega arith)

  twelve : length (u ∷ name_of f) ≡ 12
  twelve = ap suc eleven

  low : (k : ℕ) → byte (name_of f) k < 128
  unfolding name_at
  low k = rw (byte_strip (part f 1 11) k) (omega arith)

  name_is : name_of (u ∷ name_of f) ≡ name_of f
  unfolding name_at part
  name_is = ap strip (take_all 11 (name_of f) (omega (arith, eleven))) ∙ strip_strip (take 11 (drop 1 f))

  pub fresh_32 : length (fresh_entry u (name_of f)) ≡ 32
  unfolding fresh_entry
  fresh_32 = new_length (u ∷ name_of f) twelve

  pub fresh_user : byte (fresh_entry u (name_of f)) 0 ≡ u
  unfolding fresh_entry
  fresh_user = refl

  pub fresh_name : name_of (fresh_entry u (name_of f)) ≡ name_of f
  unfolding fresh_entry
  fresh_name = new_name_lem (u ∷ name_of f) twelve ∙ name_is

  pub fresh_block : (g : Geometry) (p : ℕ) → block_in g (fresh_entry u (name_of f)) p ≡ 0
  unfolding fresh_entry
  fresh_block g p = new_block (u ∷ name_of f) twelve g p

  pub fresh_in_order : (g : Geometry) → u ≤ 15 → good_name false (name_of f) ≡ true → InOrder g (fresh_entry u (name_of f))
  unfolding fresh_entry
  fresh_in_order g u15 good =
      new_in_order (u ∷ name_of f) twelve g u15 (rw name_is good) (λ k a b c. let z : 1 + k ≡ suc k = omega arith in rw z (low k))

-- ---- the entry of a new group, which takes after an entry in order
module _ (e : Entry) (e32 : length e ≡ 32) where
  head_12 : length (part e 0 12) ≡ 12
  head_12 = length_part e 0 12 (omega arith)

  head_byte : (k : ℕ) → k < 12 → byte (part e 0 12) k ≡ byte e k
  head_byte k h =
      let z : 0 + k ≡ k = omega arith in
      rw z at (byte_part e 0 12 k h)

  head_name : name_of (part e 0 12) ≡ name_of e
  unfolding name_at
  head_name = ap strip (part_part e 0 12 (omega arith) 1 11 (omega arith))

  pub like_block : (g : Geometry) (p : ℕ) → block_in g (like_entry e) p ≡ 0
  unfolding like_entry
  like_block g p = new_block (part e 0 12) head_12 g p

  pub like_in_order : (g : Geometry) → InOrder g e → InOrder g (like_entry e)
  unfolding like_entry
  like_in_order g k =
      new_in_order (part e 0 12) head_12 g (rw (head_byte 0 (omega arith)) k.fields.user) (rw head_name k.name)
      (λ j a b c. rw (head_byte (1 + j) (omega arith)) (top_bits_good e k.top_bits j a b c))
