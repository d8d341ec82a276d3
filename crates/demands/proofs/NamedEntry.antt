-- An entry under another name, or with other marks: its user, the bytes behind the name and its blocks stay, its name is the
-- one given, and no byte but 9 and 10 gets a top bit.
use mathlib.Core.Path.{◌≡◌, sym, ap, ◌∙◌}
use mathlib.Core.Logic.{◌⊎◌, inl, inr, ◌≢◌}
use mathlib.Core.Bool.{true}
use mathlib.Core.List.{List}
use Prim.Native.Nat.{ℕ, ◌+◌, ◌%◌, ◌≤◌, ◌<◌}
use native.Mathlib.Omega.{arith}
use native.Mathlib.Decide.{ℕ_discrete}
use lib.ListN.{length, set, length-set}
use lib.Seq.{get_or-set_same, get_or-set_other, ext_get_or}
use Rattle.lists.specs.Bytes.{byte, part, put}
use Rattle.lists.proofs.PartLaws.{length_part, length_put, part_put, part_apart, byte_part}
use Rattle.disk_volume.specs.Name.{strip, name_at, name_of}
use Rattle.disk_volume.specs.Entry.{Entry}
use Rattle.disk_volume.proofs.NameLaws.{length_strip, byte_strip, strip_strip}
use Rattle.disk_rules.specs.GoodSlot.{good_top_bits}
use Rattle.disk_rules.proofs.GoodLaws.{top_bits_good, good_top_bits_lem}
use Rattle.call_sweep.specs.Sweep.{with_top_bit, renamed, attributed}
use Rattle.call_sweep.proofs.EditLaws.{named_and_marked}

-- ---- what an edit that gives an entry the name `to` owes
pub record Renames (to : List ℕ) (e e' : Entry) : Type 0 where
  pub length_32 : length e' ≡ 32
  pub user : byte e' 0 ≡ byte e 0
  pub rest : (k : ℕ) → 12 ≤ k → byte e' k ≡ byte e k
  pub name : name_of e' ≡ to
  pub top_bits : good_top_bits e ≡ true → good_top_bits e' ≡ true

-- ---- bytes 9 and 10 with other top bits
module _ (e : Entry) (e32 : length e ≡ 32) (x y : ℕ) where
  pub marks_length : length (set (set e 9 x) 10 y) ≡ 32
  marks_length = length-set (set e 9 x) 10 y ∙ length-set e 9 x ∙ e32

  pub marks_other : (k : ℕ) → k ≢ 9 → k ≢ 10 → byte (set (set e 9 x) 10 y) k ≡ byte e k
  marks_other k a b = get_or-set_other (set e 9 x) 10 k y 0 b ∙ get_or-set_other e 9 k x 0 a

  pub marks_nine : byte (set (set e 9 x) 10 y) 9 ≡ x
  marks_nine = get_or-set_other (set e 9 x) 10 9 y 0 (omega arith) ∙ get_or-set_same e 9 x 0 (omega arith)

  pub marks_ten : byte (set (set e 9 x) 10 y) 10 ≡ y
  marks_ten = get_or-set_same (set e 9 x) 10 y 0 (omega (arith, length-set e 9 x))

  marks_low : x % 128 ≡ byte e 9 % 128 → y % 128 ≡ byte e 10 % 128 → (k : ℕ) → byte (set (set e 9 x) 10 y) k % 128 ≡ byte e k % 128
  marks_low p q k = go (ℕ_discrete k 9) (ℕ_discrete k 10)
    where
      go : Dec (k ≡ 9) → Dec (k ≡ 10) → byte (set (set e 9 x) 10 y) k % 128 ≡ byte e k % 128
      go (yes z) d = rw (z, marks_nine) p
      go (no z) (yes w) = rw (w, marks_ten) q
      go (no z) (no w) = rw (marks_other k z w)

  marks_name : x % 128 ≡ byte e 9 % 128 → y % 128 ≡ byte e 10 % 128 → name_of (set (set e 9 x) 10 y) ≡ name_of e
  unfolding name_at
  marks_name p q =
      let d = set (set e 9 x) 10 y in
      let ld : length (strip (part d 1 11)) ≡ 11 = length_strip (part d 1 11) ∙ length_part d 1 11 (omega (arith, marks_length)) in
      let le : length (strip (part e 1 11)) ≡ 11 = length_strip (part e 1 11) ∙ length_part e 1 11 (omega arith) in
      ext_get_or 0 (strip (part d 1 11)) (strip (part e 1 11)) (ld ∙ sym le) (λ k h.
      let k< : k < 11 = omega arith in
      byte_strip (part d 1 11) k ∙ ap (λ (z : ℕ). z % 128) (byte_part d 1 11 k k<) ∙ marks_low p q (1 + k)
      ∙ ap (λ (z : ℕ). z % 128) (sym (byte_part e 1 11 k k<)) ∙ sym (byte_strip (part e 1 11) k))

  marks_top_bits : good_top_bits e ≡ true → good_top_bits (set (set e 9 x) 10 y) ≡ true
  marks_top_bits h =
      good_top_bits_lem (set (set e 9 x) 10 y) (λ k a b c. rw (marks_other (1 + k) (λ z. b (omega arith)) (λ z. c (omega arith))) (top_bits_good e h k a b c))

-- ---- the attributes
pub attributes_renames : (e : Entry) (new : List ℕ) → length e ≡ 32 → Renames (name_of e) e (attributed e new)
unfolding attributed
attributes_renames e new e32 =
    let x = with_top_bit (byte e 9) (byte new 8) in
    let y = with_top_bit (byte e 10) (byte new 9) in
    record {
      length_32 = marks_length e e32 x y;
      user = marks_other e e32 x y 0 (omega arith) (omega arith);
      rest = λ k h. marks_other e e32 x y k (omega arith) (omega arith);
      name = marks_name e e32 x y (omega arith) (omega arith);
      top_bits = marks_top_bits e e32 x y;
    }

-- ---- another name laid whole, and its marks
module _ (e : Entry) (e32 : length e ≡ 32) (s : List ℕ) (s11 : length s ≡ 11) where
  pub laid_length : length (put e 1 11 s) ≡ 32
  laid_length = length_put e 1 11 (omega arith) s s11 ∙ e32

  laid_other : (k : ℕ) → (k < 1) ⊎ (12 ≤ k) → byte (put e 1 11 s) k ≡ byte e k
  laid_other k o =
      let z : k + 0 ≡ k = omega arith in
      let a : byte (part (put e 1 11 s) k 1) 0 ≡ byte (put e 1 11 s) k = rw z at (byte_part (put e 1 11 s) k 1 0 (omega arith)) in
      let b : byte (part e k 1) 0 ≡ byte e k = rw z at (byte_part e k 1 0 (omega arith)) in
      sym a ∙ ap (λ (l : List ℕ). byte l 0) (part_apart e 1 11 s k 1 (omega arith) s11 (apart o)) ∙ b
    where
      apart : (k < 1) ⊎ (12 ≤ k) → (k + 1 ≤ 1) ⊎ (1 + 11 ≤ k)
      apart (inl h) = inl (omega arith)
      apart (inr h) = inr (omega arith)

  pub laid_byte : (k : ℕ) → k < 11 → byte (put e 1 11 s) (1 + k) ≡ byte s k
  laid_byte k h = sym (byte_part (put e 1 11 s) 1 11 k h) ∙ ap (λ (l : List ℕ). byte l k) (part_put e 1 11 (omega arith) s s11)

  laid_name : name_of (put e 1 11 s) ≡ strip s
  unfolding name_at
  laid_name = ap strip (part_put e 1 11 (omega arith) s s11)

pub rename_renames : (e : Entry) (new : List ℕ) → length e ≡ 32 → length new ≡ 11 → Renames (strip new) e (renamed e new)
unfolding renamed
rename_renames e new e32 n11 =
    let s11 : length (strip new) ≡ 11 = length_strip new ∙ n11 in
    let m = put e 1 11 (strip new) in
    let m32 = laid_length e e32 (strip new) s11 in
    let x = with_top_bit (byte new 8) (byte e 9) in
    let y = with_top_bit (byte new 9) (byte e 10) in
    let nine : byte m 9 ≡ byte new 8 % 128 = laid_byte e e32 (strip new) s11 8 (omega arith) ∙ byte_strip new 8 in
    let ten : byte m 10 ≡ byte new 9 % 128 = laid_byte e e32 (strip new) s11 9 (omega arith) ∙ byte_strip new 9 in
    let low : good_top_bits m ≡ true = good_top_bits_lem m (λ k a b c. rw (laid_byte e e32 (strip new) s11 k a, byte_strip new k) (omega arith)) in
    rw (← named_and_marked e new x y e32 n11)
    (record {
      length_32 = marks_length m m32 x y;
      user = marks_other m m32 x y 0 (omega arith) (omega arith) ∙ laid_other e e32 (strip new) s11 0 (inl (omega arith));
      rest = λ k h. marks_other m m32 x y k (omega arith) (omega arith) ∙ laid_other e e32 (strip new) s11 k (inr h);
      name = marks_name m m32 x y (omega arith) (omega arith) ∙ laid_name e e32 (strip new) s11 ∙ strip_strip new;
      top_bits = λ h. marks_top_bits m m32 x y low;
    })
