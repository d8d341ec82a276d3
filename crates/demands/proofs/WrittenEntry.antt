-- The entry that a write leaves keeps what inspection asks of its fields, its name and its top bits.
use mathlib.Core.Path.{◌≡◌, ap, ◌∙◌}
use mathlib.Core.Bool.{true}
use Prim.Native.Nat.{ℕ, ◌+◌, ◌/◌, ◌%◌, ◌<◌, max}
use native.Mathlib.Omega.{arith}
use native.Mathlib.Decide.{dec_lt}
use lib.ListN.{length, set, length-set}
use lib.Seq.{get_or-set_same, get_or-set_other}
use Rattle.lists.specs.Bytes.{byte}
use Rattle.disk_geometry.specs.declared.Geometry.{Geometry}
use Rattle.disk_volume.specs.Name.{name_of}
use Rattle.disk_volume.specs.Entry.{Entry, extent}
use Rattle.disk_rules.specs.GoodSlot.{good_top_bits}
use Rattle.disk_rules.proofs.GoodLaws.{Fields, top_bits_good, good_top_bits_lem}
use Rattle.call_entry.specs.Grown.{grown, written_entry}
use Rattle.call_entry.proofs.HeadLaws.{head_byte, head_name}
use Rattle.call_entry.proofs.GrowLaws.{grown_later, grown_own, grown_earlier, byte_grown, byte_written, head_written, length_written}

module _ (e : Entry) (n : ℕ) (e32 : length e ≡ 32) (n< : n < 65536) (f : Fields e) where
  grown_fields : Fields (grown e n)
  grown_fields = go (dec_lt (extent e) (n / 128)) (dec_lt (n / 128) (extent e))
    where
      user : byte (grown e n) 0 ≡ byte e 0
      user = byte_grown e n 0 (omega arith) (omega arith) (omega arith)

      s1 : byte (grown e n) 13 ≡ byte e 13
      s1 = byte_grown e n 13 (omega arith) (omega arith) (omega arith)

      later : extent e < n / 128 → Fields (grown e n)
      later h =
          let a = set e 12 (n / 128 % 32) in
          let b = set a 14 (n / 128 / 32) in
          let la : length a ≡ 32 = length-set e 12 (n / 128 % 32) ∙ e32 in
          let lb : length b ≡ 32 = length-set a 14 (n / 128 / 32) ∙ la in
          let ex : byte (grown e n) 12 ≡ n / 128 % 32 = ap (λ (x : Entry). byte x 12) (grown_later e n h)
          ∙ get_or-set_other b 15 12 (n % 128 + 1) 0 (omega arith) ∙ get_or-set_other a 14 12 (n / 128 / 32) 0 (omega arith) ∙ get_or-set_same e 12 (n / 128 % 32) 0 (omega arith) in
          let s2 : byte (grown e n) 14 ≡ n / 128 / 32 = ap (λ (x : Entry). byte x 14) (grown_later e n h)
          ∙ get_or-set_other b 15 14 (n % 128 + 1) 0 (omega arith) ∙ get_or-set_same a 14 (n / 128 / 32) 0 (omega arith) in
          let rc : byte (grown e n) 15 ≡ n % 128 + 1 = ap (λ (x : Entry). byte x 15) (grown_later e n h) ∙ get_or-set_same b 15 (n % 128 + 1) 0 (omega arith) in
          record { user = omega (arith, user, f.user); ex = omega arith; s1 = s1 ∙ f.s1; s2 = omega arith; rc = omega arith }

      own : extent e ≡ n / 128 → Fields (grown e n)
      own h =
          let m = max (byte e 15) (n % 128 + 1) in
          let ex : byte (grown e n) 12 ≡ byte e 12 = ap (λ (x : Entry). byte x 12) (grown_own e n h) ∙ get_or-set_other e 15 12 m 0 (omega arith) in
          let s2 : byte (grown e n) 14 ≡ byte e 14 = ap (λ (x : Entry). byte x 14) (grown_own e n h) ∙ get_or-set_other e 15 14 m 0 (omega arith) in
          let rc : byte (grown e n) 15 ≡ max (byte e 15) (n % 128 + 1) = ap (λ (x : Entry). byte x 15) (grown_own e n h) ∙ get_or-set_same e 15 m 0 (omega arith) in
          record { user = omega (arith, user, f.user); ex = omega (arith, f.ex); s1 = s1 ∙ f.s1; s2 = omega (arith, f.s2); rc = omega (arith, f.rc) }

      go : Dec (extent e < n / 128) → Dec (n / 128 < extent e) → Fields (grown e n)
      go (yes h) k = later h
      go (no h) (yes k) = rw (grown_earlier e n k) f
      go (no h) (no k) = own (omega arith)

  module _ (g : Geometry) (b : ℕ) where
    pub written_fields : Fields (written_entry g e n b)
    written_fields =
        let k = grown_fields in
        let below-map = byte_written g e n b in
        record {
          user = omega (arith, below-map 0 (omega arith), k.user);
          ex = omega (arith, below-map 12 (omega arith), k.ex);
          s1 = below-map 13 (omega arith) ∙ k.s1;
          s2 = omega (arith, below-map 14 (omega arith), k.s2);
          rc = omega (arith, below-map 15 (omega arith), k.rc);
        }

module _ (g : Geometry) (e : Entry) (n b : ℕ) (e32 : length e ≡ 32) where
  pub written_user : byte (written_entry g e n b) 0 ≡ byte e 0
  written_user = head_byte (written_entry g e n b) e (head_written g e n b) 0 (omega arith)

  pub written_name : name_of (written_entry g e n b) ≡ name_of e
  written_name = head_name (written_entry g e n b) e (head_written g e n b) (length_written g e n b ∙ e32) e32

  pub written_top_bits : good_top_bits e ≡ true → good_top_bits (written_entry g e n b) ≡ true
  written_top_bits h =
      good_top_bits_lem (written_entry g e n b)
      (λ k a x y. rw (head_byte (written_entry g e n b) e (head_written g e n b) (1 + k) (omega arith)) (top_bits_good e h k a x y))
