-- An entry renamed, byte by byte: what it has is settled by the entry and by the new name without top bits. So a second name
-- leaves nothing of the first; and the old name gives the old entry, if only bytes 9 and 10 had a top bit.
use mathlib.Core.Path.{◌≡◌, refl, sym, ap, ◌∙◌}
use mathlib.Core.Bool.{true}
use mathlib.Core.Logic.{◌≢◌}
use mathlib.Core.List.{List}
use Prim.Native.Nat.{ℕ, ◌+◌, ◌-◌, ◌%◌, ◌≤◌, ◌<◌}
use native.Mathlib.Decide.{ℕ_discrete, dec_lt}
use native.Mathlib.Omega.{arith}
use lib.ListN.{length, set}
use lib.Seq.{ext_get_or}
use Rattle.lists.specs.Bytes.{byte, part, put}
use Rattle.lists.proofs.PartLaws.{byte_part}
use Rattle.disk_volume.specs.Name.{strip, top_bit, name_at, name_of}
use Rattle.disk_volume.specs.Entry.{Entry}
use Rattle.disk_volume.proofs.NameLaws.{length_strip, byte_strip}
use Rattle.disk_rules.specs.GoodSlot.{good_top_bits}
use Rattle.disk_rules.proofs.GoodLaws.{top_bits_good}
use Rattle.call_sweep.specs.Sweep.{with_top_bit, renamed}
use Rattle.call_sweep.proofs.EditLaws.{named_and_marked}
use Rattle.demands.proofs.NamedEntry.{Renames, marks_nine, marks_ten, marks_other, laid_length, laid_byte, rename_renames}

-- ---- the bytes of the entry e under a name without top bits
pub record Under (name : List ℕ) (e e' : Entry) : Type 0 where
  pub length_32 : length e' ≡ 32
  pub user : byte e' 0 ≡ byte e 0
  pub rest : (k : ℕ) → 12 ≤ k → byte e' k ≡ byte e k
  pub plain : (k : ℕ) → k < 11 → k ≢ 8 → k ≢ 9 → byte e' (1 + k) ≡ byte name k
  pub nine : byte e' 9 ≡ byte name 8 + top_bit (byte e 9)
  pub ten : byte e' 10 ≡ byte name 9 + top_bit (byte e 10)

-- there is one such entry
pub one_entry : (name : List ℕ) (e a b : Entry) → Under name e a → Under name e b → a ≡ b
one_entry name e a b x y = ext_get_or 0 a b (x.length_32 ∙ sym y.length_32) (λ k h. at k (ℕ_discrete k 0) (dec_lt k 12) (ℕ_discrete k 9) (ℕ_discrete k 10))
  where
    at : (k : ℕ) → Dec (k ≡ 0) → Dec (k < 12) → Dec (k ≡ 9) → Dec (k ≡ 10) → byte a k ≡ byte b k
    at k (yes z) l n t = rw z (x.user ∙ sym y.user)
    at k (no z) (no l) n t = x.rest k (omega arith) ∙ sym (y.rest k (omega arith))
    at k (no z) (yes l) (yes n) t = rw n (x.nine ∙ sym y.nine)
    at k (no z) (yes l) (no n) (yes t) = rw t (x.ten ∙ sym y.ten)
    at k (no z) (yes l) (no n) (no t) =
        let s : k ≡ 1 + (k - 1) = omega arith in
        rw s (x.plain (k - 1) (omega arith) (omega arith) (omega arith) ∙ sym (y.plain (k - 1) (omega arith) (omega arith) (omega arith)))

-- rename gives it
pub renamed_under : (e : Entry) (new : List ℕ) → length e ≡ 32 → length new ≡ 11 → Under (strip new) e (renamed e new)
unfolding renamed
renamed_under e new e32 n11 =
    let r : Renames (strip new) e (renamed e new) = rename_renames e new e32 n11 in
    let s11 : length (strip new) ≡ 11 = length_strip new ∙ n11 in
    let m = put e 1 11 (strip new) in
    let m32 = laid_length e e32 (strip new) s11 in
    let x = with_top_bit (byte new 8) (byte e 9) in
    let y = with_top_bit (byte new 9) (byte e 10) in
    let q : set (set m 9 x) 10 y ≡ renamed e new = named_and_marked e new x y e32 n11 in
    record {
      length_32 = r.length_32;
      user = r.user;
      rest = r.rest;
      plain = λ k a b c.
          ap (λ (l : Entry). byte l (1 + k)) (sym q) ∙ marks_other m m32 x y (1 + k) (λ z. b (omega arith)) (λ z. c (omega arith))
          ∙ laid_byte e e32 (strip new) s11 k a;
      nine = ap (λ (l : Entry). byte l 9) (sym q) ∙ marks_nine m m32 x y ∙ ap (λ (z : ℕ). z + top_bit (byte e 9)) (sym (byte_strip new 8));
      ten = ap (λ (l : Entry). byte l 10) (sym q) ∙ marks_ten m m32 x y ∙ ap (λ (z : ℕ). z + top_bit (byte e 10)) (sym (byte_strip new 9));
    }

-- a byte of a name without top bits carries none of its own
module _ (x : List ℕ) where
  top_of : (k a : ℕ) → top_bit (byte (strip x) k + top_bit a) ≡ top_bit a
  top_of k a = rw (byte_strip x k) (omega arith)

  -- ---- the attribute bits stay
  module _ (e e' : Entry) (u : Under (strip x) e e') where
    pub read_only_stays : top_bit (byte e' 9) ≡ top_bit (byte e 9)
    read_only_stays = rw u.nine (top_of 8 (byte e 9))

    pub system_stays : top_bit (byte e' 10) ≡ top_bit (byte e 10)
    system_stays = rw u.ten (top_of 9 (byte e 10))

    -- ---- another name: nothing of the one before is left
    pub under_again : (name : List ℕ) (e'' : Entry) → Under name e' e'' → Under name e e''
    under_again name e'' w = record {
      length_32 = w.length_32;
      user = w.user ∙ u.user;
      rest = λ k h. w.rest k h ∙ u.rest k h;
      plain = w.plain;
      nine = w.nine ∙ ap (λ (z : ℕ). byte name 8 + z) read_only_stays;
      ten = w.ten ∙ ap (λ (z : ℕ). byte name 9 + z) system_stays;
    }

-- ---- an entry under its own name
pub under_own : (e : Entry) → length e ≡ 32 → good_top_bits e ≡ true → Under (name_of e) e e
unfolding name_at
under_own e e32 bits = record {
  length_32 = e32;
  user = refl;
  rest = λ k h. refl;
  plain = λ k a b c. let l : byte e (1 + k) < 128 = top_bits_good e bits k a b c in rw (own k a) (omega arith);
  nine = rw (own 8 (omega arith)) (omega arith);
  ten = rw (own 9 (omega arith)) (omega arith);
}
  where
    own : (k : ℕ) → k < 11 → byte (strip (part e 1 11)) k ≡ byte e (1 + k) % 128
    own k h = byte_strip (part e 1 11) k ∙ ap (λ (z : ℕ). z % 128) (byte_part e 1 11 k h)

-- ---- renamed twice, and there and back
module _ (e : Entry) (e32 : length e ≡ 32) (x y : List ℕ) (x11 : length x ≡ 11) (y11 : length y ≡ 11) where
  twice : Under (strip y) e (renamed (renamed e x) y)
  twice =
      let u = renamed_under e x e32 x11 in
      under_again x e (renamed e x) u (strip y) (renamed (renamed e x) y) (renamed_under (renamed e x) y u.length_32 y11)

  pub renamed_twice : (z : List ℕ) → length z ≡ 11 → strip y ≡ strip z → renamed (renamed e x) y ≡ renamed e z
  renamed_twice z z11 same = one_entry (strip z) e (renamed (renamed e x) y) (renamed e z) (rw (← same) twice) (renamed_under e z e32 z11)

  pub renamed_back : good_top_bits e ≡ true → strip y ≡ name_of e → renamed (renamed e x) y ≡ e
  renamed_back bits own = one_entry (name_of e) e (renamed (renamed e x) y) e (rw (← own) twice) (under_own e e32 bits)
