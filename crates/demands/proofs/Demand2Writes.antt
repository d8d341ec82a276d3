-- What a successful write leaves, by its call: the volume, the held blocks and the control block after the write of its
-- record; and what follows for one write and for many.
use mathlib.Core.Path.{◌≡◌, refl, sym, ap, ◌∙◌}
use mathlib.Core.Bool.{Bool, true, false}
use mathlib.Core.Logic.{◌⊎◌, inl, inr, ◌≢◌}
use mathlib.Core.List.{List, ◌++◌}
use Prim.Native.Nat.{ℕ, ◌+◌, ◌/◌, ◌%◌, ◌≤◌}
use native.Mathlib.Omega.{arith}
use lib.ListN.{length, set, length-set}
use lib.Seq.{get_or-set_same, get_or-set_other}
use Rattle.lists.specs.Bytes.{byte, part}
use Rattle.lists.proofs.PartLaws.{length_part, byte_out, part_apart, part_part}
use Rattle.disk_geometry.specs.declared.Geometry.{Geometry}
use Rattle.disk_geometry.specs.Geometry.{bytes}
use Rattle.disk_volume.specs.Name.{strip, name_at, name_of}
use Rattle.disk_volume.specs.Entry.{Entry, count_of}
use Rattle.disk_volume.specs.Record.{present}
use Rattle.call_fcb.specs.Fcb.{position, random, set_to}
use Rattle.call_answers.specs.declared.Refusal.TheVariants.{Protected}
use Rattle.call_answers.specs.Refusal.{Test, is_none, first_met}
use Rattle.call_answers.proofs.Ladder.{unmet}
use Rattle.call_decide.specs.Write.{entry_after, write_tests}
use Rattle.call_write.proofs.AfterLaws.{written, held_after, after_present}
use Rattle.call_entry.proofs.HeadLaws.{head, head_set}
use Rattle.filecalls.specs.declared.Drive.{Drive}
use Rattle.filecalls.specs.Outcome.{unless, Outcome, outcome}
use Rattle.filecalls.specs.CodeReady.{OpenState, Lent}
use Rattle.filecalls.specs.CodeLadder.{named_tests, sequential_lent, random_lent}
use Rattle.filecalls.specs.Read.{sequential_tests, random_tests}
use Rattle.filecalls.specs.Write.{write_done, directory_tests, write_sequential_act, write_random_act, write_zero_fill_act}
use Rattle.filecalls.proofs.LentLaws.{sequential_lent_lem, random_lent_lem}
use Rattle.filecalls.proofs.OutcomeLaws as laws
use Rattle.filecalls.proofs.StateLaws.{both_clear, named_clear}
use Rattle.filecalls.proofs.WriteLaws.{leaves}
use Rattle.call_served.specs.declared.Call.{Call}
use Rattle.call_served.specs.declared.Call.TheVariants.{Moves}
use Rattle.call_served.specs.declared.Transfer.TheVariants.{WriteSequential, WriteRandom, WriteZeroFill}
use Rattle.bdos.specs.Step.{carries, does}
use Rattle.demands.specs.Order.{tests_of}
use Rattle.demands.specs.Demand2.{Writes, sequential, direct, zero_filling, Present}
use Rattle.demands.proofs.Demand2Apart.{Apart, apart_after}
use Rattle.demands.proofs.Demand2Others.{is_present, Stays, bytes_after, others_stay}

-- ---- what the tests tell
-- a write whose tests are not met: what is lent is right, and the directory's tests pass
pub record Clear (d : Drive) (v f r : List ℕ) (n : ℕ) : Type 0 where
  pub state : OpenState d
  pub size : length v ≡ bytes d.geometry
  pub fcb : length f ≡ 36
  pub record128 : length r ≡ 128
  pub passed : is_none (first_met (write_tests d.geometry d.held v d.user (name_of f) n)) ≡ true

module _ (d : Drive) (v f : List ℕ) where
  clear : {b : ℕ} (r : List ℕ) (n : ℕ) → Lent d (length v) (length f) b → length r ≡ 128 → is_none (first_met (directory_tests d v f n)) ≡ true → Clear d v f r n
  clear r n l r128 e =
      record { state = l.state; size = l.volume; fcb = l.fcb; record128 = r128; passed = (unmet Protected _ _ refl e).1 }

  pub clear_sequential : (b : List ℕ) → is_none (first_met (sequential_tests d v f b ++ directory_tests d v f (position f))) ≡ true → Clear d v f b (position f)
  unfolding sequential_lent
  clear_sequential b e =
      let p = both_clear (sequential_tests d v f b) (directory_tests d v f (position f)) e in
      let q : is_none (first_met (sequential_lent d v f (length b))) ≡ true = sym (ap (λ (ts : List Test). is_none (first_met ts)) (sequential_lent_lem d v f b)) ∙ p.0 in
      let l = named_clear d v f (length b) false (both_clear (named_tests d v f (length b) false) _ q).0 in
      clear b (position f) l l.buffer p.1

  pub clear_random : (b : List ℕ) → is_none (first_met (random_tests d v f b ++ directory_tests d v f (random f))) ≡ true → Clear d v f b (random f)
  unfolding random_lent
  clear_random b e =
      let p = both_clear (random_tests d v f b) (directory_tests d v f (random f)) e in
      let q : is_none (first_met (random_lent d v f (length b))) ≡ true = sym (ap (λ (ts : List Test). is_none (first_met ts)) (random_lent_lem d v f b)) ∙ p.0 in
      let l = named_clear d v f (length b) false (both_clear (named_tests d v f (length b) false) _ q).0 in
      clear b (random f) l l.buffer p.1

-- ---- what a write leaves
pub record Wrote (d : Drive) (v f : List ℕ) (n : ℕ) (fills : Bool) (r : List ℕ) (o : Outcome) : Type 0 where
  pub geometry_is : o.drive.geometry ≡ d.geometry
  pub user_is : o.drive.user ≡ d.user
  pub held_is : o.drive.held ≡ held_after d.geometry d.held v d.user (name_of f) n
  pub volume_is : o.volume ≡ written d.geometry d.held v d.user (name_of f) n fills r

module _ (d : Drive) (v f : List ℕ) (n cr : ℕ) (fills : Bool) (b : List ℕ) where
  wrote : (ts : List Test) → is_none (first_met ts) ≡ true → Wrote d v f n fills b (outcome d v f b (unless ts (write_done d v f n cr fills b)))
  wrote ts e =
      let z = ap (outcome d v f b) (laws.does ts (write_done d v f n cr fills b) e) ∙ leaves d v f n cr fills b in
      record {
        geometry_is = ap (λ (o : Outcome). o.drive.geometry) z;
        user_is = ap (λ (o : Outcome). o.drive.user) z;
        held_is = ap (λ (o : Outcome). o.drive.held) z;
        volume_is = ap (λ (o : Outcome). o.volume) z;
      }

  pub block_left : (ts : List Test) → is_none (first_met ts) ≡ true
      → (outcome d v f b (unless ts (write_done d v f n cr fills b))).fcb ≡ set_to f (entry_after d.geometry d.held v d.user (name_of f) n) n cr
  block_left ts e = ap (λ (o : Outcome). o.fcb) (ap (outcome d v f b) (laws.does ts (write_done d v f n cr fills b) e) ∙ leaves d v f n cr fills b)

-- ---- the three writes
-- does it fill a block that it gives?
abbrev filling : {f b : List ℕ} {k : Call} {n : ℕ} {r : List ℕ} → Writes f b k n r → Bool
filling sequential = false
filling direct = false
filling zero_filling = true

module _ (g : Geometry) (p : ℕ) (d : Drive) (v f b : List ℕ) where
  pub call_clear : {k : Call} {n : ℕ} {r : List ℕ} → Writes f b k n r → is_none (first_met (tests_of g k p d v f b)) ≡ true → Clear d v f r n
  call_clear sequential e = clear_sequential d v f b e
  call_clear direct e = clear_random d v f b e
  call_clear zero_filling e = clear_random d v f b e

  pub call_wrote : {k : Call} {n : ℕ} {r : List ℕ} (w : Writes f b k n r) → is_none (first_met (tests_of g k p d v f b)) ≡ true
      → Wrote d v f n (filling w) r (does g k p d v f b)
  unfolding does carries write_sequential_act write_random_act write_zero_fill_act
  call_wrote sequential e = wrote d v f (position f) (position f % 128 + 1) false b (tests_of g (Moves WriteSequential) p d v f b) e
  call_wrote direct e = wrote d v f (random f) (random f % 128) false b (tests_of g (Moves WriteRandom) p d v f b) e
  call_wrote zero_filling e = wrote d v f (random f) (random f % 128) true b (tests_of g (Moves WriteZeroFill) p d v f b) e

  -- ---- one write: its record, the others, and blocks that stand apart
  module _ {k : Call} {n : ℕ} {r : List ℕ} (w : Writes f b k n r) (e : is_none (first_met (tests_of g k p d v f b)) ≡ true) where
    pub stores : Present d f (does g k p d v f b).volume n r
    stores =
        let c = call_clear w e in
        rw (call_wrote w e).volume_is
        (record {
          is_present = after_present d.geometry d.held v d.user (name_of f) n c.state.law c.size c.passed (filling w) r c.record128;
          has_bytes = bytes_after d.geometry d.held v d.user (name_of f) n c.state.law c.size c.state.user15 c.passed (filling w) r c.record128;
        })

    module _ (a : Apart d.geometry d.held v) where
      pub others : (m : ℕ) → m ≢ n → present d.geometry v d.user (name_of f) m ≡ true → Stays d.geometry v (does g k p d v f b).volume d.user (name_of f) m
      others m ne h =
          let c = call_clear w e in
          rw (call_wrote w e).volume_is
          (others_stay d.geometry d.held v d.user (name_of f) n c.state.law c.size c.state.user15 c.passed (filling w) r c.record128 a m ne
          (is_present d.geometry v d.user (name_of f) m h))

      pub still_apart : Apart d.geometry (does g k p d v f b).drive.held (does g k p d v f b).volume
      still_apart =
          let c = call_clear w e in
          rw ((call_wrote w e).held_is, (call_wrote w e).volume_is)
          (apart_after d.geometry d.held v d.user (name_of f) n c.state.law c.size c.state.user15 c.passed a (filling w) r c.record128)

-- ---- the control block after a sequential write: the same file, and the next position
module _ (f : List ℕ) (f36 : length f ≡ 36) (e : Entry) (e32 : length e ≡ 32) (n cr : ℕ) where
  abbrev ex : List ℕ
  ex = set f 12 (n / 128 % 32)

  abbrev s2 : List ℕ
  s2 = set ex 14 (n / 128 / 32)

  abbrev rc : List ℕ
  rc = set s2 15 (count_of e (n / 128))

  abbrev at_cr : List ℕ
  at_cr = set rc 32 cr

  length_ex : length ex ≡ 36
  length_ex = length-set f 12 (n / 128 % 32) ∙ f36

  length_s2 : length s2 ≡ 36
  length_s2 = length-set ex 14 (n / 128 / 32) ∙ length_ex

  length_rc : length rc ≡ 36
  length_rc = length-set s2 15 (count_of e (n / 128)) ∙ length_s2

  length_cr : length at_cr ≡ 36
  length_cr = length-set rc 32 cr ∙ length_rc

  map16 : length (part e 16 16) ≡ 16
  map16 = length_part e 16 16 (omega arith)

  byte_set : (k : ℕ) → (k + 1 ≤ 16) ⊎ (32 ≤ k) → byte (set_to f e n cr) k ≡ byte at_cr k
  unfolding set_to
  byte_set k s = byte_out at_cr 16 16 (part e 16 16) (omega (arith, length_cr)) map16 k s

  byte_12 : byte (set_to f e n cr) 12 ≡ n / 128 % 32
  byte_12 =
      byte_set 12 (inl (omega arith)) ∙ get_or-set_other rc 32 12 cr 0 (omega arith) ∙ get_or-set_other s2 15 12 (count_of e (n / 128)) 0 (omega arith)
      ∙ get_or-set_other ex 14 12 (n / 128 / 32) 0 (omega arith) ∙ get_or-set_same f 12 (n / 128 % 32) 0 (omega arith)

  byte_14 : byte (set_to f e n cr) 14 ≡ n / 128 / 32
  byte_14 =
      byte_set 14 (inl (omega arith)) ∙ get_or-set_other rc 32 14 cr 0 (omega arith) ∙ get_or-set_other s2 15 14 (count_of e (n / 128)) 0 (omega arith)
      ∙ get_or-set_same ex 14 (n / 128 / 32) 0 (omega (arith, length_ex))

  byte_32 : byte (set_to f e n cr) 32 ≡ cr
  byte_32 = byte_set 32 (inr (omega arith)) ∙ get_or-set_same rc 32 cr 0 (omega (arith, length_rc))

  pub next_position : cr ≡ n % 128 + 1 → position (set_to f e n cr) ≡ n + 1
  unfolding position
  next_position q = omega (arith, byte_12, byte_14, byte_32)

  same_head : head at_cr ≡ head f
  same_head =
      head_set rc 32 cr (omega arith) ∙ head_set s2 15 (count_of e (n / 128)) (omega arith) ∙ head_set ex 14 (n / 128 / 32) (omega arith)
      ∙ head_set f 12 (n / 128 % 32) (omega arith)

  pub same_name : name_of (set_to f e n cr) ≡ name_of f
  unfolding set_to name_at
  same_name =
      ap strip
      (part_apart at_cr 16 16 (part e 16 16) 1 11 (omega (arith, length_cr)) map16 (inl (omega arith))
      ∙ sym (part_part at_cr 0 12 (omega (arith, length_cr)) 1 11 (omega arith)) ∙ ap (λ (l : List ℕ). part l 1 11) same_head
      ∙ part_part f 0 12 (omega arith) 1 11 (omega arith))
