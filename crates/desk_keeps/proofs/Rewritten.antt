-- A record of the file rewritten by the desk, where the file's tests pass and the record can be read: the write succeeds,
-- leaves the state as it is, and lays the siglum into the record where it stands.
use mathlib.Core.Path.{◌≡◌, refl, sym, ap, ◌∙◌, subst}
use mathlib.Core.Bool.{Bool, true, false, false≢true}
use mathlib.Core.Logic.{◌⊎◌}
use mathlib.Core.List.{List, ◌++◌}
use Prim.Native.Nat.{ℕ, ◌/◌, ◌%◌, ◌≤◌, ◌<◌}
use native.Mathlib.Omega.{arith}
use lib.Dec.{eqb}
use lib.ListN.{length, set, replicate, length-set}
use lib.Seq.{get_or-set_same, get_or-set_other}
use borrow.Author.Tests.{not-false, ltb-false, eqb-true}
use Rattle.lists.specs.Bytes.{byte, part}
use Rattle.lists.proofs.PartLaws.{part_part}
use Rattle.disk_geometry.specs.Geometry.{bytes, slots}
use Rattle.disk_volume.specs.declared.Wanted.TheVariants.{ReadOnlyFile}
use Rattle.disk_volume.specs.Name.{strip, name_at, name_of}
use Rattle.disk_volume.specs.Directory.{find_slot}
use Rattle.disk_volume.specs.Record.{record_at, put_record}
use Rattle.disk_volume.proofs.DirectoryLaws.{record_length}
use Rattle.disk_stores.specs.Stores.{cut}
use Rattle.call_fcb.specs.Fcb.{random, with_random}
use Rattle.call_answers.specs.declared.Refusal.TheVariants.{Closed, VolumeLength, FcbLength, DriveCode, Name, Protected, NoFile, ReadOnly, NoGroup}
use Rattle.call_answers.specs.declared.Answer.TheVariants.{Done}
use Rattle.call_answers.specs.Refusal.{Test, is_none, first_met}
use Rattle.call_answers.specs.Answer.{why_of}
use Rattle.call_answers.proofs.Ladder.{unmet, ladder_pass}
use Rattle.call_read.specs.Read.{read_block, read_tests, read_bytes}
use Rattle.call_read.proofs.ReadLaws.{Unmet, none_unmet, block_below}
use Rattle.call_entry.proofs.HeadLaws.{head, head_set}
use Rattle.filecalls.specs.declared.Drive.{Drive}
use Rattle.filecalls.specs.State.{is_open}
use Rattle.filecalls.specs.CodeReady.{OpenState}
use Rattle.filecalls.specs.Outcome.{Act, act_stores, Outcome, outcome, unless, with_held}
use Rattle.filecalls.specs.CodeLadder.{random_lent}
use Rattle.filecalls.specs.Read.{random_tests, read_done, read_random_act}
use Rattle.filecalls.specs.Write.{write_done, directory_tests, write_random_act}
use Rattle.filecalls.proofs.OutcomeLaws.{denies, does}
use Rattle.filecalls.proofs.LentLaws.{random_lent_lem}
use Rattle.filecalls.proofs.StateLaws.{is_open_lem, both_clear}
use Rattle.filecalls.proofs.WriteLaws.{leaves}
use Rattle.filecalls.specs.Change.{change_tests}
use Rattle.numbers.specs.Numbers.{Bytes}
use Rattle.call_write.specs.Write.{write_stores}
use Rattle.desk.specs.Stores.{written_stores, rewritten_stores}
use Rattle.desk.specs.Records.{shown, readable, record_shown, written, with_siglum, rewritten}
use Rattle.desk_keeps.proofs.InPlace.{passes, held_same, volume_is, cut_either}

-- ---- the control block that means record n
pub random_is : (f : List ℕ) (n : ℕ) → length f ≡ 36 → n < 65536 → random (with_random f n) ≡ n
unfolding random with_random
random_is f n l h =
    let a = set f 33 (n % 256) in
    let b = set a 34 (n / 256 % 256) in
    let la : length a ≡ 36 = length-set f 33 (n % 256) ∙ l in
    let x : byte (set b 35 (n / 65536)) 33 ≡ n % 256 = get_or-set_other b 35 33 (n / 65536) 0 (omega arith) ∙ get_or-set_other a 34 33 (n / 256 % 256) 0 (omega arith) ∙ get_or-set_same f 33 (n % 256) 0 (omega arith) in
    let y : byte (set b 35 (n / 65536)) 34 ≡ n / 256 % 256 = get_or-set_other b 35 34 (n / 65536) 0 (omega arith) ∙ get_or-set_same a 34 (n / 256 % 256) 0 (omega arith) in
    rw (x, y) (omega arith)

name_by_head : (l : List ℕ) → 12 ≤ length l → name_of l ≡ strip (part (head l) 1 11)
unfolding name_at
name_by_head l h = ap strip (sym (part_part l 0 12 (omega arith) 1 11 (omega arith)))

pub name_is : (f : List ℕ) (n : ℕ) → length f ≡ 36 → name_of (with_random f n) ≡ name_of f
unfolding with_random
name_is f n l =
    let a = set f 33 (n % 256) in
    let b = set a 34 (n / 256 % 256) in
    let c = set b 35 (n / 65536) in
    let lc : length c ≡ 36 = length-set b 35 (n / 65536) ∙ length-set a 34 (n / 256 % 256) ∙ length-set f 33 (n % 256) ∙ l in
    let e : head c ≡ head f = head_set b 35 (n / 65536) (omega arith) ∙ head_set a 34 (n / 256 % 256) (omega arith) ∙ head_set f 33 (n % 256) (omega arith) in
    name_by_head c (omega (arith, lc)) ∙ ap (λ (x : List ℕ). strip (part x 1 11)) e ∙ sym (name_by_head f (omega (arith, l)))

-- ---- what the tests tell
pub record File (d : Drive) (v f : List ℕ) : Type 0 where
  pub state : OpenState d
  pub small : Bytes v
  pub size : length v ≡ bytes d.geometry
  pub fcb : length f ≡ 36
  pub unprotected : d.protected ≡ false
  pub writable : slots d.geometry ≤ find_slot d.geometry v d.user (name_of f) ReadOnlyFile

pub file_clear : (d : Drive) (v f : List ℕ) → Bytes v → is_none (first_met (change_tests d v f)) ≡ true → File d v f
unfolding change_tests
file_clear d v f small e =
    let a = unmet Closed _ _ refl e in
    let b = unmet VolumeLength _ _ refl a.1 in
    let c = unmet FcbLength _ _ refl b.1 in
    let i = unmet DriveCode _ _ refl c.1 in
    let j = unmet Name _ _ refl i.1 in
    let k = unmet Protected _ _ refl j.1 in
    let l = unmet NoFile _ _ refl k.1 in
    let m = unmet ReadOnly _ _ refl l.1 in
    record {
      state = is_open_lem d (not-false (is_open d) a.0);
      small = small;
      size = eqb-true (length v) (bytes d.geometry) (not-false (eqb (length v) (bytes d.geometry)) b.0);
      fcb = eqb-true (length f) 36 (not-false (eqb (length f) 36) c.0);
      unprotected = k.0;
      writable = ltb-false (find_slot d.geometry v d.user (name_of f) ReadOnlyFile) (slots d.geometry) m.0;
    }

-- a call that is not refused met no test
not_denied : (d : Drive) (v f b : List ℕ) (ts : List Test) (act : Act) → is_none (why_of (outcome d v f b (unless ts act)).answer) ≡ true → is_none (first_met ts) ≡ true
unfolding outcome
not_denied d v f b ts act h = go (is_none (first_met ts)) refl
  where
    go : (t : Bool) → is_none (first_met ts) ≡ t → is_none (first_met ts) ≡ true
    go true e = e
    go false e = absurd (false≢true (sym e ∙ sym (ap (λ (a : Act). is_none (why_of (outcome d v f b a).answer)) (denies ts act e)) ∙ h))

module _ (d : Drive) (v f : List ℕ) (file : File d v f) (n : ℕ) (n< : n < 65536) (can : readable d v f n ≡ true) where
  abbrev copy : List ℕ
  copy = with_random f n

  abbrev zeros : List ℕ
  zeros = replicate 128 0

  read_tests_lem : is_none (first_met (random_tests d v copy zeros ++ read_tests d.geometry v d.user (name_of copy) (random copy) NoGroup)) ≡ true
  unfolding shown read_random_act
  read_tests_lem = not_denied d v copy zeros _ _ can

  pub lent_clear : is_none (first_met (random_tests d v copy zeros)) ≡ true
  lent_clear = (both_clear (random_tests d v copy zeros) _ read_tests_lem).0

  pub found : Unmet d.geometry v d.user (name_of f) n
  found =
      rw (name_is f n file.fcb, random_is f n file.fcb n<) at
      (none_unmet d.geometry v d.user (name_of copy) (random copy) NoGroup refl (both_clear (random_tests d v copy zeros) _ read_tests_lem).1)

  -- the block that the record stands in
  abbrev pub home : ℕ
  home = read_block d.geometry v d.user (name_of f) n

  pub record_is : record_shown d v f n ≡ record_at d.geometry v home n
  unfolding shown read_random_act outcome read_done read_bytes
  record_is =
      let z = ap (λ (a : Act). (outcome d v copy zeros a).buffer) (does _ (read_done d v copy (random copy) (random copy % 128)) read_tests_lem) in
      z ∙ rw (name_is f n file.fcb, random_is f n file.fcb n<)

  module _ (r : List ℕ) (r128 : length r ≡ 128) where
    write_tests_lem : is_none (first_met (random_tests d v copy r ++ directory_tests d v copy (random copy))) ≡ true
    unfolding first_met
    write_tests_lem =
        let same : random_tests d v copy r ≡ random_tests d v copy zeros = random_lent_lem d v copy r ∙ ap (random_lent d v copy) r128 ∙ sym (random_lent_lem d v copy zeros) in
        let lent : is_none (first_met (random_tests d v copy r)) ≡ true = rw same lent_clear in
        let pass = passes d.geometry d.held v d.user (name_of f) n file.small found file.writable in
        rw (ladder_pass (random_tests d v copy r) (directory_tests d v copy (random copy)) lent, file.unprotected, name_is f n file.fcb, random_is f n file.fcb n<) pass

    pub record Left (o : Outcome) : Type 0 where
      pub answer_is : o.answer ≡ Done 0
      pub state_is : o.drive ≡ d
      pub volume_after_lem : o.volume ≡ put_record d.geometry v home n r

    -- the write succeeds, and the state stays as given
    pub write_left : Left (written d v f n r)
    unfolding written write_random_act
    write_left =
        let z = ap (outcome d v copy r) (does _ (write_done d v copy (random copy) (random copy % 128) false r) write_tests_lem) ∙ leaves d v copy (random copy) (random copy % 128) false r in
        record {
          answer_is = ap (λ (o : Outcome). o.answer) z;
          state_is = ap (λ (o : Outcome). o.drive) z
              ∙ rw (name_is f n file.fcb, random_is f n file.fcb n<) (ap (with_held d) (held_same d.geometry d.held v d.user (name_of f) n file.small found));
          volume_after_lem = ap (λ (o : Outcome). o.volume) z
              ∙ rw (name_is f n file.fcb, random_is f n file.fcb n<) (volume_is d.geometry d.held v d.user (name_of f) n file.small found file.state.law file.size file.writable r r128);
        }

    -- what it stores, and what a cut of that leaves
    stores_are : written_stores d v f n r ≡ write_stores d.geometry d.held v d.user (name_of f) n false r
    unfolding written_stores write_done
    stores_are =
        ap act_stores (does _ (write_done d v copy (random copy) (random copy % 128) false r) write_tests_lem)
        ∙ rw (name_is f n file.fcb, random_is f n file.fcb n<)

    pub written_cut : (k : ℕ) → (cut d.geometry v k (written_stores d v f n r) ≡ v) ⊎ (cut d.geometry v k (written_stores d v f n r) ≡ (written d v f n r).volume)
    written_cut k =
        rw (stores_are, write_left.volume_after_lem)
        (cut_either d.geometry d.held v d.user (name_of f) n file.small found file.state.law file.size file.writable r r128 k)

  -- the record's own bytes with another siglum are laid where they stand
  siglum_length : (siglum : ℕ) → length (with_siglum siglum (record_at d.geometry v home n)) ≡ 128
  siglum_length siglum =
      let r = record_at d.geometry v home n in
      length-set (set r 0 (siglum % 256)) 1 (siglum / 256) ∙ length-set r 0 (siglum % 256)
      ∙ record_length d.geometry file.state.law v file.size home n (block_below d.geometry v d.user (name_of f) n found)

  pub rewritten_is : (siglum : ℕ) → rewritten d f siglum v n ≡ put_record d.geometry v home n (with_siglum siglum (record_at d.geometry v home n))
  unfolding rewritten
  rewritten_is siglum =
      let r = record_at d.geometry v home n in
      ap (λ (x : List ℕ). (written d v f n (with_siglum siglum x)).volume) record_is ∙ (write_left (with_siglum siglum r) (siglum_length siglum)).volume_after_lem

  -- the write answers 0, and hands the state back
  pub rewriting_done : (siglum : ℕ)
      → ((written d v f n (with_siglum siglum (record_shown d v f n))).answer ≡ Done 0) × ((written d v f n (with_siglum siglum (record_shown d v f n))).drive ≡ d)
  rewriting_done siglum =
      let l = write_left (with_siglum siglum (record_at d.geometry v home n)) (siglum_length siglum) in
      rw record_is (l.answer_is, l.state_is)

  -- cut anywhere, the rewriting has done nothing or all
  pub rewritten_cut : (siglum k : ℕ)
      → (cut d.geometry v k (rewritten_stores d f siglum v n) ≡ v) ⊎ (cut d.geometry v k (rewritten_stores d f siglum v n) ≡ rewritten d f siglum v n)
  unfolding rewritten rewritten_stores
  rewritten_cut siglum k =
      subst (λ (r : List ℕ). (cut d.geometry v k (written_stores d v f n (with_siglum siglum r)) ≡ v)
      ⊎ (cut d.geometry v k (written_stores d v f n (with_siglum siglum r)) ≡ (written d v f n (with_siglum siglum r)).volume)) (sym record_is)
      (written_cut (with_siglum siglum (record_at d.geometry v home n)) (siglum_length siglum) k)
