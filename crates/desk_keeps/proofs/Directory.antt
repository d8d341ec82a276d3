-- Two volumes with the same directory: the same file, the same records that can be read, in the same places.
use mathlib.Core.Path.{refl, ◌≡◌, ap, ◌∙◌}
use mathlib.Core.Bool.{true}
use mathlib.Core.List.{List, ◌++◌}
use Prim.Native.Nat.{ℕ, ◌/◌, ◌%◌, ◌<◌}
use native.Mathlib.Omega.{arith}
use lib.ListN.{length, replicate}
use borrow.Author.Tests.{leb-false}
use Rattle.lists.proofs.BoundedLaws.{low_ext}
use Rattle.disk_geometry.specs.declared.Geometry.{Geometry}
use Rattle.disk_geometry.specs.Geometry.{slots, group_of}
use Rattle.disk_volume.specs.declared.Wanted.{Wanted}
use Rattle.disk_volume.specs.declared.Wanted.TheVariants.{File, ReadOnlyFile, Group}
use Rattle.disk_volume.specs.Entry.{Entry}
use Rattle.disk_volume.specs.Name.{name_of}
use Rattle.disk_volume.specs.Directory.{fits, slot_at, slot_fits, find_slot}
use Rattle.disk_volume.specs.Record.{record_slot, present}
use Rattle.call_fcb.specs.Fcb.{random, with_random}
use Rattle.call_answers.specs.declared.Refusal.TheVariants.{NoGroup}
use Rattle.call_answers.specs.Refusal.{is_none, first_met}
use Rattle.call_answers.specs.Answer.{why_of}
use Rattle.call_answers.proofs.Ladder.{ladder_pass}
use Rattle.call_read.specs.Read.{read_block, read_tests}
use Rattle.call_read.proofs.ReadLaws.{Unmet, unmet_none}
use Rattle.filecalls.specs.declared.Drive.{Drive}
use Rattle.filecalls.specs.Outcome.{Act, outcome}
use Rattle.filecalls.specs.Read.{random_tests, read_done, read_random_act}
use Rattle.filecalls.specs.Change.{change_tests}
use Rattle.filecalls.proofs.OutcomeLaws.{does}
use Rattle.numbers.specs.Numbers.{Bytes}
use Rattle.desk.specs.Records.{shown, readable}
use Rattle.desk_keeps.proofs.Rewritten as rewritten
use Rattle.desk_keeps.proofs.Rewritten.{found, lent_clear, name_is, random_is}

pub record Alike (g : Geometry) (v w : List ℕ) : Type 0 where
  pub size : length w ≡ length v
  pub entries : (i : ℕ) → i < slots g → slot_at g w i ≡ slot_at g v i

pub alike_refl : (g : Geometry) (v : List ℕ) → Alike g v v
alike_refl g v = record { size = refl; entries = λ i h. refl }

pub alike_then : (g : Geometry) (v w x : List ℕ) → Alike g v w → Alike g w x → Alike g v x
alike_then g v w x a b = record { size = b.size ∙ a.size; entries = λ i h. b.entries i h ∙ a.entries i h }

module _ (g : Geometry) (v w : List ℕ) (alike : Alike g v w) (u : ℕ) (name : List ℕ) where
  find_same : (x : Wanted) → find_slot g w u name x ≡ find_slot g v u name x
  unfolding find_slot
  find_same x =
      low_ext (slot_fits g w u name x) (slot_fits g v u name x) 0 (slots g) (λ i a b. ap (λ (e : Entry). fits g u name x e) (alike.entries i (omega (arith, b))))

  pub slot_same : (n : ℕ) → record_slot g w u name n ≡ record_slot g v u name n
  unfolding record_slot
  slot_same n = find_same (Group (group_of g (n / 128)))

  module _ (n : ℕ) (t : Unmet g v u name n) where
    entry_same : slot_at g w (record_slot g w u name n) ≡ slot_at g v (record_slot g v u name n)
    entry_same = ap (slot_at g w) (slot_same n) ∙ alike.entries (record_slot g v u name n) (leb-false (slots g) (record_slot g v u name n) t.group)

    pub home_same : read_block g w u name n ≡ read_block g v u name n
    unfolding read_block
    home_same = rw entry_same

    pub unmet_same : Unmet g w u name n
    unfolding present
    unmet_same = record {
      file = rw (find_same File) t.file;
      group = rw (slot_same n) t.group;
      absent = rw (entry_same, slot_same n) t.absent;
      outside = rw home_same t.outside;
    }

module _ (d : Drive) (v w f : List ℕ) (alike : Alike d.geometry v w) (file : rewritten.File d v f) where
  pub file_same : Bytes w → rewritten.File d w f
  file_same small = record {
    state = file.state;
    small = small;
    size = alike.size ∙ file.size;
    fcb = file.fcb;
    unprotected = file.unprotected;
    writable = rw (find_same d.geometry v w alike d.user (name_of f) ReadOnlyFile) file.writable;
  }

  module _ (n : ℕ) (n< : n < 65536) (can : readable d v f n ≡ true) where
    abbrev copy : List ℕ
    copy = with_random f n

    abbrev zeros : List ℕ
    zeros = replicate 128 0

    lent_same : random_tests d w copy zeros ≡ random_tests d v copy zeros
    unfolding random_tests
    lent_same = rw alike.size

    pub readable_same : readable d w f n ≡ true
    unfolding shown read_random_act outcome read_done
    readable_same =
        let clear : is_none (first_met (random_tests d w copy zeros)) ≡ true = rw lent_same (lent_clear d v f file n n< can) in
        let none = unmet_none d.geometry w d.user (name_of f) n NoGroup (unmet_same d.geometry v w alike d.user (name_of f) n (found d v f file n n< can)) in
        let read : is_none (first_met (read_tests d.geometry w d.user (name_of copy) (random copy) NoGroup)) ≡ true = rw (name_is f n file.fcb, random_is f n file.fcb n<, none) in
        let all : is_none (first_met (random_tests d w copy zeros ++ read_tests d.geometry w d.user (name_of copy) (random copy) NoGroup)) ≡ true = rw (ladder_pass (random_tests d w copy zeros) (read_tests d.geometry w d.user (name_of copy) (random copy) NoGroup) clear) read in
        ap (λ (a : Act). is_none (why_of (outcome d w copy zeros a).answer)) (does _ (read_done d w copy (random copy) (random copy % 128)) all)

-- the file's own tests look at the directory alone
pub tests_same : (d : Drive) (v w f : List ℕ) → Alike d.geometry v w → change_tests d w f ≡ change_tests d v f
unfolding change_tests
tests_same d v w f alike =
    rw (alike.size, find_same d.geometry v w alike d.user (name_of f) File, find_same d.geometry v w alike d.user (name_of f) ReadOnlyFile)
