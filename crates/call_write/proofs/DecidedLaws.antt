-- What was decided is what is defined: a write that is refused alters nothing, one that is carried out leaves what the definitions
-- say, and the record that its entry counts is the one that a read shows.
use mathlib.Core.Path.{◌≡◌, refl, sym, ap, ◌∙◌}
use mathlib.Core.Bool.{Bool, true, false, not, cond, true≢false, false≢true}
use mathlib.Core.List.{List, ◌++◌}
use Prim.Native.Nat.{ℕ, ◌+◌, ◌/◌, ◌%◌, ◌<◌}
use native.Mathlib.Omega.{arith}
use lib.Dec.{ltb, eqb}
use lib.ListN.{length, replicate}
use lib.Seq.{get_or-append-add}
use borrow.Author.Tests.{lt-ltb, le-ltb, lt-leb, ltb-true, ltb-false, leb-false, not-true, not-false}
use Rattle.lists.specs.Bytes.{byte, part}
use Rattle.lists.proofs.PartLaws.{length_part}
use Rattle.lists.proofs.BoolLaws.{and_right}
use Rattle.disk_geometry.specs.declared.Geometry.{Geometry}
use Rattle.disk_geometry.specs.Geometry.{lawful, bytes, slots}
use Rattle.disk_geometry.proofs.InsideLaws.{is_inside}
use Rattle.disk_volume.specs.declared.Wanted.TheVariants.{File}
use Rattle.disk_volume.specs.Name.{name_of}
use Rattle.disk_volume.specs.Entry.{Entry, count_of}
use Rattle.disk_volume.specs.Directory.{slot_at, find_slot}
use Rattle.disk_volume.specs.Record.{record_slot, record_block, counted, record_at}
use Rattle.disk_volume.proofs.DirectoryLaws.{slot_length, record_length}
use Rattle.disk_volume.proofs.EntryLaws.{count_above, count_own}
use Rattle.call_answers.specs.declared.Refusal.{Refusal}
use Rattle.call_answers.specs.declared.Refusal.TheVariants.{NoGroup}
use Rattle.call_answers.specs.Refusal.{is_none, first_met}
use Rattle.call_read.specs.Read.{read_tests, read_block, read_bytes}
use Rattle.call_read.proofs.ReadLaws.{Unmet, present_counted, unmet_none, block_below, none_unmet}
use Rattle.call_entry.specs.Grown.{like_entry}
use Rattle.call_entry.proofs.GrowLaws.{like_extent}
use Rattle.call_decide.specs.Write.{has_group, base_entry, needs_block, write_block, write_tests}
use Rattle.call_decide.specs.CodePlan.{Decided}
use Rattle.call_decide.proofs.WriteLaws.{write_passed}
use Rattle.call_write.specs.declared.Source.{Source}
use Rattle.call_write.specs.declared.Source.TheVariants.{Buffer, Standing}
use Rattle.call_write.specs.Rewrite.{with_first_two, shown_bytes, bytes_of}
use Rattle.call_write.specs.CodeWrite.{Carried, Wrote, counted_bytes, laid_bytes}

-- ---- what is left
module _ (g : Geometry) (fills : Bool) (v fcb b : List ℕ) (u : ℕ) (held : List ℕ) (n cr most : ℕ) {r : Refusal}
    (why : r ≡ first_met (write_tests g held v u (name_of fcb) n)) where
  pub wrote_nothing : is_none r ≡ false → Wrote g fills v fcb b u held n cr most r v fcb held most
  wrote_nothing met = record { why_is = why; volume_is = rw met; fcb_is_lem = rw met; held_is = rw met; left_is = rw met }

  module _ {slot block : ℕ} {fresh : Bool} {e : Entry} (none : is_none r ≡ true)
      (d : Decided g held v u (name_of fcb) n slot block fresh e) where
    pub wrote : {v' fcb' held' : List ℕ} {left' : ℕ}
        → Carried g fills v fcb b held n cr most slot block fresh e v' fcb' held' left'
        → Wrote g fills v fcb b u held n cr most r v' fcb' held' left'
    wrote c = record {
      why_is = why;
      volume_is = rw none (c.volume_is ∙ rw (d.entry_is, d.slot_is, d.block_is, d.fresh_is));
      fcb_is_lem = rw none (c.fcb_is_lem ∙ rw (d.entry_is, d.block_is));
      held_is = rw none (c.held_is ∙ rw (d.fresh_is, d.block_is));
      left_is = rw none (c.left_is ∙ rw (d.entry_is, d.slot_is, d.block_is, d.fresh_is));
    }

    -- slot and block lie in the volume
    pub slot_fits_lem : slot < slots g
    slot_fits_lem = rw d.slot_is (write_passed g held v u (name_of fcb) n (ap is_none (sym why) ∙ none)).slot_in

    pub block_fits : block < g.blocks
    block_fits = rw d.block_is (write_passed g held v u (name_of fcb) n (ap is_none (sym why) ∙ none)).block_high

-- ---- a new entry counts no record
like_rc : (e : Entry) → length e ≡ 32 → byte (like_entry e) 15 ≡ 0
unfolding like_entry
like_rc e h =
    ap (λ (k : ℕ). byte (part e 0 12 ++ replicate 20 0) (k + 3)) (sym (length_part e 0 12 (omega arith)))
    ∙ get_or-append-add (part e 0 12) (replicate 20 0) 3 0

like_count : (e : Entry) → length e ≡ 32 → (x : ℕ) → count_of (like_entry e) x ≡ 0
like_count e h x = go (ltb 0 x) refl
  where
    go : (t : Bool) → ltb 0 x ≡ t → count_of (like_entry e) x ≡ 0
    go true q = let l = ltb-true 0 x q in count_above (like_entry e) x (omega (arith, like_extent e h, l))
    go false q =
        let l = ltb-false 0 x q in
        count_own (like_entry e) x (omega (arith, like_extent e h, l)) ∙ omega (arith, like_rc e h)

like_counts : (g : Geometry) (e : Entry) (n : ℕ) → length e ≡ 32 → counted g (like_entry e) n ≡ false
unfolding counted
like_counts g e n h = rw (like_count e h (n / 128), le-ltb (n % 128) 0 (omega arith))

-- ---- a record that the group's own entry counts is written where it stands
module _ (g : Geometry) (held v : List ℕ) (u : ℕ) (name : List ℕ) (n : ℕ) (grouped : record_slot g v u name n < slots g) where
  abbrev own : Entry
  own = slot_at g v (record_slot g v u name n)

  pub base_own : base_entry g v u name n ≡ own
  unfolding base_entry
  base_own = rw (lt-ltb (record_slot g v u name n) (slots g) grouped)

  pub own_needs_none : counted g own n ≡ true → needs_block g v u name n ≡ false
  unfolding needs_block counted
  own_needs_none c =
      rw base_own
      (not-true (eqb (record_block g own n) 0) (and_right (ltb (n % 128) (count_of own (n / 128))) (not (eqb (record_block g own n) 0)) c))

  pub block_own : counted g own n ≡ true → write_block g held v u name n ≡ read_block g v u name n
  unfolding write_block read_block
  block_own c = rw (own_needs_none c, base_own)

-- ---- the entry that grows counts the record just where a read shows it
module _ (g : Geometry) (held v : List ℕ) (u : ℕ) (name : List ℕ) (n : ℕ) (good : lawful g ≡ true) (size : length v ≡ bytes g)
    (passed : is_none (first_met (write_tests g held v u name n)) ≡ true) where
  counted_unmet : counted g (base_entry g v u name n) n ≡ true → Unmet g v u name n
  unfolding base_entry
  counted_unmet = go (has_group g v u name n) refl
    where
      go : (t : Bool) → has_group g v u name n ≡ t
          → counted g (cond t (slot_at g v (record_slot g v u name n)) (like_entry (slot_at g v (find_slot g v u name File)))) n ≡ true
          → Unmet g v u name n
      go true e c =
          let h = ltb-true (record_slot g v u name n) (slots g) e in
          let w = write_passed g held v u name n passed in
          let b = block_own g held v u name n h c in
          record {
            file = lt-leb (slots g) (find_slot g v u name File) w.file;
            group = lt-leb (slots g) (record_slot g v u name n) h;
            absent = rw (present_counted g v u name n h, c);
            outside = rw (is_inside g (read_block g v u name n) (rw b at w.block_low) (rw b at w.block_high));
          }
      go false e c =
          let f = find_slot g v u name File in
          let l = slot_length g good v size f (write_passed g held v u name n passed).file in
          absurd (false≢true (sym (like_counts g (slot_at g v f) n l) ∙ c))

  uncounted : is_none (first_met (read_tests g v u name n NoGroup)) ≡ false → counted g (base_entry g v u name n) n ≡ false
  uncounted q = go (counted g (base_entry g v u name n) n) refl
    where
      go : (t : Bool) → counted g (base_entry g v u name n) n ≡ t → t ≡ false
      go true c = absurd (true≢false (sym (ap is_none (unmet_none g v u name n NoGroup (counted_unmet c))) ∙ q))
      go false c = refl

  pub shown_counted : {e : Entry} {block : ℕ} → e ≡ base_entry g v u name n → block ≡ write_block g held v u name n
      → counted_bytes g v e n block (replicate 128 0) ≡ shown_bytes g v u name n
  unfolding shown_bytes read_bytes
  shown_counted {e} {block} x y = rw (x, y) (go (is_none (first_met (read_tests g v u name n NoGroup))) refl)
    where
      go : (t : Bool) → is_none (first_met (read_tests g v u name n NoGroup)) ≡ t
          → counted_bytes g v (base_entry g v u name n) n (write_block g held v u name n) (replicate 128 0)
          ≡ cond t (record_at g v (read_block g v u name n) n) (replicate 128 0)
      go true q =
          let t = none_unmet g v u name n NoGroup refl q in
          let h = leb-false (slots g) (record_slot g v u name n) t.group in
          let c = sym (present_counted g v u name n h) ∙ not-false _ t.absent in
          rw (base_own g held v u name n h, c, block_own g held v u name n h c)
      go false q = rw (uncounted q)

-- ---- what a read shows is as long as a record
pub length_shown : (g : Geometry) (v : List ℕ) (u : ℕ) (name : List ℕ) (n : ℕ) → lawful g ≡ true → length v ≡ bytes g → length (shown_bytes g v u name n) ≡ 128
unfolding shown_bytes read_bytes
length_shown g v u name n good size = go (is_none (first_met (read_tests g v u name n NoGroup))) refl
  where
    go : (t : Bool) → is_none (first_met (read_tests g v u name n NoGroup)) ≡ t
        → length (cond t (record_at g v (read_block g v u name n) n) (replicate 128 0)) ≡ 128
    go true q = record_length g good v size (read_block g v u name n) n (block_below g v u name n (none_unmet g v u name n NoGroup refl q))
    go false q = refl

-- ---- the bytes that are laid are those of the write
pub laid_is : (g : Geometry) (v : List ℕ) (u : ℕ) (name : List ℕ) (n : ℕ) (source : Source) (e : Entry) (block : ℕ) (over : List ℕ)
    → counted_bytes g v e n block over ≡ shown_bytes g v u name n → laid_bytes g v e n block source over ≡ bytes_of g v u name n source
laid_is g v u name n (Buffer b) e block over h = refl
laid_is g v u name n (Standing low high) e block over h = ap (with_first_two low high) h
