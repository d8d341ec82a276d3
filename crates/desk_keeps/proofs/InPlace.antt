-- "A present record is rewritten in its place, so no block is taken and the state stays as given, on altered volumes too":
-- a write of a record that a read shows stores its 128 bytes where they stand, and changes nothing else.
use mathlib.Core.Path.{◌≡◌, refl, sym, ap, ◌∙◌}
use mathlib.Core.Bool.{Bool, true, false, not}
use mathlib.Core.Logic.{◌⊎◌, inl, inr}
use mathlib.Core.List.{List}
use Prim.Native.Nat.{ℕ, zero, suc, ◌+◌, ◌*◌, ◌/◌, ◌%◌, ◌≤◌, ◌<◌, min}
use native.Mathlib.Decide.{dec_lt}
use native.Mathlib.Omega.{arith}
use lib.Dec.{ltb, eqb}
use lib.ListN.{length, take, drop, length-take, get_or-eq_default}
use lib.Seq.{set-get_or}
use borrow.Author.Tests.{not-false, leb-false, ltb-true, ltb-false, eqb-true, eqb-false, lt-ltb, le-ltb}
use Rattle.lists.specs.Bytes.{byte, part}
use Rattle.lists.proofs.PartLaws.{byte_part}
use Rattle.lists.proofs.BoolLaws.{and_parts}
use Rattle.disk_geometry.specs.declared.Geometry.{Geometry}
use Rattle.disk_geometry.specs.Geometry.{lawful, bytes, slots, inside, place_of, number_bytes, slot_start, record_start}
use Rattle.disk_geometry.proofs.InsideLaws.{inside_is}
use Rattle.disk_volume.specs.declared.Wanted.TheVariants.{ReadOnlyFile}
use Rattle.disk_volume.specs.Entry.{Entry, extent, place_start, block_in, with_block, count_of}
use Rattle.disk_volume.specs.Directory.{slot_at, find_slot}
use Rattle.disk_volume.specs.Record.{record_slot, record_block, counted, put_record, put_filled}
use Rattle.disk_volume.proofs.EntryLaws.{count_above, count_own}
use Rattle.disk_volume.proofs.DirectoryLaws.{put_slot_same, put_record_length, slot_put_record}
use Rattle.call_answers.specs.Refusal.{is_none, first_met}
use Rattle.call_entry.specs.Grown.{grown, written_entry}
use Rattle.call_entry.proofs.GrowLaws.{grown_earlier, grown_counted}
use Rattle.call_read.specs.Read.{read_block}
use Rattle.call_read.proofs.ReadLaws.{Unmet, present_counted}
use Rattle.call_decide.specs.Write.{write_slot, write_tests}
use Rattle.call_write.specs.Write.{write_stores}
use Rattle.call_write.proofs.DecidedLaws.{base_own, own_needs_none, block_own}
use Rattle.call_write.proofs.AfterLaws.{written, held_after, written_is}
use Rattle.disk_stores.specs.Stores.{laid, cut, record_stores, entry_stores}
use Rattle.disk_stores.proofs.LaidLaws.{cut_enough}
use Rattle.numbers.specs.Numbers.{Bytes, number, bytes_from, with_number}

-- ---- a place that is given its own number
with_own : (l : List ℕ) → Bytes l → (a n : ℕ) → with_number l a n (number (bytes_from l a n)) ≡ l
unfolding with_number number bytes_from
with_own l small a zero = refl
with_own l small a (suc zero) = let z : byte l a + 256 * 0 ≡ byte l a = omega arith in rw z (set-get_or l a 0)
with_own l small a (suc (suc n)) =
    let m = number (bytes_from l (suc a) (suc n)) in
    let low = small a in
    let x : (byte l a + 256 * m) % 256 ≡ byte l a = omega (arith, low) in
    let y : (byte l a + 256 * m) / 256 ≡ m = omega (arith, low) in
    rw (x, y, set-get_or l a 0) (with_own l small (suc a) (suc n))

own_block : (g : Geometry) (e : Entry) → Bytes e → (p : ℕ) → with_block g e p (block_in g e p) ≡ e
unfolding with_block block_in
own_block g e small p = with_own e small (place_start g p) (number_bytes g)

-- a part of bytes is bytes
part_small : (l : List ℕ) → Bytes l → (a n : ℕ) → Bytes (part l a n)
unfolding part
part_small l small a n k = go (dec_lt k n)
  where
    go : Dec (k < n) → byte (part l a n) k < 256
    go (yes h) = rw (byte_part l a n k h) (small (a + k))
    go (no h) =
        let past : length (take n (drop a l)) ≤ k = rw length-take (omega arith) in
        rw (get_or-eq_default (take n (drop a l)) 0 past) (omega arith)

slot_small : (g : Geometry) (v : List ℕ) → Bytes v → (i : ℕ) → Bytes (slot_at g v i)
unfolding slot_at
slot_small g v small i = part_small v small (slot_start g i) 32

-- an entry that counts a record does not grow by it
grown_same : (g : Geometry) (e : Entry) (n : ℕ) → counted g e n ≡ true → grown e n ≡ e
unfolding counted
grown_same g e n c = go (ltb (extent e) (n / 128)) refl (eqb (extent e) (n / 128)) refl
  where
    below : n % 128 < count_of e (n / 128)
    below = ltb-true _ _ (and_parts (ltb (n % 128) (count_of e (n / 128))) (not (eqb (record_block g e n) 0)) c).0

    go : (s : Bool) → ltb (extent e) (n / 128) ≡ s → (t : Bool) → eqb (extent e) (n / 128) ≡ t → grown e n ≡ e
    go true p t q =
        let z = count_above e (n / 128) (ltb-true _ _ p) in
        let h = below in
        absurd (none (count_of e (n / 128)) z h)
      where
        none : (k : ℕ) → k ≡ 0 → n % 128 < k → ⊥
        none k z h = omega (arith, z, h)
    go false p true q =
        let own = eqb-true (extent e) (n / 128) q in
        let z = count_own e (n / 128) (sym own) in
        let h : n % 128 < min (byte e 15) 128 = rw (← z) below in
        grown_counted e n own (omega (arith, h))
    go false p false q =
        let l = ltb-false (extent e) (n / 128) p in
        let m = eqb-false (extent e) (n / 128) q in
        grown_earlier e n (omega (arith, l, m))

module _ (g : Geometry) (held v : List ℕ) (u : ℕ) (name : List ℕ) (n : ℕ) (small : Bytes v) (t : Unmet g v u name n) where
  grouped : record_slot g v u name n < slots g
  grouped = leb-false (slots g) (record_slot g v u name n) t.group

  counts : counted g (slot_at g v (record_slot g v u name n)) n ≡ true
  counts = sym (present_counted g v u name n grouped) ∙ not-false _ t.absent

  slot_is : write_slot g v u name n ≡ record_slot g v u name n
  unfolding write_slot
  slot_is = rw (lt-ltb (record_slot g v u name n) (slots g) grouped)

  within : (g.directory_blocks ≤ read_block g v u name n) × (read_block g v u name n < g.blocks)
  within = inside_is g (read_block g v u name n) (not-false (inside g (read_block g v u name n)) t.outside)

  -- no test of the directory refuses the write
  pub passes : slots g ≤ find_slot g v u name ReadOnlyFile → is_none (first_met (write_tests g held v u name n)) ≡ true
  unfolding write_tests first_met read_block
  passes w =
      let o = t.outside in
      rw (t.file, le-ltb (find_slot g v u name ReadOnlyFile) (slots g) w, own_needs_none g held v u name n grouped counts, lt-ltb (record_slot g v u name n) (slots g) grouped, base_own g held v u name n grouped, o)

  entry_same : written_entry g (slot_at g v (record_slot g v u name n)) n (read_block g v u name n) ≡ slot_at g v (record_slot g v u name n)
  unfolding written_entry read_block
  entry_same =
      let e = slot_at g v (record_slot g v u name n) in
      rw (grown_same g e n counts) (own_block g e (slot_small g v small (record_slot g v u name n)) (place_of g n))

  -- no block is held by it
  pub held_same : held_after g held v u name n ≡ held
  held_same = rw (own_needs_none g held v u name n grouped counts)

  module _ (law : lawful g ≡ true) (size : length v ≡ bytes g) (writable : slots g ≤ find_slot g v u name ReadOnlyFile) (r : List ℕ) (r128 : length r ≡ 128) where
    -- the volume has other bytes where the record stands
    pub volume_is : written g held v u name n false r ≡ put_record g v (read_block g v u name n) n r
    unfolding put_filled
    volume_is =
        let b = read_block g v u name n in
        let w = put_record g v b n r in
        let len : length w ≡ bytes g = put_record_length g law v size b n within.1 r r128 ∙ size in
        let e : slot_at g w (record_slot g v u name n) ≡ slot_at g v (record_slot g v u name n) = slot_put_record g law v size b n within.1 r r128 within.0 (record_slot g v u name n) grouped in
        written_is g held v u name n law size (passes writable) false r r128
        ∙ rw (base_own g held v u name n grouped, block_own g held v u name n grouped counts, slot_is, entry_same, ← e) (put_slot_same g law w len (record_slot g v u name n) grouped)

    -- cut anywhere the write has done nothing or all: the directory record that it stores has the bytes that stand there
    pub cut_either : (k : ℕ) → (cut g v k (write_stores g held v u name n false r) ≡ v) ⊎ (cut g v k (write_stores g held v u name n false r) ≡ put_record g v (read_block g v u name n) n r)
    unfolding laid record_stores entry_stores put_record record_start
    cut_either zero = inl refl
    cut_either (suc zero) = inr (ap (λ (b : ℕ). put_record g v b n r) (block_own g held v u name n grouped counts))
    cut_either (suc (suc j)) = inr (cut_enough g v (write_stores g held v u name n false r) (suc (suc j)) (omega arith) ∙ volume_is)
