-- "Each file has the same records present with the same bytes."
use mathlib.Core.Path.{◌≡◌, refl, sym, ap, ◌∙◌}
use mathlib.Core.Bool.{Bool, true, false, ◌&&◌, true≢false}
use mathlib.Core.List.{List}
use Prim.Native.Nat.{ℕ, ◌/◌, ◌%◌, ◌≤◌, ◌<◌}
use native.Mathlib.Decide.{dec_lt}
use native.Mathlib.Omega.{arith}
use lib.Dec.{ltb, eqb}
use lib.ListN.{length, get_or}
use borrow.Author.Tests.{lt-ltb, le-ltb, ltb-true, eqb-true, ne_eqb}
use Rattle.lists.specs.Bytes.{byte}
use Rattle.lists.proofs.BoolLaws.{and_parts, and_right}
use Rattle.lists.proofs.BoundedLaws.{low_no}
use Rattle.disk_geometry.specs.declared.Geometry.{Geometry}
use Rattle.disk_geometry.specs.Geometry.{lawful, bytes, slots, places, group_of, place_of}
use Rattle.disk_geometry.proofs.GeometryLaws.{place_lt}
use Rattle.disk_volume.specs.declared.Wanted.TheVariants.{Group}
use Rattle.disk_volume.specs.Name.{name_of, same}
use Rattle.disk_volume.specs.Entry.{Entry, is_empty, extent, block_in, count_of, of_file, of_group}
use Rattle.disk_volume.specs.Directory.{slot_at, slot_fits, find_slot}
use Rattle.disk_volume.specs.Record.{record_slot, record_block, counted, present, record_at}
use Rattle.disk_volume.proofs.NameLaws.{same_true}
use Rattle.disk_volume.proofs.FindLaws.{find_is, found_fits, not_found}
use Rattle.disk_rules.specs.GoodSlot.{lowest_bad}
use Rattle.disk_rules.proofs.TwinLaws.{twins}
use Rattle.files.specs.Files.{is_used}
use Rattle.fresh_order.specs.Order.{order}
use Rattle.fresh_order.proofs.OrderLaws.{there_is, few_entries}
use Rattle.fresh_volume.specs.Copy.{fresh}
use Rattle.fresh_holds.specs.Holds.{file_record}
use Rattle.fresh_holds.proofs.SameHead.{same_count}
use Rattle.fresh_volume.proofs.Copied.{many, entry, is_entry_lem, entry_length, record_fresh}
use Rattle.fresh_holds.proofs.Passes.{fresh_length, fresh_head, fresh_used, fresh_number, fresh_group, fresh_low, alike}

-- an entry of a group: its user, its name and its group
record Of (g : Geometry) (u : ℕ) (name : List ℕ) (k : ℕ) (e : Entry) : Type 0 where
  user : byte e 0 ≡ u
  its_name : name_of e ≡ name
  group : group_of g (extent e) ≡ k

of_group_lem : (g : Geometry) (u : ℕ) (name : List ℕ) (k : ℕ) (e : Entry) → of_group g u name k e ≡ true → Of g u name k e
unfolding of_group of_file
of_group_lem g u name k e h =
    let p = and_parts (eqb (byte e 0) u && same (name_of e) name) (eqb (group_of g (extent e)) k) h in
    let q = and_parts (eqb (byte e 0) u) (same (name_of e) name) p.0 in
    record { user = eqb-true (byte e 0) u q.0; its_name = same_true (name_of e) name q.1; group = eqb-true (group_of g (extent e)) k p.1 }

-- an entry of a user 0..15 is in no empty slot
of_used : (g : Geometry) (u : ℕ) (name : List ℕ) (k : ℕ) (e : Entry) → u ≤ 15 → of_group g u name k e ≡ true → is_empty e ≡ false
of_used g u name k e low h = ne_eqb (byte e 0) 229 (λ z. omega (arith, (of_group_lem g u name k e h).user))

module _ (g : Geometry) (v : List ℕ) (law : lawful g ≡ true) (size : length v ≡ bytes g) (ok : lowest_bad g v ≡ slots g)
    (w : List ℕ) (w-size : length w ≡ bytes g) where
  -- the block of place p of entry k, wherever it went, has the same records
  pub block_same : (k p n : ℕ) → k < many g v law size ok → p < places g → is_used g (entry g v law size ok k) p ≡ true
      → record_at g (fresh g v w) (block_in g (slot_at g (fresh g v w) k) p) n ≡ record_at g v (block_in g (entry g v law size ok k) p) n
  block_same k p n h q u =
      ap (λ (z : ℕ). record_at g (fresh g v w) z n) (fresh_number g v law size ok w w-size k p h q u) ∙ record_fresh g v law size ok w w-size k p n h q u

module _ (g : Geometry) (v : List ℕ) (law : lawful g ≡ true) (size : length v ≡ bytes g) (ok : lowest_bad g v ≡ slots g)
    (w : List ℕ) (w-size : length w ≡ bytes g) (u : ℕ) (name : List ℕ) (u15 : u ≤ 15) where
  abbrev m : ℕ
  m = many g v law size ok

  abbrev e : ℕ → Entry
  e = entry g v law size ok

  abbrev y : ℕ → Entry
  y k = slot_at g (fresh g v w) k

  -- two entries of one file and one group are one
  one : (x k j : ℕ) → k < m → j < m → of_group g u name x (e k) ≡ true → of_group g u name x (e j) ≡ true → k ≡ j
  one x k j h l s t =
      let a = of_group_lem g u name x (e k) s in
      let b = of_group_lem g u name x (e j) t in
      alike g v law size ok w w-size k j h l
      (twins g (e k) (e j) (record { user = a.user ∙ sym b.user; name = a.its_name ∙ sym b.its_name; group = a.group ∙ sym b.group }))

  -- ---- where the group of a file stands on the worn disk and on the fresh one
  record Both (x : ℕ) : Type 0 where
    at : ℕ
    low : at < m
    worn : find_slot g v u name (Group x) ≡ get_or (order g v) at 0
    found : find_slot g v u name (Group x) < slots g
    new : find_slot g (fresh g v w) u name (Group x) ≡ at

  record Neither (x : ℕ) : Type 0 where
    worn : slots g ≤ find_slot g v u name (Group x)
    new : find_slot g (fresh g v w) u name (Group x) ≡ slots g

  found_both : (x : ℕ) → find_slot g v u name (Group x) < slots g → Both x
  found_both x h =
      let i = find_slot g v u name (Group x) in
      let f : of_group g u name x (slot_at g v i) ≡ true = found_fits g v u name (Group x) h in
      let a = there_is g v law ok i (h, of_used g u name x (slot_at g v i) u15 f) in
      let k = a.place in
      let s : of_group g u name x (e k) ≡ true = ap (λ (j : ℕ). of_group g u name x (slot_at g v j)) a.is ∙ f in
      record {
        at = k;
        low = a.below;
        worn = sym a.is;
        found = h;
        new = find_is g (fresh g v w) u name (Group x) k (record {
          from = omega arith;
          below = omega (arith, a.below, few_entries g v law ok);
          passes = fresh_group g v law size ok w w-size k a.below u name x ∙ s;
          first = λ j low lt. lower k a.below s j lt (of_group g u name x (y j)) refl;
        });
      }
    where
      lower : (k : ℕ) → k < m → of_group g u name x (e k) ≡ true → (j : ℕ) → j < k → (t : Bool) → of_group g u name x (y j) ≡ t → t ≡ false
      lower k h s j lt true q = absurd (omega (arith, one x k j h (omega arith) s (sym (fresh_group g v law size ok w w-size j (omega arith) u name x) ∙ q)))
      lower k h s j lt false q = refl

  found_neither : (x : ℕ) → slots g ≤ find_slot g v u name (Group x) → Neither x
  found_neither x h = record { worn = h; new = unfold find_slot in low_no (slot_fits g (fresh g v w) u name (Group x)) 0 (slots g) (λ k a b. none k (omega arith) (of_group g u name x (y k)) refl) ∙ omega arith }
    where
      none : (k : ℕ) → k < slots g → (t : Bool) → of_group g u name x (y k) ≡ t → t ≡ false
      none k l true q =
          let k< = fresh_low g v law size ok w w-size k l (of_used g u name x (y k) u15 q) in
          let i = (is_entry_lem g v law size ok k k<).0 in
          absurd (true≢false (sym (sym (fresh_group g v law size ok w w-size k k< u name x) ∙ q) ∙ not_found g v u name (Group x) h (get_or (order g v) k 0) i))
      none k l false q = refl

  -- ---- the records
  counted_same : (k n : ℕ) → k < m → counted g (y k) n ≡ counted g (e k) n
  unfolding counted
  counted_same k n h =
      rw (
        same_count (y k) (e k) (fresh_length g v law size ok w w-size k h) (entry_length g v law size ok k h) (fresh_head g v law size ok w w-size k h) (n / 128),
        fresh_used g v law size ok w w-size k (place_of g n) h (place_lt g law n),
      )

  pub present_same : (n : ℕ) → present g (fresh g v w) u name n ≡ present g v u name n
  unfolding present record_slot
  present_same n = elim (dec_lt (find_slot g v u name (Group x)) (slots g)) [
    | yes h ↦
        let b = found_both x h in
        rw (b.new, lt-ltb b.at (slots g) (omega (arith, b.low, few_entries g v law ok)), lt-ltb (find_slot g v u name (Group x)) (slots g) h)
        (counted_same b.at n b.low ∙ ap (λ (i : ℕ). counted g (slot_at g v i) n) (sym b.worn))
    | no h ↦
        let a = found_neither x (omega arith) in
        rw (a.new, le-ltb (slots g) (slots g) (omega arith), le-ltb (find_slot g v u name (Group x)) (slots g) a.worn)
  ]
    where
      x : ℕ
      x = group_of g (n / 128)

  pub bytes_same : (n : ℕ) → present g v u name n ≡ true → file_record g (fresh g v w) u name n ≡ file_record g v u name n
  unfolding present record_slot counted
  bytes_same n h =
      let x = group_of g (n / 128) in
      let p = and_parts (ltb (find_slot g v u name (Group x)) (slots g)) (counted g (slot_at g v (find_slot g v u name (Group x))) n) h in
      let b = found_both x (ltb-true (find_slot g v u name (Group x)) (slots g) p.0) in
      let f : slot_at g v (find_slot g v u name (Group x)) ≡ e b.at = ap (slot_at g v) b.worn in
      let used : is_used g (e b.at) (place_of g n) ≡ true =
      ap (λ (z : Entry). is_used g z (place_of g n)) (sym f) ∙ and_right (ltb (n % 128) (count_of (slot_at g v (find_slot g v u name (Group x))) (n / 128))) _ p.1 in
      ap (λ (z : ℕ). record_at g (fresh g v w) (record_block g (y z) n) n) b.new
      ∙ block_same g v law size ok w w-size b.at (place_of g n) n b.low (place_lt g law n) used
      ∙ ap (λ (z : Entry). record_at g v (record_block g z n) n) (sym f)
