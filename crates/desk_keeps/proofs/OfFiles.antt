-- On a volume that passes inspection a place holds one record of one file, so what is said of bytes is said of files.
use mathlib.Core.Path.{◌≡◌, refl, sym, ap, ◌∙◌}
use mathlib.Core.Bool.{Bool, true, false, not, ◌&&◌}
use mathlib.Core.Logic.{◌⊎◌, inl, inr, ⊎_elim, ◌≢◌}
use mathlib.Core.List.{List}
use Prim.Native.Nat.{ℕ, ◌+◌, ◌/◌, ◌%◌, ◌≤◌, ◌<◌}
use native.Mathlib.Decide.{ℕ_discrete}
use native.Mathlib.Omega.{arith}
use lib.Dec.{ltb, eqb}
use lib.ListN.{length}
use borrow.Author.Tests.{not-true, ltb-true, eqb-true, eqb-false, ne_eqb}
use Rattle.lists.specs.Bytes.{byte}
use Rattle.lists.proofs.BoolLaws.{and_parts}
use Rattle.lists.proofs.PartLaws.{byte_part}
use Rattle.lists.proofs.BoundedLaws.{low_ext, any_ext, every_ext}
use Rattle.disk_geometry.specs.declared.Geometry.{Geometry}
use Rattle.disk_geometry.specs.Geometry.{lawful, bytes, slots, places, records, record_start, group_of, place_of}
use Rattle.disk_geometry.proofs.GeometryLaws.{place_lt, records_apart, records_apart_within, record_number}
use Rattle.disk_geometry.proofs.InsideLaws.{inside_is}
use Rattle.disk_volume.specs.declared.Wanted.TheVariants.{Group}
use Rattle.disk_volume.specs.Entry.{Entry, is_empty, extent, block_in, count_of, of_file, of_group}
use Rattle.disk_volume.specs.Name.{name_of, same}
use Rattle.disk_volume.specs.Directory.{slot_at}
use Rattle.disk_volume.specs.Record.{record_slot, record_block, record_at, counted, present}
use Rattle.disk_volume.proofs.DirectoryLaws.{record_length}
use Rattle.disk_volume.proofs.FindLaws.{found_fits}
use Rattle.disk_volume.proofs.NameLaws.{same_true}
use Rattle.disk_rules.specs.GoodSlot.{names_block, named_below, good_place, seen_below, good_slot, lowest_bad}
use Rattle.disk_rules.proofs.AcceptedLaws.{good_entry_lem, one_place}
use Rattle.call_read.specs.Read.{read_block, read_bytes}
use Rattle.filecalls.specs.declared.Drive.{Drive}
use Rattle.desk_keeps.specs.Sigla.{stands_at}
use Rattle.desk_keeps.proofs.Directory.{Alike, slot_same}

-- what a present record's place is
record Home (g : Geometry) (v : List ℕ) (u : ℕ) (name : List ℕ) (m : ℕ) : Type 0 where
  slot : record_slot g v u name m < slots g
  user : byte (slot_at g v (record_slot g v u name m)) 0 ≡ u
  name_is : name_of (slot_at g v (record_slot g v u name m)) ≡ name
  group : group_of g (extent (slot_at g v (record_slot g v u name m))) ≡ group_of g (m / 128)
  used : block_in g (slot_at g v (record_slot g v u name m)) (place_of g m) ≢ 0

home_of : (g : Geometry) (v : List ℕ) (u : ℕ) (name : List ℕ) (m : ℕ) → present g v u name m ≡ true → Home g v u name m
unfolding present counted record_slot of_group of_file
home_of g v u name m h =
    let e = slot_at g v (record_slot g v u name m) in
    let p = and_parts (ltb (record_slot g v u name m) (slots g)) (ltb (m % 128) (count_of e (m / 128)) && not (eqb (record_block g e m) 0)) h in
    let q = and_parts (ltb (m % 128) (count_of e (m / 128))) (not (eqb (record_block g e m) 0)) p.1 in
    let s = ltb-true (record_slot g v u name m) (slots g) p.0 in
    let f = found_fits g v u name (Group (group_of g (m / 128))) s in
    let x = and_parts (eqb (byte e 0) u && same (name_of e) name) (eqb (group_of g (extent e)) (group_of g (m / 128))) f in
    let y = and_parts (eqb (byte e 0) u) (same (name_of e) name) x.0 in
    record {
      slot = s;
      user = eqb-true (byte e 0) u y.0;
      name_is = same_true (name_of e) name y.1;
      group = eqb-true (group_of g (extent e)) (group_of g (m / 128)) x.1;
      used = eqb-false (record_block g e m) 0 (not-true (eqb (record_block g e m) 0) q.1);
    }

module _ (g : Geometry) (law : lawful g ≡ true) (v : List ℕ) (ok : lowest_bad g v ≡ slots g) where
  live : (u : ℕ) (name : List ℕ) (m : ℕ) → u ≤ 15 → Home g v u name m → is_empty (slot_at g v (record_slot g v u name m)) ≡ false
  live u name m u15 h = let x = h.user in ne_eqb (byte (slot_at g v (record_slot g v u name m)) 0) 229 (λ z. no (byte (slot_at g v (record_slot g v u name m)) 0) x z)
    where
      no : (b : ℕ) → b ≡ u → b ≡ 229 → ⊥
      no b x z = omega (arith, x, z, u15)

  low : (u : ℕ) (name : List ℕ) (m : ℕ) → u ≤ 15 → Home g v u name m → read_block g v u name m < g.blocks
  unfolding read_block
  low u name m u15 h =
      ⊎_elim (λ z. absurd (h.used z)) (λ w. (inside_is g (read_block g v u name m) w).1)
      ((good_entry_lem g v ok (record_slot g v u name m) h.slot (live u name m u15 h)).block (place_of g m) (place_lt g law m))

  module _ (u w : ℕ) (name other : List ℕ) (m n : ℕ) (u15 : u ≤ 15) (w15 : w ≤ 15) (a : Home g v u name m) (b : Home g v w other n) where
    record One : Type 0 where
      users : u ≡ w
      names : name ≡ other
      numbers : m ≡ n

    -- two records of one place are one
    one : read_block g v u name m ≡ read_block g v w other n → m % records g ≡ n % records g → One
    unfolding read_block
    one same_block within =
        let i = record_slot g v u name m in
        let j = record_slot g v w other n in
        let z = one_place g v ok i (place_of g m) j (place_of g n)
        (record { slot = a.slot; used = live u name m u15 a; place = place_lt g law m })
        (record { slot = b.slot; used = live w other n w15 b; place = place_lt g law n }) a.used same_block in
        let e : slot_at g v i ≡ slot_at g v j = ap (slot_at g v) z.0 in
        let group : group_of g (m / 128) ≡ group_of g (n / 128) = sym a.group ∙ ap (λ (x : Entry). group_of g (extent x)) e ∙ b.group in
        record {
          users = sym a.user ∙ ap (λ (x : Entry). byte x 0) e ∙ b.user;
          names = sym a.name_is ∙ ap name_of e ∙ b.name_is;
          numbers = record_number g law m ∙ rw (group, z.1, within) (sym (record_number g law n));
        }

    -- a byte of the one in the place of the other
    meet : (k j : ℕ) → k < 128 → j < 128 → record_start g (read_block g v u name m) m + k ≡ record_start g (read_block g v w other n) n + j → One
    meet k j k< j< e = go (ℕ_discrete (read_block g v u name m) (read_block g v w other n)) (ℕ_discrete (m % records g) (n % records g))
      where
        apart : (x y : ℕ) → x + k ≡ y + j → (x + 128 ≤ y) ⊎ (y + 128 ≤ x) → ⊥
        apart x y q (inl h) = omega (arith, q, h, k<, j<)
        apart x y q (inr h) = omega (arith, q, h, k<, j<)

        go : Dec (read_block g v u name m ≡ read_block g v w other n) → Dec (m % records g ≡ n % records g) → One
        go (yes x) (yes y) = one x y
        go (yes x) (no y) =
            absurd (apart (record_start g (read_block g v u name m) m) (record_start g (read_block g v u name m) n) (e ∙ ap (λ (c : ℕ). record_start g c n + j) (sym x))
            (records_apart_within g law (read_block g v u name m) m n (low u name m u15 a) y))
        go (no x) y =
            absurd (apart (record_start g (read_block g v u name m) m) (record_start g (read_block g v w other n) n) e
            (records_apart g law (read_block g v u name m) (read_block g v w other n) m n (low u name m u15 a) (low w other n w15 b) x))

-- ---- inspection looks at the directory alone
module _ (g : Geometry) (v w : List ℕ) (alike : Alike g v w) where
  named_same : (i b : ℕ) → i ≤ slots g → named_below g w i b ≡ named_below g v i b
  unfolding named_below
  named_same i b h =
      any_ext (λ j. names_block g (slot_at g w j) b) (λ j. names_block g (slot_at g v j) b) 0 i (λ j x y. ap (λ (e : Entry). names_block g e b) (alike.entries j (omega (arith, y, h))))

  place_same : (i p : ℕ) → i < slots g → good_place g w i p ≡ good_place g v i p
  unfolding good_place
  place_same i p h = let l : i ≤ slots g = omega (arith, h) in rw (alike.entries i h, named_same i (block_in g (slot_at g v i) p) l)

  seen_same : (i : ℕ) → i < slots g → seen_below g w i ≡ seen_below g v i
  unfolding seen_below
  seen_same i h =
      let e = slot_at g v i in
      rw (alike.entries i h)
      (any_ext (λ j. of_group g (byte e 0) (name_of e) (group_of g (extent e)) (slot_at g w j)) (λ j. of_group g (byte e 0) (name_of e) (group_of g (extent e)) (slot_at g v j)) 0 i
      (λ j x y. ap (λ (d : Entry). of_group g (byte e 0) (name_of e) (group_of g (extent e)) d) (alike.entries j (omega (arith, y, h)))))

  good_same : (i : ℕ) → i < slots g → good_slot g w i ≡ good_slot g v i
  unfolding good_slot
  good_same i h =
      let every = every_ext (good_place g w i) (good_place g v i) 0 (places g) (λ p x y. place_same i p h) in
      rw (alike.entries i h, seen_same i h, every)

  pub bad_same : lowest_bad g w ≡ lowest_bad g v
  unfolding lowest_bad
  bad_same = low_ext (λ i. not (good_slot g w i)) (λ i. not (good_slot g v i)) 0 (slots g) (λ i x y. ap not (good_same i (omega (arith, y))))

  -- ---- and so do presence and place
  module _ (u : ℕ) (name : List ℕ) (m : ℕ) where
    entry_same : record_slot g v u name m < slots g → slot_at g w (record_slot g w u name m) ≡ slot_at g v (record_slot g v u name m)
    entry_same h = ap (slot_at g w) (slot_same g v w alike u name m) ∙ alike.entries (record_slot g v u name m) h

    pub present_same : present g w u name m ≡ present g v u name m
    unfolding present
    present_same = go (ltb (record_slot g v u name m) (slots g)) refl
      where
        go : (t : Bool) → ltb (record_slot g v u name m) (slots g) ≡ t
            → (ltb (record_slot g w u name m) (slots g) && counted g (slot_at g w (record_slot g w u name m)) m)
            ≡ (ltb (record_slot g v u name m) (slots g) && counted g (slot_at g v (record_slot g v u name m)) m)
        go false e = rw (slot_same g v w alike u name m, e)
        go true e = let h = ltb-true (record_slot g v u name m) (slots g) e in rw (entry_same h, slot_same g v w alike u name m)

    block_same : record_slot g v u name m < slots g → read_block g w u name m ≡ read_block g v u name m
    unfolding read_block
    block_same h = rw (entry_same h)

-- a byte of a record
byte_of : (g : Geometry) (v : List ℕ) (u : ℕ) (name : List ℕ) (m k : ℕ) → k < 128
    → byte (read_bytes g v u name m) k ≡ byte v (record_start g (read_block g v u name m) m + k)
unfolding read_bytes record_at
byte_of g v u name m k h = byte_part v (record_start g (read_block g v u name m) m) 128 k h

-- a present record has its 128 bytes
pub bytes_length : (g : Geometry) → lawful g ≡ true → (v : List ℕ) → length v ≡ bytes g → lowest_bad g v ≡ slots g → (u : ℕ) (name : List ℕ) (m : ℕ) → u ≤ 15
    → present g v u name m ≡ true → length (read_bytes g v u name m) ≡ 128
unfolding read_bytes
bytes_length g law v size ok u name m u15 here = record_length g law v size (read_block g v u name m) m (low g law v ok u name m u15 (home_of g v u name m here))

-- ---- altered as said of bytes, so altered as said of files
module _ (d : Drive) (v f : List ℕ) (these : ℕ → Type 0) (w : List ℕ) (alike : Alike d.geometry v w) (law : lawful d.geometry ≡ true) (user15 : d.user ≤ 15)
    (there : (n : ℕ) → these n → present d.geometry v d.user (name_of f) n ≡ true)
    (others : (x : ℕ) → ((n : ℕ) → these n → (x ≢ stands_at d v f n) × (x ≢ stands_at d v f n + 1)) → byte w x ≡ byte v x) where
  pub records_kept : lowest_bad d.geometry v ≡ slots d.geometry → (u : ℕ) (name : List ℕ) → u ≤ 15 → (m : ℕ) → present d.geometry v u name m ≡ true
      → (k : ℕ) → k < 128 → (u ≡ d.user → name ≡ name_of f → these m → 2 ≤ k)
      → byte (read_bytes d.geometry w u name m) k ≡ byte (read_bytes d.geometry v u name m) k
  records_kept ok u name u15 m here k k< unless =
      byte_of d.geometry w u name m k k<
      ∙ ap (λ (x : ℕ). byte w (record_start d.geometry x m + k)) (block_same d.geometry v w alike u name m (home_of d.geometry v u name m here).slot)
      ∙ others (place + k) (λ n h. ((λ e. elsewhere n h 0 (omega arith) (e ∙ plus (stands_at d v f n))), elsewhere n h 1 (omega arith)))
      ∙ sym (byte_of d.geometry v u name m k k<)
    where
      place : ℕ
      place = record_start d.geometry (read_block d.geometry v u name m) m

      plus : (x : ℕ) → x ≡ x + 0
      plus x = omega arith

      -- byte k does not stand where one of these has its siglum
      elsewhere : (n : ℕ) → these n → (j : ℕ) → j ≤ 1 → place + k ≢ stands_at d v f n + j
      elsewhere n one j j1 e =
          let o = meet d.geometry law v ok u d.user name (name_of f) m n u15 user15
          (home_of d.geometry v u name m here) (home_of d.geometry v d.user (name_of f) n (there n one)) k j k< (omega (arith, j1)) e in
          let two = unless o.users o.names (rw o.numbers one) in
          let same_place : place ≡ stands_at d v f n = rw (o.users, o.names, o.numbers) in
          no place (stands_at d v f n) two same_place e
        where
          no : (x y : ℕ) → 2 ≤ k → x ≡ y → x + k ≡ y + j → ⊥
          no x y a b c = omega (arith, a, b, c, j1)
