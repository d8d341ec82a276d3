-- "A slot is good if empty, or if: user is 0..15; name bytes without top bits are 20H..7EH and not 3FH, the first not
-- 20H; only bytes 9 and 10 may carry a top bit; ex is at most 31, s1 is 0, s2 at most 15, rc at most 128; each block
-- number is 0 or from D to T-1; none but 0 occurs twice in it or in a lower slot that is not empty; no lower slot has the
-- same user, name and group."
use Rattle.std.specs.Prelude.{Bool, false, not, ◌&&◌, ◌||◌, List, ℕ, ◌+◌, leb, ltb, eqb}
use Rattle.lists.specs.Bounded.{lowest, any, every}
use Rattle.lists.specs.Bytes.{byte}
use Rattle.disk_geometry.specs.declared.Geometry.{Geometry}
use Rattle.disk_geometry.specs.Geometry.{slots, group_of, inside, places}
use Rattle.disk_volume.specs.Fields.{USER, NAME, EX, S1, S2, RC, name_bytes, name_t1, name_t2}
use Rattle.disk_volume.specs.Name.{TOPBIT, name_of, good_name}
use Rattle.disk_volume.specs.Entry.{Entry, is_empty, extent, block_in, of_group}
use Rattle.disk_volume.specs.Directory.{slot_at}

-- the bytes other than name and map
unfoldable pub good_fields : Entry → Bool
good_fields e = leb (byte e USER) 15 && leb (byte e EX) 31 && eqb (byte e S1) 0 && leb (byte e S2) 15 && leb (byte e RC) 128

-- "only bytes 9 and 10 may carry a top bit"
unfoldable pub good_top_bits : Entry → Bool
good_top_bits e = every name_bytes (λ k. ltb (byte e (NAME + k)) TOPBIT || eqb k name_t1 || eqb k name_t2)

-- what the entry alone shows, but its map
abbrev pub good_entry : Entry → Bool
good_entry e = good_fields e && good_name false (name_of e) && good_top_bits e

-- the entry's map has block b in one of the first k places; the entry has it
unfoldable pub in_places : Geometry → Entry → ℕ → ℕ → Bool
in_places g e k b = any k (λ p. eqb (block_in g e p) b)

unfoldable pub names_block : Geometry → Entry → ℕ → Bool
names_block g e b = not (is_empty e) && in_places g e (places g) b

-- block b is in a slot below n that is not empty
unfoldable pub named_below : Geometry → List ℕ → ℕ → ℕ → Bool
named_below g v n b = any n (λ j. names_block g (slot_at g v j) b)

-- place p of the entry in slot i: 0, or a block from D to T-1 that is in no lower place and in no lower slot
unfoldable pub good_place : Geometry → List ℕ → ℕ → ℕ → Bool
good_place g v i p =
    let e = slot_at g v i in
    let b = block_in g e p in
    eqb b 0 || (inside g b && not (in_places g e p b) && not (named_below g v i b))

-- entry f has "the same user, name and group" as entry e
abbrev pub twin : Geometry → Entry → Entry → Bool
twin g e f = of_group g (byte e USER) (name_of e) (group_of g (extent e)) f

-- a lower slot has the same user, name and group as slot i
unfoldable pub seen_below : Geometry → List ℕ → ℕ → Bool
seen_below g v i = any i (λ j. twin g (slot_at g v i) (slot_at g v j))

unfoldable pub good_slot : Geometry → List ℕ → ℕ → Bool
good_slot g v i =
    let e = slot_at g v i in
    is_empty e || (good_entry e && every (places g) (good_place g v i) && not (seen_below g v i))

-- "Log-in accepts exactly when all slots are good", else it answers "the lowest bad slot": the number of slots where
-- there is none
unfoldable pub lowest_bad : Geometry → List ℕ → ℕ
lowest_bad g v = lowest (slots g) (λ i. not (good_slot g v i))
