-- Laws of the entry that a write leaves: its length, and what growing leaves as it was.
use mathlib.Core.Path.{◌≡◌, refl, sym, ap, ◌∙◌}
use mathlib.Core.Bool.{Bool, true, false, cond, ◌&&◌, false≢true}
use mathlib.Core.Logic.{◌≢◌}
use mathlib.Core.List.{List, [], ◌++◌}
use Prim.Native.Nat.{ℕ, ◌+◌, ◌/◌, ◌%◌, ◌≤◌, ◌<◌, max}
use native.Mathlib.Nat.{max-eq_left, max-eq_right}
use native.Mathlib.Omega.{arith}
use lib.Dec.{ltb, eqb}
use lib.ListN.{length, take, drop, set, replicate, length-set, length-append}
use lib.Seq.{set-get_or, get_or-set_same, get_or-set_other, get_or-append-add, take_at, drop-drop, drop-length, length-take-le}
use borrow.Author.Tests.{lt-ltb, le-ltb, ltb-true, ltb-false, eqb-true, eqb-false}
use Rattle.lists.proofs.PartLaws.{length_part}
use Rattle.lists.specs.Bytes.{byte, part, put}
use Rattle.disk_volume.specs.Entry.{Entry, extent, block_in, count_of}
use Rattle.disk_geometry.specs.Geometry.{lawful, place_of}
use Rattle.disk_geometry.specs.declared.Geometry.{Geometry}
use Rattle.disk_volume.proofs.EntryLaws.{count_below, count_above, count_own}
use Rattle.disk_volume.proofs.MapLaws.{length_with_block, byte_with_block, take_with_block, block_with_block, block_with_block_other, block_same}
use Rattle.disk_geometry.proofs.GeometryLaws.{place_lt}
use Rattle.call_entry.specs.Grown.{like_entry, grown, written_entry}
use Rattle.call_entry.proofs.HeadLaws.{head, head_set}

-- ---- lengths
pub length_like : (e : Entry) → length e ≡ 32 → length (like_entry e) ≡ 32
unfolding like_entry
length_like e h = rw (length-append, length_part e 0 12 (omega arith))

pub length_grown : (e : Entry) (n : ℕ) → length (grown e n) ≡ length e
unfolding grown
length_grown e n = go (ltb (extent e) (n / 128)) (ltb (n / 128) (extent e))
  where
    go : (s t : Bool) → length (cond s (set (set (set e 12 (n / 128 % 32)) 14 (n / 128 / 32)) 15 (n % 128 + 1)) (cond t e (set e 15 (max (byte e 15) (n % 128 + 1))))) ≡ length e
    go true t = simp length-set
    go false true = refl
    go false false = simp length-set

pub length_written : (g : Geometry) (e : Entry) (n b : ℕ) → length (written_entry g e n b) ≡ length e
unfolding written_entry
length_written g e n b = length_with_block g (grown e n) (place_of g n) b ∙ length_grown e n

-- ---- an entry's own 12 bytes and zeros, as code lays them
pub like_put : (e : Entry) → length e ≡ 32 → put e 12 20 (replicate 20 0) ≡ like_entry e
unfolding like_entry put part
like_put e h =
    let d : drop 20 (drop 12 e) ≡ [] = drop-drop 20 12 e ∙ ap (λ (x : ℕ). drop x e) (sym h) ∙ drop-length e in
    rw d

-- d copied to e, and all behind its first 12 bytes filled with zeros
pub like_laid : (e d zeros : List ℕ) → length d ≡ 32 → e ≡ d → zeros ≡ replicate (length (part e 12 20)) 0 → put e 12 20 zeros ≡ like_entry d
like_laid e d zeros h q z =
    let k : length e ≡ 32 = ap length q ∙ h in
    ap (put e 12 20) (z ∙ ap (λ (m : ℕ). replicate m 0) (length_part e 12 20 (omega arith))) ∙ ap (λ (x : List ℕ). put x 12 20 (replicate 20 0)) q ∙ like_put d h

-- ---- a new entry
pub head_like : (e : Entry) → length e ≡ 32 → head (like_entry e) ≡ head e
unfolding like_entry part
head_like e h = take_at (take 12 e) (replicate 20 0) 12 (length-take-le 12 e (omega arith))

pub like_extent : (e : Entry) → length e ≡ 32 → extent (like_entry e) ≡ 0
unfolding like_entry
like_extent e h =
    let l = length_part e 0 12 (omega arith) in
    let s2 : byte (part e 0 12 ++ replicate 20 0) 14 ≡ 0 = ap (λ (k : ℕ). byte (part e 0 12 ++ replicate 20 0) (k + 2)) (sym l) ∙ get_or-append-add (part e 0 12) (replicate 20 0) 2 0 in
    let ex : byte (part e 0 12 ++ replicate 20 0) 12 ≡ 0 = ap (λ (k : ℕ). byte (part e 0 12 ++ replicate 20 0) (k + 0)) (sym l) ∙ get_or-append-add (part e 0 12) (replicate 20 0) 0 0 in
    rw (s2, ex)

-- ---- growing
module _ (e : Entry) (n : ℕ) where
  -- the record lies in a later extent
  pub grown_later : extent e < n / 128 → grown e n ≡ set (set (set e 12 (n / 128 % 32)) 14 (n / 128 / 32)) 15 (n % 128 + 1)
  unfolding grown
  grown_later h = rw (lt-ltb (extent e) (n / 128) h)

  -- in the entry's own extent
  pub grown_own : extent e ≡ n / 128 → grown e n ≡ set e 15 (max (byte e 15) (n % 128 + 1))
  unfolding grown
  grown_own h =
      let a : n / 128 ≤ extent e = omega arith in
      let b : extent e ≤ n / 128 = omega arith in
      rw (le-ltb (extent e) (n / 128) a, le-ltb (n / 128) (extent e) b)

  -- in an earlier one
  pub grown_earlier : n / 128 < extent e → grown e n ≡ e
  unfolding grown
  grown_earlier h =
      let a : n / 128 ≤ extent e = omega arith in
      rw (le-ltb (extent e) (n / 128) a, lt-ltb (n / 128) (extent e) h)

  -- by the three of them
  by_extent : {P : Type 0} → (extent e < n / 128 → P) → (extent e ≡ n / 128 → P) → (n / 128 < extent e → P) → P
  by_extent {P} later own earlier = go (ltb (extent e) (n / 128)) refl (eqb (extent e) (n / 128)) refl
    where
      go : (s : Bool) → ltb (extent e) (n / 128) ≡ s → (t : Bool) → eqb (extent e) (n / 128) ≡ t → P
      go true p t q = later (ltb-true (extent e) (n / 128) p)
      go false p true q = own (eqb-true (extent e) (n / 128) q)
      go false p false q =
          let l = ltb-false (extent e) (n / 128) p in
          let m = eqb-false (extent e) (n / 128) q in
          earlier (omega (arith, m))

  -- in its own, where it counts
  pub grown_counted : extent e ≡ n / 128 → n % 128 + 1 ≤ byte e 15 → grown e n ≡ e
  grown_counted h l = grown_own h ∙ ap (set e 15) (max-eq_left l) ∙ set-get_or e 15 0

  -- as code asks it, where the record lies in no later extent: rc rises, or all stays
  pub grown_rises : eqb (extent e) (n / 128) && ltb (byte e 15) (n % 128 + 1) ≡ true → grown e n ≡ set e 15 (n % 128 + 1)
  grown_rises h = go (eqb (extent e) (n / 128)) refl h
    where
      go : (t : Bool) → eqb (extent e) (n / 128) ≡ t → t && ltb (byte e 15) (n % 128 + 1) ≡ true → grown e n ≡ set e 15 (n % 128 + 1)
      go true q f =
          let l : byte e 15 < n % 128 + 1 = ltb-true (byte e 15) (n % 128 + 1) f in
          grown_own (eqb-true (extent e) (n / 128) q) ∙ ap (set e 15) (max-eq_right {n = byte e 15} {m = n % 128 + 1} (omega arith))
      go false q f = absurd (false≢true f)

  pub grown_stays : n / 128 ≤ extent e → eqb (extent e) (n / 128) && ltb (byte e 15) (n % 128 + 1) ≡ false → grown e n ≡ e
  grown_stays l h = go (eqb (extent e) (n / 128)) refl h
    where
      go : (t : Bool) → eqb (extent e) (n / 128) ≡ t → t && ltb (byte e 15) (n % 128 + 1) ≡ false → grown e n ≡ e
      go true q f = grown_counted (eqb-true (extent e) (n / 128) q) (ltb-false (byte e 15) (n % 128 + 1) f)
      go false q f =
          let m = eqb-false (extent e) (n / 128) q in
          grown_earlier (omega (arith, m))

  -- ---- what it leaves, and what it says
  pub head_grown : head (grown e n) ≡ head e
  unfolding grown
  head_grown = go (ltb (extent e) (n / 128)) (ltb (n / 128) (extent e))
    where
      go : (s t : Bool) → head (cond s (set (set (set e 12 (n / 128 % 32)) 14 (n / 128 / 32)) 15 (n % 128 + 1)) (cond t e (set e 15 (max (byte e 15) (n % 128 + 1))))) ≡ head e
      go true t =
          head_set (set (set e 12 (n / 128 % 32)) 14 (n / 128 / 32)) 15 (n % 128 + 1) (omega arith)
          ∙ head_set (set e 12 (n / 128 % 32)) 14 (n / 128 / 32) (omega arith)
          ∙ head_set e 12 (n / 128 % 32) (omega arith)
      go false true = refl
      go false false = head_set e 15 (max (byte e 15) (n % 128 + 1)) (omega arith)

  pub byte_grown : (k : ℕ) → k ≢ 12 → k ≢ 14 → k ≢ 15 → byte (grown e n) k ≡ byte e k
  unfolding grown
  byte_grown k a b c = go (ltb (extent e) (n / 128)) (ltb (n / 128) (extent e))
    where
      go : (s t : Bool) → byte (cond s (set (set (set e 12 (n / 128 % 32)) 14 (n / 128 / 32)) 15 (n % 128 + 1)) (cond t e (set e 15 (max (byte e 15) (n % 128 + 1))))) k ≡ byte e k
      go true t =
          get_or-set_other (set (set e 12 (n / 128 % 32)) 14 (n / 128 / 32)) 15 k (n % 128 + 1) 0 c
          ∙ get_or-set_other (set e 12 (n / 128 % 32)) 14 k (n / 128 / 32) 0 b
          ∙ get_or-set_other e 12 k (n / 128 % 32) 0 a
      go false true = refl
      go false false = get_or-set_other e 15 k (max (byte e 15) (n % 128 + 1)) 0 c

  -- a whole entry
  module _ (e32 : length e ≡ 32) where
    -- its extent is the later of both
    later_extent : extent e < n / 128 → extent (grown e n) ≡ n / 128
    later_extent h =
        let a = set e 12 (n / 128 % 32) in
        let b = set a 14 (n / 128 / 32) in
        let la : length a ≡ 32 = length-set e 12 (n / 128 % 32) ∙ e32 in
        let lb : length b ≡ 32 = length-set a 14 (n / 128 / 32) ∙ la in
        let s2 : byte (set b 15 (n % 128 + 1)) 14 ≡ n / 128 / 32 =
        get_or-set_other b 15 14 (n % 128 + 1) 0 (omega arith) ∙ get_or-set_same a 14 (n / 128 / 32) 0 (omega arith) in
        let ex : byte (set b 15 (n % 128 + 1)) 12 ≡ n / 128 % 32 =
        get_or-set_other b 15 12 (n % 128 + 1) 0 (omega arith) ∙ get_or-set_other a 14 12 (n / 128 / 32) 0 (omega arith)
        ∙ get_or-set_same e 12 (n / 128 % 32) 0 (omega arith) in
        ap extent (grown_later h) ∙ omega arith

    own_extent : extent e ≡ n / 128 → extent (grown e n) ≡ extent e
    own_extent h =
        let m = max (byte e 15) (n % 128 + 1) in
        let s2 = get_or-set_other e 15 14 m 0 (omega arith) in
        let ex = get_or-set_other e 15 12 m 0 (omega arith) in
        ap extent (grown_own h) ∙ omega arith

    pub grown_extent : extent (grown e n) ≡ max (extent e) (n / 128)
    grown_extent = by_extent (λ h. later_extent h ∙ sym (max-eq_right {n = extent e} {m = n / 128} (omega arith)))
        (λ h. own_extent h ∙ sym (max-eq_left {n = extent e} {m = n / 128} (omega arith)))
        (λ h. ap extent (grown_earlier h) ∙ sym (max-eq_left {n = extent e} {m = n / 128} (omega arith)))

    -- ---- what it counts
    later_rc : extent e < n / 128 → byte (grown e n) 15 ≡ n % 128 + 1
    later_rc h =
        let a = set e 12 (n / 128 % 32) in
        let b = set a 14 (n / 128 / 32) in
        let l : length b ≡ 32 = length-set a 14 (n / 128 / 32) ∙ length-set e 12 (n / 128 % 32) ∙ e32 in
        ap (λ (x : Entry). byte x 15) (grown_later h) ∙ get_or-set_same b 15 (n % 128 + 1) 0 (omega arith)

    own_rc : extent e ≡ n / 128 → byte (grown e n) 15 ≡ max (byte e 15) (n % 128 + 1)
    own_rc h = ap (λ (x : Entry). byte x 15) (grown_own h) ∙ get_or-set_same e 15 (max (byte e 15) (n % 128 + 1)) 0 (omega arith)

    -- the record
    pub grown_counts : n % 128 < count_of (grown e n) (n / 128)
    grown_counts = by_extent
        (λ h. rw (count_own (grown e n) (n / 128) (sym (later_extent h)), later_rc h) (omega arith))
        (λ h. rw (count_own (grown e n) (n / 128) (sym h ∙ sym (own_extent h)), own_rc h) (omega arith))
        (λ h. rw (grown_earlier h, count_below e (n / 128) h) (omega arith))

    -- every record of the extents before a later one
    pub grown_full : extent e < n / 128 → (y : ℕ) → y < n / 128 → count_of (grown e n) y ≡ 128
    grown_full h y l = count_below (grown e n) y (omega (arith, later_extent h))

    -- in every other extent the same, where the record's is no later one
    pub grown_other : n / 128 ≤ extent e → (y : ℕ) → y ≢ n / 128 → count_of (grown e n) y ≡ count_of e y
    grown_other l y ne = by_extent
        (λ h. absurd (omega arith))
        (λ h. apart h (ltb y (extent e)) refl)
        (λ h. ap (λ (x : Entry). count_of x y) (grown_earlier h))
      where
        apart : extent e ≡ n / 128 → (t : Bool) → ltb y (extent e) ≡ t → count_of (grown e n) y ≡ count_of e y
        apart h true q =
            let a = ltb-true y (extent e) q in
            count_below (grown e n) y (omega (arith, own_extent h)) ∙ sym (count_below e y a)
        apart h false q =
            let a = ltb-false y (extent e) q in
            count_above (grown e n) y (omega (arith, own_extent h, ne)) ∙ sym (count_above e y (omega (arith, ne)))

-- ---- the block in its place
module _ (g : Geometry) (e : Entry) (n b : ℕ) where
  pub head_written : head (written_entry g e n b) ≡ head e
  unfolding written_entry part
  head_written = take_with_block g (grown e n) (place_of g n) b 12 (omega arith) ∙ head_grown e n

  pub byte_written : (k : ℕ) → k < 16 → byte (written_entry g e n b) k ≡ byte (grown e n) k
  unfolding written_entry
  byte_written k h = byte_with_block g (grown e n) (place_of g n) b k h

  pub written_extent : extent (written_entry g e n b) ≡ extent (grown e n)
  written_extent = rw (byte_written 14 (omega arith), byte_written 12 (omega arith))

  pub written_count : (y : ℕ) → count_of (written_entry g e n b) y ≡ count_of (grown e n) y
  unfolding count_of
  written_count y = rw (byte_written 14 (omega arith), byte_written 12 (omega arith), byte_written 15 (omega arith))

  pub written_block : lawful g ≡ true → length e ≡ 32 → block_in g (written_entry g e n b) (place_of g n) ≡ b
  unfolding written_entry
  written_block good e32 = block_with_block g (grown e n) (place_of g n) b (length_grown e n ∙ e32) (place_lt g good n)

  pub written_other : (p : ℕ) → p ≢ place_of g n → block_in g (written_entry g e n b) p ≡ block_in g e p
  unfolding written_entry
  written_other p ne =
      block_with_block_other g (grown e n) (place_of g n) b p ne
      ∙ block_same g (grown e n) e (λ k h. byte_grown e n k (omega arith) (omega arith) (omega arith)) p
