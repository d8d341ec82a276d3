-- A record written in a block that is filled with zeros, or in one that is not: its bytes read back, the block's other
-- records are zeros or stay, and every other block, every slot, every byte outside the block and the length stay.
use mathlib.Core.Path.{◌≡◌, refl, sym, ◌∙◌}
use mathlib.Core.Bool.{Bool, true, false, cond}
use mathlib.Core.Logic.{◌≢◌}
use mathlib.Core.List.{List}
use Prim.Native.Nat.{ℕ, zero, suc, ◌+◌, ◌%◌, ◌≤◌, ◌<◌}
use native.Mathlib.Decide.{ℕ_discrete}
use native.Mathlib.Nat.{mod-lt, mod-eq_of_lt}
use native.Mathlib.Omega.{arith}
use lib.Dec.{eqb}
use lib.ListN.{length, replicate, length-replicate}
use borrow.Author.Tests.{eq-eqb, ne_eqb}
use Rattle.lists.specs.Bounded.{fold}
use Rattle.lists.specs.Bytes.{byte}
use Rattle.lists.proofs.PartLaws.{byte_out}
use Rattle.disk_geometry.specs.declared.Geometry.{Geometry}
use Rattle.disk_geometry.specs.Geometry.{lawful, bytes, records, slots, record_start}
use Rattle.disk_volume.specs.Directory.{slot_at}
use Rattle.disk_volume.specs.Record.{record_at, put_record, fill_record, put_filled, OffBlock}
use Rattle.disk_geometry.proofs.GeometryLaws.{bounds}
use Rattle.disk_volume.proofs.DirectoryLaws.{record_inside, put_record_length, record_put_record, record_put_record_other, record_put_record_within, slot_put_record}

module _ (g : Geometry) (good : lawful g ≡ true) (b n : ℕ) (b< : b < g.blocks) (r : List ℕ) (r128 : length r ≡ 128) where
  -- what record k of the block is given
  abbrev piece : ℕ → List ℕ
  piece k = cond (eqb k (n % records g)) r (replicate 128 0)

  piece_length : (k : ℕ) → length (piece k) ≡ 128
  piece_length k = go (eqb k (n % records g))
    where
      go : (t : Bool) → length (cond t r (replicate 128 0)) ≡ 128
      go true = r128
      go false = length-replicate {A = ℕ} 128 0

  -- ---- one record
  module _ (v : List ℕ) (size : length v ≡ bytes g) (k : ℕ) where
    step_length : length (fill_record g b n r v k) ≡ length v
    unfolding fill_record
    step_length = put_record_length g good v size b k b< (piece k) (piece_length k)

    step_record : record_at g (fill_record g b n r v k) b k ≡ piece k
    unfolding fill_record
    step_record = record_put_record g good v size b k b< (piece k) (piece_length k)

    step_within : (j : ℕ) → j % records g ≢ k % records g → record_at g (fill_record g b n r v k) b j ≡ record_at g v b j
    unfolding fill_record
    step_within = record_put_record_within g good v size b k b< (piece k) (piece_length k)

    step_other : (c m : ℕ) → c < g.blocks → c ≢ b → record_at g (fill_record g b n r v k) c m ≡ record_at g v c m
    unfolding fill_record
    step_other = record_put_record_other g good v size b k b< (piece k) (piece_length k)

    step_slot : g.directory_blocks ≤ b → (i : ℕ) → i < slots g → slot_at g (fill_record g b n r v k) i ≡ slot_at g v i
    unfolding fill_record
    step_slot = slot_put_record g good v size b k b< (piece k) (piece_length k)

    step_byte : (x : ℕ) → OffBlock g b x → byte (fill_record g b n r v k) x ≡ byte v x
    unfolding fill_record put_record
    step_byte x out = byte_out v (record_start g b k) 128 (piece k) (record_inside g good v size b k b<) (piece_length k) x (out k)

  -- ---- m records from record k on
  abbrev laid : List ℕ → ℕ → ℕ → List ℕ
  laid v k m = fold (fill_record g b n r) v k m

  -- what each of them leaves, all of them leave
  run_same : {A : Type 0} (look : List ℕ → A) → ((v : List ℕ) → length v ≡ bytes g → (k : ℕ) → look (fill_record g b n r v k) ≡ look v)
      → (m k : ℕ) (v : List ℕ) → length v ≡ bytes g → look (laid v k m) ≡ look v
  unfolding fold
  run_same look same zero k v size = refl
  run_same look same (suc m) k v size = run_same look same m (suc k) (fill_record g b n r v k) (step_length v size k ∙ size) ∙ same v size k

  run_before : (m k : ℕ) (v : List ℕ) → length v ≡ bytes g → k + m ≤ records g → (j : ℕ) → j < k → record_at g (laid v k m) b j ≡ record_at g v b j
  unfolding fold
  run_before zero k v size h j j< = refl
  run_before (suc m) k v size h j j< =
      let p : j % records g ≡ j = mod-eq_of_lt (omega arith) in
      let q : k % records g ≡ k = mod-eq_of_lt (omega arith) in
      run_before m (suc k) (fill_record g b n r v k) (step_length v size k ∙ size) (omega arith) j (omega arith)
      ∙ step_within v size k j (λ e. let z : j ≡ k = sym p ∙ e ∙ q in omega arith)

  run_record : (m k : ℕ) (v : List ℕ) → length v ≡ bytes g → k + m ≤ records g → (j : ℕ) → k ≤ j → j < k + m → record_at g (laid v k m) b j ≡ piece j
  unfolding fold
  run_record zero k v size h j low high = absurd (omega arith)
  run_record (suc m) k v size h j low high =
      let l = step_length v size k ∙ size in
      go (ℕ_discrete j k) l (λ x. run_record m (suc k) (fill_record g b n r v k) l (omega arith) j x (omega arith))
    where
      go : Dec (j ≡ k) → length (fill_record g b n r v k) ≡ bytes g → (suc k ≤ j → record_at g (laid (fill_record g b n r v k) (suc k) m) b j ≡ piece j)
          → record_at g (laid (fill_record g b n r v k) (suc k) m) b j ≡ piece j
      go (yes z) l later = run_before m (suc k) (fill_record g b n r v k) l (omega arith) j (omega arith) ∙ rw z (step_record v size k)
      go (no z) l later = later (omega arith)

  -- ---- the block filled, or not
  module _ (v : List ℕ) (size : length v ≡ bytes g) where
    -- a record lies where its remainder does
    at_remainder : (w : List ℕ) (m : ℕ) → record_at g w b m ≡ record_at g w b (m % records g)
    unfolding record_at record_start
    at_remainder w m =
        let l = mod-lt m (bounds g good).some_records in
        let z : m % records g % records g ≡ m % records g = mod-eq_of_lt l in
        rw z

    whole_record : (m : ℕ) → record_at g (laid v 0 (records g)) b m ≡ piece (m % records g)
    whole_record m =
        let l = mod-lt m (bounds g good).some_records in
        at_remainder (laid v 0 (records g)) m ∙ run_record (records g) 0 v size (omega arith) (m % records g) (omega arith) (omega arith)

    pub put_filled_length : (fills : Bool) → length (put_filled g fills v b n r) ≡ length v
    unfolding put_filled
    put_filled_length true = run_same length step_length (records g) 0 v size
    put_filled_length false = put_record_length g good v size b n b< r r128

    pub record_put_filled : (fills : Bool) → record_at g (put_filled g fills v b n r) b n ≡ r
    unfolding put_filled
    record_put_filled true = whole_record n ∙ rw (eq-eqb (n % records g) (n % records g) refl)
    record_put_filled false = record_put_record g good v size b n b< r r128

    pub record_put_filled_within : (fills : Bool) (m : ℕ) → m % records g ≢ n % records g
        → record_at g (put_filled g fills v b n r) b m ≡ cond fills (replicate 128 0) (record_at g v b m)
    unfolding put_filled
    record_put_filled_within true m ne = whole_record m ∙ rw (ne_eqb (m % records g) (n % records g) ne)
    record_put_filled_within false m ne = record_put_record_within g good v size b n b< r r128 m ne

    pub record_put_filled_other : (fills : Bool) (c m : ℕ) → c < g.blocks → c ≢ b → record_at g (put_filled g fills v b n r) c m ≡ record_at g v c m
    unfolding put_filled
    record_put_filled_other true c m c< ne = run_same (λ w. record_at g w c m) (λ w s k. step_other w s k c m c< ne) (records g) 0 v size
    record_put_filled_other false c m c< ne = record_put_record_other g good v size b n b< r r128 c m c< ne

    pub slot_put_filled : (fills : Bool) → g.directory_blocks ≤ b → (i : ℕ) → i < slots g → slot_at g (put_filled g fills v b n r) i ≡ slot_at g v i
    unfolding put_filled
    slot_put_filled true low i i< = run_same (λ w. slot_at g w i) (λ w s k. step_slot w s k low i i<) (records g) 0 v size
    slot_put_filled false low i i< = slot_put_record g good v size b n b< r r128 low i i<

    pub byte_put_filled : (fills : Bool) (x : ℕ) → OffBlock g b x → byte (put_filled g fills v b n r) x ≡ byte v x
    unfolding put_filled put_record
    byte_put_filled true x out = run_same (λ w. byte w x) (λ w s k. step_byte w s k x out) (records g) 0 v size
    byte_put_filled false x out = byte_out v (record_start g b n) 128 r (record_inside g good v size b n b<) r128 x (out n)
