-- The directory as runs of entries: of a straight volume it is one run, of any volume a record is a run of four.
use mathlib.Core.Path.{◌≡◌, refl, sym, ap, ◌∙◌}
use mathlib.Core.Bool.{Bool, true, false}
use mathlib.Core.Logic.{◌≢◌}
use mathlib.Core.List.{List}
use Prim.Native.Nat.{ℕ, ◌+◌, ◌-◌, ◌*◌, ◌/◌, ◌%◌, ◌≤◌, ◌<◌}
use native.Mathlib.Omega.{arith}
use lib.Dec.{ltb}
use lib.ListN.{length, take, drop}
use borrow.Author.Tests.{ltb-true, ltb-false}
use Rattle.lists.specs.Bounded.{low_from}
use Rattle.lists.specs.Bytes.{part}
use Rattle.lists.proofs.PartLaws.{length_part, part_part}
use Rattle.lists.proofs.BoundedLaws.{Searched, searched_over, low_le, low_hit, low_miss, low_ext}
use Rattle.disk_geometry.specs.declared.Geometry.{Geometry}
use Rattle.disk_geometry.specs.Geometry.{floppy, lawful, bytes, slots, start, slot_start}
use Rattle.disk_geometry.proofs.GeometryLaws.{bounds, placed_floppy, is_the_floppy, bytes_straight, slot_straight, start_in, slot_record_below}
use Rattle.disk_volume.specs.declared.Wanted.{Wanted}
use Rattle.disk_volume.specs.Directory.{fits, slot_fits, slot_at, find_from}
use Rattle.disk_volume.specs.CodeRun.{run_entries, run_fits, find_in}

whole_run : (v : List ℕ) (n m : ℕ) → n ≡ m → take (n * 32 - 0) (drop 0 v) ≡ part v 0 (m * 32)
unfolding part
whole_run v n m e = let z : n * 32 - 0 ≡ m * 32 = omega arith in rw z

-- ---- an eight-inch disk
pub the_floppy : (g : Geometry) → lawful g ≡ true → g.placing ≢ 0 → g ≡ floppy
the_floppy g good ne = is_the_floppy g (placed_floppy g good ne)

pub of_floppy : (g : Geometry) → g ≡ floppy → lawful g ≡ true → (v : List ℕ) → length v ≡ bytes g → (lawful floppy ≡ true) × (length v ≡ bytes floppy)
of_floppy g e good v size = (ap lawful (sym e) ∙ good, size ∙ ap bytes e)

module _ (g : Geometry) (good : lawful g ≡ true) (v : List ℕ) (size : length v ≡ bytes g) (u : ℕ) (name : List ℕ) (w : Wanted) where
  -- ---- a straight volume
  pub directory_inside : g.placing ≡ 0 → 0 + slots g * 32 ≤ length v
  directory_inside e = rw (size, bytes_straight g e) (omega (arith, bounds g good))

  pub find_in_straight : g.placing ≡ 0 → (i : ℕ) → find_in g (part v 0 (slots g * 32)) u name w i ≡ find_from g v u name w i
  unfolding slot_at
  find_in_straight e i =
      let n : length (part v 0 (slots g * 32)) / 32 ≡ slots g = rw (length_part v 0 (slots g * 32) (directory_inside e)) (omega arith) in
      rw n
      (low_ext (run_fits g (part v 0 (slots g * 32)) u name w) (slot_fits g v u name w) i (slots g - i)
      (λ m low high.
      let at : 0 + m * 32 ≡ slot_start g m = omega (arith, slot_straight g good m e) in
      ap (fits g u name w) (part_part v 0 (slots g * 32) (directory_inside e) (m * 32) 32 (omega arith) ∙ ap (λ (a : ℕ). part v a 32) at)))

  -- the same, as code is lent the run, which is one of whole entries
  pub run_whole : g.placing ≡ 0 → (n : ℕ) → n ≡ slots g → length (take (n * 32 - 0) (drop 0 v)) % 32 ≡ 0
  run_whole e n is = rw (whole_run v n (slots g) is, length_part v 0 (slots g * 32) (directory_inside e)) (omega arith)

  pub found_straight : g.placing ≡ 0 → (n i r : ℕ) → n ≡ slots g
      → (r ≡ find_in g (take (n * 32 - 0) (drop 0 v)) u name w i) × (r ≤ run_entries (take (n * 32 - 0) (drop 0 v)))
      → (r ≡ find_from g v u name w i) × (r ≤ slots g)
  found_straight e n i r is f =
      let z : take (n * 32 - 0) (drop 0 v) ≡ part v 0 (slots g * 32) = whole_run v n (slots g) is in
      let k : r ≤ length (part v 0 (slots g * 32)) / 32 = rw z at f.1 in
      (rw z at f.0 ∙ find_in_straight e i, omega (arith, length_part v 0 (slots g * 32) (directory_inside e)))

  -- ---- a directory record
  -- entry k of the record that holds slot i
  pub record_fits : (i k : ℕ) → i < slots g → k < 4 → run_fits g (part v (start g (i / 4)) 128) u name w k ≡ slot_fits g v u name w (i / 4 * 4 + k)
  unfolding slot_at slot_start
  record_fits i k i< k< =
      let q : (i / 4 * 4 + k) / 4 ≡ i / 4 = omega arith in
      let r : (i / 4 * 4 + k) % 4 ≡ k = omega arith in
      rw (q, r) (ap (fits g u name w) (part_part v (start g (i / 4)) 128 (rw size (start_in g good (i / 4) (slot_record_below g good i i<))) (k * 32) 32 (omega arith)))

  -- what a look at that record from slot i on finds: none of the slots passed has what is wanted, and the one where it ends does
  pub record Looked (i k : ℕ) : Type 0 where
    pub up : i ≤ i / 4 * 4 + k
    pub in_record : k ≤ 4
    pub passed : (m : ℕ) → i ≤ m → m < i / 4 * 4 + k → slot_fits g v u name w m ≡ false
    pub hit : k < 4 → slot_fits g v u name w (i / 4 * 4 + k) ≡ true

  pub looked : (i k : ℕ) → i < slots g → k ≡ find_in g (part v (start g (i / 4)) 128) u name w (i % 4) → Looked i k
  looked i k i< e = go (ltb k (i % 4 + (4 - i % 4))) refl
    where
      p : ℕ → Bool
      p = run_fits g (part v (start g (i / 4)) 128) u name w

      is : low_from p (i % 4) (4 - i % 4) ≡ k
      is =
          let n : length (part v (start g (i / 4)) 128) / 32 ≡ 4 = rw (length_part v (start g (i / 4)) 128 (rw size (start_in g good (i / 4) (slot_record_below g good i i<)))) in
          sym (rw n at e)

      below : (m : ℕ) → m < k → k ≤ 4 → i ≤ i / 4 * 4 + m → p m ≡ false → slot_fits g v u name w (i / 4 * 4 + m) ≡ false
      below m m< k4 low f = sym (record_fits i m i< (omega arith)) ∙ f

      again : (q : ℕ → Type 0) (m : ℕ) → i ≤ m → ((j : ℕ) → i / 4 * 4 + j ≡ m → q (i / 4 * 4 + j)) → q m
      again q m low f = let z : i / 4 * 4 + (m - i / 4 * 4) ≡ m = omega arith in rw z at (f (m - i / 4 * 4) z)

      go : (t : Bool) → ltb k (i % 4 + (4 - i % 4)) ≡ t → Looked i k
      go true q =
          let l = low_hit p (i % 4) (4 - i % 4) k is (ltb-true _ _ q) in
          record {
            up = omega (arith, l.from);
            in_record = omega (arith, l.below);
            passed = λ m low high. again (λ x. slot_fits g v u name w x ≡ false) m low (λ j z. below j (omega arith) (omega (arith, l.below)) (omega arith) (l.first j (omega arith) (omega arith)));
            hit = λ k4. sym (record_fits i k i< k4) ∙ l.passes;
          }
      go false q =
          let all : k ≤ i % 4 + (4 - i % 4) = rw is at (low_le p (i % 4) (4 - i % 4)) in
          let none : i % 4 + (4 - i % 4) ≤ low_from p (i % 4) (4 - i % 4) = rw is (ltb-false _ _ q) in
          record {
            up = omega (arith, ltb-false k (i % 4 + (4 - i % 4)) q);
            in_record = omega arith;
            passed = λ m low high. again (λ x. slot_fits g v u name w x ≡ false) m low (λ j z. below j (omega arith) (omega arith) (omega arith) (low_miss p (i % 4) (4 - i % 4) none j (omega arith) (omega arith)));
            hit = λ k4. absurd (omega (arith, ltb-false k (i % 4 + (4 - i % 4)) q));
          }

  -- so a search that has come to slot i goes on behind the slots that were looked at
  pub searched_record : {from i k : ℕ} → Searched (slot_fits g v u name w) from (slots g) i → i < slots g → Looked i k
      → Searched (slot_fits g v u name w) from (slots g) (i / 4 * 4 + k)
  searched_record {from} {i} {k} s i< l =
      let z : i + (i / 4 * 4 + k - i) ≡ i / 4 * 4 + k = omega (arith, l.up) in
      rw z at (searched_over (i / 4 * 4 + k - i) s (omega (arith, l.up, l.in_record)) (λ m low high. l.passed m low (omega (arith, l.up))))
