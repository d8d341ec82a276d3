-- Laws of a walk along the way of a file's key: an entry of the file stands on it, and where none does, no lower slot has one. What
-- the first entry of a file is.
use mathlib.Core.Path.{◌≡◌, refl, sym, ap, ◌∙◌}
use mathlib.Core.Bool.{Bool, true, false, not, cond, ◌&&◌, true≢false}
use mathlib.Core.Logic.{◌≢◌}
use mathlib.Core.List.{List}
use Prim.Native.Nat.{ℕ, zero, suc, ◌+◌, ◌-◌, ◌/◌, ◌%◌, ◌≤◌, ◌<◌}
use native.Mathlib.Decide.{ℕ_discrete}
use native.Mathlib.Omega.{arith}
use lib.Dec.{eqb, leb}
use borrow.Author.Tests.{eq-eqb, ne_eqb, leb-true, leb-false}
use Rattle.lists.specs.Bounded.{any}
use Rattle.lists.specs.Bytes.{byte}
use Rattle.lists.proofs.BoundedLaws.{any_true, any_false, any_intro, any_none}
use Rattle.disk_geometry.specs.declared.Geometry.{Geometry}
use Rattle.disk_geometry.specs.Geometry.{slots}
use Rattle.disk_volume.specs.declared.Wanted.TheVariants.{File}
use Rattle.disk_volume.specs.Name.{name_of}
use Rattle.disk_volume.specs.Entry.{Entry, is_empty, of_file}
use Rattle.disk_volume.specs.Directory.{slot_at, find_slot}
use Rattle.disk_volume.proofs.FindLaws.{find_is, find_low, found_fits}
use Rattle.files.specs.Files.{is_listed}
use Rattle.files.proofs.FileLaws.{of_file_lem, own_file}
use Rattle.shelf_files.specs.CodeTree.{key_of, rest_of, bit_of, is_like, low_between, way, next_in, Nodes, Ended}
use Rattle.shelf_files.proofs.TreeLaws.{alike_own, low_clear, low_is, listed, key_at, way_on, on_way}

-- how far a walk at s may still go up
abbrev pub behind : ℕ → ℕ → ℕ
behind i s = cond (eqb s 0) 0 (i + 1 - s)

pub behind_less : (i s t : ℕ) → 0 < s → s ≤ i → (0 < t → s < t) → t ≤ i → behind i t < behind i s
behind_less i s zero some low up few = rw (ne_eqb s 0 (omega arith)) (omega arith)
behind_less i s (suc t) some low up few = rw (ne_eqb s 0 (omega arith), ne_eqb (suc t) 0 (omega arith)) (omega (arith, up (omega arith)))

module _ (g : Geometry) (v : List ℕ) (u : ℕ) (name : List ℕ) where
  -- the key of the file, and slot j has its first entry
  abbrev key : ℕ
  key = key_of u name

  abbrev its : ℕ → Bool
  its j = listed g v j && of_file u name (slot_at g v j)

  -- an entry of the file has its key
  pub key_is : (j : ℕ) → of_file u name (slot_at g v j) ≡ true → key_at g v j ≡ key
  key_is j h = let o = of_file_lem u name (slot_at g v j) h in rw (o.user, o.called)

  pub other_file : (j : ℕ) → key_at g v j ≢ key → of_file u name (slot_at g v j) ≡ false
  other_file j k = go (of_file u name (slot_at g v j)) refl
    where
      go : (t : Bool) → of_file u name (slot_at g v j) ≡ t → of_file u name (slot_at g v j) ≡ false
      go false e = e
      go true e = absurd (k (key_is j e))

  not_like : (d j : ℕ) → is_like g v key d j ≡ false → its j ≡ false
  not_like d j h = go (listed g v j) refl (of_file u name (slot_at g v j)) refl
    where
      go : (t : Bool) → listed g v j ≡ t → (x : Bool) → of_file u name (slot_at g v j) ≡ x → (t && x) ≡ false
      go false e x f = refl
      go true e false f = refl
      go true e true f = absurd (true≢false (sym (rw (e, key_is j f, alike_own d key)) ∙ h))

  -- between s and i no slot has it but from t on, where that is the lowest that is like its key
  clear : (d s i t m : ℕ) → low_between (is_like g v key d) s i ≡ t → s ≤ m → m < i → (0 < t → m + 1 < t) → its m ≡ false
  clear d s i zero m e a l f = not_like d m (low_clear (is_like g v key d) s i m e a l)
  clear d s i (suc t) m e a l f = not_like d m ((low_is (is_like g v key d) s i t e).first m a (omega (arith, f (omega arith))))

  -- a walk that is at s; before that it was at `last` and went on by `bit`
  pub record Walk (i s rest last bit : ℕ) : Type 0 where
    pub depth : ℕ
    pub at : way g v i key depth ≡ s
    pub left : rest ≡ rest_of depth key
    pub passed : (m : ℕ) → m < i → (0 < s → m + 1 < s) → its m ≡ false
    pub begun : last ≡ 0 → depth ≡ 0
    pub prior : ℕ
    pub prior_is : 0 < last → depth ≡ suc prior
    pub last_at : 0 < last → way g v i key prior ≡ last
    pub turned : 0 < last → bit ≡ bit_of prior key

  pub walk_start : (i s rest bit : ℕ) → s ≡ way g v i key 0 → rest ≡ key / 65536 → Walk i s rest 0 bit
  unfolding way rest_of
  walk_start i s rest bit e r =
      record {
        depth = 0;
        at = sym e;
        left = r;
        passed = λ m l f. clear 0 0 i s m (sym e) (omega arith) l f;
        begun = λ z. refl;
        prior = 0;
        prior_is = λ h. absurd (omega arith);
        last_at = λ h. absurd (omega arith);
        turned = λ h. absurd (omega arith);
      }

  module _ (i s rest last bit : ℕ) (w : Walk i s rest last bit) (some : 0 < s) where
    at_slot : way g v i key w.depth ≡ suc (s - 1)
    at_slot = let z : s ≡ suc (s - 1) = omega arith in w.at ∙ z

    pub walk_low : s ≤ i
    walk_low = omega (arith, (on_way g v i key w.depth (s - 1) at_slot).below)

    pub walk_listed : listed g v (s - 1) ≡ true
    walk_listed = (on_way g v i key w.depth (s - 1) at_slot).first

    -- a slot of the way that has no entry of the file is passed
    module _ (nodes : List ℕ) (kept : Nodes g v nodes i) (t : ℕ) (is : t ≡ next_in (rest % 2) (byte nodes (s - 1))) where
      next : way g v i key (suc w.depth) ≡ t
      next = sym (is ∙ ap (λ (x : ℕ). next_in (x % 2) (byte nodes (s - 1))) w.left ∙ kept.goes_on key w.depth (s - 1) at_slot)

      low : low_between (is_like g v key (suc w.depth)) s i ≡ t
      low = let z : suc (s - 1) ≡ s = omega arith in rw z at (sym (way_on g v i key w.depth (s - 1) at_slot) ∙ next)

      -- it is higher, or there is none
      pub walk_rises : 0 < t → s < t
      walk_rises h = let z : t ≡ suc (t - 1) = omega arith in omega (arith, (low_is (is_like g v key (suc w.depth)) s i (t - 1) (low ∙ z)).from)

      pub walk_below : t ≤ i
      walk_below = go t low
        where
          go : (x : ℕ) → low_between (is_like g v key (suc w.depth)) s i ≡ x → x ≤ i
          go zero e = omega arith
          go (suc x) e = omega (arith, (low_is (is_like g v key (suc w.depth)) s i x e).below)

      pub walk_next : of_file u name (slot_at g v (s - 1)) ≡ false → Walk i t (rest / 2) s (rest % 2)
      unfolding rest_of
      walk_next miss =
          record {
            depth = suc w.depth;
            at = next;
            left = ap (λ (x : ℕ). x / 2) w.left;
            passed = λ m l f. past m l f (ℕ_discrete m (s - 1));
            begun = λ z. absurd (omega arith);
            prior = w.depth;
            prior_is = λ h. refl;
            last_at = λ h. w.at;
            turned = λ h. ap (λ (x : ℕ). x % 2) w.left;
          }
        where
          and-false : (t : Bool) → (t && false) ≡ false
          and-false true = refl
          and-false false = refl

          higher : (m : ℕ) → m < i → (0 < t → m + 1 < t) → m ≢ s - 1 → (x : Bool) → leb s m ≡ x → its m ≡ false
          higher m l f k true z = clear (suc w.depth) s i t m low (leb-true s m z) l f
          higher m l f k false z = w.passed m l (λ h. omega (arith, leb-false s m z))

          past : (m : ℕ) → m < i → (0 < t → m + 1 < t) → Dec (m ≡ s - 1) → its m ≡ false
          past m l f (yes z) = rw (z, miss) (and-false (listed g v (s - 1)))
          past m l f (no k) = higher m l f k (leb s m) refl

  -- ---- what the walk tells
  pub walk_hit : (i s : ℕ) → 0 < s → s ≤ i → of_file u name (slot_at g v (s - 1)) ≡ true → any i (λ j. of_file u name (slot_at g v j)) ≡ true
  walk_hit i s some low e = any_intro (λ j. of_file u name (slot_at g v j)) 0 i (s - 1) (omega arith) (omega arith) e

  pub walk_end : (i rest last bit : ℕ) → i < slots g → eqb u 229 ≡ false → Walk i 0 rest last bit → any i (λ j. of_file u name (slot_at g v j)) ≡ false
  unfolding is_listed
  walk_end i rest last bit few used w = any_none (λ j. of_file u name (slot_at g v j)) 0 i (λ m a l. at m (omega arith) (of_file u name (slot_at g v m)) refl)
    where
      at : (m : ℕ) → m < i → (t : Bool) → of_file u name (slot_at g v m) ≡ t → of_file u name (slot_at g v m) ≡ false
      at m l false e = e
      at m l true e =
          let f = find_slot g v u name File in
          let low = find_low g v u name File m e in
          let fits = found_fits g v u name File (omega (arith, low)) in
          let o = of_file_lem u name (slot_at g v f) fits in
          let first : (not (is_empty (slot_at g v f)) && eqb (find_slot g v (byte (slot_at g v f) 0) (name_of (slot_at g v f)) File) f) ≡ true = rw (o.user, o.called, used, eq-eqb f f refl) in
          absurd (true≢false (sym (rw (first, fits)) ∙ w.passed f (omega (arith, low)) (λ h. absurd (omega arith))))

  pub walk_ended : (i rest last bit : ℕ) → Walk i 0 rest last bit → Ended g v i key last bit
  walk_ended i rest last bit w =
      record {
        bare = λ z. rw (w.begun z) at w.at;
        depth = w.prior;
        at = w.last_at;
        turn = w.turned;
        none = λ h. rw (w.prior_is h) at w.at;
      }

-- ---- the first entry of its file: no lower slot has one
module _ (g : Geometry) (v : List ℕ) (i : ℕ) (e : Entry) (is : e ≡ slot_at g v i) (i< : i < slots g) (used : is_empty e ≡ false) where
  -- slot j has an entry of the same file
  abbrev same : ℕ → Bool
  same j = of_file (byte e 0) (name_of e) (slot_at g v j)

  pub first_is : is_listed g v e i ≡ not (any i (λ j. of_file (byte e 0) (name_of e) (slot_at g v j)))
  unfolding is_listed
  first_is = go (any i same) refl
    where
      go : (t : Bool) → any i same ≡ t → (not (is_empty e) && eqb (find_slot g v (byte e 0) (name_of e) File) i) ≡ not (any i same)
      go false q =
          let own = find_is g v (byte e 0) (name_of e) File i (record {
            from = omega arith;
            below = omega arith;
            passes = rw (← is) (own_file e);
            first = λ m a b. any_false same 0 i q m a (omega arith);
          }) in
          rw (q, used, eq-eqb (find_slot g v (byte e 0) (name_of e) File) i own)
      go true q =
          let h = any_true same 0 i q in
          let lower = find_low g v (byte e 0) (name_of e) File h.place h.passes in
          rw (q, used, ne_eqb (find_slot g v (byte e 0) (name_of e) File) i (omega (arith, lower, h.below)))
