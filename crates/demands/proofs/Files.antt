-- A file is a user and a name: what it means that an entry is one of a file's, and that a call names another file.
use mathlib.Core.Path.{◌≡◌, refl, sym, ◌∙◌}
use mathlib.Core.Bool.{Bool, true, false, ◌&&◌, true≢false}
use mathlib.Core.List.{List}
use mathlib.Core.Logic.{◌≢◌}
use Prim.Native.Nat.{ℕ, ◌≤◌, ◌<◌}
use native.Mathlib.Omega.{arith}
use lib.Dec.{eqb}
use borrow.Author.Tests.{eqb-true, eq-eqb, ne_eqb}
use Rattle.lists.specs.Bytes.{byte}
use Rattle.lists.proofs.BoolLaws.{and_parts}
use Rattle.disk_volume.specs.Name.{name_of, same, like}
use Rattle.disk_geometry.specs.declared.Geometry.{Geometry}
use Rattle.disk_geometry.specs.Geometry.{slots, places}
use Rattle.disk_volume.specs.Entry.{Entry, block_in, of_file, matches}
use Rattle.disk_volume.specs.Directory.{slot_at}
use Rattle.disk_volume.proofs.NameLaws.{same_refl, same_true}
use Rattle.disk_geometry.proofs.InsideLaws.{inside_is}
use Rattle.demands.proofs.Orderly.{Live, Orderly}

pub record IsOf (u : ℕ) (name : List ℕ) (e : Entry) : Type 0 where
  pub user : byte e 0 ≡ u
  pub name_is : name_of e ≡ name

pub is_of : (u : ℕ) (name : List ℕ) (e : Entry) → of_file u name e ≡ true → IsOf u name e
unfolding of_file
is_of u name e h =
    let p = and_parts (eqb (byte e 0) u) (same (name_of e) name) h in
    record { user = eqb-true (byte e 0) u p.0; name_is = same_true (name_of e) name p.1 }

pub of_file_lem : (u : ℕ) (name : List ℕ) (e : Entry) → IsOf u name e → of_file u name e ≡ true
unfolding of_file
of_file_lem u name e k = rw (eq-eqb (byte e 0) u k.user, k.name_is) (same_refl name)

pub not_file : (u : ℕ) (name : List ℕ) (e : Entry) → ¬ IsOf u name e → of_file u name e ≡ false
not_file u name e h = go (of_file u name e) refl
  where
    go : (t : Bool) → of_file u name e ≡ t → t ≡ false
    go false q = refl
    go true q = absurd (h (is_of u name e q))

-- an entry of the user w under the name own is none of a file that the call does not name
pub other_file : (w : ℕ) (own : List ℕ) (u : ℕ) (name : List ℕ) (e : Entry) → (eqb u w && same name own) ≡ false → byte e 0 ≡ w → name_of e ≡ own → of_file u name e ≡ false
other_file w own u name e h x y = not_file u name e no
  where
    no : ¬ IsOf u name e
    no k =
        let z : (eqb u w && same name own) ≡ true = rw (eq-eqb u w (sym k.user ∙ x), sym k.name_is ∙ y) (same_refl own) in
        true≢false (sym z ∙ h)

-- the same of a pattern
pub record Matched (u : ℕ) (pattern : List ℕ) (e : Entry) : Type 0 where
  pub user : byte e 0 ≡ u
  pub liked : like (name_of e) pattern ≡ true

pub matched : (u : ℕ) (pattern : List ℕ) (e : Entry) → matches u pattern e ≡ true → Matched u pattern e
unfolding matches
matched u pattern e h =
    let p = and_parts (eqb (byte e 0) u) (like (name_of e) pattern) h in
    record { user = eqb-true (byte e 0) u p.0; liked = p.1 }

pub other_match : (w : ℕ) (pattern : List ℕ) (u : ℕ) (name : List ℕ) (e : Entry) → (eqb u w && like name pattern) ≡ false → Matched w pattern e → of_file u name e ≡ false
other_match w pattern u name e h m = not_file u name e no
  where
    no : ¬ IsOf u name e
    no k =
        let z : (eqb u w && like name pattern) ≡ true = rw (eq-eqb u w (sym k.user ∙ m.user), ← k.name_is) m.liked in
        true≢false (sym z ∙ h)

-- ---- the entries of a user's file are not empty, and their blocks are from D to T-1
pub user_live : (e : Entry) → byte e 0 ≤ 15 → Live e
user_live e h = ne_eqb (byte e 0) 229 (omega arith)

pub file_live : (u : ℕ) (name : List ℕ) (e : Entry) → u ≤ 15 → of_file u name e ≡ true → Live e
file_live u name e u15 own = user_live e (omega (arith, (is_of u name e own).user))

pub file_block : (g : Geometry) (v : List ℕ) → Orderly g (slot_at g v) → (u : ℕ) (name : List ℕ) → u ≤ 15 → (j p : ℕ) → j < slots g → p < places g
    → of_file u name (slot_at g v j) ≡ true → block_in g (slot_at g v j) p ≢ 0 → (g.directory_blocks ≤ block_in g (slot_at g v j) p) × (block_in g (slot_at g v j) p < g.blocks)
file_block g v sound u name u15 j p j< p< own nz =
    inside_is g (block_in g (slot_at g v j) p) ((sound.order j j< (file_live u name (slot_at g v j) u15 own)).range p p< nz)

-- an empty slot is none of a user's file
pub empty_foreign : (u : ℕ) (name : List ℕ) (e : Entry) → u ≤ 15 → eqb (byte e 0) 229 ≡ true → of_file u name e ≡ false
empty_foreign u name e u15 h = not_file u name e (λ k. let z = eqb-true (byte e 0) 229 h in omega (arith, k.user))
