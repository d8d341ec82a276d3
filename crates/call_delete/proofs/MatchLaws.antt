-- An entry that matches and names a block: by what, and in which place of its map.
use mathlib.Core.Path.{◌≡◌}
use mathlib.Core.Bool.{true, false}
use mathlib.Core.List.{List}
use Prim.Native.Nat.{ℕ, ◌≤◌, ◌<◌}
use native.Mathlib.Omega.{arith}
use lib.Dec.{eqb}
use borrow.Author.Tests.{eqb-true, eq-eqb, ne_eqb}
use Rattle.lists.specs.Bytes.{byte}
use Rattle.lists.proofs.BoolLaws.{and_left, and_parts}
use Rattle.lists.proofs.BoundedLaws.{any_true, any_intro}
use Rattle.disk_geometry.specs.declared.Geometry.{Geometry}
use Rattle.disk_geometry.specs.Geometry.{places}
use Rattle.disk_volume.specs.Fields.{USER, EMPTY}
use Rattle.disk_volume.specs.Name.{name_of, like}
use Rattle.disk_volume.specs.Entry.{Entry, is_empty, block_in, matches}
use Rattle.disk_volume.specs.Directory.{slot_at}
use Rattle.disk_rules.specs.GoodSlot.{in_places, names_block}
use Rattle.call_delete.specs.Freed.{match_names}

module _ (u : ℕ) (u15 : u ≤ 15) (pattern : List ℕ) (e : Entry) (hit : matches u pattern e ≡ true) where
  -- an entry that matches is a user's, so its slot is not empty
  pub match_used : is_empty e ≡ false
  unfolding matches
  match_used =
      let user = eqb-true (byte e USER) u (and_left (eqb (byte e USER) u) (like (name_of e) pattern) hit) in
      ne_eqb (byte e USER) EMPTY (omega arith)

  pub match_names_lem : (g : Geometry) (b : ℕ) → names_block g e b ≡ in_places g e (places g) b
  unfolding names_block
  match_names_lem g b = rw match_used

pub record MatchAt (g : Geometry) (v : List ℕ) (u : ℕ) (pattern : List ℕ) (b i : ℕ) : Type 0 where
  pub hit : matches u pattern (slot_at g v i) ≡ true
  pub place : ℕ
  pub in_map : place < places g
  pub is : block_in g (slot_at g v i) place ≡ b

module _ (g : Geometry) (v : List ℕ) (u : ℕ) (u15 : u ≤ 15) (pattern : List ℕ) (b i : ℕ) where
  pub match_at : match_names g v u pattern b i ≡ true → MatchAt g v u pattern b i
  unfolding match_names in_places
  match_at h =
      let e = slot_at g v i in
      let m = and_parts (matches u pattern e) (names_block g e b) h in
      let p = any_true (λ q. eqb (block_in g e q) b) 0 (places g) (rw (match_names_lem u u15 pattern e m.0 g b) at m.1) in
      record { hit = m.0; place = p.place; in_map = omega (arith, p.below); is = eqb-true (block_in g e p.place) b p.passes }

  pub at_match : MatchAt g v u pattern b i → match_names g v u pattern b i ≡ true
  unfolding match_names in_places
  at_match a =
      let e = slot_at g v i in
      rw (a.hit, match_names_lem u u15 pattern e a.hit g b)
      (any_intro (λ q. eqb (block_in g e q) b) 0 (places g) a.place (omega arith) (omega (arith, a.in_map)) (eq-eqb (block_in g e a.place) b a.is))
