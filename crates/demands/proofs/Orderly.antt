-- Inspection as facts over a directory, which is a function from slots to entries: each entry is in order, a block stands in
-- one place, two entries of one user, name and group are one. Then the three ways in which calls change a directory and
-- leave it sound: one slot laid anew (make, writes), entries gone (delete), entries changed each for itself (rename,
-- attributes). And the held blocks: exactly those that entries name.
use mathlib.Core.Path.{◌≡◌, refl, sym, ap, ◌∙◌}
use mathlib.Core.Logic.{◌⊎◌, inl, inr, ◌≢◌}
use mathlib.Core.Bool.{Bool, true, false, false≢true}
use mathlib.Core.List.{List}
use Prim.Native.Nat.{ℕ, ◌≤◌, ◌<◌}
use native.Mathlib.Decide.{ℕ_discrete}
use lib.ListN.{length}
use Rattle.disk_geometry.specs.declared.Geometry.{Geometry}
use Rattle.disk_geometry.specs.Geometry.{slots, inside, places}
use Rattle.disk_volume.specs.Name.{name_of, good_name}
use Rattle.disk_volume.specs.Entry.{Entry, is_empty, block_in}
use Rattle.disk_held.specs.Held.{held_words, holds}
use Rattle.disk_rules.specs.GoodSlot.{good_top_bits}
use Rattle.disk_rules.proofs.GoodLaws.{Fields}
use Rattle.disk_rules.proofs.TwinLaws.{Twins}

abbrev pub Directory : Type 0
Directory = ℕ → Entry

abbrev pub Live : Entry → Type 0
Live e = is_empty e ≡ false

-- an entry in order
pub record InOrder (g : Geometry) (e : Entry) : Type 0 where
  pub fields : Fields e
  pub name : good_name false (name_of e) ≡ true
  pub top_bits : good_top_bits e ≡ true
  pub range : (p : ℕ) → p < places g → block_in g e p ≢ 0 → inside g (block_in g e p) ≡ true
  pub once : (p q : ℕ) → p < places g → q < places g → block_in g e p ≢ 0 → block_in g e p ≡ block_in g e q → p ≡ q

pub record Orderly (g : Geometry) (d : Directory) : Type 0 where
  pub order : (i : ℕ) → i < slots g → Live (d i) → InOrder g (d i)
  pub alone : (i j p q : ℕ) → i < slots g → j < slots g → Live (d i) → Live (d j) → p < places g → q < places g
      → block_in g (d i) p ≢ 0 → block_in g (d i) p ≡ block_in g (d j) q → i ≡ j
  pub unlike : (i j : ℕ) → i < slots g → j < slots g → Live (d i) → Live (d j) → Twins g (d i) (d j) → i ≡ j

-- ---- one slot laid anew
pub record Laid (g : Geometry) (d d' : Directory) (i : ℕ) (e : Entry) : Type 0 where
  pub here : d' i ≡ e
  pub there : (j : ℕ) → j < slots g → j ≢ i → d' j ≡ d j

-- what the new entry of slot i owes to the others
pub record Fresh (g : Geometry) (d : Directory) (i : ℕ) (e : Entry) : Type 0 where
  pub blocks : (j p q : ℕ) → j < slots g → j ≢ i → Live (d j) → p < places g → q < places g → block_in g e p ≢ 0 → block_in g e p ≢ block_in g (d j) q
  pub unlike : (j : ℕ) → j < slots g → j ≢ i → Live (d j) → ¬ Twins g e (d j)

flip : {g : Geometry} {e f : Entry} → Twins g e f → Twins g f e
flip k = record { user = sym k.user; name = sym k.name; group = sym k.group }

pub sound_laid : (g : Geometry) (d d' : Directory) (i : ℕ) (e : Entry) → Orderly g d → Laid g d d' i e → InOrder g e → Fresh g d i e → Orderly g d'
sound_laid g d d' i e sound laid order fresh = record { order = order'; alone = alone'; unlike = unlike' }
  where
    order' : (j : ℕ) → j < slots g → Live (d' j) → InOrder g (d' j)
    order' j j< l = go (ℕ_discrete j i)
      where
        go : Dec (j ≡ i) → InOrder g (d' j)
        go (yes z) = rw (z, laid.here) order
        go (no z) = rw (laid.there j j< z) (sound.order j j< (rw (laid.there j j< z) at l))

    alone' : (j k p q : ℕ) → j < slots g → k < slots g → Live (d' j) → Live (d' k) → p < places g → q < places g → block_in g (d' j) p ≢ 0 → block_in g (d' j) p ≡ block_in g (d' k) q → j ≡ k
    alone' j k p q j< k< lj lk p< q< nz same = go (ℕ_discrete j i) (ℕ_discrete k i)
      where
        go : Dec (j ≡ i) → Dec (k ≡ i) → j ≡ k
        go (yes y) (yes z) = y ∙ sym z
        go (yes y) (no z) =
            let a : d' j ≡ e = ap d' y ∙ laid.here in
            let b : d' k ≡ d k = laid.there k k< z in
            absurd (fresh.blocks k p q k< z (rw b at lk) p< q< (rw a at nz) (rw (a, b) at same))
        go (no y) (yes z) =
            let a : d' j ≡ d j = laid.there j j< y in
            let b : d' k ≡ e = ap d' z ∙ laid.here in
            let same' : block_in g (d j) p ≡ block_in g e q = rw (a, b) at same in
            let nz' : block_in g (d j) p ≢ 0 = rw a at nz in
            absurd (fresh.blocks j q p j< y (rw a at lj) q< p< (λ o. nz' (same' ∙ o)) (sym same'))
        go (no y) (no z) =
            let a : d' j ≡ d j = laid.there j j< y in
            let b : d' k ≡ d k = laid.there k k< z in
            sound.alone j k p q j< k< (rw a at lj) (rw b at lk) p< q< (rw a at nz) (rw (a, b) at same)

    unlike' : (j k : ℕ) → j < slots g → k < slots g → Live (d' j) → Live (d' k) → Twins g (d' j) (d' k) → j ≡ k
    unlike' j k j< k< lj lk same = go (ℕ_discrete j i) (ℕ_discrete k i)
      where
        go : Dec (j ≡ i) → Dec (k ≡ i) → j ≡ k
        go (yes y) (yes z) = y ∙ sym z
        go (yes y) (no z) =
            let a : d' j ≡ e = ap d' y ∙ laid.here in
            let b : d' k ≡ d k = laid.there k k< z in
            absurd (fresh.unlike k k< z (rw b at lk) (rw (a, b) at same))
        go (no y) (yes z) =
            let a : d' j ≡ d j = laid.there j j< y in
            let b : d' k ≡ e = ap d' z ∙ laid.here in
            absurd (fresh.unlike j j< y (rw a at lj) (flip (rw (a, b) at same)))
        go (no y) (no z) =
            let a : d' j ≡ d j = laid.there j j< y in
            let b : d' k ≡ d k = laid.there k k< z in
            sound.unlike j k j< k< (rw a at lj) (rw b at lk) (rw (a, b) at same)

-- ---- some entries gone, the others as they were
pub sound_less : (g : Geometry) (d d' : Directory) → Orderly g d → ((j : ℕ) → j < slots g → Live (d' j) → d' j ≡ d j) → Orderly g d'
sound_less g d d' sound h = record {
  order = λ j j< l. let a : d' j ≡ d j = h j j< l in rw a (sound.order j j< (rw a at l));
  alone = λ j k p q j< k< lj lk p< q< nz same.
      let a : d' j ≡ d j = h j j< lj in
      let b : d' k ≡ d k = h k k< lk in
      sound.alone j k p q j< k< (rw a at lj) (rw b at lk) p< q< (rw a at nz) (rw (a, b) at same);
  unlike = λ j k j< k< lj lk same.
      let a : d' j ≡ d j = h j j< lj in
      let b : d' k ≡ d k = h k k< lk in
      sound.unlike j k j< k< (rw a at lj) (rw b at lk) (rw (a, b) at same);
}

-- ---- every entry changed for itself, no block and no empty slot among the changes
pub record Changed (g : Geometry) (d d' : Directory) : Type 0 where
  pub empty : (j : ℕ) → j < slots g → is_empty (d' j) ≡ is_empty (d j)
  pub blocks : (j p : ℕ) → j < slots g → p < places g → block_in g (d' j) p ≡ block_in g (d j) p
  pub order : (j : ℕ) → j < slots g → Live (d j) → InOrder g (d j) → InOrder g (d' j)
  pub twins : (i j : ℕ) → i < slots g → j < slots g → Live (d i) → Live (d j) → Twins g (d' i) (d' j) → Twins g (d i) (d j)

pub sound_changed : (g : Geometry) (d d' : Directory) → Orderly g d → Changed g d d' → Orderly g d'
sound_changed g d d' sound k = record {
  order = λ j j< l. let l₀ : Live (d j) = sym (k.empty j j<) ∙ l in k.order j j< l₀ (sound.order j j< l₀);
  alone = λ i j p q i< j< li lj p< q< nz s.
      let a : block_in g (d' i) p ≡ block_in g (d i) p = k.blocks i p i< p< in
      let b : block_in g (d' j) q ≡ block_in g (d j) q = k.blocks j q j< q< in
      sound.alone i j p q i< j< (sym (k.empty i i<) ∙ li) (sym (k.empty j j<) ∙ lj) p< q< (λ o. nz (a ∙ o)) (sym a ∙ s ∙ b);
  unlike = λ i j i< j< li lj s.
      let x : Live (d i) = sym (k.empty i i<) ∙ li in
      let y : Live (d j) = sym (k.empty j j<) ∙ lj in
      sound.unlike i j i< j< x y (k.twins i j i< j< x y s);
}

-- ---- the held blocks
-- block b is in place `place` of the entry in slot `slot`
pub record HeldBy (g : Geometry) (d : Directory) (b : ℕ) : Type 0 where
  pub slot : ℕ
  pub place : ℕ
  pub slot< : slot < slots g
  pub place< : place < places g
  pub live : Live (d slot)
  pub is : block_in g (d slot) place ≡ b

-- of the blocks from D to T-1, these words hold exactly those that entries name
pub record Held (g : Geometry) (held : List ℕ) (d : Directory) : Type 0 where
  pub size : length held ≡ held_words
  pub sound : (b : ℕ) → g.directory_blocks ≤ b → b < g.blocks → holds held b ≡ true → HeldBy g d b
  pub whole : (b : ℕ) → g.directory_blocks ≤ b → b < g.blocks → HeldBy g d b → holds held b ≡ true

-- two states that hold the directory's blocks hold the same
pub held_agree : (g : Geometry) (h k : List ℕ) (d : Directory) → Held g h d → Held g k d → (b : ℕ) → g.directory_blocks ≤ b → b < g.blocks → holds h b ≡ holds k b
held_agree g h k d x y b low high = go (holds h b) refl (holds k b) refl
  where
    go : (s : Bool) → holds h b ≡ s → (t : Bool) → holds k b ≡ t → holds h b ≡ holds k b
    go true p t q = p ∙ sym (y.whole b low high (x.sound b low high p))
    go false p false q = p ∙ sym q
    go false p true q = absurd (false≢true (sym p ∙ x.whole b low high (y.sound b low high q)))

pub held_changed : (g : Geometry) (h : List ℕ) (d d' : Directory) → Changed g d d' → Held g h d → Held g h d'
held_changed g h d d' k x = record {
  size = x.size;
  sound = λ b low high t. forth b (x.sound b low high t);
  whole = λ b low high w. x.whole b low high (back b w);
}
  where
    forth : (b : ℕ) → HeldBy g d b → HeldBy g d' b
    forth b w = record { slot = w.slot; place = w.place; slot< = w.slot<; place< = w.place<; live = k.empty w.slot w.slot< ∙ w.live; is = k.blocks w.slot w.place w.slot< w.place< ∙ w.is }

    back : (b : ℕ) → HeldBy g d' b → HeldBy g d b
    back b w = record { slot = w.slot; place = w.place; slot< = w.slot<; place< = w.place<; live = sym (k.empty w.slot w.slot<) ∙ w.live; is = sym (k.blocks w.slot w.place w.slot< w.place<) ∙ w.is }

-- ---- held blocks where one slot is laid anew
-- the entry has block b
pub record InMap (g : Geometry) (e : Entry) (b : ℕ) : Type 0 where
  pub place : ℕ
  pub place< : place < places g
  pub is : block_in g e place ≡ b

-- what the new words h' owe to the old ones and to the new entry e of slot i
pub record HeldAnew (g : Geometry) (h h' : List ℕ) (d : Directory) (i : ℕ) (e : Entry) : Type 0 where
  pub size : length h' ≡ held_words
  pub live : Live e
  pub stays : (b : ℕ) → holds h b ≡ true → holds h' b ≡ true
  pub only : (b : ℕ) → g.directory_blocks ≤ b → b < g.blocks → holds h' b ≡ true → (holds h b ≡ true) ⊎ InMap g e b
  pub keeps : (p : ℕ) → p < places g → Live (d i) → g.directory_blocks ≤ block_in g (d i) p → InMap g e (block_in g (d i) p)
  pub holds_all : (p : ℕ) → p < places g → g.directory_blocks ≤ block_in g e p → block_in g e p < g.blocks → holds h' (block_in g e p) ≡ true

pub held_laid : (g : Geometry) (h h' : List ℕ) (d d' : Directory) (i : ℕ) (e : Entry) → i < slots g → Held g h d → Laid g d d' i e → HeldAnew g h h' d i e → Held g h' d'
held_laid g h h' d d' i e i< held laid anew = record { size = anew.size; sound = sound; whole = whole }
  where
    at_i : (b : ℕ) → InMap g e b → HeldBy g d' b
    at_i b m = record { slot = i; place = m.place; slot< = i<; place< = m.place<; live = rw laid.here anew.live; is = rw laid.here m.is }

    sound : (b : ℕ) → g.directory_blocks ≤ b → b < g.blocks → holds h' b ≡ true → HeldBy g d' b
    sound b low high t = go (anew.only b low high t)
      where
        via : HeldBy g d b → HeldBy g d' b
        via w = at (ℕ_discrete w.slot i)
          where
            at : Dec (w.slot ≡ i) → HeldBy g d' b
            at (no z) =
                let s : d' w.slot ≡ d w.slot = laid.there w.slot w.slot< z in
                record { slot = w.slot; place = w.place; slot< = w.slot<; place< = w.place<; live = rw s w.live; is = rw s w.is }
            at (yes z) =
                let x : block_in g (d i) w.place ≡ b = ap (λ (k : ℕ). block_in g (d k) w.place) (sym z) ∙ w.is in
                let l : Live (d i) = ap (λ (k : ℕ). is_empty (d k)) (sym z) ∙ w.live in
                let m = anew.keeps w.place w.place< l (rw x low) in
                at_i b (record { place = m.place; place< = m.place<; is = m.is ∙ x })

        go : (holds h b ≡ true) ⊎ InMap g e b → HeldBy g d' b
        go (inl q) = via (held.sound b low high q)
        go (inr m) = at_i b m

    whole : (b : ℕ) → g.directory_blocks ≤ b → b < g.blocks → HeldBy g d' b → holds h' b ≡ true
    whole b low high w = at (ℕ_discrete w.slot i)
      where
        at : Dec (w.slot ≡ i) → holds h' b ≡ true
        at (no z) =
            let s : d' w.slot ≡ d w.slot = laid.there w.slot w.slot< z in
            anew.stays b (held.whole b low high (record { slot = w.slot; place = w.place; slot< = w.slot<; place< = w.place<; live = rw s at w.live; is = rw s at w.is }))
        at (yes z) =
            let x : block_in g e w.place ≡ b = ap (λ (f : Entry). block_in g f w.place) (sym (ap d' z ∙ laid.here)) ∙ w.is in
            ap (holds h') (sym x) ∙ anew.holds_all w.place w.place< (rw x low) (rw x high)
