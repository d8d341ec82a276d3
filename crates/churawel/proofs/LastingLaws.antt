-- Every call leaves a state that is carried and open: by the changes of state that its act can make.
use mathlib.Core.Path.{◌≡◌, refl, sym, ap, ◌∙◌}
use mathlib.Core.Bool.{Bool, true, false, not, cond, ◌&&◌, ◌||◌, true≢false}
use mathlib.Core.List.{List}
use Prim.Native.Nat.{ℕ, zero, suc, ◌*◌, ◌≤◌, ◌<◌}
use native.Mathlib.Omega.{arith}
use lib.Dec.{leb, ltb, eqb}
use lib.ListN.{length}
use borrow.Author.Tests.{leb-false, le-leb, ltb-false}
use Rattle.lists.specs.Bounded.{fold}
use Rattle.lists.specs.Bytes.{byte, part}
use Rattle.lists.proofs.PartLaws.{part_part, byte_part}
use Rattle.disk_geometry.specs.declared.Geometry.{Geometry}
use Rattle.disk_geometry.specs.Geometry.{lawful, blocks, slots, inside, places}
use Rattle.disk_volume.specs.Name.{name_at, name_of, good_name}
use Rattle.disk_volume.specs.Entry.{Entry, block_in, matches}
use Rattle.disk_volume.specs.Directory.{slot_at}
use Rattle.disk_geometry.proofs.GeometryLaws.{bounds}
use Rattle.disk_geometry.proofs.InsideLaws.{inside_is}
use Rattle.call_answers.specs.declared.Refusal.{Refusal}
use Rattle.call_answers.specs.Refusal.{Test, is_none, first_met}
use Rattle.disk_held.specs.Held.{word_bits}
use Rattle.disk_held.proofs.WordsLaws.{FirstWords, first_release}
use Rattle.call_delete.specs.Delete.{free_place, free_entry, free_slot, free_matches}
use Rattle.call_search.specs.Search.{pattern_of}
use Rattle.disk_stores.specs.Stores.{Store}
use Rattle.filecalls.specs.declared.KeptSearch.{KeptSearch}
use Rattle.filecalls.specs.declared.Drive.{Drive}
use Rattle.filecalls.specs.State.{good_pattern, good_kept, is_open}
use Rattle.filecalls.specs.Outcome.{with_held, with_user, with_protection, with_search, Change, Act, deny, done, unless, changed_state, outcome}
use Rattle.filecalls.specs.Search.{is_kept}
use Rattle.filecalls.proofs.StateLaws.{is_open_lem}
use Rattle.drive_bytes.specs.Layout.{stored_words}
use Rattle.drive_bytes.specs.RoundTrip.{Carried}
use Rattle.drive_bytes.proofs.LentLaws.{stored_room}

-- a state that is carried and open
pub record Lasts (d : Drive) : Type 0 where
  pub carried : Carried d
  pub opens : is_open d ≡ true

-- ---- the held words
fold_keeps : (P : List ℕ → Type 0) (step : List ℕ → ℕ → List ℕ) → ((l : List ℕ) (i : ℕ) → P l → P (step l i))
    → (l : List ℕ) (i k : ℕ) → P l → P (fold step l i k)
unfolding fold
fold_keeps P step keep l i zero w = w
fold_keeps P step keep l i (suc k) w = fold_keeps P step keep (step l i) (suc i) k (keep l i w)

cond_keeps : (P : List ℕ → Type 0) (t : Bool) (l m : List ℕ) → (t ≡ true → P l) → P m → P (cond t l m)
cond_keeps P true l m w x = w refl
cond_keeps P false l m w x = x

-- a state's words, those zero that a drive of so many blocks does not store
abbrev pub StoredOf : Geometry → List ℕ → Type 0
StoredOf g held = FirstWords (stored_words (blocks g)) held

-- a block below T stands in a word that is stored
pub block_room : (g : Geometry) → lawful g ≡ true → (b : ℕ) → b < blocks g → b < word_bits * stored_words (blocks g)
block_room g law b h = omega (arith, h, stored_room (blocks g) (bounds g law).blocks_high)

pub words_free : (g : Geometry) → lawful g ≡ true → (v : List ℕ) (u : ℕ) (pattern held : List ℕ) → StoredOf g held → StoredOf g (free_matches g v u pattern held)
unfolding free_matches
words_free g law v u pattern held w = fold_keeps (StoredOf g) (free_slot g v u pattern) slot held 0 (slots g) w
  where
    place : (e : Entry) (l : List ℕ) (p : ℕ) → StoredOf g l → StoredOf g (free_place g e l p)
    place e l p x =
        unfold free_place in cond_keeps (StoredOf g) (inside g (block_in g e p)) _ l
        (λ h. first_release (stored_words (blocks g)) l (block_in g e p) (block_room g law (block_in g e p) (inside_is g (block_in g e p) h).1) x) x

    entry : (e : Entry) (l : List ℕ) → StoredOf g l → StoredOf g (free_entry g e l)
    entry e l x = unfold free_entry in fold_keeps (StoredOf g) (free_place g e) (λ m p y. place e m p y) l 0 (places g) x

    slot : (l : List ℕ) (i : ℕ) → StoredOf g l → StoredOf g (free_slot g v u pattern l i)
    slot l i x = unfold free_slot in cond_keeps (StoredOf g) (matches u pattern (slot_at g v i)) _ l (λ h. entry (slot_at g v i) l x) x

-- ---- the changes of a state
pub words_of : (d : Drive) → Carried d → StoredOf d.geometry d.held
words_of d c = record { words = record { size = c.all_words; small = c.words }; rest = c.rest }

module _ (d : Drive) (l : Lasts d) where
  pub held_lasts : (held : List ℕ) → StoredOf d.geometry held → Lasts (with_held d held)
  unfolding is_open
  held_lasts held w =
      let c = l.carried in
      record {
        carried = record { geometry = c.geometry; last = c.last; pattern = c.pattern; all_words = w.words.size; words = w.words.small; rest = w.rest; idle = c.idle };
        opens = l.opens;
      }

  pub protects_lasts : Lasts (with_protection d)
  unfolding is_open
  protects_lasts =
      let c = l.carried in
      record {
        carried = record { geometry = c.geometry; last = c.last; pattern = c.pattern; all_words = c.all_words; words = c.words; rest = c.rest; idle = c.idle };
        opens = l.opens;
      }

  pub user_lasts : (u : ℕ) → u ≤ 15 → Lasts (with_user d u)
  user_lasts u h =
      let c = l.carried in
      let o = is_open_lem d l.opens in
      record {
        carried = record { geometry = c.geometry; last = c.last; pattern = c.pattern; all_words = c.all_words; words = c.words; rest = c.rest; idle = c.idle };
        opens = unfold is_open in rw (o.law, le-leb u 15 h) o.kept;
      }

  pub search_lasts : (q : KeptSearch) → q.last < 65536 → length q.pattern ≡ 12 → is_kept q.kind ≡ true
      → good_kept q.kind q.user q.last q.pattern (slots d.geometry) ≡ true → Lasts (with_search d q)
  search_lasts q low size kept good =
      let c = l.carried in
      let o = is_open_lem d l.opens in
      record {
        carried = record { geometry = c.geometry; last = low; pattern = size; all_words = c.all_words; words = c.words; rest = c.rest; idle = λ e. absurd (true≢false (sym kept ∙ ap is_kept e)) };
        opens = unfold is_open in rw (o.law, le-leb d.user 15 o.user15) good;
      }

-- ---- an act, by the change that it makes
pub data Lasting (d : Drive) (v : List ℕ) : Act → Type 0 where
  denied : {why : Refusal} → Lasting d v (deny why)
  does : {code : ℕ} {change : Change} {stores : List Store} {f b : List ℕ} → Lasts (changed_state d v change) → Lasting d v (done code change stores f b)

pub lasting_unless : {d : Drive} {v : List ℕ} (ts : List Test) (act : Act) → (is_none (first_met ts) ≡ true → Lasting d v act) → Lasting d v (unless ts act)
unfolding unless
lasting_unless {d} {v} ts act h = go (is_none (first_met ts)) refl
  where
    go : (t : Bool) → is_none (first_met ts) ≡ t → Lasting d v (cond t act (deny (first_met ts)))
    go true e = h e
    go false e = denied

pub outcome_lasts : (d : Drive) (v f b : List ℕ) (act : Act) → Lasts d → Lasting d v act → Lasts (outcome d v f b act).drive
unfolding outcome
outcome_lasts d v f b (deny why) l denied = l
outcome_lasts d v f b (done code change stores f' b') l (does k) = k

-- ---- what a search keeps
or-true : (a : Bool) → (a || true) ≡ true
or-true true = refl
or-true false = refl

-- the hit is a slot
pub hit_low : (d : Drive) → lawful d.geometry ≡ true → {i : ℕ} → leb (slots d.geometry) i ≡ false → (i < slots d.geometry) × (i < 65536)
hit_low d law {i} e =
    let h : i < slots d.geometry = leb-false (slots d.geometry) i e in
    (h, omega (arith, h, (bounds d.geometry law).slots_high))

-- the pattern that first keeps passed 39 and 40
pub first_pattern : (f : List ℕ) → length f ≡ 36 → good_name true (name_of f) ≡ true → (ltb 31 (byte f 12) && not (eqb (byte f 12) 63)) ≡ false → good_pattern (pattern_of f) ≡ true
unfolding pattern_of name_at
first_pattern f size good ex =
    let k : byte (part f 1 12) 11 ≡ byte f 12 = byte_part f 1 12 11 (omega arith) in
    rw (part_part f 1 12 (omega arith) 0 11 (omega arith), k, good) (go (ltb 31 (byte f 12)) (eqb (byte f 12) 63) refl refl ex)
  where
    go : (t u : Bool) → ltb 31 (byte f 12) ≡ t → eqb (byte f 12) 63 ≡ u → (ltb 31 (byte f 12) && not (eqb (byte f 12) 63)) ≡ false
        → (leb (byte f 12) 31 || eqb (byte f 12) 63) ≡ true
    go false u p q e = rw (le-leb (byte f 12) 31 (ltb-false 31 (byte f 12) p))
    go true true p q e = rw q (or-true (leb (byte f 12) 31))
    go true false p q e = absurd (true≢false (rw (p, q) at e))
