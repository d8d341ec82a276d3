-- Demand 2 holds but for what is written: a definition has one value, the last test of a write asks for a free block, and
-- log-in's words are those of the blocks that entries name.
use mathlib.Core.Path.{◌≡◌, refl, sym, ap, ◌∙◌}
use mathlib.Core.Bool.{Bool, true, false, not, ◌&&◌, false≢true}
use mathlib.Core.Logic.{◌≢◌}
use mathlib.Core.List.{List, [], ◌∷◌, ◌++◌}
use Prim.Native.Nat.{ℕ, ◌-◌, ◌/◌, ◌%◌, ◌≤◌, ◌<◌}
use native.Mathlib.Decide.{dec_lt}
use native.Mathlib.Nat.{div-eq_of_lt}
use native.Mathlib.Omega.{arith}
use lib.Dec.{leb, ltb, eqb}
use lib.ListN.{length, get_or-eq_default}
use lib.Pow.{pow_pos}
use borrow.Author.Tests.{not-false, eqb-true, eq-eqb, leb-true, le-leb, le-ltb, ltb-true, ltb-false, lt-ltb}
use Rattle.lists.specs.Bounded.{count_from}
use Rattle.lists.proofs.BoolLaws.{and_parts}
use Rattle.lists.proofs.BoundedLaws.{count_ext}
use Rattle.disk_geometry.specs.declared.Geometry.{Geometry}
use Rattle.disk_geometry.specs.Geometry.{lawful, bytes, slots, inside, place_of}
use Rattle.disk_volume.specs.Name.{name_of}
use Rattle.disk_geometry.proofs.GeometryLaws.{bounds}
use Rattle.disk_held.specs.Held.{held_words, digit, holds, is_free, free_count}
use Rattle.disk_held.proofs.WordsLaws.{length_words}
use Rattle.call_answers.specs.declared.Refusal.TheVariants.{Closed, VolumeLength, BadSlot, NoBlock}
use Rattle.call_answers.specs.Refusal.{Test, test, refusal_number, is_none, first_met}
use Rattle.call_answers.specs.Answer.{number_of, value_of, succeeded}
use Rattle.call_answers.proofs.Ladder.{unmet, ladder_pass}
use Rattle.disk_rules.specs.GoodSlot.{named_below, good_slot, lowest_bad}
use Rattle.disk_rules.specs.Named.{named, held_of}
use Rattle.disk_rules.proofs.AcceptedLaws.{accepted, accepts, lowest_bad_le}
use Rattle.disk_rules.proofs.NamedLaws.{holds_held}
use Rattle.call_decide.specs.Write.{base_entry, needs_block, write_tests}
use Rattle.call_entry.specs.Alloc.{alloc}
use Rattle.disk_geometry.proofs.InsideLaws.{inside_is}
use Rattle.call_entry.proofs.AllocLaws.{alloc_le, alloc_none, none_alloc}
use Rattle.filecalls.specs.declared.Drive.{Drive}
use Rattle.filecalls.specs.declared.Reply.{Reply}
use Rattle.filecalls.specs.Outcome.{Outcome, left}
use Rattle.filecalls.specs.State.{is_open, logged_in}
use Rattle.filecalls.specs.LogIn.{log_in_tests, log_in}
use Rattle.filecalls.specs.Read.{sequential_tests, random_tests}
use Rattle.filecalls.proofs.StateLaws.{is_open_lem}
use Rattle.call_served.specs.declared.Call.{Call}
use Rattle.call_served.specs.declared.Call.TheVariants.{LogIn}
use Rattle.bdos.specs.Step.{does, step}
use Rattle.call_served.specs.Asked.{Asked}
use Rattle.demands.specs.Order.{tests_of, answers_of}
use Rattle.demands.specs.Demand1.{call, tests}
use Rattle.demands.specs.Demand2.{Writes, sequential, direct, zero_filling, Reads, earlier, NoneFree, Sound, Present, Same, Demand2}
use Rattle.demands.proofs.Says.{was_none}
use Rattle.demands.proofs.Demand1.{log_in_says, step_says}
use Rattle.demands.proofs.Demand2Apart.{Apart, inspected}
use Rattle.demands.proofs.Demand2Writes.{stores, others}
use Rattle.demands.proofs.Demand2Reads.{shows, reads_present}
use Rattle.demands.proofs.Demand2Sequence.{sequence}

-- ---- one outcome: the general lemma, for any outcome at all
pub one : (o : Outcome) (r s : Reply) (v w f h b e : List ℕ) → left r v f b ≡ o → left s w h e ≡ o → Same r s v w f h b e
one o r s v w f h b e p q =
    let z = p ∙ sym q in
    record {
      reply = λ i. record { answer = (z i).answer; drive = (z i).drive };
      volume = ap (λ (x : Outcome). x.volume) z;
      fcb = ap (λ (x : Outcome). x.fcb) z;
      buffer = ap (λ (x : Outcome). x.buffer) z;
    }

-- ---- 2: the last test of a write
abbrev none_left : Drive → List ℕ → List ℕ → ℕ → Bool
none_left d v f n =
    needs_block d.geometry v d.user (name_of f) n
    && leb d.geometry.blocks (alloc d.geometry d.held (base_entry d.geometry v d.user (name_of f) n) (place_of d.geometry n))

module _ (g : Geometry) (p : ℕ) (d : Drive) (v f b : List ℕ) where
  last_test : {k : Call} {n : ℕ} {r : List ℕ} → Writes f b k n r
      → tests_of g k p d v f b ≡ earlier (tests_of g k p d v f b) ++ (test NoBlock (none_left d v f n) ∷ [])
  unfolding sequential_tests random_tests write_tests
  last_test sequential = refl
  last_test direct = refl
  last_test zero_filling = refl

  open_state : {k : Call} {n : ℕ} {r : List ℕ} → Writes f b k n r → is_none (first_met (earlier (tests_of g k p d v f b))) ≡ true → is_open d ≡ true
  unfolding sequential_tests random_tests write_tests
  open_state sequential e = not-false (is_open d) (unmet Closed _ _ refl e).0
  open_state direct e = not-false (is_open d) (unmet Closed _ _ refl e).0
  open_state zero_filling e = not-false (is_open d) (unmet Closed _ _ refl e).0

  one_code : {k : Call} {n : ℕ} {r : List ℕ} → Writes f b k n r → (x : ℕ) → answers_of k x ≡ true → x < 1
  one_code sequential x e = ltb-true x 1 e
  one_code direct x e = ltb-true x 1 e
  one_code zero_filling x e = ltb-true x 1 e

  -- where the tests before it pass, the last decides
  last_decides : {k : Call} {n : ℕ} {r : List ℕ} → Writes f b k n r → is_none (first_met (earlier (tests_of g k p d v f b))) ≡ true
      → first_met (tests_of g k p d v f b) ≡ first_met (test NoBlock (none_left d v f n) ∷ [])
  last_decides {k} w e = ap first_met (last_test w) ∙ ladder_pass (earlier (tests_of g k p d v f b)) _ e

last_met : (m : Bool) → m ≡ true → first_met (test NoBlock m ∷ []) ≡ NoBlock
unfolding first_met
last_met m e = rw e

last_none : (m : Bool) → m ≡ false → is_none (first_met (test NoBlock m ∷ [])) ≡ true
unfolding first_met
last_none m e = rw e

module _ (g : Geometry) (c : Asked) (d : Drive) (v : List ℕ) (n : ℕ) (r : List ℕ) (w : Writes c.fcb c.buffer (call c) n r)
    (e : is_none (first_met (earlier (tests g c d v))) ≡ true) (needs : needs_block d.geometry v d.user (name_of c.fcb) n ≡ true) where
  abbrev given : ℕ
  given = alloc d.geometry d.held (base_entry d.geometry v d.user (name_of c.fcb) n) (place_of d.geometry n)

  good : lawful d.geometry ≡ true
  good = (is_open_lem d (open_state g c.parameter d v c.fcb c.buffer w e)).law

  decides : first_met (tests g c d v) ≡ first_met (test NoBlock (none_left d v c.fcb n) ∷ [])
  decides = last_decides g c.parameter d v c.fcb c.buffer w e

  two_none : number_of (step g c d v).answer ≡ 2 → NoneFree d
  two_none two = go (none_left d v c.fcb n) refl
    where
      go : (m : Bool) → none_left d v c.fcb n ≡ m → NoneFree d
      go true q =
          let l = leb-true d.geometry.blocks given (and_parts (needs_block d.geometry v d.user (name_of c.fcb) n) (leb d.geometry.blocks given) q).1 in
          let u = alloc_le d.geometry d.held (base_entry d.geometry v d.user (name_of c.fcb) n) (place_of d.geometry n) good in
          alloc_none d.geometry d.held (base_entry d.geometry v d.user (name_of c.fcb) n) (place_of d.geometry n) good (omega arith)
      go false q =
          let l = ((step_says g c d v).none (ap is_none decides ∙ last_none _ q)).1 in
          absurd (omega (arith, one_code g c.parameter d v c.fcb c.buffer w _ l))

  none_two : NoneFree d → number_of (step g c d v).answer ≡ 2
  none_two h =
      let a = none_alloc d.geometry d.held (base_entry d.geometry v d.user (name_of c.fcb) n) (place_of d.geometry n) good h in
      let q : none_left d v c.fcb n ≡ true = rw (needs, le-leb d.geometry.blocks given (omega arith)) in
      let f : first_met (tests g c d v) ≡ NoBlock = decides ∙ last_met (none_left d v c.fcb n) q in
      ((step_says g c d v).met (ap is_none f)).1 ∙ ap refusal_number f

-- ---- log-in
module _ (g : Geometry) (v : List ℕ) where
  -- an accepted log-in: no test is met, and the state's words are those of the named blocks
  record Accepted : Type 0 where
    law : lawful g ≡ true
    size : length v ≡ bytes g
    all_good : lowest_bad g v ≡ slots g
    count : value_of (log_in g v).answer ≡ free_count (held_of g v) g.directory_blocks g.blocks
    state : (log_in g v).drive ≡ logged_in g (held_of g v)

  no_test : succeeded (log_in g v).answer ≡ true → is_none (first_met (log_in_tests g v)) ≡ true
  no_test h = was_none (log_in_says g v) h

  accepted_log_in : succeeded (log_in g v).answer ≡ true → Accepted
  unfolding log_in log_in_tests
  accepted_log_in h =
      let n = no_test h in
      let x = unmet Closed _ _ refl n in
      let y = unmet VolumeLength _ _ refl x.1 in
      let z = unmet BadSlot _ _ refl y.1 in
      record {
        law = not-false (lawful g) x.0;
        size = eqb-true (length v) (bytes g) (not-false (eqb (length v) (bytes g)) y.0);
        all_good = omega (arith, ltb-false (lowest_bad g v) (slots g) z.0, lowest_bad_le g v);
        count = rw n;
        state = rw n;
      }

  passes_tests : lawful g ≡ true → length v ≡ bytes g → lowest_bad g v ≡ slots g → is_none (first_met (log_in_tests g v)) ≡ true
  unfolding log_in_tests first_met
  passes_tests l s a = rw (l, eq-eqb (length v) (bytes g) s, le-ltb (lowest_bad g v) (slots g) (omega arith))

  -- the blocks from D to T-1 that it holds are the named ones
  pub holds_named : lawful g ≡ true → (b : ℕ) → g.directory_blocks ≤ b → b < g.blocks → holds (held_of g v) b ≡ named_below g v (slots g) b
  unfolding named inside
  holds_named l b low high =
      holds_held g v b (omega (arith, bounds g l)) ∙ rw (le-leb g.directory_blocks b low, lt-ltb b g.blocks high)

  -- no other: neither one outside D to T-1, nor one past the words
  far : (b : ℕ) → 4096 ≤ b → holds (held_of g v) b ≡ false
  unfolding holds digit held_of
  far b h =
      let z = get_or-eq_default (held_of g v) 0 {n = b / 64} (omega (arith, length_words (named g v))) in
      rw (z, div-eq_of_lt (pow_pos (b % 64)))

  pub holds_inside : (b : ℕ) → holds (held_of g v) b ≡ true → (g.directory_blocks ≤ b) × (b < g.blocks)
  unfolding named inside
  holds_inside b h = elim (dec_lt b 4096) [
    | yes l ↦ parts (and_parts (leb g.directory_blocks b && ltb b g.blocks) _ (sym (holds_held g v b l) ∙ h)).0
    | no l ↦ absurd (false≢true (sym (far b (omega arith)) ∙ h))
  ]
    where
      parts : leb g.directory_blocks b && ltb b g.blocks ≡ true → (g.directory_blocks ≤ b) × (b < g.blocks)
      parts q =
          let p = and_parts (leb g.directory_blocks b) (ltb b g.blocks) q in
          (leb-true g.directory_blocks b p.0, ltb-true b g.blocks p.1)

  free_named : lawful g ≡ true → free_count (held_of g v) g.directory_blocks g.blocks ≡ count_from (λ b. not (named_below g v (slots g) b)) g.directory_blocks (g.blocks - g.directory_blocks)
  unfolding free_count
  free_named l =
      count_ext (is_free (held_of g v)) (λ b. not (named_below g v (slots g) b)) g.directory_blocks (g.blocks - g.directory_blocks)
      (λ b x y. ap not (holds_named l b x (omega arith)))

  -- so log-in leaves a state that is sound
  held_named : lawful g ≡ true → (b : ℕ) → named g v b ≡ true → holds (held_of g v) b ≡ true
  unfolding named
  held_named l b q =
      let i = inside_is g b (and_parts (inside g b) (named_below g v (slots g) b) q).0 in
      holds_held g v b (omega (arith, (bounds g l).blocks_high, i.1)) ∙ q

  size : length (held_of g v) ≡ held_words
  unfolding held_of
  size = length_words (named g v)

  logged_in_sound : Accepted → Sound (logged_in g (held_of g v)) v
  logged_in_sound a = record { inspected = a.all_good; words = size; holds_named = held_named a.law }

-- log-in at the door
at_door_lem : (g : Geometry) (k : Call) (p : ℕ) (d : Drive) (v f b : List ℕ) → k ≡ LogIn → does g k p d v f b ≡ left (log_in g v) v f b
unfolding does
at_door_lem g k p d v f b e = rw e

module _ (g : Geometry) (c : Asked) (d : Drive) (v : List ℕ) (e : call c ≡ LogIn) where
  door : step g c d v ≡ left (log_in g v) v c.fcb c.buffer
  unfolding step
  door = at_door_lem g (call c) c.parameter d v c.fcb c.buffer e

  answer_is : (step g c d v).answer ≡ (log_in g v).answer
  answer_is = ap (λ (o : Outcome). o.answer) door

  state_is : (step g c d v).drive ≡ (log_in g v).drive
  state_is = ap (λ (o : Outcome). o.drive) door

  log_in_accepts : lawful g ≡ true → length v ≡ bytes g → ((i : ℕ) → i < slots g → good_slot g v i ≡ true) → succeeded (step g c d v).answer ≡ true
  log_in_accepts l s h = ap succeeded answer_is ∙ ((log_in_says g v).none (passes_tests g v l s (accepts g v h))).0

  module _ (h : succeeded (step g c d v).answer ≡ true) where
    facts : Accepted g v
    facts = accepted_log_in g v (sym (ap succeeded answer_is) ∙ h)

    log_in_good : (i : ℕ) → i < slots g → good_slot g v i ≡ true
    log_in_good = accepted g v facts.all_good

    log_in_sound : Sound (step g c d v).drive (step g c d v).volume
    log_in_sound = rw (door, facts.state) (logged_in_sound g v facts)

    log_in_count : value_of (step g c d v).answer ≡ count_from (λ b. not (named_below g v (slots g) b)) g.directory_blocks (g.blocks - g.directory_blocks)
    log_in_count = ap value_of answer_is ∙ facts.count ∙ free_named g v facts.law

    held_words_lem : (step g c d v).drive.held ≡ held_of g v
    held_words_lem = ap (λ (s : Drive). s.held) (state_is ∙ facts.state)

    log_in_holds : (b : ℕ) → g.directory_blocks ≤ b → b < g.blocks → holds (step g c d v).drive.held b ≡ named_below g v (slots g) b
    log_in_holds b low high = rw held_words_lem (holds_named g v facts.law b low high)

    log_in_holds_no_other : (b : ℕ) → holds (step g c d v).drive.held b ≡ true → (g.directory_blocks ≤ b) × (b < g.blocks)
    log_in_holds_no_other b q = holds_inside g v b (rw held_words_lem at q)

-- ---- the writes
apart : (d : Drive) (v : List ℕ) → Sound d v → Apart d.geometry d.held v
apart d v s = inspected d.geometry d.held v s.words s.inspected s.holds_named

module _ (g : Geometry) (c : Asked) (d : Drive) (v : List ℕ) (n : ℕ) (r : List ℕ) (w : Writes c.fcb c.buffer (call c) n r)
    (h : succeeded (step g c d v).answer ≡ true) where
  write_stores_lem : Present d c.fcb (step g c d v).volume n r
  unfolding step
  write_stores_lem = stores g c.parameter d v c.fcb c.buffer w (was_none (step_says g c d v) h)

  write_keeps : Sound d v → (m : ℕ) → m ≢ n → (s : List ℕ) → Present d c.fcb v m s → Present d c.fcb (step g c d v).volume m s
  unfolding step
  write_keeps sound m ne s p =
      let k = others g c.parameter d v c.fcb c.buffer w (was_none (step_says g c d v) h) (apart d v sound) m ne p.is_present in
      record { is_present = k.still_present; has_bytes = k.same_bytes ∙ p.has_bytes }

-- ---- the reads
module _ (g : Geometry) (c : Asked) (d : Drive) (v : List ℕ) (n : ℕ) (ts : List Test) (w : Reads d v c.fcb c.buffer (call c) n ts) where
  read_shows : succeeded (step g c d v).answer ≡ true → Present d c.fcb v n (step g c d v).buffer
  unfolding step
  read_shows h = shows g c.parameter d v c.fcb c.buffer w (was_none (step_says g c d v) h)

  present_read : is_none (first_met ts) ≡ true → Sound d v → (r : List ℕ) → Present d c.fcb v n r → succeeded (step g c d v).answer ≡ true
  present_read e s r h = ((step_says g c d v).none (reads_present g c.parameter d v c.fcb c.buffer w e (apart d v s) h.is_present)).0

-- ---- all together
pub demand2 : Demand2
demand2 = record {
  one_outcome = λ g c d v₀. one (step g c d v₀);
  refused_none_free = two_none;
  none_free_refused = none_two;
  write_stores_lem = write_stores_lem;
  write_keeps_others = write_keeps;
  read_shows = read_shows;
  present_is_read = present_read;
  sequential_writes = λ g p rs d v f s. sequence g p rs d v f (apart d v s);
  accepts_good = log_in_accepts;
  accepted_is_good = log_in_good;
  accepted_is_sound = log_in_sound;
  log_in_count = log_in_count;
  log_in_holds = log_in_holds;
  log_in_holds_no_other = log_in_holds_no_other;
}
