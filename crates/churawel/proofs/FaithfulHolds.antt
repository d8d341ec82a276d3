-- The drive's bytes carry the state from call to call, and a refusal alters no lent byte: the statements of
-- `specs/Faithful`.
use mathlib.Core.Path.{◌≡◌, refl, sym, ap, ◌∙◌}
use mathlib.Core.Bool.{Bool, true, false, true≢false, false≢true}
use mathlib.Core.Logic.{◌⊎◌, inl, inr, ⊎_elim}
use mathlib.Core.List.{List, []}
use Prim.Native.Nat.{ℕ, ◌<◌}
use native.Mathlib.Omega.{arith}
use lib.ListN.{length}
use borrow.Author.Tests.{not-false, eq-eqb}
use Rattle.disk_geometry.specs.declared.Geometry.{Geometry}
use Rattle.disk_geometry.specs.Geometry.{lawful, blocks}
use Rattle.disk_geometry.proofs.GeometryLaws.{Floppy, bounds}
use Rattle.call_answers.specs.declared.Refusal.TheVariants.{Closed}
use Rattle.call_answers.specs.declared.Answer.TheVariants as answer
use Rattle.call_answers.specs.Refusal.{is_none, first_met}
use Rattle.call_answers.specs.Answer.{succeeded}
use Rattle.call_answers.proofs.Ladder.{unmet}
use Rattle.disk_held.specs.Held.{free_count}
use Rattle.disk_held.proofs.WordsLaws.{first_none}
use Rattle.disk_rules.specs.Named.{held_of}
use Rattle.disk_rules.proofs.NamedLaws.{first_held}
use Rattle.filecalls.specs.declared.Drive.{Drive}
use Rattle.filecalls.specs.declared.Reply.{Reply}
use Rattle.filecalls.specs.State.{is_open, closed, logged_in}
use Rattle.filecalls.specs.LogIn.{log_in_tests, refused_log_in, log_in}
use Rattle.filecalls.proofs.LogInLaws.{refused_fails}
use Rattle.call_served.specs.declared.Call.{Call}
use Rattle.call_served.specs.declared.Call.TheVariants.{LogIn, Open, Close, SearchFirst, SearchNext, Delete, Make, Rename, Protect, Attributes, User, Size, SetRandom, Moves, Unserved}
use Rattle.call_served.specs.declared.Transfer.TheVariants.{ReadSequential, WriteSequential, ReadRandom, WriteRandom, WriteZeroFill, ReadSeveral, WriteSeveral}
use Rattle.bdos.specs.Step.{carries, does, step}
use Rattle.call_served.specs.Asked.{Asked, asked}
use Rattle.call_served.specs.Calls.{call_of}
use Rattle.drive_bytes.specs.Layout.{stored_words, drive_bytes, decoded, encoded_in}
use Rattle.drive_bytes.specs.RoundTrip.{Carried}
use Rattle.drive_bytes.proofs.RoundTripHolds.{read_carried, closed_is_zeros}
use Rattle.drive_bytes.proofs.LentLaws.{stored_room, open_length, lent_same, lent_back}
use Rattle.seam_words.specs.Answered.{answered}
use Rattle.seam_calls.specs.Seam.{sealed, through, at_seam, log_in_at_seam}
use Rattle.seam_calls.proofs.KeptLaws.{step_refused, call_geometry_of}
use Rattle.churawel.specs.Faithful.{LogInCarried, LogInOpens, CallCarried, CallStaysOpen, LogInGeometry, CallGeometry, LogInFaithful, CallFaithful, RefusedLeavesAll, RefusedLogInCloses, RefusedResetCloses}
use Rattle.churawel.proofs.LastingLaws.{Lasts, StoredOf, denied, outcome_lasts}
use Rattle.churawel.proofs.CallsLast.{open_lasting, close_lasting, size_lasting, first_lasting, next_lasting, delete_lasting, make_lasting, rename_lasting, attributes_lasting, read_sequential_lasting, read_random_lasting, write_sequential_lasting, write_random_lasting, write_zero_fill_lasting, protect_lasting, user_lasting, set_random_lasting, read_several_lasts, write_several_lasts}

-- ---- log-in
closed_carried : Carried closed
closed_carried =
    record {
      geometry = record { block_bytes_16 = omega arith; blocks_16 = omega arith; directory_blocks_16 = omega arith; placing_8 = omega arith };
      last = omega arith;
      pattern = refl;
      all_words = refl;
      words = (first_none 4).words.small;
      rest = (first_none 4).rest;
      idle = λ e. refl;
    }

-- one of the two placings
placing_low : (g : Geometry) → (g.placing ≡ 0) ⊎ Floppy g → g.placing < 256
placing_low g (inl e) = omega arith
placing_low g (inr f) = omega (arith, f.placed)

logged_in_carried : (g : Geometry) (held : List ℕ) → lawful g ≡ true → StoredOf g held → Carried (logged_in g held)
logged_in_carried g held law w =
    let k = bounds g law in
    record {
      geometry = record {
        block_bytes_16 = omega (arith, k.block_high);
        blocks_16 = omega (arith, k.blocks_high);
        directory_blocks_16 = omega (arith, k.directory_high);
        placing_8 = placing_low g k.placed;
      };
      last = omega arith;
      pattern = refl;
      all_words = w.words.size;
      words = w.words.small;
      rest = w.rest;
      idle = λ e. refl;
    }

-- the two ways that a log-in can end
module _ (g : Geometry) (v : List ℕ) where
  accepted : is_none (first_met (log_in_tests g v)) ≡ true → lawful g ≡ true
  unfolding log_in_tests
  accepted h = not-false (lawful g) (unmet Closed _ _ refl h).0

  taken : is_none (first_met (log_in_tests g v)) ≡ true
      → log_in g v ≡ record { answer = answer.Ready (free_count (held_of g v) g.directory_blocks g.blocks); drive = logged_in g (held_of g v) }
  unfolding log_in
  taken h = rw h

  turned_away : is_none (first_met (log_in_tests g v)) ≡ false
      → log_in g v ≡ record { answer = refused_log_in g v; drive = closed }
  unfolding log_in
  turned_away h = rw h

pub log_in_carried : LogInCarried
log_in_carried g v = go (is_none (first_met (log_in_tests g v))) refl
  where
    go : (t : Bool) → is_none (first_met (log_in_tests g v)) ≡ t → Carried (log_in g v).drive
    go true h =
        let law = accepted g v h in
        rw (taken g v h) (logged_in_carried g (held_of g v) law (first_held g v (stored_words (blocks g)) (stored_room (blocks g) (bounds g law).blocks_high)))
    go false h = rw (turned_away g v h) closed_carried

pub log_in_opens : LogInOpens
log_in_opens g v s = go (is_none (first_met (log_in_tests g v))) refl
  where
    go : (t : Bool) → is_none (first_met (log_in_tests g v)) ≡ t → is_open (log_in g v).drive ≡ true
    go true h = unfold is_open in rw (taken g v h, accepted g v h)
    go false h = absurd (false≢true (sym (refused_fails g v) ∙ ap (λ (r : Reply). succeeded r.answer) (sym (turned_away g v h)) ∙ s))

-- ---- every call logs in, or leaves a state that lasts
module _ (g : Geometry) (p : ℕ) (small : p < 256) (d : Drive) (l : Lasts d) (v f b : List ℕ) where
  call_lasts : (call : Call) → (call ≡ LogIn) ⊎ Lasts (does g call p d v f b).drive
  unfolding does carries
  call_lasts LogIn = inl refl
  call_lasts Open = inr (outcome_lasts d v f [] _ l (open_lasting d v f b l))
  call_lasts Close = inr (outcome_lasts d v f [] _ l (close_lasting d v f b l))
  call_lasts SearchFirst = inr (outcome_lasts d v f b _ l (first_lasting d v f b l))
  call_lasts SearchNext = inr (outcome_lasts d v [] b _ l (next_lasting d v f b l))
  call_lasts Delete = inr (outcome_lasts d v f [] _ l (delete_lasting d v f b l))
  call_lasts (Moves ReadSequential) = inr (outcome_lasts d v f b _ l (read_sequential_lasting d v f b l))
  call_lasts (Moves WriteSequential) = inr (outcome_lasts d v f b _ l (write_sequential_lasting d v f b l))
  call_lasts Make = inr (outcome_lasts d v f [] _ l (make_lasting d v f b l))
  call_lasts Rename = inr (outcome_lasts d v f [] _ l (rename_lasting d v f b l))
  call_lasts Protect = inr (outcome_lasts d [] [] [] _ l (protect_lasting d [] f b l))
  call_lasts Attributes = inr (outcome_lasts d v f [] _ l (attributes_lasting d v f b l))
  call_lasts User = inr (outcome_lasts d [] [] [] _ l (user_lasting d [] f b l p small))
  call_lasts (Moves ReadRandom) = inr (outcome_lasts d v f b _ l (read_random_lasting d v f b l))
  call_lasts (Moves WriteRandom) = inr (outcome_lasts d v f b _ l (write_random_lasting d v f b l))
  call_lasts Size = inr (outcome_lasts d v f [] _ l (size_lasting d v f b l))
  call_lasts SetRandom = inr (outcome_lasts d [] f [] _ l (set_random_lasting d [] f b l))
  call_lasts (Moves WriteZeroFill) = inr (outcome_lasts d v f b _ l (write_zero_fill_lasting d v f b l))
  call_lasts (Moves ReadSeveral) = inr (read_several_lasts d v f b p l)
  call_lasts (Moves WriteSeveral) = inr (write_several_lasts d v f b p l)
  call_lasts Unserved = inr (outcome_lasts d v f b _ l denied)

pub step_lasts : (d : Drive) → Carried d → is_open d ≡ true → (c : Asked) → c.parameter < 256 → (v : List ℕ)
    → (call_of c.function ≡ LogIn) ⊎ Lasts (step d.geometry c d v).drive
unfolding step
step_lasts d k o c small v = call_lasts d.geometry c.parameter small d (record { carried = k; opens = o }) v c.fcb c.buffer (call_of c.function)

pub step_log_in : (g : Geometry) (c : Asked) (d : Drive) (v : List ℕ) → call_of c.function ≡ LogIn → (step g c d v).drive ≡ (log_in g v).drive
unfolding step does carries
step_log_in g c d v e = rw e

pub call_carried : CallCarried
call_carried d k o c small v =
    ⊎_elim (λ e. rw (step_log_in d.geometry c d v e) (log_in_carried d.geometry v)) (λ l. l.carried) (step_lasts d k o c small v)

pub call_stays_open : CallStaysOpen
call_stays_open d k o c small v n = ⊎_elim (λ e. absurd (n e)) (λ l. l.opens) (step_lasts d k o c small v)

-- ---- the geometry
-- a state that is not the closed one has the geometry of the log-in
log_in_own : (g : Geometry) (v : List ℕ) → ((log_in g v).drive.geometry ≡ g) ⊎ ((log_in g v).drive ≡ closed)
log_in_own g v = go (is_none (first_met (log_in_tests g v))) refl
  where
    go : (t : Bool) → is_none (first_met (log_in_tests g v)) ≡ t → ((log_in g v).drive.geometry ≡ g) ⊎ ((log_in g v).drive ≡ closed)
    go true h = inl (ap (λ (r : Reply). r.drive.geometry) (taken g v h))
    go false h = inr (ap (λ (r : Reply). r.drive) (turned_away g v h))

open_own : {d : Drive} {g : Geometry} → is_open d ≡ true → (d.geometry ≡ g) ⊎ (d ≡ closed) → d.geometry ≡ g
unfolding is_open lawful
open_own o (inl e) = e
open_own o (inr e) = absurd (false≢true (sym (ap is_open e) ∙ o))

pub log_in_geometry : LogInGeometry
log_in_geometry g v o = open_own o (log_in_own g v)

step_own : (d : Drive) (c : Asked) (v : List ℕ) → ((step d.geometry c d v).drive.geometry ≡ d.geometry) ⊎ ((step d.geometry c d v).drive ≡ closed)
unfolding step
step_own d c v =
    ⊎_elim (λ e. rw (step_log_in d.geometry c d v e) (log_in_own d.geometry v)) inl
    (call_geometry_of d c.parameter v c.fcb c.buffer (call_of c.function))

pub call_geometry : CallGeometry
call_geometry d c v o = open_own o (step_own d c v)

-- ---- what is read back is what was returned
-- from bytes of the length that the geometry asks
own_back : (g : Geometry) (d : Drive) (s : List ℕ) → length s ≡ drive_bytes (blocks g) → Carried d → (d.geometry ≡ g) ⊎ (d ≡ closed) → decoded (encoded_in d s) ≡ d
own_back g d s size k (inl e) = lent_back d s k (inl (size ∙ ap (λ (h : Geometry). drive_bytes (blocks h)) (sym e)))
own_back g d s size k (inr e) = lent_back d s k (inr e)

pub log_in_faithful : LogInFaithful
unfolding log_in_at_seam
log_in_faithful g v s e = rw (eq-eqb (length s) (drive_bytes (blocks g)) e) (own_back g (log_in g v).drive s e (log_in_carried g v) (log_in_own g v))

pub step_back : (d : Drive) → Carried d → is_open d ≡ true → (c : Asked) → c.parameter < 256 → (v s : List ℕ) → length s ≡ drive_bytes (blocks d.geometry)
    → decoded (encoded_in (step d.geometry c d v).drive s) ≡ (step d.geometry c d v).drive
step_back d k o c small v s size = own_back d.geometry _ s size (call_carried d k o c small v) (step_own d c v)

pub call_faithful : CallFaithful
unfolding at_seam
call_faithful n p s v f b small bytes o =
    rw o (step_back (decoded s) (read_carried s bytes o) o (asked n p f b) small v s (open_length s o))

-- ---- a refusal alters nothing
pub refused_leaves_all : RefusedLeavesAll
unfolding at_seam
refused_leaves_all n p s v f b bytes o other e =
    rw o
    (ap (through s) (step_refused (decoded s).geometry (asked n p f b) (decoded s) v other e)
    ∙ ap (λ (x : List ℕ). sealed (answered (step (decoded s).geometry (asked n p f b) (decoded s) v).answer) x v f b) (lent_same s bytes o))

-- ---- a refused log-in closes
log_in_closed : (g : Geometry) (v : List ℕ) → succeeded (log_in g v).answer ≡ false → (log_in g v).drive ≡ closed
log_in_closed g v s = go (is_none (first_met (log_in_tests g v))) refl
  where
    go : (t : Bool) → is_none (first_met (log_in_tests g v)) ≡ t → (log_in g v).drive ≡ closed
    go true h = absurd (true≢false (ap (λ (r : Reply). succeeded r.answer) (sym (taken g v h)) ∙ s))
    go false h = ap (λ (r : Reply). r.drive) (turned_away g v h)

pub refused_log_in_closes : RefusedLogInCloses
unfolding log_in_at_seam
refused_log_in_closes g v s e no-success =
    rw (eq-eqb (length s) (drive_bytes (blocks g)) e) (ap (λ (d : Drive). encoded_in d s) (log_in_closed g v no-success) ∙ closed_is_zeros s)

step_answer : (g : Geometry) (c : Asked) (d : Drive) (v : List ℕ) → call_of c.function ≡ LogIn → (step g c d v).answer ≡ (log_in g v).answer
unfolding step does carries
step_answer g c d v e = rw e

pub refused_reset_closes : RefusedResetCloses
unfolding at_seam
refused_reset_closes n p s v f b o e no-success =
    let g = (decoded s).geometry in
    let c = asked n p f b in
    let fails = ap succeeded (sym (step_answer g c (decoded s) v e)) ∙ no-success in
    rw o (ap (λ (d : Drive). encoded_in d s) (step_log_in g c (decoded s) v e ∙ log_in_closed g v fails) ∙ closed_is_zeros s)
