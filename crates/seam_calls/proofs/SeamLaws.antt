-- What code learns on its way through the seam, as the definitions say it.
use mathlib.Core.Path.{◌≡◌, refl, sym, ap, ◌∙◌}
use mathlib.Core.Bool.{Bool, true, false, not, cond, ◌||◌, or-false, true≢false, false≢true}
use mathlib.Core.Logic.{⊎_elim}
use mathlib.Core.List.{List, []}
use Prim.Native.Nat.{ℕ, ◌-◌, ◌≤◌, ◌<◌}
use native.Mathlib.Omega.{arith}
use lib.ListN.{length}
use borrow.Author.Tests.{not-true, not-false, eq-eqb, ne_eqb}
use Rattle.disk_geometry.specs.declared.Geometry.{Geometry}
use Rattle.disk_geometry.specs.Geometry.{blocks}
use Rattle.disk_stores.specs.Stores.{Store, cut}
use Rattle.disk_stores.proofs.CodeLaws.{cut_none}
use Rattle.call_answers.specs.declared.Refusal.TheVariants.{Closed}
use Rattle.call_answers.specs.declared.Answer.{Answer}
use Rattle.call_answers.specs.declared.Answer.TheVariants.{Refused}
use Rattle.call_answers.specs.Answer.{value_of, succeeded}
use Rattle.call_served.specs.declared.Call.{Call}
use Rattle.call_served.specs.declared.Call.TheVariants.{LogIn}
use Rattle.call_served.specs.Calls.{call_of}
use Rattle.lists.proofs.BoolLaws.{or_parts}
use Rattle.numbers.specs.Numbers.{Bytes}
use Rattle.filecalls.specs.declared.Drive.{Drive}
use Rattle.filecalls.specs.declared.Front.{Front}
use Rattle.filecalls.specs.declared.FrontReply.{FrontReply}
use Rattle.filecalls.specs.declared.Reply.{Reply}
use Rattle.filecalls.specs.CodeFront.{front_of, joined, joined_reply}
use Rattle.filecalls.specs.State.{is_open}
use Rattle.filecalls.specs.Outcome.{Outcome, left}
use Rattle.filecalls.specs.Stores.{CutAfter, cut_left, refused_by}
use Rattle.filecalls.specs.LogIn.{log_in}
use Rattle.filecalls.proofs.OutcomeLaws.{same_all}
use Rattle.bdos.specs.Step.{does, step}
use Rattle.bdos.specs.Stores.{call_stores, stores_of}
use Rattle.bdos.specs.CodeWay.{way_of, asks, changes}
use Rattle.call_served.specs.Asked.{asked}
use Rattle.drive_bytes.specs.Layout.{drive_bytes, fields, is_drive, decoded, encoded_in}
use Rattle.drive_bytes.specs.CodeLaid.{with_front, with_words}
use Rattle.drive_bytes.proofs.LaidLaws.{front_laid, words_laid}
use Rattle.drive_bytes.proofs.LentLaws.{lent_same}
use Rattle.drive_bytes.proofs.RoundTripHolds.{open_drive}
use Rattle.seam_calls.specs.declared.Told.{Told}
use Rattle.seam_words.specs.Answered.{answered}
use Rattle.seam_calls.specs.Seam.{sealed, at_seam, log_in_at_seam}
use Rattle.seam_calls.specs.CodeSeam.{asks_open, Tells, CutOpen, WayMost, CallMost}
use Rattle.seam_calls.proofs.ValueLaws.{step_value}
use Rattle.seam_calls.proofs.ClosedLaws.{Shut, call_shut}
use Rattle.seam_calls.proofs.WayLaws.{asks_other, asks_changes_not, stores_nothing_lem, changes_other, changing}
use Rattle.seam_calls.proofs.KeptLaws.{step_refused, call_geometry_of}

-- ---- the state in a drive's bytes
decoded_fields : (s : List ℕ) → is_drive s ≡ true → decoded s ≡ fields s
unfolding decoded
decoded_fields s e = rw e

-- ---- one way through the seam
module _ (n p : ℕ) (s v f b : List ℕ) where
  -- a state that counts as closed is refused
  pub way_shut : (most : ℕ) → is_open (decoded s) ≡ false → WayMost most n p s v f b (Refused Closed) s v f b most
  unfolding at_seam
  way_shut most shut = record { whole = λ w. rw shut; fits = λ w. omega arith; cut_open_lem = λ opens. absurd (false≢true (sym shut ∙ opens)) }

  -- what the call leaves is the step of its number
  module _ {o : Reply} {v' f' b' : List ℕ} (did : left o v' f' b' ≡ step (decoded s).geometry (asked n p f b) (decoded s) v) where
    value_low : value_of o.answer < 65536
    value_low = rw (ap (λ (x : Outcome). value_of x.answer) did) (step_value (decoded s).geometry (asked n p f b) (decoded s) v)

    laid : {s' : List ℕ} → is_open (decoded s) ≡ true → s' ≡ encoded_in o.drive s → sealed (answered o.answer) s' v' f' b' ≡ at_seam n p s v f b
    unfolding at_seam
    laid opens e = rw (opens, ← did, e)

    -- a call that does not log in; a closed state was passed on to it only if it asks by itself
    module _ (other : call_of n ≡ LogIn → ⊥) (itself : is_open (decoded s) ≡ false → asks_open (call_of n) ≡ true) (bytes : Bytes s) where
      shut_answer : is_open (decoded s) ≡ false → Shut o.answer
      unfolding step
      shut_answer shut = rw (ap (λ (x : Outcome). x.answer) did) (call_shut (decoded s) shut (decoded s).geometry p v f b (call_of n) (itself shut))

      -- one that was refused changed nothing
      same : succeeded o.answer ≡ false → left o v' f' b' ≡ same_all (step (decoded s).geometry (asked n p f b) (decoded s) v) (decoded s) v f b
      same fails =
          did ∙ step_refused (decoded s).geometry (asked n p f b) (decoded s) v other (ap (λ (x : Outcome). succeeded x.answer) (sym did) ∙ fails)

      kept : succeeded o.answer ≡ false → sealed (answered o.answer) s v' f' b' ≡ at_seam n p s v f b
      unfolding at_seam
      kept fails = go (is_open (decoded s)) refl
        where
          go : (t : Bool) → is_open (decoded s) ≡ t → sealed (answered o.answer) s v' f' b' ≡ at_seam n p s v f b
          go true opens = laid opens (sym (ap (λ (x : Outcome). encoded_in x.drive s) (same fails) ∙ lent_same s bytes opens))
          go false shut =
              let v-same : v' ≡ v = ap (λ (x : Outcome). x.volume) (same fails) in
              let f-same : f' ≡ f = ap (λ (x : Outcome). x.fcb) (same fails) in
              let b-same : b' ≡ b = ap (λ (x : Outcome). x.buffer) (same fails) in
              rw (shut, (shut_answer shut).number, v-same, f-same, b-same)

      -- the state is laid back where the call succeeded, which it does in an open one alone
      way_leaves : {s' back : List ℕ} (t : Bool) → succeeded o.answer ≡ t → s' ≡ cond t back s → back ≡ encoded_in o.drive s
          → sealed (answered o.answer) s' v' f' b' ≡ at_seam n p s v f b
      way_leaves {s'} true done is lays = go (is_open (decoded s)) refl
        where
          go : (x : Bool) → is_open (decoded s) ≡ x → sealed (answered o.answer) s' v' f' b' ≡ at_seam n p s v f b
          go true opens = laid opens (is ∙ lays)
          go false shut = absurd (false≢true (sym (shut_answer shut).fails ∙ done))
      way_leaves false fails is lays = rw is (kept fails)

    -- it stores nothing
    still_cut : (most : ℕ) → changes (way_of (call_of n)) ≡ false → v' ≡ v → CutOpen most (asked n p f b) (decoded s) v v' most (refused_by o.answer)
    still_cut most h e =
        let none = stores_nothing_lem (call_of n) h p (decoded s) v f b in
        let all : most - 0 ≡ most = omega arith in
        record {
          volume_is = e ∙ sym (ap (cut (decoded s).geometry v most) none ∙ cut_none (decoded s).geometry v most);
          left_is = sym (ap (λ (l : List Store). most - length l) none ∙ all);
          refused_is = ap (λ (x : Outcome). refused_by x.answer) did;
        }

-- ---- the three ways, over the bytes of a drive
module _ (n p : ℕ) (s v f b : List ℕ) (drive : is_drive s ≡ true) (bytes : Bytes s) {w : Front} (front : w ≡ front_of (fields s)) where
  -- the front with the held blocks of the drive is its state
  state : joined w (fields s).held ≡ decoded s
  state = ap (λ (x : Front). joined x (fields s).held) front ∙ sym (decoded_fields s drive)

  -- what code asks of the front, of the state
  pub state_open : {t : Bool} → ((held : List ℕ) → t ≡ is_open (joined w held)) → t ≡ is_open (decoded s)
  state_open is = is (fields s).held ∙ ap is_open state

  -- a call that may not enter found a closed state
  pub enters_not : (call : Call) {t : Bool} → ((held : List ℕ) → t ≡ (asks_open call || is_open (joined w held))) → not t ≡ true → is_open (decoded s) ≡ false
  enters_not call {t} may h = ap is_open (sym state) ∙ (or_parts (asks_open call) _ (sym (may (fields s).held) ∙ not-true t h)).1

  -- a log-in
  pub way_logs_in : (most : ℕ) → call_of n ≡ LogIn → is_open (decoded s) ≡ true → {o : Reply} → o ≡ log_in w.geometry v → {s' : List ℕ} → s' ≡ encoded_in o.drive s
      → WayMost most n p s v f b o.answer s' v f b most
  unfolding step does
  way_logs_in most is_call opens {o} is {s'} lays =
      let did : left o v f b ≡ step (decoded s).geometry (asked n p f b) (decoded s) v =
      rw is_call (ap (λ (x : Reply). left x v f b) is ∙ ap (λ (x : Drive). left (log_in x.geometry v) v f b) state) in
      record {
        whole = λ enough. laid n p s v f b did opens lays;
        fits = λ enough. value_low n p s v f b did;
        cut_open_lem = λ again. still_cut n p s v f b did most (ap (λ (k : Call). changes (way_of k)) is_call) refl;
      }

  module _ {call : Call} (is_call : call ≡ call_of n) where
    stepped : does (decoded s).geometry call p (joined w (fields s).held) v f b ≡ step (decoded s).geometry (asked n p f b) (decoded s) v
    unfolding step
    stepped = ap (λ (x : Drive). does (decoded s).geometry call p x v f b) state ∙ ap (λ (k : Call). does (decoded s).geometry k p (decoded s) v f b) is_call

    -- a call that asks: its front is laid back, and it stores nothing
    pub way_asks : (most : ℕ) → asks (way_of call) ≡ true → {enters : Bool} → ((held : List ℕ) → enters ≡ (asks_open call || is_open (joined w held))) → not enters ≡ false
        → {q : FrontReply} {f' b' : List ℕ} → ((g : Geometry) (held : List ℕ) → asks (way_of call) ≡ true → left (joined_reply q held) v f' b' ≡ does g call p (joined w held) v f b)
        → {t : Bool} → succeeded q.answer ≡ t → {s' : List ℕ} → s' ≡ cond t (with_front s q.front) s → WayMost most n p s v f b q.answer s' v f' b' most
    way_asks most a {enters} may h {q} {f'} {b'} asked_of {t} done {s'} lays =
        let did : left (joined_reply q (fields s).held) v f' b' ≡ step (decoded s).geometry (asked n p f b) (decoded s) v = asked_of (decoded s).geometry (fields s).held a ∙ stepped in
        let other : call_of n ≡ LogIn → ⊥ = λ e. asks_other call a (is_call ∙ e) in
        let itself : is_open (decoded s) ≡ false → asks_open (call_of n) ≡ true = λ shut.
        let e : (asks_open call || false) ≡ true = ap (λ (x : Bool). asks_open call || x) (sym shut ∙ ap is_open (sym state)) ∙ sym (may (fields s).held) ∙ not-false enters h in
        ap asks_open (sym is_call) ∙ sym (or-false (asks_open call)) ∙ e in
        let same_geometry : q.front.geometry ≡ (fields s).geometry =
        ap (λ (x : Outcome). x.drive.geometry) (asked_of (decoded s).geometry (fields s).held a ∙ ap (λ (x : Drive). does (decoded s).geometry call p x v f b) state)
        ∙ ⊎_elim (λ e. absurd (asks_other call a e)) (λ e. e) (call_geometry_of (decoded s) p v f b call) ∙ ap (λ (x : Drive). x.geometry) (decoded_fields s drive) in
        record {
          whole = λ enough. way_leaves n p s v f b did other itself bytes t done lays (front_laid s bytes drive q.front same_geometry);
          fits = λ enough. value_low n p s v f b did;
          cut_open_lem = λ opens. still_cut n p s v f b did most (ap (λ (k : Call). changes (way_of k)) (sym is_call) ∙ asks_changes_not (way_of call) a) refl;
        }

    -- a call that changes the volume: its held blocks are laid back
    pub way_changes : {most : ℕ} → changes (way_of call) ≡ true → {h : List ℕ} → h ≡ (fields s).held
        → {q : FrontReply} {h' v' f' : List ℕ} {left' : ℕ}
        → ((g : Geometry) → changes (way_of call) ≡ true → CutAfter most w.geometry v (call_stores call p (joined w h) v f b) (does g call p (joined w h) v f b) (cut_left (joined_reply q h') v' f' b left'))
        → {t : Bool} → succeeded q.answer ≡ t → {s' : List ℕ} → s' ≡ cond t (with_words s h') s → WayMost most n p s v f b q.answer s' v' f' b left'
    way_changes {most} a {h} loaded {q} {h'} {v'} {f'} {left'} changed {t} done {s'} lays =
        let x = rw loaded at (changed (decoded s).geometry a) in
        let stores : call_stores call p (joined w (fields s).held) v f b ≡ stores_of (asked n p f b) (decoded s) v =
        ap (λ (y : Drive). call_stores call p y v f b) state ∙ ap (λ (k : Call). call_stores k p (decoded s) v f b) is_call in
        let other : call_of n ≡ LogIn → ⊥ = λ e. changes_other call a (is_call ∙ e) in
        let itself : is_open (decoded s) ≡ false → asks_open (call_of n) ≡ true = λ shut. ap asks_open (sym is_call) ∙ (changing (decoded s).geometry p (decoded s) v f b call a).itself in
        let did : length (stores_of (asked n p f b) (decoded s) v) ≤ most → left (joined_reply q h') v' f' b ≡ step (decoded s).geometry (asked n p f b) (decoded s) v = λ enough. x.whole (rw (sym stores) at enough) ∙ stepped in
        let same-front : length (stores_of (asked n p f b) (decoded s) v) ≤ most → q.front ≡ front_of (fields s) = λ enough.
        ap (λ (y : Outcome). front_of y.drive) (x.whole (rw (sym stores) at enough)) ∙ (changing (decoded s).geometry p (joined w (fields s).held) v f b call a).same ∙ front in
        record {
          whole = λ enough. way_leaves n p s v f b (did enough) other itself bytes t done lays (words_laid s bytes drive h' ∙ ap (λ (z : Front). encoded_in (joined z h') s) (sym (same-front enough)));
          fits = λ enough. value_low n p s v f b (did enough);
          cut_open_lem = λ opens. record {
            volume_is = x.volume_is ∙ ap (cut w.geometry v most) stores ∙ ap (λ (y : Drive). cut y.geometry v most (stores_of (asked n p f b) (decoded s) v)) state;
            left_is = x.left_is ∙ ap (λ (l : List Store). most - length l) stores;
            refused_is = x.refused_is ∙ ap (λ (y : Outcome). refused_by y.answer) stepped;
          };
        }

-- what is told of a way's answer
pub told_most : {most n p : ℕ} {s v f b : List ℕ} {a : Answer} {s' v' f' b' : List ℕ} {left' : ℕ} {told : Told} → WayMost most n p s v f b a s' v' f' b' left' → Tells a told
    → CallMost most n p s v f b told s' v' f' b' left'
told_most {s' = s'} {v'} {f'} {b'} x tells = record {
  whole = λ enough. ap (λ (r : ℕ). sealed r s' v' f' b') (tells.whole_is (x.fits enough)) ∙ x.whole enough;
  cut_open_lem = λ opens. let y = x.cut_open_lem opens in record {
    volume_is = y.volume_is;
    left_is = y.left_is;
    refused_is = rw (tells.done_is, tells.number_is) y.refused_is;
  };
}

-- bytes that are no drive's count as closed
pub no_drive : (s : List ℕ) {t : Bool} → t ≡ is_drive s → not t ≡ true → is_open (decoded s) ≡ false
no_drive s {t} is h = go (is_open (decoded s)) refl
  where
    go : (x : Bool) → is_open (decoded s) ≡ x → is_open (decoded s) ≡ false
    go true e = absurd (true≢false (sym (open_drive s e) ∙ sym is ∙ not-true t h))
    go false e = e

-- ---- a log-in
module _ (g : Geometry) (v s : List ℕ) {n : ℕ} (size : n ≡ drive_bytes (blocks g)) where
  pub log_in_refused : {r : ℕ} → (length s ≡ n → ⊥) → r ≡ answered (Refused Closed) → sealed r s v [] [] ≡ log_in_at_seam g v s
  unfolding log_in_at_seam
  log_in_refused h e = rw (ne_eqb (length s) (drive_bytes (blocks g)) (λ q. h (q ∙ sym size)), e)

  pub log_in_done : {r : ℕ} {o : Reply} {s' : List ℕ} → length s ≡ n → o ≡ log_in g v → s' ≡ encoded_in o.drive s → r ≡ answered o.answer
      → sealed r s' v [] [] ≡ log_in_at_seam g v s
  unfolding log_in_at_seam
  log_in_done {r} {o} {s'} h is lays e = rw (eq-eqb (length s) (drive_bytes (blocks g)) (h ∙ size), ← is, e, lays)
