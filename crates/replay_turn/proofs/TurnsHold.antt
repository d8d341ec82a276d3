-- A run of turns shows the transcript: each turn is one step of its definition.
use mathlib.Core.Path.{◌≡◌, refl, sym, ap, ◌∙◌}
use mathlib.Core.Bool.{Bool}
use mathlib.Core.List.{List, [], ◌++◌, append-nil}
use Prim.Native.Nat.{ℕ, zero, suc, ◌+◌, ◌≤◌}
use native.Mathlib.Omega.{arith}
use lib.ListN.{length, drop, length-drop}
use borrow.Author.Tests.{eq-eqb}
use Rattle.disk_geometry.specs.declared.Geometry.{Geometry}
use Rattle.filecalls.specs.declared.Drive.{Drive}
use Rattle.text.specs.Text.{Text, puts}
use Rattle.text.proofs.TextLaws.{puts_append}
use Rattle.replay_script.specs.declared.Head.{Head}
use Rattle.replay_script.specs.declared.Next.TheVariants.{End, Bad, Call}
use Rattle.replay_script.specs.Script.{call_length, next_of, call_at}
use Rattle.replay_script.proofs.ScriptLaws.{next_head}
use Rattle.replay_script.proofs.WindowLaws.{next_in_window, call_in_window}
use Rattle.replay_transcript.specs.Lines.{bad_line}
use Rattle.replay_turn.specs.Play.{After, played, line_of, called, afterwards, after}
use Rattle.replay_turn.specs.Transcript.{Run, run_from}
use Rattle.replay_turn.specs.Turns.{Enough, all_left, longest, Turns, ends, breaks, goes_on, Shows, TurnsShow}

-- what stands next in the window stands next in the script
next_same : (s w z : List ℕ) → s ≡ w ++ z → Enough w z → next_of s ≡ next_of w
next_same s w z e (all_left h) = ap next_of (e ∙ rw (h, append-nil))
next_same s w z e (longest small room) = ap next_of e ∙ next_in_window w z small room

call_same : (s w z : List ℕ) → s ≡ w ++ z → Enough w z → call_at s ≡ call_at w
call_same s w z e (all_left h) = ap call_at (e ∙ rw (h, append-nil))
call_same s w z e (longest small room) = ap call_at e ∙ call_in_window w z small room

next_none : (s : List ℕ) → length s ≤ 0 → next_of s ≡ End
unfolding next_of
next_none s h =
    let z : length s ≡ 0 = omega arith in
    rw (eq-eqb (length s) 0 z)

-- ---- one step of the definition, by what stands next
module _ (g : Geometry) (n : ℕ) (s : List ℕ) (d : Drive) (v : List ℕ) where
  run_ends : (k : ℕ) → next_of s ≡ End → run_from g k n s d v ≡ record { lines = []; volume = v; calls = n }
  unfolding run_from
  run_ends zero e = refl
  run_ends (suc k) e = rw e

  run_breaks : (k : ℕ) → next_of s ≡ Bad → run_from g (suc k) n s d v ≡ record { lines = bad_line n; volume = v; calls = n }
  unfolding run_from
  run_breaks k e = rw e

  after_call : (h : Head) → next_of s ≡ Call h → drop (call_length s) s ≡ drop (5 + h.fcb + h.buffer) s
  unfolding call_length
  after_call h e = ap (λ (x : Head). drop (5 + x.fcb + x.buffer) s) (next_head s h e)

  run_goes_on : (k : ℕ) (h : Head) → next_of s ≡ Call h
      → run_from g (suc k) n s d v
      ≡ record {
        lines =
            line_of (call_at s).function (played g (call_at s) d v)
            ++ (run_from g k (suc n) (drop (5 + h.fcb + h.buffer) s) (played g (call_at s) d v).drive (played g (call_at s) d v).volume).lines;
        volume =
            (run_from g k (suc n) (drop (5 + h.fcb + h.buffer) s) (played g (call_at s) d v).drive (played g (call_at s) d v).volume).volume;
        calls =
            (run_from g k (suc n) (drop (5 + h.fcb + h.buffer) s) (played g (call_at s) d v).drive (played g (call_at s) d v).volume).calls;
      }
  unfolding run_from
  run_goes_on k h e = rw (← after_call h e, e)

-- ---- what a turn leaves is what the definition goes on with
module _ (g : Geometry) (s w z : List ℕ) (d e : Drive) (v u y : List ℕ) (t p : Text) (h : Head) where
  turned : s ≡ w ++ z → Enough w z → next_of w ≡ Call h → afterwards e u y p ≡ after g w d v t
      → (e ≡ (played g (call_at s) d v).drive)
      × ((u ≡ (played g (call_at s) d v).volume)
      × (p ≡ puts t (line_of (call_at s).function (played g (call_at s) d v))))
  unfolding after called
  turned l i o a =
      let c = call_same s w z l i in
      let f = rw o at a in
      rw c (ap (λ (r : After). r.drive) f, (ap (λ (r : After). r.volume) f, ap (λ (r : After). r.text) f))

-- ---- by the turns
holds : {g : Geometry} {n : ℕ} {s : List ℕ} {d : Drive} {v : List ℕ} {t : Text} {b : Bool} {m : ℕ} {x : List ℕ} {q : Text}
    → Turns g n s d v t b m x q → (k : ℕ) → length s ≤ k → Shows g k n s d v t b m x q
unfolding puts
holds {g} {n} {s} {d} {v} {t} {b} {m} {x} {q} (ends w z e i o) k l =
    let r = sym (run_ends g n s d v k (next_same s w z e i ∙ o)) in
    record {
      lines_are = ap (λ (y : Run). puts t y.lines) r;
      volume_is = ap (λ (y : Run). y.volume) r;
      calls_are = ap (λ (y : Run). y.calls) r;
    }
holds {g} {n} {s} {d} {v} {t} {b} {m} {x} {q} (breaks w z e i o) zero l =
    absurd (let a : next_of s ≡ Bad = next_same s w z e i ∙ o in let f : next_of s ≡ End = next_none s l in let z : ◌≡◌ {A = ℕ} 0 1 = cc in omega arith)
holds {g} {n} {s} {d} {v} {t} {b} {m} {x} {q} (breaks w z e i o) (suc k) l =
    let r = sym (run_breaks g n s d v k (next_same s w z e i ∙ o)) in
    record {
      lines_are = ap (λ (y : Run). puts t y.lines) r;
      volume_is = ap (λ (y : Run). y.volume) r;
      calls_are = ap (λ (y : Run). y.calls) r;
    }
holds {g} {n} {s} {d} {v} {t} {b} {m} {x} {q} (goes_on w z y h e i o a rest) zero l =
    absurd (let c : next_of s ≡ Call h = next_same s w z e i ∙ o in let f : next_of s ≡ End = next_none s l in let z : ◌≡◌ {A = ℕ} 0 1 = cc in omega arith)
holds {g} (goes_on {n} {m} {s} {d} {e} {v} {u} {x} {t} {p} {q} {b} w z y h j i o a rest) (suc k) l =
    let f : length (drop (5 + h.fcb + h.buffer) s) ≤ k = rw length-drop (omega arith) in
    let ih = holds rest k f in
    let (de, (ue, pe)) = turned g s w z d e v u y t p h j i o a in
    let r = run_goes_on g n s d v k h (next_same s w z j i ∙ o) in
    record {
      lines_are = rw (r, puts_append, ← pe, ← de, ← ue) ih.lines_are;
      volume_is = rw (r, ← de, ← ue) ih.volume_is;
      calls_are = rw (r, ← de, ← ue) ih.calls_are;
    }

pub turns_show : TurnsShow
turns_show g n s d v t b m x q r k l = holds r k l
