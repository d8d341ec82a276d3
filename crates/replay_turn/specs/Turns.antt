-- The tie of the code to the transcript: a run of turns (`take_turn`), each given the state, the volume and the text that
-- the last left, and each over a window of what is left of the script. Of each turn it is taken that it leaves what its
-- contract says; that it does is what the check of this crate proves. So the transcript speaks of what runs.
use Rattle.std.specs.Prelude.{◌≡◌, Bool, true, false, cond, List, [], ◌++◌, ℕ, suc, ◌≤◌, length, drop}
use Rattle.numbers.specs.Numbers.{Bytes}
use Rattle.disk_geometry.specs.declared.Geometry.{Geometry}
use Rattle.filecalls.specs.declared.Drive.{Drive}
use Rattle.text.specs.Text.{Text, puts}
use Rattle.replay_script.specs.declared.Head.{Head}
use Rattle.replay_script.specs.declared.Next.TheVariants.{End, Bad, Call}
use Rattle.replay_script.specs.Layout.{call_bytes, longest_call}
use Rattle.replay_script.specs.Script.{next_of}
use Rattle.replay_transcript.specs.Lines.{bad_line}
use Rattle.replay_turn.specs.Play.{afterwards, after}
use Rattle.replay_turn.specs.Transcript.{run_from}

-- the window w on a script, with z behind it, is enough for the next call: it is all that is left, or the longest call has
-- room in it
pub data Enough (w z : List ℕ) : Type 0 where
  all_left : z ≡ [] → Enough w z
  longest : Bytes w → longest_call ≤ length w → Enough w z

-- from n calls, a script, a state, a volume and a text on: whether the script is bad, and the number of calls, the volume
-- and the text at the end
pub data Turns (g : Geometry) : ℕ → List ℕ → Drive → List ℕ → Text → Bool → ℕ → List ℕ → Text → Type 0 where
  ends : {n : ℕ} {s : List ℕ} {d : Drive} {v : List ℕ} {t : Text} (w z : List ℕ) → s ≡ w ++ z → Enough w z
      → next_of w ≡ End → Turns g n s d v t false n v t
  breaks : {n : ℕ} {s : List ℕ} {d : Drive} {v : List ℕ} {t : Text} (w z : List ℕ) → s ≡ w ++ z → Enough w z
      → next_of w ≡ Bad → Turns g n s d v t true n v t
  goes_on : {n m : ℕ} {s : List ℕ} {d e : Drive} {v u x : List ℕ} {t p q : Text} {b : Bool}
      (w z y : List ℕ) (h : Head) → s ≡ w ++ z → Enough w z
      → next_of w ≡ Call h → afterwards e u y p ≡ after g w d v t
      → Turns g (suc n) (drop (call_bytes h.fcb h.buffer) s) e u p b m x q
      → Turns g n s d v t b m x q

-- what they leave is what the transcript says, in any number of calls that the script has room for
pub record Shows (g : Geometry) (k n : ℕ) (s : List ℕ) (d : Drive) (v : List ℕ) (t : Text)
    (b : Bool) (m : ℕ) (x : List ℕ) (q : Text) : Type 0 where
  pub lines_are : cond b (puts q (bad_line m)) q ≡ puts t (run_from g k n s d v).lines
  pub volume_is : x ≡ (run_from g k n s d v).volume
  pub calls_are : m ≡ (run_from g k n s d v).calls

abbrev pub TurnsShow : Type 0
TurnsShow =
    (g : Geometry) (n : ℕ) (s : List ℕ) (d : Drive) (v : List ℕ) (t : Text) (b : Bool) (m : ℕ) (x : List ℕ) (q : Text)
    → Turns g n s d v t b m x q → (k : ℕ) → length s ≤ k → Shows g k n s d v t b m x q
