-- Which calls ask by themselves whether the state is open, what is told of an answer, and what a call over the drive's bytes leaves
-- with a number of stores: what the seam goes by.
use Rattle.std.specs.Prelude.{◌≡◌, Bool, true, false, cond, List, ℕ, ◌-◌, ◌%◌, ◌≤◌, ◌<◌, length}
use Rattle.call_answers.specs.declared.Answer.{Answer}
use Rattle.call_answers.specs.Answer.{number_of, value_of, succeeded}
use Rattle.filecalls.specs.declared.Drive.{Drive}
use Rattle.filecalls.specs.State.{is_open}
use Rattle.filecalls.specs.Stores.{refused_by}
use Rattle.bdos.specs.Step.{step}
use Rattle.bdos.specs.Stores.{stores_of, cut_volume}
use Rattle.drive_bytes.specs.Layout.{decoded}
use Rattle.call_served.specs.Asked.{Asked, asked}
use Rattle.call_served.specs.declared.Call.{Call}
use Rattle.call_served.specs.declared.Call.TheVariants.{LogIn, Open, Close, SearchFirst, SearchNext, Delete, Make, Rename, Protect, Attributes, User, Size, SetRandom, Moves, Unserved}
use Rattle.seam_calls.specs.declared.Told.{Told}
use Rattle.seam_words.specs.Answered.{answered}
use Rattle.seam_calls.specs.Seam.{sealed, at_seam}

-- every call but a log-in, which takes any state, and a number that is not served
abbrev pub asks_open : Call → Bool
asks_open LogIn = false
asks_open Open = true
asks_open Close = true
asks_open SearchFirst = true
asks_open SearchNext = true
asks_open Delete = true
asks_open Make = true
asks_open Rename = true
asks_open Protect = true
asks_open Attributes = true
asks_open User = true
asks_open Size = true
asks_open SetRandom = true
asks_open (Moves t) = true
asks_open Unserved = false

-- what is told of an answer: its number always, its value where it fits
pub record Tells (a : Answer) (told : Told) : Type 0 where
  pub number_is : told.answer % 65536 ≡ number_of a
  pub whole_is : value_of a < 65536 → told.answer ≡ answered a
  pub done_is : told.done ≡ succeeded a

-- the number of the refusal that is told, 0 for a call that succeeded
abbrev pub refusal_told : Told → ℕ
refusal_told told = cond told.done 0 (told.answer % 65536)

-- a call in an open state whose stores are cut after the first `most`: the volume, how many are left, and the refusal's number
pub record CutOpen (most : ℕ) (c : Asked) (d : Drive) (v v' : List ℕ) (left refusal : ℕ) : Type 0 where
  pub volume_is : v' ≡ cut_volume d.geometry c d v most
  pub left_is : left ≡ most - length (stores_of c d v)
  pub refused_is : refusal ≡ refused_by (step d.geometry c d v).answer

-- the same of one way through the seam over a drive's bytes, by its answer; with stores enough it is the call at the seam
pub record WayMost (most n p : ℕ) (s v f b : List ℕ) (a : Answer) (s' v' f' b' : List ℕ) (left : ℕ) : Type 0 where
  pub whole : length (stores_of (asked n p f b) (decoded s) v) ≤ most → sealed (answered a) s' v' f' b' ≡ at_seam n p s v f b
  pub fits : length (stores_of (asked n p f b) (decoded s) v) ≤ most → value_of a < 65536
  pub cut_open_lem : is_open (decoded s) ≡ true → CutOpen most (asked n p f b) (decoded s) v v' left (refused_by a)

-- and of the call by its function's number, with what is told of it
pub record CallMost (most n p : ℕ) (s v f b : List ℕ) (told : Told) (s' v' f' b' : List ℕ) (left : ℕ) : Type 0 where
  pub whole : length (stores_of (asked n p f b) (decoded s) v) ≤ most → sealed told.answer s' v' f' b' ≡ at_seam n p s v f b
  pub cut_open_lem : is_open (decoded s) ≡ true → CutOpen most (asked n p f b) (decoded s) v v' left (refusal_told told)
