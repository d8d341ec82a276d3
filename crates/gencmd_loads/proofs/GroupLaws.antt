-- The groups of a file: their types rise from 1 to 4, and their lengths fit 16 bits.
use mathlib.Core.Bool.{Bool, true, false, cond}
use mathlib.Core.List.{List, [], ◌∷◌, ◌++◌}
use Prim.Native.Nat.{ℕ, zero, suc, ◌+◌, ◌≤◌, ◌<◌}
use native.Mathlib.Omega.{arith}
use lib.Dec.{eqb}
use lib.ListN.{length, get_or}
use Rattle.memory_spans.specs.Span.{paragraphs}
use Rattle.load_header.specs.Header.{CODE, DATA, EXTRA, STACK}
use Rattle.gencmd_groups.specs.declared.Groups.{Groups}
use Rattle.gencmd_groups.specs.CodeMeasure.{SizeWithin}
use Rattle.gencmd_loads.specs.Loads.{Group, nobody, there, groups_of}

-- a type above b, and at most that of the stack; a number of 16 bits
pub record Small (b : ℕ) (g : Group) : Type 0 where
  pub low : b < g.type
  pub high : g.type ≤ STACK
  pub word : g.size < paragraphs

-- types that rise from above b
abbrev pub Rising : ℕ → List Group → Type 0
Rising b [] = Unit
Rising b (g ∷ gs) = Small b g × Rising g.type gs

small_from : (b c : ℕ) (g : Group) → b ≤ c → Small c g → Small b g
small_from b c g h k = record { low = omega (arith, k.low); high = k.high; word = k.word }

rising_from : (b c : ℕ) (gs : List Group) → b ≤ c → Rising c gs → Rising b gs
rising_from b c [] h r = tt
rising_from b c (g ∷ gs) h r = (small_from b c g h r.0, r.1)

rising_there : (b g n : ℕ) (gs : List Group) → b < g → g ≤ STACK → n < paragraphs → Rising g gs → Rising b (there g n ++ gs)
rising_there b g n gs h k w r = go (eqb n 0)
  where
    go : (t : Bool) → Rising b (cond t [] (record { type = g; size = n } ∷ []) ++ gs)
    go true = rising_from b g gs (omega arith) r
    go false = (record { low = h; high = k; word = w }, r)

-- the groups behind code and data
abbrev pub others : Groups → List Group
others s = there EXTRA s.extra ++ (there STACK s.stack ++ [])

pub others_rise : (s : Groups) → SizeWithin s → Rising DATA (others s)
others_rise s w =
    rising_there DATA EXTRA s.extra (there STACK s.stack ++ []) (omega arith) (omega arith) (omega (arith, w.extra))
    (rising_there EXTRA STACK s.stack [] (omega arith) (omega arith) (omega (arith, w.stack)) tt)

pub rising : (s : Groups) → SizeWithin s → Rising 0 (groups_of s)
rising s w =
    rising_there 0 CODE s.code (there DATA s.«data» ++ others s) (omega arith) (omega arith) (omega (arith, w.code))
    (rising_there CODE DATA s.«data» (others s) (omega arith) (omega arith) (omega (arith, w.«data»)) (others_rise s w))

-- ---- what follows of each
pub rising_at : (b : ℕ) (gs : List Group) → Rising b gs → (i : ℕ) → i < length gs → Small b (get_or gs i nobody)
rising_at b [] r i h = absurd (omega arith)
rising_at b (g ∷ gs) r zero h = r.0
rising_at b (g ∷ gs) r (suc i) h = small_from b g.type (get_or gs i nobody) (omega (arith, r.0.low)) (rising_at g.type gs r.1 i (omega arith))

pub rising_less : (b : ℕ) (gs : List Group) → Rising b gs → (j i : ℕ) → j < i → i < length gs → (get_or gs j nobody).type < (get_or gs i nobody).type
rising_less b [] r j i h k = absurd (omega arith)
rising_less b (g ∷ gs) r j zero h k = absurd (omega arith)
rising_less b (g ∷ gs) r zero (suc i) h k = (rising_at g.type gs r.1 i (omega arith)).low
rising_less b (g ∷ gs) r (suc j) (suc i) h k = rising_less g.type gs r.1 j i (omega arith) (omega arith)

pub rising_few : (b : ℕ) (gs : List Group) → b ≤ STACK → Rising b gs → b + length gs ≤ STACK
rising_few b [] h r = omega arith
rising_few b (g ∷ gs) h r = let k = rising_few g.type gs r.0.high r.1 in omega (arith, r.0.low)
