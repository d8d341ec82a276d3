-- Every byte that a line gives lies in a group of the header: its group is there, and has paragraphs enough.
use mathlib.Core.Path.{◌≡◌, refl, ap, ◌∙◌}
use mathlib.Core.Bool.{Bool, true, false, cond}
use mathlib.Core.List.{List, [], ◌∷◌, ◌++◌}
use Prim.Native.Nat.{ℕ, suc, ◌*◌, ◌<◌}
use native.Mathlib.Omega.{arith}
use borrow.Author.Tests.{ne_eqb}
use lib.Dec.{eqb}
use lib.ListN.{length, get_or}
use Rattle.memory_spans.specs.Span.{paragraph_bytes}
use Rattle.load_header.specs.Header.{CODE, DATA, EXTRA, STACK}
use Rattle.std.specs.Prelude.{is_none}
use Rattle.gencmd_lines.specs.Line.{Line}
use Rattle.gencmd_lines.specs.Lines.{lines_refusal, data_lines}
use Rattle.gencmd_lines.proofs.RefusalLaws.{OfEach}
use Rattle.gencmd_groups.specs.declared.Groups.{Groups}
use Rattle.gencmd_groups.specs.Groups.{given, reaches, sizes_of}
use Rattle.gencmd_groups.specs.HighestByte.{Covers, Enough}
use Rattle.gencmd_groups.proofs.EnoughLaws.{enough, given_by}
use Rattle.gencmd_loads.specs.Loads.{Group, nobody, there, groups_of, Says, Holds}
use Rattle.gencmd_loads.proofs.GroupLaws.{others}

abbrev group : ℕ → ℕ → Group
group g n = record { type = g; size = n }

-- a group stands among others
record Among (g n : ℕ) (gs : List Group) : Type 0 where
  pub place : ℕ
  pub below : place < length gs
  pub here : get_or gs place nobody ≡ group g n

among_here : (g n : ℕ) (gs : List Group) → 0 < n → Among g n (there g n ++ gs)
among_here g n gs h = rw (ne_eqb n 0 (λ e. omega arith)) (record { place = 0; below = omega arith; here = refl })

among_later : (g n x m : ℕ) (gs : List Group) → Among g n gs → Among g n (there x m ++ gs)
among_later g n x m gs k = go (eqb m 0)
  where
    go : (t : Bool) → Among g n (cond t [] (group x m ∷ []) ++ gs)
    go true = k
    go false = record { place = suc k.place; below = omega (arith, k.below); here = k.here }

-- ---- a group that has paragraphs is there
module _ (s : Groups) where
  in_code : 0 < s.code → Among CODE s.code (groups_of s)
  in_code = among_here CODE s.code (there DATA s.«data» ++ others s)

  in_data : 0 < s.«data» → Among DATA s.«data» (groups_of s)
  in_data k = among_later DATA s.«data» CODE s.code (there DATA s.«data» ++ others s) (among_here DATA s.«data» (others s) k)

  behind : (g n : ℕ) → Among g n (others s) → Among g n (groups_of s)
  behind g n k = among_later g n CODE s.code (there DATA s.«data» ++ others s) (among_later g n DATA s.«data» (others s) k)

  in_extra : 0 < s.extra → Among EXTRA s.extra (groups_of s)
  in_extra k = behind EXTRA s.extra (among_here EXTRA s.extra (there STACK s.stack ++ []) k)

  in_stack : 0 < s.stack → Among STACK s.stack (groups_of s)
  in_stack k = behind STACK s.stack (among_later STACK s.stack EXTRA s.extra (there STACK s.stack ++ []) (among_here STACK s.stack [] k))

-- ---- and so a group with a byte in it
module _ (ls : List Line) (s : Groups) (h : List ℕ) (says : Says h (groups_of s)) (e : Enough ls s) where
  abbrev Whole : ℕ → Type 0
  Whole g = (a : ℕ) → given ls g a ≡ true → Holds h g a

  holds : (g n : ℕ) → Covers ls g n → (0 < n → Among g n (groups_of s)) → Whole g
  holds g n c k a f =
      let b : a < paragraph_bytes * n = c a f in
      let m = k (omega arith) in
      record {
        place = m.place;
        below = omega (arith, says.number, m.below);
        type = says.type m.place m.below ∙ ap (λ (x : Group). x.type) m.here;
        inside = rw (says.size m.place m.below, m.here) b;
      }

  each : OfEach Whole
  each =
      record {
        code = holds CODE s.code e.code (in_code s);
        «data» = holds DATA s.«data» e.«data» (in_data s);
        extra = holds EXTRA s.extra e.extra (in_extra s);
        stack = holds STACK s.stack e.stack (in_stack s);
      }

pub header_holds : (ls : List Line) (h : List ℕ) → is_none (lines_refusal ls) ≡ true → Says h (groups_of (sizes_of (reaches (data_lines ls))))
    → (g a : ℕ) → given (data_lines ls) g a ≡ true → Holds h g a
header_holds ls h e says g a f =
    let s = sizes_of (reaches (data_lines ls)) in
    let c = enough (data_lines ls) in
    given_by (Whole (data_lines ls) s h says c) (each (data_lines ls) s h says c) ls e g a f a f
