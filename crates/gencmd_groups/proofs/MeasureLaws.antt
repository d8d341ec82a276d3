-- Measuring line by line: the reach so far, and what the lines that are left add to it.
use mathlib.Core.Path.{◌≡◌, refl, sym, ap, ◌∙◌}
use mathlib.Core.Bool.{true, false}
use mathlib.Core.List.{List, [], ◌∷◌}
use Prim.Native.Nat.{ℕ, max}
use native.Mathlib.Omega.{arith}
use Rattle.load_header.specs.Header.{CODE, DATA, EXTRA, STACK}
use Rattle.gencmd_lines.specs.declared.Refusal.{Refusal}
use Rattle.gencmd_lines.specs.declared.Refusal.TheVariants.{NoEnd}
use Rattle.gencmd_lines.specs.Refusal.{unless}
use Rattle.gencmd_lines.proofs.RefusalLaws.{not_refused, is_refused}
use Rattle.std.specs.Prelude.{is_none, Some, Result, Ok, Err}
use Rattle.gencmd_lines.specs.Line.{Line, is_end, line_refusal}
use Rattle.gencmd_lines.specs.Lines.{lines_refusal, data_lines}
use Rattle.gencmd_groups.specs.declared.Groups.{Groups}
use Rattle.gencmd_groups.specs.Groups.{end_of, reach_of, reaches}
use Rattle.gencmd_groups.specs.CodeMeasure.{reach_over, measured}

-- the larger of each two
abbrev joined : Groups → Groups → Groups
joined r s = record {
  code = max r.code s.code;
  «data» = max r.«data» s.«data»;
  extra = max r.extra s.extra;
  stack = max r.stack s.stack;
}

abbrev pub nothing : Groups
nothing = record { code = 0; «data» = 0; extra = 0; stack = 0 }

-- what measuring tells that has reached r and has these lines left
abbrev pub after : Groups → List Line → Result Groups Refusal
after r ls = unless (lines_refusal ls) (joined r (reaches (data_lines ls)))

from_zero : (n : ℕ) → max 0 n ≡ n
from_zero n = omega arith

to_zero : (n : ℕ) → max n 0 ≡ n
to_zero n = omega arith

regroup : (a b c : ℕ) → max a (max b c) ≡ max (max a b) c
regroup a b c = omega arith

pub after_nothing : (ls : List Line) → after nothing ls ≡ measured ls
after_nothing ls = rw (from_zero (reach_of (data_lines ls) CODE), from_zero (reach_of (data_lines ls) DATA), from_zero (reach_of (data_lines ls) EXTRA), from_zero (reach_of (data_lines ls) STACK))

after_none : (r : Groups) → after r [] ≡ Err NoEnd
unfolding lines_refusal
after_none r = refl

module _ (r : Groups) (l : Line) (ls : List Line) where
  after_refused : {why : Refusal} → line_refusal l ≡ Some why → after r (l ∷ ls) ≡ Err why
  unfolding lines_refusal
  after_refused e = rw e

  after_end : is_none (line_refusal l) ≡ true → is_end l ≡ true → after r (l ∷ ls) ≡ Ok r
  unfolding lines_refusal data_lines reach_of
  after_end e f = rw (e, f, to_zero r.code, to_zero r.«data», to_zero r.extra, to_zero r.stack)

  after_next : is_none (line_refusal l) ≡ true → is_end l ≡ false → after r (l ∷ ls) ≡ after (reach_over r l) ls
  unfolding lines_refusal data_lines reach_of
  after_next e f =
      rw (
        e,
        f,
        regroup r.code (end_of l CODE) (reach_of (data_lines ls) CODE),
        regroup r.«data» (end_of l DATA) (reach_of (data_lines ls) DATA),
        regroup r.extra (end_of l EXTRA) (reach_of (data_lines ls) EXTRA),
        regroup r.stack (end_of l STACK) (reach_of (data_lines ls) STACK),
      )

-- ---- a walk over the lines: the reach so far and the lines that are still to come give the whole
pub record Measuring (r : Groups) (now all : List Line) : Type 0 where
  pub rest : after r now ≡ measured all

pub measuring_start : {now all : List Line} → now ≡ all → Measuring nothing now all
measuring_start {now} {all} e = record { rest = ap (after nothing) e ∙ after_nothing all }

module _ {r : Groups} {now all : List Line} (m : Measuring r now all) where
  pub measuring_none : now ≡ [] → Err NoEnd ≡ measured all
  measuring_none e = sym (after_none r) ∙ ap (after r) (sym e) ∙ m.rest

  module _ {l : Line} {ls : List Line} (e : now ≡ l ∷ ls) where
    whole : after r (l ∷ ls) ≡ measured all
    whole = ap (after r) (sym e) ∙ m.rest

    pub measuring_refused : {why : Refusal} → Err why ≡ unless (line_refusal l) (tt {0}) → Err why ≡ measured all
    measuring_refused h = sym (after_refused r l ls (is_refused (line_refusal l) (tt {0}) h)) ∙ whole

    pub measuring_end : Ok (tt {0}) ≡ unless (line_refusal l) (tt {0}) → is_end l ≡ true → Ok r ≡ measured all
    measuring_end h f = sym (after_end r l ls (not_refused (line_refusal l) (tt {0}) h) f) ∙ whole

    pub measuring_next : {s : Groups} → Ok (tt {0}) ≡ unless (line_refusal l) (tt {0}) → is_end l ≡ false → s ≡ reach_over r l → Measuring s ls all
    measuring_next h f x = record { rest = rw x (sym (after_next r l ls (not_refused (line_refusal l) (tt {0}) h) f) ∙ whole) }
