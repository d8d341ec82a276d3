-- Laws of the shelf: when its figures are within the rules, and how large those of one volume may be.
use mathlib.Core.Path.{◌≡◌, refl}
use mathlib.Core.Bool.{Bool, true, false, cond}
use mathlib.Core.List.{List}
use Prim.Native.Nat.{ℕ, ◌≤◌, ◌<◌}
use native.Mathlib.Omega.{arith}
use borrow.Author.Tests.{ltb-true, lt-ltb}
use Rattle.lists.proofs.BoolLaws.{and_parts}
use Rattle.disk_geometry.specs.declared.Geometry.{Geometry}
use Rattle.call_answers.specs.Answer.{succeeded}
use Rattle.filecalls.specs.LogIn.{log_in}
use Rattle.filecalls.proofs.ReadyLaws.{accepted}
use Rattle.shelf_holdings.specs.Holdings.{holdings}
use Rattle.shelf_holdings.proofs.WasteLaws.{sums_hold}
use Rattle.shelf_figures.specs.declared.Shelf.{Shelf}
use Rattle.shelf_figures.specs.Shelf.{most_figure, is_kept, refused_one, accepted_one, one}
use Rattle.shelf_figures.specs.Order.{Within}

-- ---- one volume, as log-in answers
module _ (g : Geometry) (v : List ℕ) where
  pub one_refused : succeeded (log_in g v).answer ≡ false → one g v ≡ refused_one
  unfolding one
  one_refused e = rw e

  pub one_accepted : succeeded (log_in g v).answer ≡ true → one g v ≡ accepted_one (holdings g v)
  unfolding one
  one_accepted e = rw e

-- ---- figures within the rules
pub record Kept (s : Shelf) : Type 0 where
  pub refused : s.refused < most_figure
  pub files : s.files < most_figure
  pub entries : s.entries < most_figure
  pub records : s.records < most_figure
  pub held : s.held < most_figure
  pub free : s.free < most_figure
  pub waste : s.waste < most_figure
  pub seen : s.seen < most_figure

pub kept : (s : Shelf) → is_kept s ≡ true → Kept s
kept s h =
    let p₁ = and_parts _ _ h in
    let p₂ = and_parts _ _ p₁.0 in
    let p₃ = and_parts _ _ p₂.0 in
    let p₄ = and_parts _ _ p₃.0 in
    let p₅ = and_parts _ _ p₄.0 in
    let p₆ = and_parts _ _ p₅.0 in
    let p₇ = and_parts _ _ p₆.0 in
    record {
      refused = ltb-true _ _ p₇.0;
      files = ltb-true _ _ p₇.1;
      entries = ltb-true _ _ p₆.1;
      records = ltb-true _ _ p₅.1;
      held = ltb-true _ _ p₄.1;
      free = ltb-true _ _ p₃.1;
      waste = ltb-true _ _ p₂.1;
      seen = ltb-true _ _ p₁.1;
    }

pub is_kept_lem : (s : Shelf) → Kept s → is_kept s ≡ true
is_kept_lem s k =
    rw (
      lt-ltb s.refused most_figure k.refused,
      lt-ltb s.files most_figure k.files,
      lt-ltb s.entries most_figure k.entries,
      lt-ltb s.records most_figure k.records,
      lt-ltb s.held most_figure k.held,
      lt-ltb s.free most_figure k.free,
      lt-ltb s.waste most_figure k.waste,
      lt-ltb s.seen most_figure k.seen,
    )

-- ---- the figures of n volumes
pub within_kept : (n : ℕ) (s : Shelf) → n ≤ 65535 → Within n s → is_kept s ≡ true
within_kept n s h w =
    is_kept_lem s (record {
      refused = omega (arith, w.refused);
      files = omega (arith, w.files);
      entries = omega (arith, w.entries);
      records = omega (arith, w.records);
      held = omega (arith, w.held);
      free = omega (arith, w.free);
      waste = omega (arith, w.waste);
      seen = omega (arith, w.seen);
    })

-- one volume
refused_within : Within 1 refused_one
refused_within =
    record {
      refused = omega arith;
      files = omega arith;
      entries = omega arith;
      records = omega arith;
      held = omega arith;
      free = omega arith;
      waste = omega arith;
      seen = refl;
    }

pub one_within : (g : Geometry) (v : List ℕ) → Within 1 (one g v)
unfolding one holdings
one_within g v = go (succeeded (log_in g v).answer) refl
  where
    go : (t : Bool) → succeeded (log_in g v).answer ≡ t → Within 1 (cond t (accepted_one (holdings g v)) refused_one)
    go false e = refused_within
    go true e =
        let a = accepted g v e in
        let s = sums_hold g v a.law a.good in
        record {
          refused = omega arith;
          files = omega (arith, s.files_most);
          entries = omega (arith, s.entries_most);
          records = omega (arith, s.records_most);
          held = omega (arith, s.held_most);
          free = omega (arith, s.free_most);
          waste = omega (arith, s.waste_most);
          seen = refl;
        }
