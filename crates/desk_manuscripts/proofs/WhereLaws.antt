-- Where a siglum is explained, by what the two searches answer.
use mathlib.Core.Path.{◌≡◌}
use mathlib.Core.Bool.{false, ◌||◌}
use mathlib.Core.List.{List}
use Prim.Native.Nat.{ℕ, ◌≤◌, ◌<◌}
use borrow.Author.Tests.{lt-ltb, le-ltb}
use Rattle.std.specs.Prelude.{Ok, Err}
use Rattle.desk_manuscripts.specs.declared.Place.TheVariants.{Own, House}
use Rattle.desk_manuscripts.specs.declared.Unexplained.TheVariants.{Neither}
use Rattle.desk_manuscripts.specs.Manuscript.{lines, uneven, line_of, where_of}

module _ (siglum : ℕ) (own house : List ℕ) (even : (uneven own || uneven house) ≡ false) where
  pub in_own : {i : ℕ} → i ≡ line_of own siglum → i < lines own → Ok (Own i) ≡ where_of siglum own house
  unfolding where_of
  in_own f h = rw (even, ← f, lt-ltb _ _ h)

  module _ (h : lines own ≤ line_of own siglum) where
    pub in_house : {j : ℕ} → j ≡ line_of house siglum → j < lines house → Ok (House j) ≡ where_of siglum own house
    unfolding where_of
    in_house s k = rw (even, le-ltb _ _ h, ← s, lt-ltb _ _ k)

    pub in_neither : lines house ≤ line_of house siglum → Err Neither ≡ where_of siglum own house
    unfolding where_of
    in_neither k = rw (even, le-ltb _ _ h, le-ltb _ _ k)
