-- Laying lines one after the other: each address has the byte of the last line that gives it.
use mathlib.Core.Path.{◌≡◌, refl, sym, ap, ◌∙◌}
use mathlib.Core.Bool.{Bool, true, false, cond, ◌&&◌, ◌||◌}
use mathlib.Core.List.{List, [], ◌∷◌}
use Prim.Native.Nat.{ℕ, zero, suc, ◌+◌, ◌-◌, ◌<◌}
use native.Mathlib.Decide.{dec_lt, ℕ_discrete}
use native.Mathlib.Numerals.{add-one}
use native.Mathlib.Omega.{arith}
use lib.Dec.{leb, ltb, eqb}
use lib.ListN.{length, replicate, set, length-set, length-replicate, get_or-replicate}
use lib.Seq.{get_or-set_same, get_or-set_other}
use borrow.Author.Tests.{lt-ltb, le-ltb, le-leb, lt-leb}
use Rattle.lists.specs.Bytes.{byte}
use Rattle.lists.specs.Bounded.{fold}
use Rattle.lists.proofs.FoldLaws.{fold_add}
use Rattle.gencmd_lines.specs.Line.{Line, count_of, address_of, data_of, group_of, is_end}
use Rattle.gencmd_lines.specs.Lines.{data_lines}
use Rattle.gencmd_groups.specs.Groups.{gives, given, byte_at, group_bytes}
use Rattle.gencmd_groups.specs.CodeLaying.{lay_byte, laid}
use Rattle.gencmd_groups.proofs.ListLaws.{list_is}

-- ---- one step more
fold_one : (step : List ℕ → ℕ → List ℕ) (a : List ℕ) (i : ℕ) → fold step a i 1 ≡ step a i
unfolding fold
fold_one step a i = refl

fold_more : (step : List ℕ → ℕ → List ℕ) (a : List ℕ) (n : ℕ) → fold step a 0 (suc n) ≡ step (fold step a 0 n) n
fold_more step a n =
    let z : 0 + n ≡ n = omega arith in
    ap (fold step a 0) (sym (add-one n)) ∙ fold_add step a 0 n 1 ∙ fold_one step (fold step a 0 n) (0 + n) ∙ ap (step (fold step a 0 n)) z

-- ---- one line
module _ (l : Line) (bytes : List ℕ) where
  -- the first n of its data bytes
  abbrev some : ℕ → List ℕ
  some n = fold (lay_byte l) bytes 0 n

  some_more : (n : ℕ) → some (suc n) ≡ set (some n) (address_of l + n) (data_of l n)
  some_more n = fold_more (lay_byte l) bytes n

  some_length : (n : ℕ) → length (some n) ≡ length bytes
  some_length zero = unfold fold in refl
  some_length (suc n) = rw (some_more n, length-set) (some_length n)

  -- address a is that of one of the first n
  abbrev among : ℕ → ℕ → Bool
  among n a = leb (address_of l) a && ltb a (address_of l + n)

  some_byte : (n a : ℕ) → a < length bytes → byte (some n) a ≡ cond (among n a) (data_of l (a - address_of l)) (byte bytes a)
  some_byte zero a h = unfold fold in sym (rw (none (address_of l) a))
    where
      none : (x a : ℕ) → (leb x a && ltb a (x + 0)) ≡ false
      none x a = go (dec_lt a x)
        where
          go : Dec (a < x) → (leb x a && ltb a (x + 0)) ≡ false
          go (yes k) = rw (lt-leb x a k)
          go (no k) = rw (le-leb x a (omega arith), le-ltb a (x + 0) (omega arith))
  some_byte (suc n) a h = rw (some_more n) (go (ℕ_discrete a (address_of l + n)) (some_byte n a h))
    where
      go : Dec (a ≡ address_of l + n) → byte (some n) a ≡ cond (among n a) (data_of l (a - address_of l)) (byte bytes a)
          → byte (set (some n) (address_of l + n) (data_of l n)) a ≡ cond (among (suc n) a) (data_of l (a - address_of l)) (byte bytes a)
      go (yes e) ih =
          let z : a - address_of l ≡ n = omega arith in
          let k : address_of l + n < length (some n) = rw (some_length n) (omega arith) in
          rw (le-leb (address_of l) a (omega arith), lt-ltb a (address_of l + suc n) (omega arith), z, e) (get_or-set_same (some n) (address_of l + n) (data_of l n) 0 k)
      go (no e) ih = get_or-set_other (some n) (address_of l + n) a (data_of l n) 0 e ∙ ih ∙ ap (λ (t : Bool). cond (leb (address_of l) a && t) (data_of l (a - address_of l)) (byte bytes a)) (same (dec_lt a (address_of l + n)))
        where
          same : Dec (a < address_of l + n) → ltb a (address_of l + n) ≡ ltb a (address_of l + suc n)
          same (yes k) = lt-ltb a (address_of l + n) k ∙ sym (lt-ltb a (address_of l + suc n) (omega arith))
          same (no k) = le-ltb a (address_of l + n) (omega arith) ∙ sym (le-ltb a (address_of l + suc n) (omega arith))

  pub laid_length : (g : ℕ) → length (laid bytes l g) ≡ length bytes
  unfolding laid
  laid_length g = go (eqb (group_of l) g)
    where
      go : (t : Bool) → length (cond t (fold (lay_byte l) bytes 0 (count_of l)) bytes) ≡ length bytes
      go true = some_length (count_of l)
      go false = refl

  laid_byte : (g a : ℕ) → a < length bytes → byte (laid bytes l g) a ≡ cond (gives l g a) (data_of l (a - address_of l)) (byte bytes a)
  unfolding laid
  laid_byte g a h = go (eqb (group_of l) g)
    where
      go : (t : Bool) → byte (cond t (fold (lay_byte l) bytes 0 (count_of l)) bytes) a ≡ cond (t && among (count_of l) a) (data_of l (a - address_of l)) (byte bytes a)
      go true = some_byte (count_of l) a h
      go false = refl

-- ---- the lines that are still to be laid over a byte
abbrev later_over : List Line → ℕ → ℕ → ℕ → ℕ
later_over ls g a old = cond (given ls g a) (byte_at ls g a) old

later_line : (l : Line) (ls : List Line) (g a old : ℕ) → later_over (l ∷ ls) g a old ≡ later_over ls g a (cond (gives l g a) (data_of l (a - address_of l)) old)
unfolding given byte_at
later_line l ls g a old = go (gives l g a) (given ls g a) (byte_at ls g a) (data_of l (a - address_of l))
  where
    go : (t u : Bool) (x y : ℕ) → cond (t || u) (cond u x (cond t y 0)) old ≡ cond u x (cond t y old)
    go true true x y = refl
    go true false x y = refl
    go false true x y = refl
    go false false x y = refl

later_zero : (ls : List Line) (g a : ℕ) → later_over ls g a 0 ≡ byte_at ls g a
unfolding given byte_at
later_zero [] g a = refl
later_zero (l ∷ ls) g a = later_line l ls g a 0

-- ---- a walk over the lines: those that are still to come make each byte what it is to be
pub record Laying (all : List Line) (g n : ℕ) (bytes : List ℕ) (now : List Line) : Type 0 where
  pub size : length bytes ≡ n
  pub rest : (a : ℕ) → a < n → later_over (data_lines now) g a (byte bytes a) ≡ byte_at (data_lines all) g a

pub laying_start : {now all : List Line} (g n : ℕ) (bytes : List ℕ) → bytes ≡ replicate n 0 → now ≡ all → Laying all g n bytes now
laying_start {now} {all} g n bytes z e =
    record {
      size = ap length z ∙ length-replicate n 0;
      rest = λ a h. ap (λ (x : ℕ). later_over (data_lines now) g a x) (ap (λ (l : List ℕ). byte l a) z ∙ get_or-replicate n a 0 0 h)
          ∙ later_zero (data_lines now) g a
          ∙ ap (λ (ls : List Line). byte_at (data_lines ls) g a) e;
    }

module _ {all : List Line} {g n : ℕ} {bytes : List ℕ} {now : List Line} (y : Laying all g n bytes now) where
  laying_done : data_lines now ≡ [] → bytes ≡ group_bytes (data_lines all) g n
  laying_done e =
      list_is (byte_at (data_lines all) g) n bytes y.size
      (λ a k. sym (ap (λ (ls : List Line). later_over ls g a (byte bytes a)) e ∙ unfold given in refl) ∙ y.rest a k)

  pub laying_over : now ≡ [] → bytes ≡ group_bytes (data_lines all) g n
  laying_over e = laying_done (unfold data_lines in rw e)

  module _ {l : Line} {ls : List Line} (e : now ≡ l ∷ ls) where
    pub laying_end : is_end l ≡ true → bytes ≡ group_bytes (data_lines all) g n
    laying_end f = laying_done (unfold data_lines in rw (e, f))

    pub laying_next : {more : List ℕ} → is_end l ≡ false → more ≡ laid bytes l g → Laying all g n more ls
    laying_next {more} f m = record { size = ap length m ∙ laid_length l bytes g ∙ y.size; rest = step }
      where
        lines : data_lines now ≡ l ∷ data_lines ls
        lines = unfold data_lines in rw (e, f)

        step : (a : ℕ) → a < n → later_over (data_lines ls) g a (byte more a) ≡ byte_at (data_lines all) g a
        step a k =
            ap (λ (b : ℕ). later_over (data_lines ls) g a b) (ap (λ (l : List ℕ). byte l a) m ∙ laid_byte l bytes g a (omega (arith, y.size)))
            ∙ sym (later_line l (data_lines ls) g a (byte bytes a))
            ∙ ap (λ (ls : List Line). later_over ls g a (byte bytes a)) (sym lines)
            ∙ y.rest a k
