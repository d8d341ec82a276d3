-- Laws of writers: runs of bytes in a row, a number's digits, and what a writer leaves in the buffer.
use mathlib.Core.Path.{◌≡◌, refl, sym, ap, ◌∙◌}
use mathlib.Core.List.{List, [], ◌∷◌, ◌++◌}
use Prim.Native.Nat.{ℕ, ◌+◌, ◌/◌, ◌%◌, ◌<◌, ◌≤◌}
use native.Mathlib.Omega.{arith}
use lib.ListN.{length}
use Rattle.text.specs.Text.{Text, text, puts}
use Rattle.text.specs.Decimal.{decimal}
use Rattle.text.specs.Writer.{written, Appends}
use Rattle.text.specs.declared.Writer.{Writer}
use Rattle.text.proofs.TextLaws.{puts_append, puts_within}
use Rattle.text.proofs.DecimalLaws.{decimal_one, decimal_more}

-- nothing, and two runs
pub none : (w : Writer) → Appends w [] w
unfolding puts
none w = record { buffer = refl; text_is = refl }

pub then : {u v w : Writer} {l m : List ℕ} → Appends u l v → Appends v m w → Appends u (l ++ m) w
then {u} {v} {w} {l} {m} a b = record {
  buffer = b.buffer ∙ a.buffer;
  text_is = b.text_is ∙ ap (λ (x : Text). puts x m) a.text_is ∙ sym (puts_append _ l m);
}

-- a number that is known by an equation, in decimal
pub number : {v w : Writer} {m : ℕ} (n : ℕ) → m ≡ n → Appends v (decimal m) w → Appends v (decimal n) w
number n e a = rw e at a

-- a number's digits: those of the number divided by ten, and the last one
pub digits : {u v w x : Writer} {b : ℕ} (n : ℕ) → 10 ≤ n → x ≡ v → Appends u (decimal (n / 10)) v → b ≡ 48 + n % 10 → Appends x (b ∷ []) w → Appends u (decimal n) w
digits n h s a e b = rw (decimal_more n h, ← e) (then a (rw s at b))

pub one_digit : {u w x : Writer} {b : ℕ} (n : ℕ) → n < 10 → x ≡ u → b ≡ 48 + n % 10 → Appends x (b ∷ []) w → Appends u (decimal n) w
one_digit n h s e b =
    let z : n % 10 ≡ n = omega arith in
    rw (decimal_one n h, ← z, ← e) (rw s at b)

-- the buffer behind a writer that is done, and the place of the next byte
pub done : {x : List ℕ} {n : ℕ} {t : Text} {l : List ℕ} {v w : Writer} → Appends v l w → written v ≡ t → n ≡ w.at → x ≡ w.out.now → text x n ≡ puts t l
done a s p e = rw (e, p, a.text_is, s)

pub done_within : {x s : List ℕ} {n at : ℕ} {l : List ℕ} {v w : Writer} → Appends v l w → written v ≡ text s at → at ≤ length s → n ≡ w.at → x ≡ w.out.now
    → (text x n ≡ puts (text s at) l) × (n ≤ length x)
done_within {x} {s} {n} {at} {l} a e h p q =
    let is : text x n ≡ puts (text s at) l = done a e p q in
    (is, rw (← is) at (puts_within (text s at) l h))
