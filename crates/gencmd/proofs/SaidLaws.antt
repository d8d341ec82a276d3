-- A buffer of 64 bytes has room for each line, and begins with it; and the lines spelled out.
use mathlib.Core.Path.{◌≡◌, refl, ap, ◌∙◌}
use mathlib.Core.List.{List}
use Prim.Native.Nat.{ℕ, ◌+◌, ◌^◌, ◌≤◌, ◌<◌}
use native.Mathlib.Omega.{arith}
use lib.ListN.{length, take, drop, length-append}
use lib.Seq.{take_at}
use Rattle.text.specs.Text.{Text, text, puts}
use Rattle.text.specs.Decimal.{decimal_in, decimal}
use Rattle.text.specs.Letters.{letters}
use Rattle.text.proofs.TextLaws.{puts_room, puts_within}
use Rattle.text.proofs.DecimalLaws.{decimal_short}
use Rattle.gencmd_lines.specs.declared.Refusal.{Refusal}
use Rattle.gencmd_lines.specs.declared.Refusal.TheVariants.{Digits, Sum, OtherType, Beyond, NoEnd, NoCode, Room}
use Rattle.gencmd_lines.specs.Refusal.{refusal_number}
use Rattle.gencmd.specs.Said.{text_most, line_bytes, refused, too_long}

-- ---- examples
pub record Examples : Type 0 where
  pub first : refused Digits ≡ letters "REFUSED 70\n"
  pub last : refused Room ≡ letters "REFUSED 76\n"
  pub long : too_long ≡ letters "REFUSED: the text has more than 4194304 bytes\n"

pub examples : Examples
unfolding refused too_long decimal decimal_in
examples = record { first = refl; last = refl; long = refl }

-- ---- lines fit
small : (why : Refusal) → refusal_number why < 10 ^ 2
small Digits = omega arith
small Sum = omega arith
small OtherType = omega arith
small Beyond = omega arith
small NoEnd = omega arith
small NoCode = omega arith
small Room = omega arith

pub refused_short : (why : Refusal) → length (refused why) ≤ line_bytes
unfolding refused
refused_short why = simp length-append (omega (arith, decimal_short 1 (refusal_number why) (small why)))

pub too_long_short : length too_long ≤ line_bytes
unfolding too_long
too_long_short = simp length-append (omega (arith, decimal_short 6 text_most (omega arith)))

-- ---- a line laid into a buffer that has room for it is what the buffer begins with
pub whole : (l out after : List ℕ) (n : ℕ) → length l ≤ length out → text after n ≡ puts (text out 0) l → (take n after ≡ l) × (n ≤ length after)
whole l out after n h e =
    let is = e ∙ puts_room l out 0 (omega (arith, h)) in
    let z : n ≡ length l = ap (λ (t : Text). t.at) is ∙ omega arith in
    let begins : take n after ≡ l = rw z (ap (λ (t : Text). take (length l) t.bytes) is ∙ take_at l (drop (0 + length l) out) (length l) refl) in
    let within = puts_within (text out 0) l (omega arith) in
    (begins, rw (ap (λ (t : Text). t.at) e, ap (λ (t : Text). length t.bytes) e) within)
