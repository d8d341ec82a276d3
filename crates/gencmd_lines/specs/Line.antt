-- One line, from behind its colon on: "ll aaaa tt d .. cc" (000, table 2), each byte two digits. What stands behind the
-- checksum is not the line's.
use Rattle.std.specs.Prelude.{ℕ, zero, suc, ◌+◌, ◌*◌, ◌%◌, Bool, cond, not, Option, None, ◌&&◌, List, length, ◌==◌, nat_le, nat_lt}
use Rattle.lists.specs.Bytes.{byte}
use Rattle.lists.specs.Bounded.{every}
use Rattle.load_header.specs.Header.{CODE, DATA, EXTRA, STACK}
use Rattle.gencmd_lines.specs.declared.Refusal.{Refusal}
use Rattle.gencmd_lines.specs.declared.Refusal.TheVariants.{Digits, Sum, OtherType, Beyond}
use Rattle.gencmd_lines.specs.Refusal.{first, refusing}
use Rattle.gencmd_lines.specs.Digits.{is_digit, line_byte}

abbrev pub Line : Type 0
Line = List ℕ

-- ll, the number of data bytes; aaaa, high byte first; tt; data byte i
abbrev pub count_of : Line → ℕ
count_of l = line_byte l 0

abbrev pub address_of : Line → ℕ
address_of l = 256 * line_byte l 1 + line_byte l 2

abbrev pub type_of : Line → ℕ
type_of l = line_byte l 3

abbrev pub data_of : Line → ℕ → ℕ
data_of l i = line_byte l (4 + i)

-- the most that ll says, and the addresses of a group: FFFFH is the last
abbrev pub data_most : ℕ
data_most = 255

abbrev pub addresses : ℕ
addresses = 65536

-- "the bytes of a line, checksum included": five beside its data; and the digits that spell them
abbrev pub bytes_in : Line → ℕ
bytes_in l = 5 + count_of l

abbrev pub digits_in : Line → ℕ
digits_in l = 2 * bytes_in l

-- its digits are all there, and each is a digit
abbrev pub digit_at : Line → ℕ → Bool
digit_at l i = is_digit (byte l i)

unfoldable pub is_spelled : Line → Bool
is_spelled l = nat_le (digits_in l) (length l) && every (digits_in l) (digit_at l)

-- f i + f (i + 1) + .., k of them
unfoldable pub sum_from : (ℕ → ℕ) → ℕ → ℕ → ℕ
sum_from f i zero = 0
sum_from f i (suc k) = f i + sum_from f (suc i) k

-- what its bytes "add up to .. modulo 256"
unfoldable pub sum_of : Line → ℕ
sum_of l = sum_from (line_byte l) 0 (bytes_in l) % 256

-- "type 00 (as code), 01 (the end), and 81 to 84", which are code, data, stack and extra (000, table 2): the group by the type of its
-- descriptor; 0: no group
unfoldable pub group_of_type : ℕ → ℕ
group_of_type t =
    cond (t == 0x00) CODE
    (cond (t == 0x81) CODE
    (cond (t == 0x82) DATA
    (cond (t == 0x83) STACK
    (cond (t == 0x84) EXTRA 0))))

abbrev pub group_of : Line → ℕ
group_of l = group_of_type (type_of l)

abbrev pub is_end : Line → Bool
is_end l = type_of l == 0x01

-- why a line is refused: 70, 71, and, of a line that is not the end, 72, 73
unfoldable pub data_refusal : Line → Option Refusal
data_refusal l =
    first (refusing OtherType (group_of l == 0))
    (refusing Beyond (nat_lt addresses (address_of l + count_of l)))

unfoldable pub line_refusal : Line → Option Refusal
line_refusal l =
    first (refusing Digits (not (is_spelled l)))
    (first (refusing Sum (not (sum_of l == 0)))
    (cond (is_end l) None (data_refusal l)))
