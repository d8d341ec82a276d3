-- Hex texts. A line is ":ll aaaa tt d .. cc" without the blanks; its checksum is what its other bytes lack to a multiple of 100H.
use Rattle.std.specs.Prelude.{List, ◌++◌, ℕ}
use Rattle.text.specs.Letters.{letters}

-- the end line: 01 + FF = 100
abbrev pub end : List ℕ
end = letters ":00000001FF\n"

-- three code bytes at 0005H: 03 + 05 + 11 + 22 + 33 = 6E
abbrev pub three : List ℕ
three = letters ":0300050011223392\n"

-- All four groups, stack (83) before extra (84). Code is given by 81 and by 00: 01 at 0000H, then 02 03 from 0000H, and last 04 05
-- from 0001H. Data has a byte at 0100H, extra one at 0010H, stack one at 000FH.
abbrev pub four : List ℕ
four =
    letters ":01000081017D\n" ++ (letters ":020000000203F9\n" ++ (letters ":01000F834429\n" ++ (letters ":010010843338\n"
    ++ (letters ":01010082225A\n" ++ (letters ":02000181040573\n" ++ end)))))

-- the three bytes with text before, between and behind: a name, digits behind a checksum, and right behind the end line a line whose sum
-- is wrong and that gives another byte, 44 at 0005H
abbrev pub among : List ℕ
among = letters "SIGLA 00\r\n:0300050011223392FFFF GH:00000001FF:0100050044B5"

-- a byte at FFFFH, and one beyond it; a line without bytes at FFFFH: 01 + FF + FF + 11 = 210, 02 + FF + FF + 11 + 22 = 233,
-- FF + FF = 1FE
abbrev pub last : List ℕ
last = letters ":01FFFF0011F0\n"

abbrev pub beyond : List ℕ
beyond = letters ":02FFFF001122CD\n"

abbrev pub none_at_last : List ℕ
none_at_last = letters ":00FFFF0002\n"

-- a byte at FFFFH of each group
abbrev pub four_last : List ℕ
four_last = last ++ (letters ":01FFFF82225D\n" ++ (letters ":01FFFF83334B\n" ++ (letters ":01FFFF844439\n" ++ end)))

-- a byte more than the sum of its line allows; small letters; a letter behind F; a colon within a line; a count without its bytes
abbrev pub wrong : List ℕ
wrong = letters ":0100000011EF\n"

abbrev pub small : List ℕ
small = letters ":000000ffFF\n"

abbrev pub letter_g : List ℕ
letter_g = letters ":010000001GED\n"

abbrev pub colon_within : List ℕ
colon_within = letters ":0300:0300050011223392\n"

abbrev pub short : List ℕ
short = letters ":03000500112233"

-- types 02, 03, 80 and 85: 02 + 02 = 04, 03, 80, 02 + 85 = 87
abbrev pub type_02 : List ℕ
type_02 = letters ":020000020000FC\n"

abbrev pub type_03 : List ℕ
type_03 = letters ":00000003FD\n"

abbrev pub type_80 : List ℕ
type_80 = letters ":0000008080\n"

abbrev pub type_85 : List ℕ
type_85 = letters ":02000085000079\n"

-- type 02 beyond FFFFH, 02 + FF + FF + 02 = 202; the same with a wrong sum
abbrev pub type_02_beyond : List ℕ
type_02_beyond = letters ":02FFFF020000FE\n"

abbrev pub type_02_wrong : List ℕ
type_02_wrong = letters ":020000020000FD\n"

-- a byte of data, 01 + 82 + 22 = A5; a code line without bytes; an end line that has a byte beyond FFFFH, 02 + FF + FF + 01 = 201
abbrev pub data_byte : List ℕ
data_byte = letters ":01000082225B\n"

abbrev pub no_byte : List ℕ
no_byte = letters ":0000000000\n"

abbrev pub odd_end : List ℕ
odd_end = letters ":02FFFF010000FF\n"

-- a byte of code with one of data, and with one of extra at 0010H: 01 + 81 + 01 = 83, 01 + 10 + 84 + 33 = C8
abbrev pub code_and_data : List ℕ
code_and_data = letters ":01000081017D\n" ++ (data_byte ++ end)

abbrev pub code_and_extra : List ℕ
code_and_extra = letters ":01000081017D\n" ++ (letters ":010010843338\n" ++ end)

-- an end line with a wrong sum, and one that is cut off
abbrev pub wrong_end : List ℕ
wrong_end = letters ":00000001FE\n"

abbrev pub short_end : List ℕ
short_end = letters ":00000001F"
