-- Where the fields stand: "byte 0 user 0..15, or E5H for an empty slot; 1..8 name; 9..11 type; 12 ex; 13 s1; 14 s2; 15 rc;
-- 16..31 sixteen block numbers", or eight of two bytes. A control block has the same fields at the same places, with dr in byte 0.
use Rattle.std.specs.Prelude.{ℕ, ◌-◌}

abbrev pub USER : ℕ
USER = 0

abbrev pub NAME : ℕ
NAME = 1

abbrev pub TYPE : ℕ
TYPE = 9

abbrev pub EX : ℕ
EX = 12

abbrev pub S1 : ℕ
S1 = 13

abbrev pub S2 : ℕ
S2 = 14

abbrev pub RC : ℕ
RC = 15

abbrev pub MAP : ℕ
MAP = 16

-- "Top bit of byte 9: read-only. Top bit of byte 10: system file."
abbrev pub T1 : ℕ
T1 = 9

abbrev pub T2 : ℕ
T2 = 10

-- the same bytes within the eleven of name and type
abbrev pub name_t1 : ℕ
name_t1 = T1 - NAME

abbrev pub name_t2 : ℕ
name_t2 = T2 - NAME

-- how many bytes name and type have together
abbrev pub name_bytes : ℕ
name_bytes = 11

-- "E5H for an empty slot"
abbrev pub EMPTY : ℕ
EMPTY = 0xE5
