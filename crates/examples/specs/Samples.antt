-- What the examples are written with: entries, control blocks, records and volumes, as bytes.
use Rattle.std.specs.Prelude.{List, [], ◌∷◌, ◌++◌, ℕ, zero, suc, ◌+◌, ◌*◌, ◌/◌, ◌%◌, replicate, take}
use Rattle.disk_geometry.specs.declared.Geometry.{Geometry}
use Rattle.disk_geometry.specs.Geometry.{geometry_of}

-- the names SIGLA.TXT and LEMMATA.TXT
abbrev pub sigla : List ℕ
sigla = 83 ∷ 73 ∷ 71 ∷ 76 ∷ 65 ∷ 32 ∷ 32 ∷ 32 ∷ 84 ∷ 88 ∷ 84 ∷ []

abbrev pub lemmata : List ℕ
lemmata = 76 ∷ 69 ∷ 77 ∷ 77 ∷ 65 ∷ 84 ∷ 65 ∷ 32 ∷ 84 ∷ 88 ∷ 84 ∷ []

-- SIGLA.TXT with another first byte; so too as a system file, and with every top bit
abbrev pub from : ℕ → List ℕ
from x = x ∷ 73 ∷ 71 ∷ 76 ∷ 65 ∷ 32 ∷ 32 ∷ 32 ∷ 84 ∷ 88 ∷ 84 ∷ []

abbrev pub system_from : ℕ → List ℕ
system_from x = x ∷ 73 ∷ 71 ∷ 76 ∷ 65 ∷ 32 ∷ 32 ∷ 32 ∷ 84 ∷ 0xD8 ∷ 84 ∷ []

abbrev pub topped : ℕ → List ℕ
topped x = (128 + x) ∷ 0xC9 ∷ 0xC7 ∷ 0xCC ∷ 0xC1 ∷ 0xA0 ∷ 0xA0 ∷ 0xA0 ∷ 0xD4 ∷ 0xD8 ∷ 0xD4 ∷ []

-- both files with the top bit of byte 9: read-only
abbrev pub sigla_read_only : List ℕ
sigla_read_only = 83 ∷ 73 ∷ 71 ∷ 76 ∷ 65 ∷ 32 ∷ 32 ∷ 32 ∷ 0xD4 ∷ 88 ∷ 84 ∷ []

abbrev pub lemmata_read_only : List ℕ
lemmata_read_only = 76 ∷ 69 ∷ 77 ∷ 77 ∷ 65 ∷ 84 ∷ 65 ∷ 32 ∷ 0xD4 ∷ 88 ∷ 84 ∷ []

abbrev pub any_name : List ℕ
any_name = replicate 11 0x3F

-- a map, by its first places: the others are 0
abbrev pub sixteen : List ℕ → List ℕ
sixteen blocks = take 16 (blocks ++ replicate 16 0)

-- places up to place p, which has block b: the lower ones are 0
abbrev pub in_place : ℕ → ℕ → List ℕ
in_place p b = replicate p 0 ++ (b ∷ [])

-- an entry: user, name and type, ex, s2, rc, map
abbrev pub entry : ℕ → List ℕ → ℕ → ℕ → ℕ → List ℕ → List ℕ
entry user name ex s2 rc blocks = (user ∷ name) ++ ((ex ∷ 0 ∷ s2 ∷ rc ∷ []) ++ sixteen blocks)

-- so many empty slots
abbrev pub empty : ℕ → List ℕ
empty n = replicate (n * 32) 0xE5

-- a control block of drive 0: name and type, ex, s2, rc, map, cr, and n in r0 r1 r2
abbrev pub control : List ℕ → ℕ → ℕ → ℕ → List ℕ → ℕ → ℕ → List ℕ
control name ex s2 rc blocks cr n =
    (0 ∷ name) ++ ((ex ∷ 0 ∷ s2 ∷ rc ∷ []) ++ (sixteen blocks ++ (cr ∷ n % 256 ∷ n / 256 % 256 ∷ n / 65536 ∷ [])))

-- the control block of a file that nothing was done with yet, and the one that means its record n
abbrev pub fresh : List ℕ → List ℕ
fresh name = control name 0 0 0 [] 0 0

abbrev pub record_of : List ℕ → ℕ → List ℕ
record_of name n = control name 0 0 0 [] 0 n

-- the one that means its extent ex
abbrev pub extent_of : List ℕ → ℕ → List ℕ
extent_of name ex = control name ex 0 0 [] 0 0

-- the control block of a rename: "old name in 1..11, new in 17..27"
abbrev pub renaming : List ℕ → List ℕ → List ℕ
renaming name new = (0 ∷ name) ++ (replicate 5 0 ++ (new ++ replicate 8 0))

-- a record, or a transfer buffer, all of one byte
abbrev pub filled : ℕ → List ℕ
filled x = replicate 128 x

-- n old bytes of a disk from place a on: each tells its place, modulo 251
unfoldable pub old : ℕ → ℕ → List ℕ
old a zero = []
old a (suc n) = a % 251 ∷ old (suc a) n

-- B 1,024, T 4, D 1: three blocks behind a directory of 32 slots
abbrev pub small : Geometry
small = geometry_of 1024 4 1

abbrev pub disk : List ℕ → List ℕ
disk directory = directory ++ old 1024 3072
