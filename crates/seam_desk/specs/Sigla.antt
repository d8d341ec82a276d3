-- The edition desk at the seam. A replacement: the answer's number in the low 16 bits, the matching records in the high 16; the
-- drive and the control block are lent to be read. Which manuscript a siglum means: "a 64-bit answer: number in the low 16
-- bits, which list (0 own, 1 house) in the next 16, the byte where the name begins in the high 32".
use Rattle.std.specs.Prelude.{Bool, cond, ◌||◌, List, ℕ, ◌+◌, ◌*◌, leb, length, Result, Ok, Err}
use Rattle.drive_bytes.specs.Layout.{decoded}
use Rattle.desk_manuscripts.specs.declared.Place.{Place}
use Rattle.desk_manuscripts.specs.declared.Place.TheVariants.{Own, House}
use Rattle.desk_manuscripts.specs.declared.Unexplained.{Unexplained}
use Rattle.desk_manuscripts.specs.declared.Unexplained.TheVariants.{Lists}
use Rattle.desk_manuscripts.specs.Manuscript.{line_bytes, name_at, where_of, number_of as where_number}
use Rattle.desk.specs.Answer.{number_of, value_of}
use Rattle.desk.specs.Replace.{Desk, replacement}

-- the answer, and the bytes of the volume
pub record Replaced : Type 0 where
  pub answer : ℕ
  pub volume : List ℕ

abbrev pub replaced : ℕ → List ℕ → Replaced
replaced r v = record { answer = r; volume = v }

-- by the bytes of drive, volume and control block; a drive that counts as closed is 32, the first of the file's own refusals
unfoldable pub replace_at_seam : List ℕ → List ℕ → List ℕ → ℕ → ℕ → ℕ → Replaced
replace_at_seam s v fcb chapter old new =
    let r : Desk = replacement (decoded s) v fcb chapter old new in
    replaced (number_of r.answer + 65536 * value_of r.answer) r.volume

-- which list: 0 own, 1 house
abbrev pub list_of : Result Place Unexplained → ℕ
list_of (Ok (Own i)) = 0
list_of (Ok (House j)) = 1
list_of (Err why) = 0

-- where the thirty bytes of the name begin
abbrev pub start_of : Result Place Unexplained → ℕ
start_of (Ok (Own i)) = i * line_bytes + name_at
start_of (Ok (House j)) = j * line_bytes + name_at
start_of (Err why) = 0

-- one in "the next 16" bits, and one in "the high 32"
abbrev pub in_next : ℕ
in_next = 65536

abbrev pub in_high : ℕ
in_high = 4294967296

abbrev pub sealed_where : Result Place Unexplained → ℕ
sealed_where w = where_number w + in_next * list_of w + in_high * start_of w

-- a place in a list has 32 bits, so that a list of 4 GiB or more counts as one of a wrong length
abbrev pub too_long : List ℕ → Bool
too_long list = leb in_high (length list)

unfoldable pub manuscript_at_seam : ℕ → List ℕ → List ℕ → ℕ
manuscript_at_seam siglum own house = sealed_where (cond (too_long own || too_long house) (Err Lists) (where_of siglum own house))
