-- One drive's 64 bytes, an eight-inch disk's, and one's 544, written out by hand from the layout, decoded and encoded; bytes
-- of the other length; and bytes from 24 on that count as closed.
use mathlib.Core.Path.{◌≡◌, refl}
use mathlib.Core.Bool.{Bool, true, false}
use mathlib.Core.List.{List, [], ◌∷◌, ◌++◌}
use Prim.Native.Nat.{ℕ}
use lib.ListN.{replicate, set}
use Rattle.disk_geometry.specs.Geometry.{geometry_of, floppy, lawful}
use Rattle.lists.specs.Bytes.{part, all}
use Rattle.call_search.specs.declared.SearchKind.TheVariants.{Pattern}
use Rattle.filecalls.specs.declared.Drive.{Drive}
use Rattle.numbers.specs.Numbers.{bytes_of, number, bytes_from}
use Rattle.drive_bytes.specs.Layout.{head_bytes, kept_bytes, search_bytes, held_bytes, front_bytes, encoded, kind_stored, words_at, fields, laid_out, is_drive, decoded}
use Rattle.filecalls.specs.State.{closed, logged_in, is_open}

-- SIGLA???.TX? with ex 3FH
abbrev pattern : List ℕ
pattern = 83 ∷ 73 ∷ 71 ∷ 76 ∷ 65 ∷ 63 ∷ 63 ∷ 63 ∷ 84 ∷ 88 ∷ 63 ∷ 63 ∷ []

-- B 2,048, T 256, D 2, user 3, protected, a search of user 9 with its last hit in slot 300; blocks 2, 15 and 255 held
abbrev sample : Drive
sample =
    record {
      geometry = geometry_of 2048 256 2;
      user = 3;
      protected = true;
      search = record { kind = Pattern; user = 9; last = 300; pattern = pattern };
      held = 32772 ∷ 0 ∷ 0 ∷ 9223372036854775808 ∷ replicate 60 0;
    }

abbrev sample_bytes : List ℕ
sample_bytes =
    0 ∷ 8 ∷ 0 ∷ 1 ∷ 2 ∷ 0 ∷ 3 ∷ 1 ∷ 1 ∷ 9 ∷ 44 ∷ 1 ∷ []
    ++ (83 ∷ 73 ∷ 71 ∷ 76 ∷ 65 ∷ 63 ∷ 63 ∷ 63 ∷ 84 ∷ 88 ∷ 63 ∷ 63 ∷ [])
    ++ replicate 8 0
    ++ (4 ∷ 128 ∷ replicate 29 0)
    ++ (128 ∷ [])

encodes : encoded sample ≡ sample_bytes
unfolding encoded front_bytes head_bytes search_bytes kept_bytes held_bytes bytes_of bytes_from
encodes = refl

decodes : decoded sample_bytes ≡ sample
unfolding decoded is_drive laid_out fields words_at kind_stored number part all
decodes = refl

-- an eight-inch disk, and no search; blocks 2 and 242 held
abbrev on_floppy : Drive
on_floppy = logged_in floppy (4 ∷ 0 ∷ 0 ∷ 1125899906842624 ∷ replicate 60 0)

abbrev floppy_bytes : List ℕ
floppy_bytes =
    0 ∷ 4 ∷ 243 ∷ 0 ∷ 2 ∷ 0 ∷ replicate 18 0 ++ (1 ∷ replicate 7 0) ++ (4 ∷ replicate 29 0) ++ (4 ∷ 0 ∷ [])

encodes_floppy : encoded on_floppy ≡ floppy_bytes
unfolding encoded front_bytes head_bytes search_bytes held_bytes bytes_of
encodes_floppy = refl

decodes_floppy : decoded floppy_bytes ≡ on_floppy
unfolding decoded is_drive laid_out fields words_at kind_stored number part all
decodes_floppy = refl

-- B 2,048, T 4,096, D 16, and no search; blocks 300 and 4,095 held
abbrev wide : Drive
wide =
    logged_in (geometry_of 2048 4096 16) (replicate 4 0 ++ (17592186044416 ∷ replicate 58 0) ++ (9223372036854775808 ∷ []))

abbrev wide_bytes : List ℕ
wide_bytes =
    0 ∷ 8 ∷ 0 ∷ 16 ∷ 16 ∷ 0 ∷ replicate 26 0 ++ replicate 37 0 ++ (16 ∷ replicate 473 0) ++ (128 ∷ [])

encodes_wide : encoded wide ≡ wide_bytes
unfolding encoded front_bytes head_bytes search_bytes held_bytes bytes_of
encodes_wide = refl

decodes_wide : decoded wide_bytes ≡ wide
unfolding decoded is_drive laid_out fields words_at kind_stored number part all
decodes_wide = refl

-- 544 bytes whose T is 256, and 64 whose T is 257, count as closed
too_long : decoded (sample_bytes ++ replicate 480 0) ≡ closed
unfolding decoded is_drive number part
too_long = refl

too_short : decoded (0 ∷ 8 ∷ 1 ∷ 1 ∷ 2 ∷ 0 ∷ replicate 58 0) ≡ closed
unfolding decoded is_drive number part
too_short = refl

-- ---- byte 24 is the placing, "25..31 zero"
-- the floppy's bytes with byte k set to x: is the drive open?
abbrev opens : ℕ → ℕ → Bool
opens k x = is_open (decoded (set floppy_bytes k x))

pub record Placings : Type 0 where
  -- eight-inch, and a straight volume of the same numbers; a third placing, and eight-inch with T 256, count as closed
  as_laid : opens 24 1 ≡ true
  as_straight : opens 24 0 ≡ true
  third_placing : opens 24 2 ≡ false
  of_other_numbers : is_open (decoded (set sample_bytes 24 1)) ≡ false
  -- so does any other byte there that is not 0
  byte_25 : opens 25 1 ≡ false
  byte_31 : opens 31 255 ≡ false

pub placings : Placings
unfolding decoded is_drive laid_out fields words_at kind_stored number part all is_open lawful
placings = record { as_laid = refl; as_straight = refl; third_placing = refl; of_other_numbers = refl; byte_25 = refl; byte_31 = refl }
