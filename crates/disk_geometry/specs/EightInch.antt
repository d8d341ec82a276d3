-- Request (i), eight-inch floppies: "77 tracks of 26 sectors of 128 bytes, 256,256 bytes, two tracks reserved". Where a logical
-- record lies on such a disk; `start` alone goes by it.
use Rattle.std.specs.Prelude.{List, [], ◌∷◌, ℕ, ◌+◌, ◌-◌, ◌*◌, ◌/◌, ◌%◌, get_or}

abbrev pub tracks : ℕ
tracks = 77

abbrev pub track_sectors : ℕ
track_sectors = 26

abbrev pub sector_bytes : ℕ
sector_bytes = 128

abbrev pub reserved_tracks : ℕ
reserved_tracks = 2

-- the length of the image, and where its tracks begin that are not reserved
abbrev pub image_bytes : ℕ
image_bytes = tracks * track_sectors * sector_bytes

abbrev pub reserved_bytes : ℕ
reserved_bytes = reserved_tracks * track_sectors * sector_bytes

-- how many logical records the tracks hold that are not reserved
abbrev pub track_records : ℕ
track_records = (tracks - reserved_tracks) * track_sectors

-- the sector of each place of a track
abbrev pub sectors : List ℕ
sectors =
    1 ∷ 7 ∷ 13 ∷ 19 ∷ 25 ∷ 5 ∷ 11 ∷ 17 ∷ 23 ∷ 3 ∷ 9 ∷ 15 ∷ 21
    ∷ 2 ∷ 8 ∷ 14 ∷ 20 ∷ 26 ∷ 6 ∷ 12 ∷ 18 ∷ 24 ∷ 4 ∷ 10 ∷ 16 ∷ 22 ∷ []

unfoldable pub sector_at : ℕ → ℕ
sector_at k = get_or sectors k 0

-- "Sector s of track t starts at ((26t + s - 1) times 128)."
abbrev pub sector_start : ℕ → ℕ → ℕ
sector_start t s = (track_sectors * t + s - 1) * sector_bytes

-- "Logical record q lies on track 2 + q div 26, in the sector given by place q mod 26"
unfoldable pub image_start : ℕ → ℕ
unfolding sector_at
image_start q = sector_start (reserved_tracks + q / track_sectors) (sector_at (q % track_sectors))
