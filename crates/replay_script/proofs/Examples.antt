-- Headers of scripts, evaluated: B, T and D, the placing, and L, low byte first.
use mathlib.Core.Path.{◌≡◌, refl}
use mathlib.Core.List.{[], ◌∷◌}
use Rattle.disk_geometry.specs.Geometry.{geometry_of, floppy}
use Rattle.std.specs.Prelude.{Option, Some, None, ℕ}
use Rattle.disk_geometry.specs.declared.Geometry.{Geometry}
use Rattle.replay_script.specs.declared.Header.{Header}
use Rattle.replay_script.specs.Script.{header_of}

-- a header of this geometry and a volume of so many bytes
abbrev good : Geometry → ℕ → Option Header
good g n = Some (record { geometry = g; volume_bytes = n })

pub record Examples : Type 0 where
  -- 3 MiB are the most: 1,536 blocks of 2,048 bytes, and a byte more
  longest : header_of (0 ∷ 8 ∷ 0 ∷ 6 ∷ 16 ∷ 0 ∷ 0 ∷ 0 ∷ 48 ∷ 0 ∷ []) ≡ good (geometry_of 2048 1536 16) 3145728
  too_long : header_of (0 ∷ 8 ∷ 0 ∷ 6 ∷ 16 ∷ 0 ∷ 1 ∷ 0 ∷ 48 ∷ 0 ∷ []) ≡ None
  -- (i): byte 5 is the placing, and D has byte 4 alone; an old script has 0 there, and is of a straight volume
  eight_inch_lem : header_of (0 ∷ 4 ∷ 243 ∷ 0 ∷ 2 ∷ 1 ∷ 0 ∷ 233 ∷ 3 ∷ 0 ∷ []) ≡ good floppy 256256
  straight_as_before : header_of (0 ∷ 4 ∷ 243 ∷ 0 ∷ 2 ∷ 0 ∷ 0 ∷ 204 ∷ 3 ∷ 0 ∷ []) ≡ good (geometry_of 1024 243 2) 248832
  -- a byte less than a header
  cut_off : header_of (0 ∷ 4 ∷ 243 ∷ 0 ∷ 2 ∷ 1 ∷ 0 ∷ 233 ∷ 3 ∷ []) ≡ None

pub examples : Examples
unfolding header_of
examples = record { longest = refl; too_long = refl; eight_inch_lem = refl; straight_as_before = refl; cut_off = refl }
