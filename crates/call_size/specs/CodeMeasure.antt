-- What size finds and lays down, in the words of its contract.
use Rattle.std.specs.Prelude.{List, [], ◌∷◌, ℕ, leb}
use Rattle.disk_geometry.specs.declared.Geometry.{Geometry}
use Rattle.disk_geometry.specs.Geometry.{slots}
use Rattle.disk_volume.specs.declared.Wanted.TheVariants.{File}
use Rattle.disk_volume.specs.Name.{name_of}
use Rattle.disk_volume.specs.Directory.{find_slot}
use Rattle.call_fcb.specs.Fcb.{with_random}
use Rattle.call_answers.specs.declared.Refusal.{Refusal}
use Rattle.call_answers.specs.declared.Refusal.TheVariants.{NoMatch}
use Rattle.call_answers.specs.Refusal.{test, first_met}
use Rattle.call_size.specs.Size.{size_of}

-- every end is below it, whatever bytes an entry has
abbrev pub end_bound : ℕ
end_bound = 2000000

-- 255 where the file has no entry
abbrev pub measure_why : Geometry → List ℕ → ℕ → List ℕ → Refusal
measure_why g v u fcb = first_met (test NoMatch (leb (slots g) (find_slot g v u (name_of fcb) File)) ∷ [])

-- the control block, with the file's size in r0 r1 r2
abbrev pub measured : Geometry → List ℕ → ℕ → List ℕ → List ℕ
measured g v u fcb = with_random fcb (size_of g v u (name_of fcb))
