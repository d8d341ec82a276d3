-- The order by numbers: one for each entry, of which the lower goes first. Not for the reader of the paper.
use Rattle.std.specs.Prelude.{List, [], ◌∷◌, ℕ, ◌+◌, ◌*◌, ◌<◌, leb}
use Rattle.lists.specs.Bounded.{fold}
use Rattle.disk_geometry.specs.declared.Geometry.{Geometry}
use Rattle.disk_volume.specs.Entry.{extent}
use Rattle.disk_volume.specs.Directory.{slot_at}
use Rattle.fresh_order.specs.Order.{file_slot, put_before, enter}

-- extents of a file, and slots of the largest directory
abbrev pub file_extents : ℕ
file_extents = 512

abbrev pub most_slots : ℕ
most_slots = 2048

-- the number of the entry in slot i: by its file's lowest slot, then by its extent; its slot is the rest
unfoldable pub key_of : Geometry → List ℕ → ℕ → ℕ
key_of g v i = (file_slot g v i * file_extents + extent (slot_at g v i)) * most_slots + i

-- a number put into rising numbers, before the first that is not below it
abbrev pub entered : List ℕ → ℕ → List ℕ
entered l x = put_before (leb x) l x

-- every one of them passes; they rise
abbrev pub All : (ℕ → Type 0) → List ℕ → Type 0
All p [] = Unit {0}
All p (x ∷ l) = p x × All p l

abbrev pub Rising : List ℕ → Type 0
Rising [] = Unit {0}
Rising (x ∷ l) = All (λ y. x < y) l × Rising l

-- the slots below n in order
abbrev pub ordered_to : Geometry → List ℕ → ℕ → List ℕ
ordered_to g v n = fold (enter g v) [] 0 n
