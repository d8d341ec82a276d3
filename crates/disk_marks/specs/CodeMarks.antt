-- Marks: every user, name and group has one of 65,536 marks, and the mark of each entry passed is set. Where a slot's
-- mark is not set, no lower slot can have the same user, name and group. Marks are bits in words, as held blocks are.
use Rattle.std.specs.Prelude.{◌≡◌, Bool, true, ◌||◌, List, ℕ, ◌+◌, ◌*◌, ◌%◌, length}
use Rattle.lists.specs.Bounded.{any, every, fold}
use Rattle.lists.specs.Bytes.{byte}
use Rattle.disk_geometry.specs.declared.Geometry.{Geometry}
use Rattle.disk_geometry.specs.Geometry.{group_of}
use Rattle.disk_volume.specs.Fields.{USER, name_bytes}
use Rattle.disk_volume.specs.Name.{name_of}
use Rattle.disk_volume.specs.Entry.{Entry, is_empty, extent, of_group}
use Rattle.disk_volume.specs.Directory.{slot_at}
use Rattle.disk_held.specs.Held.{holds}

-- how many marks there are, and words for all of them
abbrev pub MARKS : ℕ
MARKS = 65536

abbrev pub mark_words : ℕ
mark_words = 1024

-- the mark of user u and group k, and what byte p of the name makes of it
abbrev pub first_mark : ℕ → ℕ → ℕ
first_mark u k = (u + 16 * (k % 1024)) % MARKS

abbrev pub next_mark : List ℕ → ℕ → ℕ → ℕ
next_mark name mark p = (5003 * mark + byte name p) % MARKS

unfoldable pub mark_of : ℕ → List ℕ → ℕ → ℕ
mark_of u name k = fold (next_mark name) (first_mark u k) 0 name_bytes

abbrev pub entry_mark : Geometry → Entry → ℕ
entry_mark g e = mark_of (byte e USER) (name_of e) (group_of g (extent e))

-- the mark of each entry below slot n is set
unfoldable pub all_marked : Geometry → List ℕ → List ℕ → ℕ → Bool
all_marked g v marks n = every n (λ j. is_empty (slot_at g v j) || holds marks (entry_mark g (slot_at g v j)))

-- the marks that code is lent while it looks at slot n
abbrev pub Marked : Geometry → List ℕ → List ℕ → ℕ → Type 0
Marked g v marks n = (length marks ≡ mark_words) × (all_marked g v marks n ≡ true)

-- one of the n lowest slots has group k of this user's file of this name
abbrev pub group_below : Geometry → List ℕ → ℕ → ℕ → List ℕ → ℕ → Bool
group_below g v n u name k = any n (λ j. of_group g u name k (slot_at g v j))
