-- A drive's bytes with other words, and with another front, as code lays them; not for the reader of the layout.
use Rattle.std.specs.Prelude.{cond, List, [], ◌∷◌, ◌++◌, ℕ, take, drop}
use Rattle.filecalls.specs.declared.Front.{Front}
use Rattle.drive_bytes.specs.Layout.{USER_AT, PLACING_AT, HELD_AT, blocks_at, stored_words, search_bytes, held_bytes}

-- user, protection and search
abbrev pub with_front : List ℕ → Front → List ℕ
with_front s f =
    take USER_AT s ++ (f.user ∷ cond f.protected 1 0 ∷ [])
    ++ search_bytes f.search.kind f.search.user f.search.last f.search.pattern
    ++ drop PLACING_AT s

-- the held words
abbrev pub with_words : List ℕ → List ℕ → List ℕ
with_words s held = take HELD_AT s ++ held_bytes held 0 (stored_words (blocks_at s))
