-- The lister's buffer: every listing fits into it, so all of the listing is printed.
use Rattle.std.specs.Prelude.{◌≡◌, List, ℕ, ◌≤◌, length, take}
use Rattle.text.specs.Text.{text, puts}
use Rattle.listing.specs.Listing.{listing}

-- a listing has at most so many bytes
abbrev pub room : ℕ
room = 1024

pub record Fits : Type 0 where
  pub short : (v : List ℕ) → length (listing v) ≤ room
  -- appended to a buffer that has this room, it is what the buffer begins with
  pub whole : (v out after : List ℕ) (n : ℕ) → room ≤ length out → text after n ≡ puts (text out 0) (listing v)
      → take n after ≡ listing v
