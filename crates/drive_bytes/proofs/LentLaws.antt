-- What lent bytes take of a state: a state of their length is read back from them, and so is the closed one; an open drive's own
-- state leaves them as they are.
use mathlib.Core.Path.{◌≡◌, refl, sym, ap, ◌∙◌}
use mathlib.Core.Bool.{Bool, true, false}
use mathlib.Core.Logic.{◌⊎◌, inl, inr}
use mathlib.Core.List.{List}
use Prim.Native.Nat.{ℕ, ◌*◌, ◌≤◌}
use lib.Dec.{leb}
use lib.ListN.{length}
use borrow.Author.Tests.{eq-eqb, leb-true}
use Rattle.disk_geometry.specs.Geometry.{most_blocks, blocks}
use Rattle.disk_held.specs.Held.{word_bits}
use Rattle.filecalls.specs.declared.Drive.{Drive}
use Rattle.filecalls.specs.State.{is_open, closed}
use Rattle.numbers.specs.Numbers.{Bytes}
use Rattle.drive_bytes.specs.Layout.{stored_words, drive_bytes, fields, encoded, decoded, encoded_in}
use Rattle.drive_bytes.specs.RoundTrip.{Carried}
use Rattle.drive_bytes.proofs.LoadLaws.{drive_whole}
use Rattle.drive_bytes.proofs.RoundTripHolds.{decode_encode, encode_decode, open_drive, closed_is_zeros, zeros_read}

-- the words that are stored have a bit for each block
pub stored_room : (t : ℕ) → t ≤ most_blocks → t ≤ word_bits * stored_words t
stored_room t h = go (leb t 256) refl
  where
    go : (x : Bool) → leb t 256 ≡ x → t ≤ word_bits * stored_words t
    go true e = rw e (leb-true t 256 e)
    go false e = rw e h

-- an open drive has as many bytes as its geometry asks
pub open_length : (s : List ℕ) → is_open (decoded s) ≡ true → length s ≡ drive_bytes (blocks (decoded s).geometry)
open_length s e = let drive = open_drive s e in unfold decoded fields in rw drive (drive_whole s drive)

-- ---- what lent bytes take
pub encoded_whole : (d : Drive) (s : List ℕ) → length s ≡ drive_bytes (blocks d.geometry) → encoded_in d s ≡ encoded d
unfolding encoded_in
encoded_whole d s e = rw (eq-eqb (length s) (drive_bytes (blocks d.geometry)) e)

pub lent_same : (s : List ℕ) → Bytes s → is_open (decoded s) ≡ true → encoded_in (decoded s) s ≡ s
lent_same s bytes e = encoded_whole (decoded s) s (open_length s e) ∙ encode_decode s bytes e

-- a state of their length, or the closed one, is read back
pub lent_back : (d : Drive) (s : List ℕ) → Carried d → (length s ≡ drive_bytes (blocks d.geometry)) ⊎ (d ≡ closed) → decoded (encoded_in d s) ≡ d
lent_back d s c (inl e) = ap decoded (encoded_whole d s e) ∙ decode_encode d c
lent_back d s c (inr e) = ap (λ (x : Drive). decoded (encoded_in x s)) e ∙ ap decoded (closed_is_zeros s) ∙ zeros_read (length s) ∙ sym e
