-- The two round trips: "Decoding what was encoded is the identity, and encoding what was decoded and not closed gives the
-- same bytes". They are proved in `proofs/RoundTripHolds`.
use Rattle.std.specs.Prelude.{◌≡◌, true, false, List, ℕ, ◌≤◌, ◌<◌, ◌^◌, length, replicate}
use Rattle.disk_geometry.specs.Geometry.{block_bytes_of, blocks, directory_blocks_of, placing}
use Rattle.lists.specs.Bytes.{byte}
use Rattle.disk_geometry.specs.declared.Geometry.{Geometry}
use Rattle.numbers.specs.Numbers.{Bytes}
use Rattle.call_search.specs.declared.SearchKind.TheVariants.{Nothing}
use Rattle.filecalls.specs.declared.Drive.{Drive}
use Rattle.call_search.specs.Search.{pattern_bytes}
use Rattle.filecalls.specs.State.{no_search, is_open, closed}
use Rattle.disk_held.specs.Held.{held_words}
use Rattle.drive_bytes.specs.Layout.{stored_words, encoded, encoded_in, decoded}

-- what a drive's bytes can carry of a geometry: sizes of 16 bits, and a placing of eight
pub record CarriedGeometry (g : Geometry) : Type 0 where
  pub block_bytes_16 : block_bytes_of g < 65536
  pub blocks_16 : blocks g < 65536
  pub directory_blocks_16 : directory_blocks_of g < 65536
  pub placing_8 : placing g < 256

-- and of a state: a last slot of 16 bits, twelve bytes of pattern, words of 64 bits, as many as a state has and those zero that
-- are not stored; and where no search is kept there is nothing beside it. Every state that a log-in or a call leaves is so
-- (crate `churawel`).
pub record Carried (d : Drive) : Type 0 where
  pub geometry : CarriedGeometry d.geometry
  pub last : d.search.last < 65536
  pub pattern : length d.search.pattern ≡ pattern_bytes
  pub all_words : length d.held ≡ held_words
  pub words : (k : ℕ) → byte d.held k < 2 ^ 64
  pub rest : (k : ℕ) → stored_words (blocks d.geometry) ≤ k → byte d.held k ≡ 0
  pub idle : d.search.kind ≡ Nothing → d.search ≡ no_search

abbrev pub DecodeEncode : Type 0
DecodeEncode = (d : Drive) → Carried d → decoded (encoded d) ≡ d

abbrev pub EncodeDecode : Type 0
EncodeDecode = (s : List ℕ) → Bytes s → is_open (decoded s) ≡ true → encoded (decoded s) ≡ s

-- what is read from bytes and is not closed can be carried
abbrev pub ReadCarried : Type 0
ReadCarried = (s : List ℕ) → Bytes s → is_open (decoded s) ≡ true → Carried (decoded s)

-- "closed is all zeros, of either length"
abbrev pub ClosedIsZeros : Type 0
ClosedIsZeros = (s : List ℕ) → encoded_in closed s ≡ replicate (length s) 0

abbrev pub ZerosAreClosed : Type 0
ZerosAreClosed = (n : ℕ) → is_open (decoded (replicate n 0)) ≡ false
