-- Request (iii), "Function 40 by the maker's book": "For Digital Research it is the random write, but a block given for the
-- first time is first filled with zeros." Function 40 is set beside function 34: both are asked for the same, with the same
-- state, volume, control block and buffer. Each sentence is a field of `ZeroFillOf`; that it holds is `zero-fill` in the
-- proofs. That the record has the program's bytes is demand 2's `write-stores`, as for every write.
use Rattle.std.specs.Prelude.{◌≡◌, Bool, true, false, ◌≢◌, List, ℕ, ◌/◌, ◌%◌, length, replicate}
use Rattle.lists.specs.Bytes.{byte}
use Rattle.disk_geometry.specs.declared.Geometry.{Geometry}
use Rattle.disk_geometry.specs.Geometry.{records}
use Rattle.disk_volume.specs.Name.{name_of}
use Rattle.disk_volume.specs.Record.{record_at, OffBlock}
use Rattle.call_fcb.specs.Fcb.{random}
use Rattle.call_answers.specs.Answer.{succeeded}
use Rattle.call_decide.specs.Write.{needs_block, write_block}
use Rattle.filecalls.specs.declared.Drive.{Drive}
use Rattle.filecalls.specs.Outcome.{Outcome}
use Rattle.bdos.specs.Step.{step}
use Rattle.call_served.specs.Asked.{asked}
use Rattle.demands.specs.Run.{Way}
use Rattle.demands.specs.Demand2.{Present}

-- what is asked of both, by a way to do calls: geometry and parameter, which they don't look at, state, volume, control block and buffer
module _ (way : Geometry → Way) (g : Geometry) (p : ℕ) (d : Drive) (v fcb b : List ℕ) where
  abbrev pub by34 : Outcome
  by34 = way g (asked 34 p fcb b) d v

  abbrev pub by40 : Outcome
  by40 = way g (asked 40 p fcb b) d v

-- the call has to give a block to its record's place; and the block, the record's own or the one that it is given
abbrev pub gives : Drive → List ℕ → List ℕ → Bool
gives d v fcb = needs_block d.geometry v d.user (name_of fcb) (random fcb)

abbrev pub block_of : Drive → List ℕ → List ℕ → ℕ
block_of d v fcb = write_block d.geometry d.held v d.user (name_of fcb) (random fcb)

pub record ZeroFillOf (way : Geometry → Way) : Type 0 where
  -- "it is the random write": answer, state, control block and buffer
  pub same_answer : (g : Geometry) (p : ℕ) (d : Drive) (v fcb b : List ℕ) → (by40 way g p d v fcb b).answer ≡ (by34 way g p d v fcb b).answer
  pub same_state : (g : Geometry) (p : ℕ) (d : Drive) (v fcb b : List ℕ) → (by40 way g p d v fcb b).drive ≡ (by34 way g p d v fcb b).drive
  pub same_fcb : (g : Geometry) (p : ℕ) (d : Drive) (v fcb b : List ℕ) → (by40 way g p d v fcb b).fcb ≡ (by34 way g p d v fcb b).fcb
  pub same_buffer : (g : Geometry) (p : ℕ) (d : Drive) (v fcb b : List ℕ) → (by40 way g p d v fcb b).buffer ≡ (by34 way g p d v fcb b).buffer
  -- the volume, where no block is given
  pub same_volume : (g : Geometry) (p : ℕ) (d : Drive) (v fcb b : List ℕ) → gives d v fcb ≡ false → (by40 way g p d v fcb b).volume ≡ (by34 way g p d v fcb b).volume
  -- where one is given, every byte outside it
  pub same_length : (g : Geometry) (p : ℕ) (d : Drive) (v fcb b : List ℕ) → length (by40 way g p d v fcb b).volume ≡ length (by34 way g p d v fcb b).volume
  pub same_elsewhere : (g : Geometry) (p : ℕ) (d : Drive) (v fcb b : List ℕ) (x : ℕ) → OffBlock d.geometry (block_of d v fcb) x
      → byte (by40 way g p d v fcb b).volume x ≡ byte (by34 way g p d v fcb b).volume x
  -- "a block given for the first time is first filled with zeros": so are its other records, all of them
  pub others_zero : (g : Geometry) (p : ℕ) (d : Drive) (v fcb b : List ℕ) → succeeded (by40 way g p d v fcb b).answer ≡ true → gives d v fcb ≡ true
      → (m : ℕ) → m % records d.geometry ≢ random fcb % records d.geometry
      → record_at d.geometry (by40 way g p d v fcb b).volume (block_of d v fcb) m ≡ replicate 128 0
  -- and where a record of the file in that block counts as present, it reads as zeros
  pub others_read_zeros : (g : Geometry) (p : ℕ) (d : Drive) (v fcb b : List ℕ) → succeeded (by40 way g p d v fcb b).answer ≡ true → gives d v fcb ≡ true
      → (m : ℕ) → m ≢ random fcb → m / records d.geometry ≡ random fcb / records d.geometry
      → (s : List ℕ) → Present d fcb (by40 way g p d v fcb b).volume m s → s ≡ replicate 128 0

-- the request
abbrev pub ZeroFill : Type 0
ZeroFill = ZeroFillOf step
