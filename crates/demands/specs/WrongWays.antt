-- What the demands shut out. Each wrong way is the door's `step` with one small change, and a demand that is said of it is
-- false (`ShutOut`): so the demands say more than that definitions agree with themselves. Among them are the five wrong
-- programs of "How tight the promises are".
use Rattle.std.specs.Prelude.{Bool, true, false, not, cond, ◌&&◌, ◌||◌, List, [], ◌∷◌, ℕ, ◌+◌, eqb, replicate, set}
use Rattle.lists.specs.Bounded.{every}
use Rattle.lists.specs.Bytes.{byte}
use Rattle.disk_geometry.specs.declared.Geometry.{Geometry}
use Rattle.disk_geometry.specs.Geometry.{slots, places, inside, blocks, directory_blocks_of}
use Rattle.disk_volume.specs.Name.{name_of, good_name}
use Rattle.disk_volume.specs.Entry.{is_empty, block_in}
use Rattle.disk_volume.specs.Directory.{slot_at}
use Rattle.disk_volume.specs.Record.{record_at, put_record, put_filled}
use Rattle.disk_held.specs.Held.{release, free_count}
use Rattle.call_fcb.specs.Fcb.{position, random}
use Rattle.call_answers.specs.declared.Refusal.TheVariants.{Absent}
use Rattle.call_answers.specs.declared.Answer.{Answer}
use Rattle.call_answers.specs.declared.Answer.TheVariants.{Done, Ready, BadSlot, Refused}
use Rattle.call_answers.specs.Answer.{value_of, succeeded}
use Rattle.disk_rules.specs.GoodSlot.{good_fields, good_top_bits, seen_below}
use Rattle.disk_rules.specs.Named.{held_of}
use Rattle.call_decide.specs.Write.{write_block}
use Rattle.filecalls.specs.declared.Drive.{Drive}
use Rattle.filecalls.specs.Outcome.{Outcome, left, with_held}
use Rattle.filecalls.specs.State.{closed, logged_in}
use Rattle.bdos.specs.Step.{step}
use Rattle.call_served.specs.Asked.{Asked, asked}
use Rattle.demands.specs.Run.{Way}
use Rattle.demands.specs.Order.{among}
use Rattle.demands.specs.Demand1.{Demand1Of}
use Rattle.demands.specs.Demand2.{Demand2Of}
use Rattle.demands.specs.Demand3.{Demand3Of}
use Rattle.demands.specs.ZeroFill.{ZeroFillOf}

-- ---- what the ways are written with
-- the functions of these numbers are done by another way
abbrev pub instead : List ℕ → (Geometry → Way) → Geometry → Way
instead ns way g c d v = cond (among c.function ns) (way g c d v) (step g c d v)

-- an answer, with a state and a volume, and control block and buffer as given
abbrev answering : Answer → Asked → Drive → List ℕ → Outcome
answering a c d v = left (record { answer = a; drive = d }) v c.fcb c.buffer

-- all that is left, with another state, volume or control block
abbrev pub with_drive : Outcome → Drive → Outcome
with_drive o d = record { answer = o.answer; drive = d; volume = o.volume; fcb = o.fcb; buffer = o.buffer }

abbrev pub with_volume : Outcome → List ℕ → Outcome
with_volume o v = record { answer = o.answer; drive = o.drive; volume = v; fcb = o.fcb; buffer = o.buffer }

abbrev with_fcb : Outcome → List ℕ → Outcome
with_fcb o fcb = record { answer = o.answer; drive = o.drive; volume = o.volume; fcb = fcb; buffer = o.buffer }

-- the control block with cr one higher
abbrev cr_moved : List ℕ → List ℕ
cr_moved fcb = set fcb 32 (byte fcb 32 + 1)

-- the block that a random write goes to
abbrev written_to : Asked → Drive → List ℕ → ℕ
written_to c d v = write_block d.geometry d.held v d.user (name_of c.fcb) (random c.fcb)

-- ---- the five wrong programs of the paper; each breaks demand 2
-- "a log-in that refuses every volume" (`accepts-good`)
abbrev pub refuses_every : Geometry → Way
refuses_every = instead (13 ∷ 37 ∷ []) (λ g c d v. answering (BadSlot 0) c closed v)

-- "a read that answers 1 always" (`present-is-read`)
abbrev pub reads_nothing : Geometry → Way
reads_nothing = instead (20 ∷ 33 ∷ []) (λ g c d v. answering (Refused Absent) c d v)

-- "a write that answers 0 and stores nothing" (`write-stores`)
abbrev pub stores_nothing : Geometry → Way
stores_nothing = instead (21 ∷ 34 ∷ 40 ∷ []) (λ g c d v. answering (Done 0) c d v)

-- "a sequential write that stores only its first record and later just moves cr" (`sequential-writes`)
abbrev pub stores_first : Geometry → Way
stores_first =
    instead (21 ∷ [])
    (λ g c d v. cond (eqb (position c.fcb) 0) (step g c d v) (with_fcb (answering (Done 0) c d v) (cr_moved c.fcb)))

-- "a log-in with an invented free count" (`log-in-count`): one more than it is
abbrev pub invents_count : Geometry → Way
invents_count =
    instead (13 ∷ 37 ∷ []) (λ g c d v. let o = step g c d v in answering (Ready (value_of o.answer + 1)) c o.drive v)

-- ---- demand 1
-- a refused call moves cr (`refused-leaves-all`)
abbrev pub moves_cr : Geometry → Way
moves_cr g c d v = let o = step g c d v in cond (succeeded o.answer) o (with_fcb o (cr_moved o.fcb))

-- ---- demand 2
-- a write keeps its directory, and the block its old bytes (`write-stores`)
abbrev pub keeps_old_bytes : Geometry → Way
keeps_old_bytes =
    instead (34 ∷ [])
    (λ g c d v.
    let o = step g c d v in
    with_volume o
    (put_record d.geometry o.volume (written_to c d v) (random c.fcb) (record_at d.geometry v (written_to c d v) (random c.fcb))))

-- function 40 throws the program's bytes away and writes zeros (`write-stores`)
abbrev pub throws_away : Geometry → Way
throws_away = instead (40 ∷ []) (λ g c d v. step g (asked 40 c.parameter c.fcb (replicate 128 0)) d v)

-- an inspection overlooks a block that is named twice (`accepted-is-good`)
abbrev looks_good : Geometry → List ℕ → ℕ → Bool
looks_good g v i =
    is_empty (slot_at g v i)
    || (good_fields (slot_at g v i)
    && good_name false (name_of (slot_at g v i))
    && good_top_bits (slot_at g v i)
    && every (places g) (λ p. eqb (block_in g (slot_at g v i) p) 0 || inside g (block_in g (slot_at g v i) p))
    && not (seen_below g v i))

abbrev pub overlooks_twice : Geometry → Way
overlooks_twice =
    instead (13 ∷ 37 ∷ [])
    (λ g c d v.
    cond (every (slots g) (looks_good g v))
    (answering (Ready (free_count (held_of g v) (directory_blocks_of g) (blocks g))) c (logged_in g (held_of g v)) v)
    (step g c d v))

-- ---- request (iii)
-- function 40 fills no block: it is 34 (`others-zero`)
abbrev pub fills_nothing : Geometry → Way
fills_nothing = instead (40 ∷ []) (λ g c d v. step g (asked 34 c.parameter c.fcb c.buffer) d v)

-- function 40 fills every block that it writes to (`same-volume`)
abbrev pub fills_always : Geometry → Way
fills_always =
    instead (40 ∷ [])
    (λ g c d v.
    let o = step g c d v in
    with_volume o (put_filled d.geometry true o.volume (written_to c d v) (random c.fcb) c.buffer))

-- ---- demand 3
-- held blocks are not updated by a write: the next one takes the same block (`inspected`)
abbrev pub held_not_updated : Geometry → Way
held_not_updated = instead (34 ∷ []) (λ g c d v. let o = step g c d v in with_drive o (with_held o.drive d.held))

-- a delete frees a block too many, block D: another file is given it (`inspected`)
abbrev pub frees_too_many : Geometry → Way
frees_too_many =
    instead (19 ∷ [])
    (λ g c d v. let o = step g c d v in with_drive o (with_held o.drive (release o.drive.held (directory_blocks_of d.geometry))))

-- a write takes a block that is held: block D, as if it were free (`inspected`)
abbrev pub takes_held : Geometry → Way
takes_held = instead (34 ∷ []) (λ g c d v. step g c (with_held d (release d.held (directory_blocks_of d.geometry))) v)

-- a write stores its bytes into another file's block as well: into block D, whichever block the entry names
-- (`others-bytes`)
abbrev pub stores_elsewhere : Geometry → Way
stores_elsewhere =
    instead (34 ∷ [])
    (λ g c d v.
    let o = step g c d v in
    with_volume o (put_record d.geometry o.volume (directory_blocks_of d.geometry) (random c.fcb) c.buffer))

-- ---- the demands are false of them
pub record ShutOut : Type 0 where
  pub refuses_every_lem : Demand2Of refuses_every → ⊥
  pub reads_nothing_lem : Demand2Of reads_nothing → ⊥
  pub stores_nothing_lem : Demand2Of stores_nothing → ⊥
  pub stores_first_lem : Demand2Of stores_first → ⊥
  pub invents_count_lem : Demand2Of invents_count → ⊥
  pub moves_cr_lem : Demand1Of moves_cr → ⊥
  pub keeps_old_bytes_lem : Demand2Of keeps_old_bytes → ⊥
  pub throws_away_lem : Demand2Of throws_away → ⊥
  pub overlooks_twice_lem : Demand2Of overlooks_twice → ⊥
  pub fills_nothing_lem : ZeroFillOf fills_nothing → ⊥
  pub fills_always_lem : ZeroFillOf fills_always → ⊥
  pub held_not_updated_lem : Demand3Of held_not_updated → ⊥
  pub frees_too_many_lem : Demand3Of frees_too_many → ⊥
  pub takes_held_lem : Demand3Of takes_held → ⊥
  pub stores_elsewhere_lem : Demand3Of stores_elsewhere → ⊥
