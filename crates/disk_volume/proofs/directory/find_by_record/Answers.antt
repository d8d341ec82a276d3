-- No slot passed so far has what is wanted; a record is looked through from the slot that the search has come to.
use Rattle.std.proofs.Common.{◌≡◌, true, ℕ, ◌+◌, ◌-◌, ◌*◌, ◌/◌, ◌%◌, ◌<◌, List, length, take, drop, sym, ◌∙◌, arith}
use Rattle.lists.proofs.BoundedLaws.{searched_start, searched_hit, searched_none}
use Rattle.disk_geometry.specs.Geometry.{floppy, lawful, bytes, slots, start}
use Rattle.disk_geometry.proofs.GeometryLaws.{slot_record_below}
use Rattle.disk_volume.specs.declared.Wanted.{Wanted}
use Rattle.disk_volume.specs.CodeRun.{find_in}
use Rattle.disk_volume.proofs.EntryLaws.{lent_part}
use Rattle.disk_volume.proofs.RunLaws.{Looked, looked, searched_record}
use Rattle.disk_volume.proofs.directory.find_by_record.Goals as goal

-- the slot that a search has come to, which is slot f of record r
in_record : (r f : ℕ) → f < 4 → (r * 4 + f) / 4 ≡ r
in_record r f h = omega arith

-- the look at record r from that slot on
look : (good : lawful floppy ≡ true) (v : List ℕ) (size : length v ≡ bytes floppy) (u : ℕ) (n : List ℕ) (w : Wanted) (r f at k : ℕ)
    → f < 4 → r * 4 + f < slots floppy → at ≡ start floppy r → k ≡ find_in floppy (take (at + 128 - at) (drop at v)) u n w f
    → Looked floppy good v size u n w (r * 4 + f) k
look good v size u n w r f at k f4 h e d =
    let p : (r * 4 + f) % 4 ≡ f = omega arith in
    looked floppy good v size u n w (r * 4 + f) k h (rw (in_record r f f4, p) (rw (lent_part v at 128, e) at d))

pub loop-r-init : goal.loop-r-init
loop-r-init c =
    let z : c.args.from / 4 * 4 + c.args.from % 4 ≡ c.args.from = omega arith in
    (omega arith, omega arith, rw z searched_start)

pub start-at-requires : goal.start-at-requires
start-at-requires c =
    let l = c.loop-r in
    (c.requires.volume.0, rw (in_record l.r l.first l.invariant.0) at (slot_record_below floppy c.requires.volume.0 (l.r * 4 + l.first) (omega arith)))

pub returns-then-k-lt-RECORD_SLOTS : goal.returns-then-k-lt-RECORD_SLOTS
returns-then-k-lt-RECORD_SLOTS c =
    let l = c.loop-r in
    let z = in_record l.r l.first l.invariant.0 in
    let s = look c.requires.volume.0 _ c.requires.volume.1 _ _ _ l.r l.first _ _ l.invariant.0 (omega arith) c.start-at.ensures.0 c.find_each-k.ensures.0 in
    let come = rw z at (searched_record floppy c.requires.volume.0 _ c.requires.volume.1 _ _ _ l.invariant.2 (omega arith) s) in
    (sym (searched_hit come (omega arith) (rw z at (s.hit c.if-k-lt-RECORD_SLOTS.true))), omega arith)

pub loop-r-preserved : goal.loop-r-preserved
loop-r-preserved c =
    let l = c.loop-r in
    let z = in_record l.r l.first l.invariant.0 in
    let s = look c.requires.volume.0 _ c.requires.volume.1 _ _ _ l.r l.first _ _ l.invariant.0 (omega arith) c.start-at.ensures.0 c.find_each-k.ensures.0 in
    let come = rw z at (searched_record floppy c.requires.volume.0 _ c.requires.volume.1 _ _ _ l.invariant.2 (omega arith) s) in
    let next : l.r * 4 + c.find_each-k.result ≡ (l.r + 1) * 4 + 0 = omega (arith, s.in_record) in
    (omega arith, omega arith, rw next at come)

pub returns : goal.returns
returns c = (sym (searched_none c.loop-r.invariant.2 (omega arith) ∙ omega arith), omega arith)
