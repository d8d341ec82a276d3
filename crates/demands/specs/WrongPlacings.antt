-- What the statements of request (i) shut out. Each wrong way is the door's `step`, and each wrong way to store its `stores_of`, with one
-- small change on eight-inch images alone; a statement of `EightInch` that is said of it is false (`PlacingsShutOut`).
use Rattle.std.specs.Prelude.{cond, List, [], ◌∷◌, ℕ, zero, suc, ◌+◌, ◌*◌, ltb, eqb}
use Rattle.lists.specs.Bytes.{part, put}
use Rattle.disk_geometry.specs.declared.Geometry.{Geometry}
use Rattle.disk_geometry.specs.EightInch.{reserved_bytes}
use Rattle.disk_geometry.specs.Geometry.{record_bytes, eight_inch, placing, blocks, records, start, record_of}
use Rattle.disk_volume.specs.Name.{name_of}
use Rattle.disk_stores.specs.Stores.{Store, store, laid, directory_records}
use Rattle.call_fcb.specs.Fcb.{random}
use Rattle.call_read.specs.Read.{read_block}
use Rattle.filecalls.specs.Outcome.{Outcome}
use Rattle.bdos.specs.Step.{step}
use Rattle.bdos.specs.Stores.{stores_of}
use Rattle.demands.specs.Run.{Way}
use Rattle.demands.specs.Order.{among}
use Rattle.demands.specs.Cuts.{Storing}
use Rattle.demands.specs.EightInch.{straight_drive, EachCallOf, EachRunOf, EachCutOf, SpareKeptOf}
use Rattle.demands.specs.WrongWays.{instead, with_drive, with_volume}

-- ---- what they are written with
-- on eight-inch images the functions of these numbers are done by another way
abbrev on_images : List ℕ → (Geometry → Way) → Geometry → Way
on_images ns way g c d v = let other = instead ns way g c d v in cond (eqb (placing g) eight_inch) other (step g c d v)

-- what stands where logical record q would lie if records lay one behind the other behind the reserved tracks
abbrev plain_record : List ℕ → ℕ → List ℕ
plain_record v q = part v (reserved_bytes + q * record_bytes) record_bytes

-- m of them from record q on, to be laid where records lie
abbrev plain_records : List ℕ → ℕ → ℕ → List Store
plain_records v q zero = []
plain_records v q (suc m) = store q (plain_record v q) ∷ plain_records v (suc q) m

abbrev with_buffer : Outcome → List ℕ → Outcome
with_buffer o b = record { answer = o.answer; drive = o.drive; volume = o.volume; fcb = o.fcb; buffer = b }

-- stores in the order in which they lie on the disk
abbrev pub laid_in : Geometry → Store → List Store → List Store
laid_in g s [] = s ∷ []
laid_in g s (t ∷ ts) = let later = t ∷ laid_in g s ts in cond (ltb (start g t.at) (start g s.at)) later (s ∷ t ∷ ts)

abbrev pub in_disk_order : Geometry → List Store → List Store
in_disk_order g [] = []
in_disk_order g (s ∷ ss) = laid_in g s (in_disk_order g ss)

-- ---- wrong ways
-- a random read takes data to be skewed and the directory not (`EachCallOf`)
abbrev pub directory_straight : Geometry → Way
directory_straight = on_images (33 ∷ []) (λ g c d v. with_volume (step g c d (laid g v (plain_records v 0 (directory_records g)))) v)

-- it takes the directory to be skewed and data not (`EachCallOf`)
abbrev pub data_straight : Geometry → Way
data_straight =
    on_images (33 ∷ [])
    (λ g c d v.
    let n = random c.fcb in
    with_buffer (step g c d v) (plain_record v (record_of g (read_block g v d.user (name_of c.fcb) n) n)))

-- log-in hands back a straight state: functions 13 and 37 lose the drive's own placing. Of each call by itself the statement is true
-- (`placing-lost-by-call`), since states are straightened before they are compared; the next call goes by the lost placing (`EachRunOf`)
abbrev pub placing_lost : Geometry → Way
placing_lost = on_images (13 ∷ 37 ∷ []) (λ g c d v. let o = step g c d v in with_drive o (straight_drive o.drive))

-- log-in marks the disk in a reserved track, or in the first of the last six logical records (`SpareKeptOf`)
abbrev pub marks_reserved : Geometry → Way
marks_reserved = on_images (13 ∷ 37 ∷ []) (λ g c d v. with_volume (step g c d v) (put v 0 1 (1 ∷ [])))

abbrev pub marks_last : Geometry → Way
marks_last = on_images (13 ∷ 37 ∷ []) (λ g c d v. with_volume (step g c d v) (put v (start g (blocks g * records g)) 1 (1 ∷ [])))

-- a delete stores directory records as their sectors follow on the disk, not as the records do (`EachCutOf`)
abbrev pub stores_by_sector : Storing
stores_by_sector c d v =
    let sorted = in_disk_order d.geometry (stores_of c d v) in
    cond (among c.function (19 ∷ [])) (cond (eqb (placing d.geometry) eight_inch) sorted (stores_of c d v)) (stores_of c d v)

-- ---- the statements are false of them
pub record PlacingsShutOut : Type 0 where
  pub directory_straight_lem : EachCallOf directory_straight → ⊥
  pub data_straight_lem : EachCallOf data_straight → ⊥
  pub placing_lost_lem : EachRunOf placing_lost → ⊥
  pub placing_lost_by_call : EachCallOf placing_lost
  pub marks_reserved_lem : SpareKeptOf marks_reserved stores_of → ⊥
  pub marks_last_lem : SpareKeptOf marks_last stores_of → ⊥
  pub by_sector : EachCutOf stores_by_sector → ⊥
