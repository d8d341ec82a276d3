-- What code finds on its way; not for the reader of the paper.
use Rattle.std.specs.Prelude.{false, not, cond, List, ℕ, leb, ltb, eqb, Option, Some, None, option_map}
use Rattle.std.specs.Option.{option_or}
use Rattle.lists.specs.Bytes.{byte}
use Rattle.disk_geometry.specs.declared.Geometry.{Geometry}
use Rattle.disk_geometry.specs.Geometry.{places}
use Rattle.disk_volume.specs.Fields.{USER, EX, S1, S2, RC}
use Rattle.disk_volume.specs.Name.{name_of, good_name}
use Rattle.disk_volume.specs.Entry.{Entry, is_empty}
use Rattle.disk_volume.specs.Directory.{slot_at}
use Rattle.disk_rules.specs.GoodSlot.{good_top_bits}
use Rattle.disk_faults.specs.declared.MapRule.{MapRule}
use Rattle.disk_faults.specs.declared.MapRule.TheVariants.{Outside, Twice, Lower}
use Rattle.disk_faults.specs.declared.Rule.{Rule}
use Rattle.disk_faults.specs.declared.Rule.TheVariants.{UserByte, NameByte, TopBit, ExByte, S1Byte, S2Byte, RcByte, Twin}
use Rattle.disk_faults.specs.declared.Fault.{Fault}
use Rattle.disk_faults.specs.Faults.{place_of, twin_slot, fault, alone, map_told}

-- the first rule that the entry breaks by itself, but for its map
unfoldable pub entry_rule : Entry → Option Rule
entry_rule e =
    cond (not (leb (byte e USER) 15)) (Some UserByte)
    (cond (not (good_name false (name_of e))) (Some NameByte)
    (cond (not (good_top_bits e)) (Some TopBit)
    (cond (not (leb (byte e EX) 31)) (Some ExByte)
    (cond (not (eqb (byte e S1) 0)) (Some S1Byte)
    (cond (not (leb (byte e S2) 15)) (Some S2Byte)
    (cond (not (leb (byte e RC) 128)) (Some RcByte)
    None))))))

-- the fault of a map's rule in the lowest place that breaks it
unfoldable pub map_fault : Geometry → List ℕ → ℕ → MapRule → Option Fault
map_fault g v i rule = cond (ltb (place_of g v i rule) (places g)) (Some (map_told g v i rule)) None

-- the fault where the lowest slot of the same user, name and group is a lower one
unfoldable pub twin_fault : Geometry → List ℕ → ℕ → Option Fault
twin_fault g v i = cond (ltb (twin_slot g v i) i) (Some (fault Twin 0 0 (twin_slot g v i))) None

-- the fault of the entry in slot i
unfoldable pub found : Geometry → List ℕ → ℕ → Option Fault
found g v i =
    let e = slot_at g v i in
    let map = option_or (option_or (map_fault g v i Outside) (map_fault g v i Twice)) (map_fault g v i Lower) in
    cond (is_empty e) None (option_or (option_map alone (entry_rule e)) (option_or map (twin_fault g v i)))
