-- Why a slot is bad: the rules of 01's sentence on good slots in its order, and the first of them that a slot breaks.
-- None is broken exactly where the slot is good, and none before the first: `Agree` and `IsFirst`, proved in `proofs/Agreement` and
-- `proofs/FirstLaws`.
use Rattle.std.specs.Prelude.{◌≡◌, Bool, true, false, not, cond, ◌&&◌, List, [], ◌∷◌, ℕ, ◌<◌, leb, eqb, Option, Some, None, is_none}
use Rattle.lists.specs.Bounded.{lowest, any}
use Rattle.lists.specs.Bytes.{byte}
use Rattle.disk_geometry.specs.declared.Geometry.{Geometry}
use Rattle.disk_geometry.specs.Geometry.{slots, group_of, inside, places}
use Rattle.disk_volume.specs.declared.Wanted.TheVariants.{Group}
use Rattle.disk_volume.specs.Fields.{USER, EX, S1, S2, RC}
use Rattle.disk_volume.specs.Name.{name_of, good_name}
use Rattle.disk_volume.specs.Entry.{is_empty, extent, block_in}
use Rattle.disk_volume.specs.Directory.{slot_at, find_slot}
use Rattle.disk_rules.specs.GoodSlot.{good_top_bits, in_places, names_block, named_below, seen_below, good_slot}
use Rattle.disk_faults.specs.declared.MapRule.{MapRule}
use Rattle.disk_faults.specs.declared.MapRule.TheVariants.{Outside, Twice, Lower}
use Rattle.disk_faults.specs.declared.Rule.{Rule}
use Rattle.disk_faults.specs.declared.Rule.TheVariants.{UserByte, NameByte, TopBit, ExByte, S1Byte, S2Byte, RcByte, Map, Twin}
use Rattle.disk_faults.specs.declared.Fault.{Fault}

-- ---- the rules, and what it is to break one
-- the rules in the sentence's order
abbrev pub rules : List Rule
rules =
    UserByte ∷ NameByte ∷ TopBit ∷ ExByte ∷ S1Byte ∷ S2Byte ∷ RcByte ∷ Map Outside ∷ Map Twice ∷ Map Lower ∷ Twin ∷ []

-- place p of slot i has a block, and the block is against the rule there
abbrev pub against : Geometry → List ℕ → ℕ → MapRule → ℕ → ℕ → Bool
-- "each block number is 0 or from D to T-1"
against g v i Outside p b = not (inside g b)
-- "none but 0 occurs twice in it"
against g v i Twice p b = in_places g (slot_at g v i) p b
-- "or in a lower slot that is not empty"
against g v i Lower p b = named_below g v i b

unfoldable pub breaks_at : Geometry → List ℕ → ℕ → MapRule → ℕ → Bool
breaks_at g v i rule p = let b = block_in g (slot_at g v i) p in not (eqb b 0) && against g v i rule p b

-- slot i, which is not empty, breaks the rule
unfoldable pub breaks : Geometry → List ℕ → ℕ → Rule → Bool
-- "user is 0..15"
breaks g v i UserByte = not (leb (byte (slot_at g v i) USER) 15)
-- "name bytes without top bits are 20H..7EH and not 3FH, the first not 20H"
breaks g v i NameByte = not (good_name false (name_of (slot_at g v i)))
-- "only bytes 9 and 10 may carry a top bit"
breaks g v i TopBit = not (good_top_bits (slot_at g v i))
-- "ex is at most 31, s1 is 0, s2 at most 15, rc at most 128"
breaks g v i ExByte = not (leb (byte (slot_at g v i) EX) 31)
breaks g v i S1Byte = not (eqb (byte (slot_at g v i) S1) 0)
breaks g v i S2Byte = not (leb (byte (slot_at g v i) S2) 15)
breaks g v i RcByte = not (leb (byte (slot_at g v i) RC) 128)
breaks g v i (Map rule) = any (places g) (breaks_at g v i rule)
-- "no lower slot has the same user, name and group"
breaks g v i Twin = seen_below g v i

-- ---- what is told of a rule that is broken
-- the lowest place that breaks a rule of the map
unfoldable pub place_of : Geometry → List ℕ → ℕ → MapRule → ℕ
place_of g v i rule = lowest (places g) (breaks_at g v i rule)

-- the lowest slot that has block b, and the lowest of the same user, name and group
unfoldable pub slot_of : Geometry → List ℕ → ℕ → ℕ → ℕ
slot_of g v i b = lowest i (λ j. names_block g (slot_at g v j) b)

unfoldable pub twin_slot : Geometry → List ℕ → ℕ → ℕ
twin_slot g v i = let e = slot_at g v i in find_slot g v (byte e USER) (name_of e) (Group (group_of g (extent e)))

-- the other slot where a rule of the map speaks of one
abbrev pub other_slot : Geometry → List ℕ → ℕ → MapRule → ℕ → ℕ
other_slot g v i Outside b = 0
other_slot g v i Twice b = 0
other_slot g v i Lower b = slot_of g v i b

-- a rule, with the place of the map, the block and the other slot where the rule has one, 0 where it has not
abbrev pub fault : Rule → ℕ → ℕ → ℕ → Fault
fault rule place block other = record { rule = rule; place = place; block = block; other = other }

abbrev pub alone : Rule → Fault
alone rule = fault rule 0 0 0

abbrev pub map_told : Geometry → List ℕ → ℕ → MapRule → Fault
map_told g v i rule =
    let p = place_of g v i rule in
    let b = block_in g (slot_at g v i) p in
    fault (Map rule) p b (other_slot g v i rule b)

unfoldable pub told : Geometry → List ℕ → ℕ → Rule → Fault
told g v i UserByte = alone UserByte
told g v i NameByte = alone NameByte
told g v i TopBit = alone TopBit
told g v i ExByte = alone ExByte
told g v i S1Byte = alone S1Byte
told g v i S2Byte = alone S2Byte
told g v i RcByte = alone RcByte
told g v i (Map rule) = map_told g v i rule
told g v i Twin = fault Twin 0 0 (twin_slot g v i)

-- ---- the first rule that is broken
-- the first of these rules that slot i breaks
unfoldable pub first_of : Geometry → List ℕ → ℕ → List Rule → Option Fault
first_of g v i [] = None
first_of g v i (rule ∷ later) = cond (breaks g v i rule) (Some (told g v i rule)) (first_of g v i later)

-- the first rule that slot i breaks, None where it is empty or breaks none
unfoldable pub first_broken : Geometry → List ℕ → ℕ → Option Fault
first_broken g v i = cond (is_empty (slot_at g v i)) None (first_of g v i rules)

-- ---- the rules by number: their places in the list from 1 on
abbrev pub map_rule_number : MapRule → ℕ
map_rule_number Outside = 8
map_rule_number Twice = 9
map_rule_number Lower = 10

abbrev pub rule_number : Rule → ℕ
rule_number UserByte = 1
rule_number NameByte = 2
rule_number TopBit = 3
rule_number ExByte = 4
rule_number S1Byte = 5
rule_number S2Byte = 6
rule_number RcByte = 7
rule_number (Map rule) = map_rule_number rule
rule_number Twin = 11

-- and 0 for none
abbrev pub number_told : Option Rule → ℕ
number_told None = 0
number_told (Some rule) = rule_number rule

-- the rules that speak of another slot: "or in a lower slot", "no lower slot"
abbrev pub map_rule_has_other : MapRule → Bool
map_rule_has_other Outside = false
map_rule_has_other Twice = false
map_rule_has_other Lower = true

abbrev pub has_other : Rule → Bool
has_other UserByte = false
has_other NameByte = false
has_other TopBit = false
has_other ExByte = false
has_other S1Byte = false
has_other S2Byte = false
has_other RcByte = false
has_other (Map rule) = map_rule_has_other rule
has_other Twin = true

-- none speaks of none
abbrev pub other_told : Option Rule → Bool
other_told None = false
other_told (Some rule) = has_other rule

-- ---- what holds of it
-- the rules and log-in agree: none is broken exactly where the slot is good
abbrev pub Agree : Type 0
Agree = (g : Geometry) (v : List ℕ) (i : ℕ) → i < slots g → is_none (first_broken g v i) ≡ good_slot g v i

-- the rule that is told of is broken, and no rule before it is
pub record First (g : Geometry) (v : List ℕ) (i : ℕ) : Type 0 where
  pub broken : (f : Fault) → first_broken g v i ≡ Some f → breaks g v i f.rule ≡ true
  pub earlier : (f : Fault) → first_broken g v i ≡ Some f → (rule : Rule) → rule_number rule < rule_number f.rule → breaks g v i rule ≡ false

abbrev pub IsFirst : Type 0
IsFirst = (g : Geometry) (v : List ℕ) (i : ℕ) → First g v i
