-- Why a log-in is refused for a bad slot, as an exported call says it, in 32 bytes: the first rule that the slot breaks, and
-- user and name of the slot and of the other one of which the rule speaks.
use Rattle.std.specs.Prelude.{cond, List, ◌∷◌, ◌++◌, ℕ, ◌+◌, ◌%◌, eqb, length, replicate, Option, Some, None}
use Rattle.lists.specs.Bytes.{part}
use Rattle.numbers.specs.Numbers.{bytes_of}
use Rattle.disk_geometry.specs.declared.Geometry.{Geometry}
use Rattle.disk_volume.specs.Fields.{USER, NAME, name_bytes}
use Rattle.disk_volume.specs.Directory.{slot_at}
use Rattle.disk_faults.specs.declared.Fault.{Fault}
use Rattle.disk_faults.specs.Faults.{rule_number, has_other, first_broken}
use Rattle.call_answers.specs.declared.Refusal.TheVariants.{BufferLength}
use Rattle.call_answers.specs.declared.Answer.{Answer}
use Rattle.call_answers.specs.declared.Answer.TheVariants.{Done, Ready, BadSlot, Refused, Several}
use Rattle.filecalls.specs.LogIn.{log_in}
use Rattle.seam_words.specs.Answered.{answered}

abbrev pub fault_length : ℕ
fault_length = 32

-- bytes 0 to 3: the rule's number, the place, the block
abbrev pub rule_bytes : Option Fault → List ℕ
rule_bytes None = 0 ∷ 0 ∷ bytes_of 2 0
rule_bytes (Some f) = rule_number f.rule ∷ f.place % 256 ∷ bytes_of 2 f.block

-- bytes 4 to 7: the bad slot, the other slot
abbrev pub other_of : Option Fault → ℕ
other_of None = 0
other_of (Some f) = f.other

abbrev pub slot_bytes : ℕ → Option Fault → List ℕ
slot_bytes i f = bytes_of 2 i ++ bytes_of 2 (other_of f)

-- bytes 8 to 19: user and name of slot i, the entry's first 12 bytes as they stand
abbrev pub owner_length : ℕ
owner_length = NAME + name_bytes

unfoldable pub owner_bytes : Geometry → List ℕ → ℕ → List ℕ
owner_bytes g v i = part (slot_at g v i) USER owner_length

-- bytes 20 to 31: those of the other slot, zeros where the rule speaks of none
unfoldable pub other_bytes : Geometry → List ℕ → Option Fault → List ℕ
other_bytes g v None = replicate owner_length 0
other_bytes g v (Some f) = cond (has_other f.rule) (owner_bytes g v f.other) (replicate owner_length 0)

unfoldable pub fault_bytes : Geometry → List ℕ → ℕ → List ℕ
fault_bytes g v i = let f = first_broken g v i in rule_bytes f ++ slot_bytes i f ++ owner_bytes g v i ++ other_bytes g v f

-- by log-in's answer: the fault of the bad slot, zeros where it tells of none
abbrev pub fault_for : Geometry → List ℕ → Answer → List ℕ
fault_for g v (BadSlot slot) = fault_bytes g v slot
fault_for g v (Done code) = replicate fault_length 0
fault_for g v (Ready free) = replicate fault_length 0
fault_for g v (Refused why) = replicate fault_length 0
fault_for g v (Several done why) = replicate fault_length 0

-- the answer, and the bytes of the fault
pub record Explained : Type 0 where
  pub answer : ℕ
  pub fault : List ℕ

abbrev pub explained : ℕ → List ℕ → Explained
explained r f = record { answer = r; fault = f }

-- log-in's answer, with the fault in 32 bytes; any other number of bytes is refused by 35, and stays
unfoldable pub fault_at_seam : Geometry → List ℕ → List ℕ → Explained
fault_at_seam g v f =
    let answer = (log_in g v).answer in
    cond (eqb (length f) fault_length) (explained (answered answer) (fault_for g v answer))
    (explained (answered (Refused BufferLength)) f)
