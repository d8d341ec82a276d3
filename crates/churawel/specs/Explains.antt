-- What a fault tells is true. A volume is refused by 36 with slot s exactly where the fault names slot s; the rule that it tells is
-- broken there, and no rule before it is. Proved in `proofs/ExplainsHolds`.
use Rattle.std.specs.Prelude.{◌≡◌, true, false, ◌≢◌, List, ℕ, ◌<◌, length}
use Rattle.lists.specs.Bytes.{byte}
use Rattle.numbers.specs.Numbers.{two}
use Rattle.disk_geometry.specs.declared.Geometry.{Geometry}
use Rattle.disk_faults.specs.declared.Rule.{Rule}
use Rattle.disk_faults.specs.Faults.{breaks, rule_number}
use Rattle.call_answers.specs.declared.Answer.TheVariants.{BadSlot}
use Rattle.filecalls.specs.LogIn.{log_in}
use Rattle.seam_looks.specs.Fault.{fault_length, fault_at_seam}

-- the bytes of a fault tell of a rule, and of slot s
abbrev pub NamesSlot : List ℕ → ℕ → Type 0
NamesSlot f s = (byte f 0 ≢ 0) × (two f 4 ≡ s)

-- they tell of a rule that slot s breaks, and it breaks none before
pub record NamesRule (g : Geometry) (v : List ℕ) (s : ℕ) (f : List ℕ) : Type 0 where
  pub rule : Rule
  pub number : byte f 0 ≡ rule_number rule
  pub broken : breaks g v s rule ≡ true
  pub earlier : (other : Rule) → rule_number other < rule_number rule → breaks g v s other ≡ false

-- f: what the call leaves in the 32 bytes that it is lent
pub record TellsTruly (g : Geometry) (v : List ℕ) (s : ℕ) (f : List ℕ) : Type 0 where
  pub slot : (log_in g v).answer ≡ BadSlot s → NamesSlot f s
  pub rule : (log_in g v).answer ≡ BadSlot s → NamesRule g v s f
  pub only : NamesSlot f s → (log_in g v).answer ≡ BadSlot s

abbrev pub Explains : Type 0
Explains = (g : Geometry) (v lent : List ℕ) → length lent ≡ fault_length → (s : ℕ) → TellsTruly g v s (fault_at_seam g v lent).fault
