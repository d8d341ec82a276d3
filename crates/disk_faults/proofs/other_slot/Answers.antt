-- Each arm is the definition's case of the same name.
use Rattle.disk_faults.proofs.other_slot.Goals as goal

pub returns-in-Lower : goal.returns-in-Lower
returns-in-Lower c = rw c.in-Lower.is c.slot_of.ensures
