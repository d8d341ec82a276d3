-- What theorems cite, and what the code rests on: the rules and log-in agree; the first rule is the first; the other slot is a
-- lower one; what code finds; each rule evaluated.
pub mod LadderLaws
pub mod Agreement
pub mod FirstLaws
pub mod OtherLaws
pub mod SlotLaws
pub mod Examples
