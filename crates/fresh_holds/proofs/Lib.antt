-- What holds of a fresh disk: its entries but for their maps, inspection, the records of a file, its order, the copy
-- of the copy, and what the call leaves.
pub mod SameHead
pub mod Passes
pub mod Records
pub mod InTurn
pub mod Again
pub mod HoldsLaws
pub mod CallHoldsLaws
pub mod WrongCopies
