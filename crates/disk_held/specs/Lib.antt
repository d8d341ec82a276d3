-- The held blocks: "A block is free if it is from D to T-1 and the state doesn't hold it."
pub mod Held
