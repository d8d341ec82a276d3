-- The calls that we serve, each with its tests in the paper's order and with all that it leaves.
pub mod State
pub mod Tests
pub mod Outcome
pub mod LogIn
pub mod Open
pub mod Search
pub mod Names
pub mod Read
pub mod Write
pub mod Change
pub mod Small
pub mod Leaves
pub mod Stores
pub mod Rewrite
pub mod CodeFront
pub mod CodeReady
pub mod CodeLadder
