-- Several records a call: its tests, its single calls in order, and what it stores.
pub mod Several
pub mod Stores
pub mod CodeCut
