-- From hex text to CMD file: the file, and what the call answers and leaves. Then statements: where the file has what, and how
-- long it can be.
pub mod File
pub mod Gencmd
pub mod Parts
pub mod Longest
pub mod CodePlan
