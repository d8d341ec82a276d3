-- What holds of memory calls and loads as C makes them: of runs, and of each.
pub mod Runs
pub mod AtSeam
