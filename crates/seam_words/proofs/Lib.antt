-- What every call at the seam rests on: log-in's value fits 16 bits; the state in the drive's bytes is open as code asks it.
pub mod ValueLaws
pub mod FrontLaws
