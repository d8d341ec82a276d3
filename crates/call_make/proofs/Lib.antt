-- Laws of make.
pub mod MakeLaws
