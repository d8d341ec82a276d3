-- Laws of hex lines: a line's digits and its sum, what is not refused, and the lines of a text place by place.
pub mod LineLaws
pub mod RefusalLaws
pub mod LinesLaws
