-- Laws of a change made to every slot, and of the stores of data, of an entry and of a sweep: laid down, cut, counted, in order.
pub mod SweepLaws
pub mod LaidLaws
pub mod SweptLaws
pub mod CodeLaws
pub mod LoopLaws
pub mod OrderLaws
