-- What the calls at the seam rest on: values that fit 16 bits, closed states that every call refuses, what a call leaves as it was, and
-- lengths that no call takes; and the seam evaluated.
pub mod ValueLaws
pub mod ClosedLaws
pub mod KeptLaws
pub mod WayLaws
pub mod SeamLaws
pub mod LentLaws
pub mod CutLaws
pub mod Examples
