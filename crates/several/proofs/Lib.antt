-- Laws of single calls in order, and of the call that they make up.
pub mod SeveralLent
pub mod PieceLaws
pub mod SinglesLaws
pub mod SeveralLaws
pub mod SinglesCutLaws
pub mod SeveralCutLaws
