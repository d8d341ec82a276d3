-- Laws of the file: its parts, its length, and the plan carried out.
pub mod FileLaws
pub mod PartsLaws
pub mod PlanLaws
pub mod LengthLaws
