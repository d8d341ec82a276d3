-- One slot more among those that are in order.
pub mod SortedLaws
