pub mod PartLaws
pub mod PlanLines
pub mod PlanRanges
pub mod SendLaws
pub mod SideRoom
