pub mod Ends
pub mod Numbers
pub mod PlanEnds
pub mod Served
pub mod Sizes
