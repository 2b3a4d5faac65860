pub mod Changes
pub mod Links
