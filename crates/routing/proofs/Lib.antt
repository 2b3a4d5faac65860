pub mod Links
pub mod ListViews
pub mod NewLists
pub mod Nodes
pub mod Numbers
pub mod Room
pub mod Walk
