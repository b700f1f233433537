pub mod ListLemmas
pub mod DrawLemmas
pub mod Within
