pub mod ItemLemmas
pub mod PieceLemmas
