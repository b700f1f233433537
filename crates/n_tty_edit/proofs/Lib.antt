pub mod EraseLemmas
