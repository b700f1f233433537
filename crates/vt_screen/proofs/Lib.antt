pub mod PaperLemmas
pub mod ScreenLemmas
