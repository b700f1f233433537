pub mod HandleNumbers
