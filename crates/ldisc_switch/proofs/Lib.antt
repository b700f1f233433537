pub mod KindLemmas
pub mod PacketLemmas
pub mod EchoLemmas
pub mod TakingLemmas
pub mod ColumnLemmas
pub mod WithoutRoom
pub mod RunLemmas
