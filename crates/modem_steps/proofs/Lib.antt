pub mod Silent
mod WorkedTurns
