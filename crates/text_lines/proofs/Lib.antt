mod Both
mod Digits
mod Finds
mod HexPairs
mod Splits
