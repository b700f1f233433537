use Rattle.std.proofs.Common.{rules}
use Rattle.char_lanes.proofs.flag_number.Goals as goal

pub returns-in-Parity : goal.returns-in-Parity
returns-in-Parity c = search rules steps 100000
