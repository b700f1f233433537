use Rattle.std.proofs.Common.{rules}
use Rattle.tty_modes.proofs.reading.with_digit.Goals as goal

pub returns : goal.returns
returns c = search rules steps 300000
