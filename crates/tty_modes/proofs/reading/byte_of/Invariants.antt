use Rattle.std.proofs.Common.{◌≡◌, drop}
use Rattle.tty_modes.proofs.ByteTexts.{value_from}
use Rattle.tty_modes.proofs.reading.byte_of.Given as goal

abbrev pub invariant-loop-digit : goal.invariant-loop-digit
invariant-loop-digit l = value_from l.value (drop l.digit-index l.digits) ≡ value_from 0 l.digits
