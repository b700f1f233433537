use Rattle.std.proofs.Common.{refl}
use Rattle.tty_modes.specs.Bits.{flags_of}
use Rattle.tty_modes.proofs.settings.Modes.sane.Goals as goal

pub returns : goal.returns
unfolding flags_of
returns c = refl
