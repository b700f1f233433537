-- Steps in which good characters arrive.
use Rattle.std.specs.Prelude.{ℕ, List, map}
use Rattle.tty_base.specs.declared.characters.Flag.TheVariants.{Normal}
use Rattle.tty_base.specs.declared.lines.LineStep.{LineStep}
use Rattle.line_steps.specs.Steps.{rx_step}

-- these bytes arrive, each with no flag
abbrev pub good_steps : List ℕ → List LineStep
good_steps bytes = map (rx_step Normal) bytes
