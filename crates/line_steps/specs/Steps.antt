-- The steps of a line, as contracts see them, and as they are kept.
use Rattle.std.specs.Prelude.{ℕ, List, [], ◌∷◌, map}
use Rattle.std.specs.List.{flat_map}
use Rattle.tty_base.specs.declared.characters.Flag.{Flag}
use Rattle.tty_base.specs.declared.lines.LineStep.{LineStep}
use Rattle.tty_base.specs.declared.lines.LineStep.TheVariants.{Rx}
use Rattle.line_steps.specs.declared.LinePart.{LinePart}
use Rattle.line_steps.specs.declared.LinePart.TheVariants.{Run, One}

-- the steps, in order
pub record StepList : Type 0 where
  pub items : List LineStep

-- the most steps of a run that are written out at once
abbrev pub MOST_AT_ONCE : ℕ
MOST_AT_ONCE = 64

-- a character with this flag arrives
abbrev pub rx_step : Flag → ℕ → LineStep
rx_step flag byte = Rx (record { byte = byte; flag = flag })

-- the steps that a part is
abbrev pub steps_of : LinePart → List LineStep
steps_of (Run flag bytes) = map (rx_step flag) bytes.items
steps_of (One step) = step ∷ []

abbrev pub steps_in : List LinePart → List LineStep
steps_in parts = flat_map steps_of parts
