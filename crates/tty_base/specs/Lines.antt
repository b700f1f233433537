-- What the steps of a line let arrive, and which steps a line can take.
use Rattle.std.specs.Prelude.{ℕ, ◌+◌, ◌==◌, ◌||◌, Bool, true, false, List, [], ◌∷◌, length}
use Rattle.tty_base.specs.declared.characters.Flag.{Flag}
use Rattle.tty_base.specs.declared.characters.Flag.TheVariants as flag
use Rattle.tty_base.specs.declared.characters.Flagged.{Flagged}
use Rattle.tty_base.specs.declared.lines.LineStep.{LineStep}
use Rattle.tty_base.specs.declared.lines.LineStep.TheVariants.{Rx, Break, Idle, Mask, Unmask, Trigger}

-- a break is one character 00
abbrev pub break_character : Flagged
break_character = record { byte = 0; flag = flag.Break }

-- what arrives in a step
abbrev pub arrival : LineStep → List Flagged
arrival (Rx c) = c ∷ []
arrival Break = break_character ∷ []
arrival (Idle _) = []
arrival Mask = []
arrival Unmask = []
arrival (Trigger _) = []

-- how many characters arrive
abbrev pub arrival_count : List LineStep → ℕ
arrival_count [] = 0
arrival_count (step ∷ steps) = length (arrival step) + arrival_count steps

-- a step that a line can take: no mark of a FIFO arrives, and the FIFO has four trigger levels
abbrev pub is_step : LineStep → Bool
is_step (Rx c) = is_character c.flag
  where
    is_character : Flag → Bool
    is_character flag.Overrun = false
    is_character _ = true
is_step (Trigger t) = t == 1 || t == 4 || t == 8 || t == 14
is_step _ = true
