-- Worked rows of what happens to a discipline.
use Rattle.std.specs.Prelude.{ℕ, true, List, map, replicate}
use Rattle.tty_base.specs.declared.characters.Flag.TheVariants.{Normal}
use Rattle.tty_base.specs.Sizes.{MOST_HELD}
use Rattle.tty_modes.specs.Settings.{Settings}
use Rattle.flow_control.specs.Output.{Output, idle_output}
use Rattle.ldisc_switch.specs.Happenings.{Conditions, Happening, character}
use Rattle.ldisc_switch.specs.Posted.{new_tally}

-- what a character finds at tick 0 on a port that has counted nothing
abbrev pub conditions_under : Settings → Output → Conditions
conditions_under modes output = record { modes = modes; tick = 0; output = output; tally = new_tally }

-- good characters, one after the other
abbrev pub all_characters : Conditions → List ℕ → List Happening
all_characters conditions bytes = map (λ byte. character conditions (record { byte = byte; flag = Normal })) bytes

-- output that STOP halted, with all held that can be
abbrev pub full_output : Output
full_output = record idle_output { held = replicate MOST_HELD 0x78; stopped = true }
