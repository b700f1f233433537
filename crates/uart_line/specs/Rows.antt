-- Scripts of a line whose received lists are known.
use Rattle.std.specs.Prelude.{ℕ, List, [], ◌∷◌, ◌++◌}
use Rattle.tty_base.specs.declared.characters.Flagged.{Flagged}
use Rattle.tty_base.specs.declared.lines.LineStep.{LineStep}
use Rattle.tty_base.specs.declared.lines.LineStep.TheVariants.{Idle, Mask, Unmask, Trigger}
use Rattle.uart_line.specs.Received.{overrun_mark, closed_script}
use Rattle.tty_base.specs.Characters.{good_character, good_characters}
use Rattle.uart_line.specs.GoodSteps.{good_steps}

-- twenty characters while the handler is masked
abbrev pub masked_burst : List LineStep
masked_burst = closed_script (Trigger 14 ∷ Mask
    ∷ good_steps
    (65 ∷ 66 ∷ 67 ∷ 68 ∷ 69 ∷ 70 ∷ 71 ∷ 72 ∷ 73 ∷ 74 ∷ 75 ∷ 76 ∷ 77 ∷ 78 ∷ 79 ∷ 80 ∷ 81 ∷ 82 ∷ 83 ∷ 84 ∷ []) ++ Unmask
    ∷ [])

-- sixteen of them, with a mark after the first
abbrev pub burst_output : List Flagged
burst_output =
    good_character 65 ∷ overrun_mark
    ∷ good_characters (66 ∷ 67 ∷ 68 ∷ 69 ∷ 70 ∷ 71 ∷ 72 ∷ 73 ∷ 74 ∷ 75 ∷ 76 ∷ 77 ∷ 78 ∷ 79 ∷ 80 ∷ [])

-- three characters, some idle times, and sixteen while the handler is masked
abbrev pub burst_after_idle : ℕ → List LineStep
burst_after_idle times = closed_script (Trigger 14 ∷ good_steps (65 ∷ 66 ∷ 67 ∷ []) ++ Idle times ∷ Mask
    ∷ good_steps (97 ∷ 98 ∷ 99 ∷ 100 ∷ 101 ∷ 102 ∷ 103 ∷ 104 ∷ 105 ∷ 106 ∷ 107 ∷ 108 ∷ 109 ∷ 110 ∷ 111 ∷ 112 ∷ [])
    ++ Unmask ∷ [])

-- where the three were cut, all nineteen
abbrev pub two_windows_output : List Flagged
two_windows_output = good_characters
    (65 ∷ 66 ∷ 67 ∷ 97 ∷ 98 ∷ 99 ∷ 100 ∷ 101 ∷ 102 ∷ 103 ∷ 104 ∷ 105 ∷ 106 ∷ 107 ∷ 108 ∷ 109 ∷ 110 ∷ 111 ∷ 112 ∷ [])

-- where they were not, sixteen of one window
abbrev pub one_window_output : List Flagged
one_window_output =
    good_character 65 ∷ overrun_mark
    ∷ good_characters (66 ∷ 67 ∷ 97 ∷ 98 ∷ 99 ∷ 100 ∷ 101 ∷ 102 ∷ 103 ∷ 104 ∷ 105 ∷ 106 ∷ 107 ∷ 108 ∷ 109 ∷ [])
