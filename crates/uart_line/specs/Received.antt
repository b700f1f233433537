-- What a line hands over, read off the whole list of its steps: the arrivals between two cuts are a
-- window, a cut ends a window, and each window that is cut gives its first 16 characters.
--
-- In these definitions `past` is the list of the steps so far with the last one first, so that "the
-- last Mask or Unmask so far" is the first that is met.
use Rattle.std.specs.Prelude.{ℕ, ◌+◌, ◌-◌, Bool, true, false, not, ◌&&◌, ◌||◌, nat_le, nat_lt}
use Rattle.std.specs.Prelude.{if◌then◌else◌, List, [], ◌∷◌, ◌++◌, length, take, reverse}
use Rattle.tty_base.specs.declared.characters.Flag.{Flag}
use Rattle.tty_base.specs.declared.characters.Flag.TheVariants as flag
use Rattle.tty_base.specs.declared.characters.Flagged.{Flagged}
use Rattle.tty_base.specs.Lines.{arrival}
use Rattle.tty_base.specs.declared.lines.LineStep.{LineStep}
use Rattle.tty_base.specs.declared.lines.LineStep.TheVariants.{Rx, Break, Idle, Mask, Unmask, Trigger}
use Rattle.uart_regs.specs.Registers.{DEPTH}

-- ---- characters

-- stands where the FIFO lost characters
abbrev pub overrun_mark : Flagged
overrun_mark = record { byte = 0; flag = flag.Overrun }

abbrev pub is_flagged : Flag → Bool
is_flagged flag.Normal = false
is_flagged _ = true

-- ---- what the steps so far say

-- the last Mask or Unmask is Mask
unfoldable pub is_masked : List LineStep → Bool
is_masked [] = false
is_masked (Rx _ ∷ past) = is_masked past
is_masked (Break ∷ past) = is_masked past
is_masked (Idle _ ∷ past) = is_masked past
is_masked (Mask ∷ _) = true
is_masked (Unmask ∷ _) = false
is_masked (Trigger _ ∷ past) = is_masked past

-- the number of the last Trigger, or 8
unfoldable pub trigger_of : List LineStep → ℕ
trigger_of [] = 8
trigger_of (Rx _ ∷ past) = trigger_of past
trigger_of (Break ∷ past) = trigger_of past
trigger_of (Idle _ ∷ past) = trigger_of past
trigger_of (Mask ∷ past) = trigger_of past
trigger_of (Unmask ∷ past) = trigger_of past
trigger_of (Trigger t ∷ _) = t

-- the character times since the last arrival
unfoldable pub idle_of : List LineStep → ℕ
idle_of [] = 0
idle_of (Rx _ ∷ _) = 0
idle_of (Break ∷ _) = 0
idle_of (Idle n ∷ past) = idle_of past + n
idle_of (Mask ∷ past) = idle_of past
idle_of (Unmask ∷ past) = idle_of past
idle_of (Trigger _ ∷ past) = idle_of past

-- ---- windows and cuts

-- A cut stands after the steps so far, where these characters arrived since the last cut: the handler
-- is not masked, and the first of them is flagged, or they are as many as the trigger says, or four
-- character times have passed.
unfoldable pub is_cut : List LineStep → List Flagged → Bool
is_cut past [] = false
is_cut past (c ∷ cs) =
    not (is_masked past)
    && (is_flagged c.flag || nat_le (trigger_of past) (length (c ∷ cs)) || nat_le 4 (idle_of past))

-- what waits after the steps so far: nothing after a cut
abbrev pub uncut_window : List LineStep → List Flagged → List Flagged
uncut_window past cs = if is_cut past cs then [] else cs

-- the arrivals since the last cut before the last step
unfoldable pub window : List LineStep → List Flagged
window [] = []
window (step ∷ past) = uncut_window past (window past) ++ arrival step

-- a window gives its first 16 characters; where it has more, a mark stands after its first
unfoldable pub window_output : List Flagged → List Flagged
window_output [] = []
window_output (c ∷ cs) = if nat_lt DEPTH (length (c ∷ cs)) then c ∷ overrun_mark ∷ take 15 cs else c ∷ cs

-- ---- the received list

unfoldable pub received_list_after : List LineStep → List Flagged
received_list_after [] = []
received_list_after (step ∷ past) =
    received_list_after past
    ++ (if is_cut (step ∷ past) (window (step ∷ past)) then window_output (window (step ∷ past)) else [])

unfoldable pub lost_count_after : List LineStep → ℕ
lost_count_after [] = 0
lost_count_after (step ∷ past) =
    lost_count_after past
    + (if is_cut (step ∷ past) (window (step ∷ past)) then length (window (step ∷ past)) - DEPTH else 0)

-- what the windows of these steps give, up to the last cut
unfoldable pub received_list : List LineStep → List Flagged
received_list steps = received_list_after (reverse steps)

-- how many characters they lost
unfoldable pub lost_count : List LineStep → ℕ
lost_count steps = lost_count_after (reverse steps)

-- what has arrived since the last cut
unfoldable pub waiting_list : List LineStep → List Flagged
waiting_list steps = uncut_window (reverse steps) (window (reverse steps))

-- ---- scripts

-- a line script is closed by Unmask and four idle character times
abbrev pub closed_script : List LineStep → List LineStep
closed_script steps = steps ++ Unmask ∷ Idle 4 ∷ []

-- the line scripts of the phases, one after the other
unfoldable pub script : List (List LineStep) → List LineStep
script [] = []
script (steps ∷ phases) = closed_script steps ++ script phases
