-- Changes of the discipline, and the hangup (ioctl_tty(2), TIOCSETD; vhangup(2)).
use Rattle.std.specs.Prelude.{ℕ, ◌==◌, true, Option, None, Some, if◌then◌else◌}
use Rattle.tty_base.specs.declared.counters.Errno.TheVariants.{EINVAL}
use Rattle.tty_calls.specs.Plain.{done}
use Rattle.ldisc_switch.specs.declared.kinds.Kind.{Kind}
use Rattle.ldisc_switch.specs.declared.kinds.Kind.TheVariants as kind
use Rattle.ldisc_switch.specs.declared.discipline.Disc.{Disc}
use Rattle.ldisc_switch.specs.Disciplines.{kind_of}
use Rattle.tty_terminal.specs.Terminals.{Terminal}
use Rattle.tty_terminal.specs.Generations.{after_change, after_hangup}
use Rattle.tty_terminal.specs.Outcomes.{Outcome, gives, refuses, does}

abbrev pub number_of_kind : Kind → ℕ
number_of_kind kind.Tty = 0
number_of_kind kind.Slip = 1

-- the number of the discipline that is installed
abbrev pub number_of : Disc → ℕ
number_of installed = number_of_kind (kind_of installed)

-- EINVAL for a number that is no discipline's; where it is the one installed nothing changes
abbrev pub change_outcome : Terminal → (number : ℕ) → Option Kind → Outcome
change_outcome t number None = refuses EINVAL t
change_outcome t number (Some new) = does (if number_of t.disc == number then t else after_change t new)

-- a hangup, which drops what waits in the flip buffer
abbrev pub hangup_outcome : Terminal → Outcome
hangup_outcome t = gives done true (after_hangup t)
