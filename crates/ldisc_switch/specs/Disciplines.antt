-- A line discipline of a port: N_TTY or N_SLIP.
use Rattle.std.specs.Prelude.{◌≡◌, ℕ, ◌==◌, List, [], ◌∷◌, Bool, true, false, Option, Some, None, if◌then◌else◌}
use Rattle.tty_base.specs.declared.characters.Flagged.{Flagged}
use Rattle.tty_modes.specs.Settings.{Settings}
use Rattle.flow_control.specs.Output.{Output, without_room}
use Rattle.flow_control.specs.Counting.{without_signal_room}
use Rattle.flow_control.specs.declared.tally.Tally.{Tally}
use Rattle.n_tty.specs.States.{fresh_tty, OnPort, on_port, is_accepting, unread_count, has_piece, FitsModes}
use Rattle.n_tty.specs.Receiving.{after_character}
use Rattle.n_tty.specs.Flow.{after_ixoff_rule}
use Rattle.n_tty.specs.Spending.{pending_count}
use Rattle.n_slip.specs.Discipline.{fresh_slip, after_character as after_slip_character, counts_after_character}
use Rattle.ldisc_switch.specs.declared.kinds.Kind.{Kind}
use Rattle.ldisc_switch.specs.declared.kinds.Kind.TheVariants as kind
use Rattle.ldisc_switch.specs.declared.discipline.Disc.{Disc}
use Rattle.ldisc_switch.specs.declared.discipline.Disc.TheVariants as disc

-- the kind of a number (linux/tty.h): N_TTY is 0 and N_SLIP is 1
abbrev pub kind_of_number : ℕ → Option Kind
kind_of_number number = if number == 0 then Some kind.Tty else if number == 1 then Some kind.Slip else None

abbrev pub kind_of : Disc → Kind
kind_of (disc.Tty tty) = kind.Tty
kind_of (disc.Slip slip) = kind.Slip

-- a discipline that was just installed
abbrev pub fresh_of : Kind → Disc
fresh_of kind.Tty = disc.Tty fresh_tty
fresh_of kind.Slip = disc.Slip fresh_slip

-- N_SLIP accepts every character
abbrev pub accepts_of : Settings → Disc → Bool
accepts_of modes (disc.Tty tty) = is_accepting modes tty
accepts_of modes (disc.Slip slip) = true

-- the bytes that are unread; under N_SLIP none is, whatever waits
abbrev pub unread_of : Disc → ℕ
unread_of (disc.Tty tty) = unread_count tty
unread_of (disc.Slip slip) = 0

-- a piece is complete; under N_SLIP none is
abbrev pub has_piece_of : Disc → Bool
has_piece_of (disc.Tty tty) = has_piece tty
has_piece_of (disc.Slip slip) = false

-- under N_TTY the state fits the modes
abbrev pub Fits : Settings → Disc → Type 0
Fits modes (disc.Tty tty) = FitsModes modes tty
Fits modes (disc.Slip slip) = Unit {0}

-- the column, and the tick at which the last byte was stored; N_SLIP has neither
abbrev pub column_in : Disc → ℕ
column_in (disc.Tty tty) = tty.column
column_in (disc.Slip slip) = 0

abbrev pub last_in : Disc → ℕ
last_in (disc.Tty tty) = tty.last
last_in (disc.Slip slip) = 0

-- the rule for ixoff, by what the discipline has unread
abbrev pub after_ixoff_rule_of : Settings → Disc → Output → Output
after_ixoff_rule_of modes state output = after_ixoff_rule modes (unread_of state) (has_piece_of state) output

-- how many bytes can still go to the wire for what is there, beside what the next character adds; a character under
-- N_SLIP lets nothing go that is held
abbrev pub pending_count_of : Disc → Output → ℕ
pending_count_of (disc.Tty tty) output = pending_count tty output
pending_count_of (disc.Slip slip) output = 0

-- a discipline, with the port's output and what the port counts
pub record DiscOnPort : Type 0 where
  pub disc : Disc
  pub output : Output
  pub tally : Tally

abbrev pub disc_on_port : Disc → Output → Tally → DiscOnPort
disc_on_port disc output tally = record { disc = disc; output = output; tally = tally }

abbrev pub tty_on_port : OnPort → DiscOnPort
tty_on_port port = disc_on_port (disc.Tty port.tty) port.output port.tally

-- receiving a character; the rule for ixoff follows
abbrev pub after_character_of : Settings → (now : ℕ) → Flagged → Disc → Output → Tally → DiscOnPort
after_character_of modes now c (disc.Tty tty) output tally =
    tty_on_port (after_character modes now c (on_port tty output tally))
after_character_of modes now c (disc.Slip slip) output tally =
    disc_on_port (disc.Slip (after_slip_character slip c)) (after_ixoff_rule_of modes (disc.Slip slip) output)
    (record tally { counts = counts_after_character slip c tally.counts })

-- after these characters, one after the other
abbrev pub after_characters_of : Settings → (now : ℕ) → List Flagged → DiscOnPort → DiscOnPort
after_characters_of modes now [] port = port
after_characters_of modes now (c ∷ cs) port =
    after_characters_of modes now cs (after_character_of modes now c port.disc port.output port.tally)

-- each of these is accepted in its turn
abbrev pub AcceptsAllOf : Settings → (now : ℕ) → List Flagged → DiscOnPort → Type 0
AcceptsAllOf modes now [] port = Unit {0}
AcceptsAllOf modes now (c ∷ cs) port =
    (accepts_of modes port.disc ≡ true)
    × AcceptsAllOf modes now cs (after_character_of modes now c port.disc port.output port.tally)

-- a discipline with its port as others see it: reserved room is no part of it
abbrev pub disc_without_room : DiscOnPort → DiscOnPort
disc_without_room port = disc_on_port port.disc (without_room port.output) (without_signal_room port.tally)
