-- Reserved room makes no difference to a discipline with its port.
use Rattle.std.proofs.Common.{◌≡◌, ℕ, ap}
use Rattle.tty_base.specs.declared.characters.Flagged.{Flagged}
use Rattle.tty_modes.specs.Settings.{Settings}
use Rattle.flow_control.specs.Output.{Output, IgnoresRoom, without_room}
use Rattle.flow_control.specs.Counting.{without_signal_room}
use Rattle.flow_control.specs.declared.tally.Tally.{Tally}
use Rattle.n_tty.specs.States.{on_port}
use Rattle.n_tty.proofs.WithoutRoom.{after_character-room, after_ixoff_rule-room}
use Rattle.n_slip.specs.Discipline.{after_character as after_slip_character, counts_after_character}
use Rattle.ldisc_switch.specs.declared.discipline.Disc.{Disc}
use Rattle.ldisc_switch.specs.declared.discipline.Disc.TheVariants as disc
use Rattle.ldisc_switch.specs.Disciplines.{unread_of, has_piece_of, after_ixoff_rule_of, disc_on_port}
use Rattle.ldisc_switch.specs.Disciplines.{tty_on_port, after_character_of, disc_without_room}

pub after_ixoff_rule_of-room : (modes : Settings) (state : Disc) → IgnoresRoom (after_ixoff_rule_of modes state)
after_ixoff_rule_of-room modes state output = after_ixoff_rule-room modes (unread_of state) (has_piece_of state) output

pub after_character_of-room : (modes : Settings) (now : ℕ) (c : Flagged) (state : Disc) (output : Output)
    (tally : Tally)
    → disc_without_room (after_character_of modes now c state output tally)
    ≡ after_character_of modes now c state (without_room output) (without_signal_room tally)
after_character_of-room modes now c (disc.Tty tty) output tally =
    ap tty_on_port (after_character-room modes now c (on_port tty output tally))
after_character_of-room modes now c (disc.Slip slip) output tally =
    ap (λ (o : Output). disc_on_port (disc.Slip (after_slip_character slip c)) o
    (without_signal_room (record tally { counts = counts_after_character slip c tally.counts })))
    (after_ixoff_rule_of-room modes (disc.Slip slip) output)
