-- All that N_TTY has posted since it was installed.
use Rattle.std.specs.Prelude.{ℕ, ◌==◌, List, [], ◌∷◌, ◌++◌, if◌then◌else◌}
use Rattle.tty_base.specs.declared.characters.Flagged.{Flagged}
use Rattle.tty_modes.specs.Settings.{Settings}
use Rattle.opost_out.specs.Column.{PostedByte, posted_text_under}
use Rattle.flow_control.specs.Output.{Output, idle_output}
use Rattle.flow_control.specs.Counting.{no_counts}
use Rattle.flow_control.specs.declared.tally.Tally.{Tally}
use Rattle.n_tty.specs.States.{NTtyState, OnPort, on_port}
use Rattle.n_tty.specs.Receiving.{after_flagged}
use Rattle.n_tty.specs.Writing.{piece_text}
use Rattle.ldisc_switch.specs.declared.discipline.Disc.{Disc}
use Rattle.ldisc_switch.specs.declared.discipline.Disc.TheVariants as disc
use Rattle.ldisc_switch.specs.Happenings.{Conditions, Happening, character, read, write, flush}
use Rattle.ldisc_switch.specs.Happenings.{mode_change, ixoff_rule, packet_take, after_one}

abbrev pub new_tally : Tally
new_tally = record { counts = no_counts; signals = record { items = []; spare = 0 } }

-- a character taken under some output, by a port that has counted nothing
abbrev pub port_after_character : Settings → (now : ℕ) → Flagged → NTtyState → Output → OnPort
port_after_character modes now c tty output = after_flagged modes now c.flag c.byte (on_port tty output new_tally)

-- The echo of a character is what an idle port puts on its wire for it. Under an output that has no room for it, it is
-- dropped whole and counted, and nothing is posted.
abbrev pub kept_echo : (under on_idle : OnPort) → List ℕ
kept_echo under on_idle = if under.tally.counts.echo == 0 then on_idle.output.wire else []

-- what a character posts
abbrev pub character_echo : Conditions → Flagged → NTtyState → List ℕ
character_echo conditions c tty =
    kept_echo (port_after_character conditions.modes conditions.tick c tty conditions.output)
    (port_after_character conditions.modes conditions.tick c tty idle_output)

-- what one happening posts, each byte with whether iutf8 was set
abbrev pub text_at : Disc → Happening → List PostedByte
text_at (disc.Tty tty) (character conditions c) = posted_text_under conditions.modes (character_echo conditions c tty)
text_at (disc.Tty tty) (write modes output bytes) = posted_text_under modes (piece_text modes tty output bytes)
text_at (disc.Tty tty) (read modes n) = []
text_at (disc.Tty tty) flush = []
text_at (disc.Tty tty) (mode_change old new) = []
text_at (disc.Tty tty) ixoff_rule = []
text_at (disc.Tty tty) packet_take = []
text_at (disc.Slip slip) event = []

-- all that these happenings post, from a state on
abbrev pub text_of_all : Disc → List Happening → List PostedByte
text_of_all state [] = []
text_of_all state (event ∷ events) = text_at state event ++ text_of_all (after_one state event) events
