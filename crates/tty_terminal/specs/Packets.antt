-- Packets (RFC 1055), which N_SLIP alone sends and takes.
use Rattle.std.specs.Prelude.{ℕ, ◌==◌, false, nat_lt, List, length, drop, if◌then◌else◌}
use Rattle.tty_base.specs.declared.counters.Errno.TheVariants.{EAGAIN, ENOTTY, EMSGSIZE}
use Rattle.tty_calls.specs.Plain.{got}
use Rattle.flow_control.specs.Output.{room_of, after_send}
use Rattle.flow_control.specs.Counting.{with_count}
use Rattle.flow_control.specs.declared.tally.Counter.TheVariants.{PacketOut}
use Rattle.slip_frames.specs.Slip.{max_packet, spelling_of}
use Rattle.n_slip.specs.Discipline.{first_packet}
use Rattle.ldisc_switch.specs.declared.discipline.Disc.{Disc}
use Rattle.ldisc_switch.specs.declared.discipline.Disc.TheVariants as disc
use Rattle.tty_terminal.specs.Terminals.{Terminal}
use Rattle.tty_terminal.specs.Outcomes.{Outcome, gives, refuses, does}

-- a packet is sent as it is spelled, and counted
abbrev pub with_packet_sent : Terminal → List ℕ → Terminal
with_packet_sent t bytes =
    record t {
      output = after_send t.output (spelling_of bytes);
      tally = record t.tally { counts = with_count t.tally.counts PacketOut 1 };
    }

-- EMSGSIZE above 1,006 bytes; EAGAIN where what it is spelled as exceeds the room for held output
abbrev pub sending_outcome : Terminal → List ℕ → Disc → Outcome
sending_outcome t bytes (disc.Tty tty) = refuses ENOTTY t
sending_outcome t bytes (disc.Slip slip) =
    if nat_lt max_packet (length bytes) then refuses EMSGSIZE t
    else if nat_lt (room_of t.output) (length (spelling_of bytes)) then refuses EAGAIN t
    else does (with_packet_sent t bytes)

-- the oldest packet that waits
abbrev pub taking_outcome : Terminal → Disc → Outcome
taking_outcome t (disc.Tty tty) = refuses ENOTTY t
taking_outcome t (disc.Slip slip) =
    if length slip.packets == 0 then refuses EAGAIN t
    else gives (got (first_packet slip)) false
    (record t { disc = disc.Slip (record slip { packets = drop 1 slip.packets }) })
