use Rattle.std.proofs.Common.{◌≤◌, ◌+◌, map}
use Rattle.modem_text.specs.Events.{logged_of}
use Rattle.modem_text.specs.Sessions.{modem_session_of}
use Rattle.modem_ports.specs.Ports.{AreFirstPlayed}
use Rattle.modem_ports.proofs.running.run_ports.Given as goal

abbrev pub invariant-loop-number : goal.invariant-loop-number
invariant-loop-number l = record {
  room_for_runs : l.ports ≤ l.runs.spare + l.number;
  room_for_ends : l.ports ≤ l.ends.spare + l.number;
  played : AreFirstPlayed (modem_session_of l.session) l.number (map logged_of l.log.items) l.runs.items l.ends.items;
}
