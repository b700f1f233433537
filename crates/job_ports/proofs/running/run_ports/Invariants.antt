use Rattle.std.proofs.Common.{◌≤◌, ◌+◌, map}
use Rattle.job_text.specs.Events.{logged_of}
use Rattle.job_text.specs.Sessions.{jobs_session_of}
use Rattle.job_ports.specs.Ports.{AreFirstPlayed}
use Rattle.job_ports.proofs.running.run_ports.Given as goal

abbrev pub invariant-loop-number : goal.invariant-loop-number
invariant-loop-number l = record {
  room_for_runs : l.ports ≤ l.runs.spare + l.number;
  room_for_ends : l.ports ≤ l.ends.spare + l.number;
  played : AreFirstPlayed (jobs_session_of l.session) l.number (map logged_of l.log.items) l.runs.items l.ends.items;
}
