use Rattle.std.proofs.Common.{◌≤◌, ◌+◌, drop, length, map}
use Rattle.tty_calls.specs.Sessions.{script_of}
use Rattle.passed_calls.specs.Scripts.{mixed_scripts}
use Rattle.derived_session.specs.Steps.{steps_in}
use Rattle.derived_session.proofs.Making.{Making}
use Rattle.derived_session.proofs.scripts.add_scripts.Given as goal

abbrev pub invariant-loop-number : goal.invariant-loop-number
invariant-loop-number g l = record {
  making : Making (map script_of l.initial.made.items) l.initial.ports
      (map steps_in (mixed_scripts 0 (map script_of l.scripts) l.placed)) (map script_of l.made.items) l.ports
      (map steps_in (mixed_scripts l.number (map script_of (drop l.number l.scripts)) l.rest));
  room : length l.scripts ≤ l.made.spare + l.number;
}
