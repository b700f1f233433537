use Rattle.std.proofs.Common.{◌≤◌, ◌+◌, drop, length, map}
use Rattle.tty_calls.specs.Sessions.{script_of}
use Rattle.derived_session.specs.Steps.{further_steps}
use Rattle.derived_session.proofs.Making.{Making}
use Rattle.derived_session.proofs.scripts.add_others.Given as goal

abbrev pub invariant-loop-block : goal.invariant-loop-block
invariant-loop-block l = record {
  making : Making (map script_of l.initial.made.items) l.initial.ports (map further_steps l.others)
      (map script_of l.made.items) l.ports (map further_steps (drop l.block-index l.others));
  room : length l.others ≤ l.made.spare + l.block-index;
}
