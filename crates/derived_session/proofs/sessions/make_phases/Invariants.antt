use Rattle.std.proofs.Common.{◌≤◌, ◌+◌, drop, length, map}
use Rattle.tty_calls.specs.Sessions.{phase_of}
use Rattle.derived_session.specs.Steps.{phases_steps}
use Rattle.derived_session.proofs.Making.{MakingPhases}
use Rattle.derived_session.proofs.sessions.make_phases.Given as goal

abbrev pub invariant-loop-k : goal.invariant-loop-k
invariant-loop-k g l = record {
  making : MakingPhases l.initial.ports
      (phases_steps (map (λ s. s.now) l.placed) (map (λ b. b.items) l.others) 0 (map phase_of l.phases))
      (map phase_of l.made.items) l.ports
      (phases_steps (map (λ s. s.now) l.placed) (map (λ b. b.items) l.others) l.k (map phase_of (drop l.k l.phases)));
  room : length l.phases ≤ l.made.spare + l.k;
}
