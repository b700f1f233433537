use Rattle.std.proofs.Common.{◌≡◌, length, take, map}
use Rattle.tty_calls.specs.Sessions.{phase_of, scripts_on}
use Rattle.play_base.proofs.roles.counts_of.Given as goal

abbrev pub invariant-loop-phase : goal.invariant-loop-phase
invariant-loop-phase l =
    l.counts.items ≡ map (λ phase. length (scripts_on l.port phase)) (map phase_of (take l.phase-index l.phase-items))
