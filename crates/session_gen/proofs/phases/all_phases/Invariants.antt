use Rattle.std.proofs.Common.{◌≡◌, ◌+◌, ◌-◌, ◌*◌, ◌≤◌, ◌∷◌, map}
use Rattle.std.specs.List.{range_with_len}
use Rattle.tty_calls.specs.Sessions.{phase_of}
use Rattle.session_gen.specs.Draws.{number_after}
use Rattle.session_gen.specs.Generated.{opening_phase, reading_phase}
use Rattle.session_gen.proofs.phases.all_phases.Given as goal

-- the phases so far, and the number that the next line is drawn from
abbrev pub invariant-loop-phase : goal.invariant-loop-phase
invariant-loop-phase l =
    (16 ≤ l.phases.spare + l.phase)
    × (map phase_of l.phases.items ≡ opening_phase ∷ map (reading_phase l.number) (range_with_len 1 (l.phase - 1)))
    × (l.drawn ≡ number_after l.number (16000 * (l.phase - 1)))
