use Rattle.std.proofs.Common.{◌≡◌, [], ◌+◌, ◌≤◌, map}
use Rattle.std.specs.List.{range_with_len}
use Rattle.tty_calls.specs.Sessions.{script_of}
use Rattle.session_gen.specs.Generated.{caller_script, opening_calls}
use Rattle.session_gen.proofs.phases.first_phase.Given as goal

-- an empty line and a caller for each port so far
abbrev pub invariant-loop-port : goal.invariant-loop-port
invariant-loop-port l =
    (4 ≤ l.lines.spare + l.port) × (4 ≤ l.callers.spare + l.port)
    × (map (λ line. line.items) l.lines.items ≡ map (λ _. []) (range_with_len 0 l.port))
    × (map script_of l.callers.items ≡ map (λ port. caller_script port opening_calls) (range_with_len 0 l.port))
