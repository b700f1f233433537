use Rattle.std.proofs.Common.{◌≡◌, ◌+◌, ◌≤◌, map}
use Rattle.std.specs.List.{range_with_len}
use Rattle.tty_calls.specs.Sessions.{script_of}
use Rattle.session_gen.specs.Generated.{caller_script, reading_calls}
use Rattle.session_gen.proofs.phases.readers.Given as goal

-- the callers of the ports so far
abbrev pub invariant-loop-port : goal.invariant-loop-port
invariant-loop-port l =
    (4 ≤ l.callers.spare + l.port)
    × (map script_of l.callers.items
    ≡ map (λ port. caller_script port (reading_calls l.number l.phase port)) (range_with_len 0 l.port))
