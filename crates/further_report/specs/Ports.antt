-- What a report says of ports does not speak of a session's phases.
use Rattle.std.specs.Prelude.{ℕ, List, []}
use Rattle.tty_calls.specs.Sessions.{PlainSession}

abbrev pub without_phases : (version ports : ℕ) → (flips : List ℕ) → PlainSession
without_phases version ports flips = record { version = version; ports = ports; flips = flips; phases = [] }
