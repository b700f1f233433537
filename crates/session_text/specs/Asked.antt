-- What a session asks of a port, by the letters that this takes at least in its text.
use Rattle.std.specs.Prelude.{ℕ, ◌+◌, ◌*◌, List, length, sum_by}
use Rattle.tty_calls.specs.Sessions.{PlainPhase, scripts_over}
use Rattle.tty_calls.specs.Limits.{byte_count, character_count}

-- two for each byte that a call hands over, three for each call, and two for each character that arrives
abbrev pub asked_of : ℕ → List PlainPhase → ℕ
asked_of p phases =
    2 * sum_by (λ script. sum_by byte_count script.calls) (scripts_over p phases)
    + 3 * sum_by (λ script. length script.calls) (scripts_over p phases)
    + 2 * character_count p phases
