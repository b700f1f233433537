-- How much of a session one port has: the bytes that its calls write, and its calls.
use Rattle.std.specs.Prelude.{ℕ, List, length, sum_by}
use Rattle.tty_calls.specs.Plain.{PlainCall, writes}
use Rattle.tty_calls.specs.Sessions.{PlainPhase, scripts_over}

-- how many bytes a call writes
abbrev pub written_count : PlainCall → ℕ
written_count (writes h bytes) = length bytes
written_count call = 0

-- how many bytes are written on a port in these phases, and how many calls it has in them
abbrev pub byte_count_on : ℕ → List PlainPhase → ℕ
byte_count_on p phases = sum_by (λ script. sum_by written_count script.calls) (scripts_over p phases)

abbrev pub call_count_on : ℕ → List PlainPhase → ℕ
call_count_on p phases = sum_by (λ script. length script.calls) (scripts_over p phases)
