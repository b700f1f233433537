use Rattle.std.proofs.Common.{◌≡◌, drop}
use Rattle.tty_calls.specs.declared.journals.Who.{Who}
use Rattle.legal_runs.specs.Order.{first_of, is_waiting}
use Rattle.one_thread.specs.Turns.{role_numbers}
use Rattle.one_thread.proofs.after_line.first_to_wait.Given as goal

abbrev pub invariant-loop-place : goal.invariant-loop-place
invariant-loop-place l =
    (other : Who)
    → first_of (is_waiting l.port.terminal) (role_numbers l.roles) other
    ≡ first_of (is_waiting l.port.terminal) (role_numbers (drop l.place l.roles)) other
