use Rattle.std.proofs.Common.{◌≡◌, ◌<◌, ℕ, false, []}
use Rattle.std.specs.Prelude.{slice_index}
use Rattle.one_thread.specs.Turns.{role_numbers}
use Rattle.modem_one.specs.Desk.{state_at}
use Rattle.modem_one.specs.Turns.{port_now, is_so}
use Rattle.modem_one.proofs.turns.first_of.Given as goal

abbrev pub ghost-is_so : goal.ghost-is_so
ghost-is_so g a = g.frame

-- none before is such a one
abbrev pub invariant-loop-place : goal.invariant-loop-place
invariant-loop-place g l =
    (i : ℕ)
    → i < l.place
    → is_so l.asked (port_now g.frame.first.port g.frame.session l.port) (state_at l.desk 0 []) l.port.terminal
    (slice_index (role_numbers l.roles) i) ≡ false
