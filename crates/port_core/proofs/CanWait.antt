-- A call that must wait is one of the four that can.
use Rattle.std.proofs.Common.{◌≡◌, true, refl, sym, ◌∙◌}
use Rattle.std.proofs.lemmas.Bool.{false≢true}
use Rattle.tty_calls.specs.Plain.{PlainCall, opens, closes, reads, writes, gets_modes, sets_modes, gets_disc}
use Rattle.tty_calls.specs.Plain.{sets_disc, flushes, steers, counts_input, counts_output, excludes, admits}
use Rattle.tty_calls.specs.Plain.{drains, gets_counts, hangs_up, sends_packet, takes_packet}
use Rattle.tty_terminal.specs.declared.callers.CallerState.{CallerState}
use Rattle.tty_terminal.specs.Terminals.{Terminal}
use Rattle.tty_terminal.specs.Calls.{outcome}
use Rattle.tty_terminal.specs.Steps.{MustWait, is_wait}
use Rattle.tty_terminal.specs.Questions.{call_waits}
use Rattle.tty_terminal.proofs.QuestionLemmas.{outcome_waits, must_wait_is}
use Rattle.port_core.specs.Inside.{can_wait}

by_call : (t : Terminal) (s : CallerState) (call : PlainCall) → call_waits t s call ≡ true → can_wait call ≡ true
by_call t s (opens h access nonblock) e = absurd (false≢true e)
by_call t s (closes h) e = absurd (false≢true e)
by_call t s (reads h n) e = refl
by_call t s (writes h bytes) e = refl
by_call t s (gets_modes h) e = absurd (false≢true e)
by_call t s (sets_modes h when words) e = refl
by_call t s (gets_disc h) e = absurd (false≢true e)
by_call t s (sets_disc h number) e = absurd (false≢true e)
by_call t s (flushes h queue) e = absurd (false≢true e)
by_call t s (steers h act) e = absurd (false≢true e)
by_call t s (counts_input h) e = absurd (false≢true e)
by_call t s (counts_output h) e = absurd (false≢true e)
by_call t s (excludes h) e = absurd (false≢true e)
by_call t s (admits h) e = absurd (false≢true e)
by_call t s (drains h) e = refl
by_call t s (gets_counts h) e = absurd (false≢true e)
by_call t s (hangs_up h) e = absurd (false≢true e)
by_call t s (sends_packet h bytes) e = absurd (false≢true e)
by_call t s (takes_packet h) e = absurd (false≢true e)

pub can_wait_here : (t : Terminal) (s : CallerState) (call : PlainCall)
    → MustWait (outcome t s call)
    → can_wait call ≡ true
can_wait_here t s call must =
    by_call t s call
    (sym (outcome_waits t s call) ∙ (must_wait_is (is_wait (outcome t s call)) (outcome t s call) refl).1 must)
