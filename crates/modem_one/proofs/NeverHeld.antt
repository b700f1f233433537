-- A call that has begun and is not answered is no open.
use Rattle.std.proofs.Common.{◌≡◌, ◌⊎◌, inl, inr, ℕ, Bool, true, false, List, Option, Some, refl, subst}
use Rattle.std.specs.Prelude.{is_some, if◌then◌else◌}
use Rattle.std.proofs.lemmas.Bool.{false≢true}
use Rattle.tty_calls.specs.Plain.{PlainCall, opens, closes, reads, writes, gets_modes, sets_modes, gets_disc, sets_disc}
use Rattle.tty_calls.specs.Plain.{flushes, steers, counts_input, counts_output, excludes, admits, drains, gets_counts}
use Rattle.tty_calls.specs.Plain.{hangs_up, sends_packet, takes_packet, PlainAnswer, done, refused, PlainEvent}
use Rattle.tty_calls.specs.Plain.{answered, parted, waited, flushed}
use Rattle.tty_calls.specs.Plain.{ticked, line_ended, clock_ended, caller_ended, phase_ended, hung_up}
use Rattle.tty_calls.specs.declared.journals.Who.TheVariants.{Caller}
use Rattle.handle_table.specs.Handles as table
use Rattle.tty_terminal.specs.declared.callers.CallerState.{CallerState}
use Rattle.tty_terminal.specs.Terminals.{Terminal, caller_at, handle_at}
use Rattle.tty_terminal.specs.Calls.{outcome, outcome_of}
use Rattle.tty_base.specs.declared.counters.Errno.TheVariants.{EEXIST, EBUSY}
use Rattle.tty_terminal.specs.Outcomes.{Outcome, gives, refuses, does}
use Rattle.tty_terminal.specs.Steps.{MustWait, TakesPart, IsAllowed}
use Rattle.passed_calls.specs.Scripts.{plain}
use Rattle.order_laws.proofs.Attempted.{begins}
use Rattle.modem_one.specs.Playing.{IsNeverHeld}

-- a call that waits, or of which a part was taken
abbrev Goes : Outcome → Type 0
Goes o = MustWait o ⊎ ((n : ℕ) × TakesPart o n)

-- an open is answered at once
open_goes : (in_use exclusive : Bool) (x y z : Outcome)
    → (Goes x → ⊥)
    → (Goes y → ⊥)
    → (Goes z → ⊥)
    → Goes (if in_use then x else if exclusive then y else z)
    → ⊥
open_goes true exclusive x y z a b c h = a h
open_goes false true x y z a b c h = b h
open_goes false false x y z a b c h = c h

given_goes : (answer : PlainAnswer) (drops : Bool) (left : Terminal) → Goes (gives answer drops left) → ⊥
given_goes answer drops left (inl h) = h
given_goes answer drops left (inr h) = h.1

goes_never : (t : Terminal) (s : CallerState) (call : PlainCall)
    → Goes (outcome t s call)
    → IsNeverHeld (Some (plain call))
goes_never t s (opens h access nonblock) goes =
    absurd (open_goes (is_some (handle_at t h)) t.exclusive (refuses EEXIST t) (refuses EBUSY t)
    (does (record t { handles = table.with_handle t.handles h access nonblock }))
    (given_goes (refused EEXIST) false t) (given_goes (refused EBUSY) false t)
    (given_goes done false (record t { handles = table.with_handle t.handles h access nonblock })) goes)
goes_never t s (closes h) goes = λ lines u. refl
goes_never t s (reads h n) goes = λ lines u. refl
goes_never t s (writes h bytes) goes = λ lines u. refl
goes_never t s (gets_modes h) goes = λ lines u. refl
goes_never t s (sets_modes h when words) goes = λ lines u. refl
goes_never t s (gets_disc h) goes = λ lines u. refl
goes_never t s (sets_disc h number) goes = λ lines u. refl
goes_never t s (flushes h queue) goes = λ lines u. refl
goes_never t s (steers h act) goes = λ lines u. refl
goes_never t s (counts_input h) goes = λ lines u. refl
goes_never t s (counts_output h) goes = λ lines u. refl
goes_never t s (excludes h) goes = λ lines u. refl
goes_never t s (admits h) goes = λ lines u. refl
goes_never t s (drains h) goes = λ lines u. refl
goes_never t s (gets_counts h) goes = λ lines u. refl
goes_never t s (hangs_up h) goes = λ lines u. refl
goes_never t s (sends_packet h bytes) goes = λ lines u. refl
goes_never t s (takes_packet h) goes = λ lines u. refl

event_goes : (calls : ℕ → ℕ → Option PlainCall) (counts : List ℕ) (t : Terminal) (c step part : ℕ) (event : PlainEvent)
    → begins event ≡ true
    → IsAllowed calls counts t (Caller c) step part event
    → Goes (outcome_of t (caller_at t c) (calls c step))
event_goes calls counts t c step part (answered a dropped) e h = absurd (false≢true e)
event_goes calls counts t c step part (parted n) e h = inr (n, h.takes)
event_goes calls counts t c step part waited e h = inl h.must
event_goes calls counts t c step part (flushed chars) e h = absurd (false≢true e)
event_goes calls counts t c step part ticked e h = absurd (false≢true e)
event_goes calls counts t c step part (line_ended n) e h = absurd (false≢true e)
event_goes calls counts t c step part clock_ended e h = absurd (false≢true e)
event_goes calls counts t c step part caller_ended e h = absurd (false≢true e)
event_goes calls counts t c step part phase_ended e h = absurd (false≢true e)
event_goes calls counts t c step part (hung_up dropped) e h = absurd (false≢true e)

pub never_by_entry : (calls : ℕ → ℕ → Option PlainCall) (counts : List ℕ) (t : Terminal) (c step part : ℕ)
    (event : PlainEvent) (call : PlainCall)
    → begins event ≡ true
    → IsAllowed calls counts t (Caller c) step part event
    → calls c step ≡ Some call
    → IsNeverHeld (Some (plain call))
never_by_entry calls counts t c step part event call e h is =
    goes_never t (caller_at t c) call
    (subst (λ (o : Option PlainCall). Goes (outcome_of t (caller_at t c) o)) is
    (event_goes calls counts t c step part event e h))
