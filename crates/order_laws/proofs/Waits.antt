-- Who waits has a call that is known, at each moment of a run.
use Rattle.std.proofs.Common.{◌≡◌, ℕ, ◌==◌, List, [], Bool, true, false, Option, None}
use Rattle.std.proofs.Common.{Some, if◌then◌else◌, sum, refl, sym, ap, subst}
use Rattle.std.proofs.lemmas.Bool.{false≢true, eqb-true}
use Rattle.tty_calls.specs.declared.journals.Who.{Who}
use Rattle.tty_calls.specs.declared.journals.Who.TheVariants.{Caller, Flusher, Line, Clock, Session}
use Rattle.tty_calls.specs.Plain.{PlainCall, PlainEvent, answered, parted, waited, flushed, ticked, line_ended}
use Rattle.tty_calls.specs.Plain.{clock_ended, caller_ended, phase_ended, hung_up, PlainEntry, is_caller}
use Rattle.tty_terminal.specs.declared.callers.CallerState.{CallerState}
use Rattle.tty_terminal.specs.Terminals.{Terminal, opening, caller_at}
use Rattle.tty_terminal.specs.Calls.{outcome_of}
use Rattle.tty_terminal.specs.Steps.{MustWait, IsWait, IsAllowed, Allowed, after}
use Rattle.tty_terminal.specs.Standing.{Standing, standing_of, standing_after_own}
use Rattle.tty_terminal.specs.Standing.{standing_after_other}
use Rattle.tty_terminal.proofs.StandingLaws.{step_stands, run_stands}

-- a call that waits is known
abbrev pub Knows : (ℕ → ℕ → Option PlainCall) → ℕ → Standing → Type 0
Knows f c q = q.waits ≡ true → (call : PlainCall) × (f c q.next ≡ Some call)

abbrev pub KnowsAll : (ℕ → ℕ → Option PlainCall) → Terminal → Type 0
KnowsAll f t = (c : ℕ) → Knows f c (standing_of (caller_at t c))

must_know : (t : Terminal) (s : CallerState) (known asked : Option PlainCall)
    → asked ≡ known
    → MustWait (outcome_of t s known)
    → (call : PlainCall) × (asked ≡ Some call)
must_know t s None asked e must = absurd must
must_know t s (Some call) asked e must = (call, e)

wait_known : (f : ℕ → ℕ → Option PlainCall) (t : Terminal) (c step part : ℕ)
    → IsWait f t c step part
    → (call : PlainCall) × (f c (caller_at t c).next ≡ Some call)
wait_known f t c step part h = must_know t (caller_at t c) (f c step) (f c (caller_at t c).next)
    (ap (λ (n : ℕ). f c n) (sym h.next.at_step)) h.must

other_knows : (f : ℕ → ℕ → Option PlainCall) (c : ℕ) (event : PlainEvent) (q : Standing)
    → Knows f c q
    → Knows f c (standing_after_other event q)
other_knows f c (answered a dropped) q h = h
other_knows f c (parted n) q h = h
other_knows f c waited q h = h
other_knows f c (flushed chars) q h = h
other_knows f c ticked q h = h
other_knows f c (line_ended n) q h = h
other_knows f c clock_ended q h = h
other_knows f c caller_ended q h = h
other_knows f c phase_ended q h = h
other_knows f c (hung_up dropped) q h = h

own_knows : (f : ℕ → ℕ → Option PlainCall) (counts : List ℕ) (t : Terminal) (c step part : ℕ) (event : PlainEvent)
    → IsAllowed f counts t (Caller c) step part event
    → Knows f c (standing_of (caller_at t c))
    → Knows f c (standing_after_own event t.generation (standing_of (caller_at t c)))
own_knows f counts t c step part (answered a dropped) allowed h = λ e. absurd (false≢true e)
own_knows f counts t c step part (parted n) allowed h = λ e. absurd (false≢true e)
own_knows f counts t c step part waited allowed h = λ e. wait_known f t c step part allowed
own_knows f counts t c step part (flushed chars) allowed h = h
own_knows f counts t c step part ticked allowed h = h
own_knows f counts t c step part (line_ended n) allowed h = h
own_knows f counts t c step part clock_ended allowed h = h
own_knows f counts t c step part caller_ended allowed h = h
own_knows f counts t c step part phase_ended allowed h = h
own_knows f counts t c step part (hung_up dropped) allowed h = h

-- the events of who is no caller leave each caller waiting as it was
by_who : (f : ℕ → ℕ → Option PlainCall) (counts : List ℕ) (t : Terminal) (who : Who) (step part : ℕ)
    (event : PlainEvent) (c : ℕ)
    → IsAllowed f counts t who step part event
    → Knows f c (standing_of (caller_at t c))
    → Knows f c
    (if is_caller who c
    then standing_after_own event t.generation (standing_of (caller_at t c))
    else standing_after_other event (standing_of (caller_at t c)))
by_who f counts t (Caller d) step part event c allowed h = by_number (d == c) refl
  where
    by_number : (b : Bool)
        → (d == c) ≡ b
        → Knows f c
        (if b
        then standing_after_own event t.generation (standing_of (caller_at t c))
        else standing_after_other event (standing_of (caller_at t c)))
    by_number true e = own_knows f counts t c step part event
        (subst (λ (k : ℕ). IsAllowed f counts t (Caller k) step part event) (eqb-true d c e) allowed) h
    by_number false e = other_knows f c event (standing_of (caller_at t c)) h
by_who f counts t Flusher step part event c allowed h = other_knows f c event (standing_of (caller_at t c)) h
by_who f counts t Line step part event c allowed h = other_knows f c event (standing_of (caller_at t c)) h
by_who f counts t Clock step part event c allowed h = other_knows f c event (standing_of (caller_at t c)) h
by_who f counts t Session step part event c allowed h = other_knows f c event (standing_of (caller_at t c)) h

pub knows_after : (f : ℕ → ℕ → Option PlainCall) (counts : List ℕ) (t : Terminal) (e : PlainEntry)
    → Allowed f counts t e
    → KnowsAll f t
    → KnowsAll f (after f t e)
knows_after f counts t e allowed h c =
    subst (Knows f c) (sym (step_stands f counts t e allowed c))
    (subst (λ (g : ℕ). Knows f c
    (if is_caller e.who c
    then standing_after_own e.event g (standing_of (caller_at t c))
    else standing_after_other e.event (standing_of (caller_at t c))))
    (sym allowed.0)
    (by_who f counts t e.who e.step e.part e.event c allowed.1 (h c)))

pub knows_first : (f : ℕ → ℕ → Option PlainCall) (counts : List ℕ) (capacity : ℕ)
    → KnowsAll f (opening (sum counts) capacity)
knows_first f counts capacity c =
    subst (Knows f c) (sym (run_stands f counts capacity [] (opening (sum counts) capacity) refl c))
    (λ e. absurd (false≢true e))
