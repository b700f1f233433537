-- Who waits, or of whose write parts were taken, has begun a call; and what the parts of a call are.
use Rattle.std.proofs.Common.{◌≡◌, ℕ, ◌+◌, ◌<◌, ◌≤◌, List, [], ◌∷◌, Bool, true, false, Option}
use Rattle.std.proofs.Common.{Some, is_some, if◌then◌else◌, length, refl, sym, ap, subst, arith}
use Rattle.std.proofs.lemmas.Bool.{false≢true}
use Rattle.tty_calls.specs.Plain.{PlainCall, PlainEvent, answered, parted, waited, flushed, ticked, line_ended}
use Rattle.tty_calls.specs.Plain.{clock_ended, caller_ended, phase_ended, hung_up, PlainEntry, is_caller}
use Rattle.tty_calls.specs.Limits.{byte_count}
use Rattle.tty_terminal.specs.declared.callers.CallerState.{CallerState}
use Rattle.tty_terminal.specs.Terminals.{Terminal, caller_at, has_begun}
use Rattle.tty_terminal.specs.Calls.{outcome}
use Rattle.tty_terminal.specs.Steps.{TakesPart}
use Rattle.tty_terminal.specs.Runs.{IsRun}
use Rattle.tty_terminal.specs.Standing.{Standing, standing_of, standing_after_own}
use Rattle.tty_terminal.specs.Standing.{standing_after_other, standing_after, standing_in, at_first}
use Rattle.tty_terminal.proofs.StandingLaws.{run_stands}
use Rattle.tty_terminal.proofs.Effects.{outcome_keeps}

record HasBegun (s : Standing) : Type 0 where
  waits : s.waits ≡ true → s.begun ≡ true
  parts : 0 < s.parts → s.begun ≡ true

own_begun : (event : PlainEvent) (generation : ℕ) (s : Standing)
    → HasBegun s
    → HasBegun (standing_after_own event generation s)
own_begun (answered a dropped) generation s h =
    record { waits = λ e. absurd (false≢true e); parts = λ e. absurd (omega arith) }
own_begun (parted n) generation s h = record { waits = λ e. refl; parts = λ e. refl }
own_begun waited generation s h = record { waits = λ e. refl; parts = λ e. refl }
own_begun (flushed chars) generation s h = h
own_begun ticked generation s h = h
own_begun (line_ended n) generation s h = h
own_begun clock_ended generation s h = h
own_begun caller_ended generation s h = record { waits = h.waits; parts = h.parts }
own_begun phase_ended generation s h = h
own_begun (hung_up dropped) generation s h = h

other_begun : (event : PlainEvent) (s : Standing) → HasBegun s → HasBegun (standing_after_other event s)
other_begun (answered a dropped) s h = h
other_begun (parted n) s h = h
other_begun waited s h = h
other_begun (flushed chars) s h = h
other_begun ticked s h = h
other_begun (line_ended n) s h = h
other_begun clock_ended s h = h
other_begun caller_ended s h = h
other_begun phase_ended s h = record { waits = h.waits; parts = h.parts }
other_begun (hung_up dropped) s h = h

entry_begun : (own : Bool) (e : PlainEntry) (s : Standing)
    → HasBegun s
    → HasBegun (if own then standing_after_own e.event e.generation s else standing_after_other e.event s)
entry_begun true e s h = own_begun e.event e.generation s h
entry_begun false e s h = other_begun e.event s h

all_begun : (c : ℕ) (es : List PlainEntry) (s : Standing) → HasBegun s → HasBegun (standing_in c es s)
all_begun c [] s h = h
all_begun c (e ∷ es) s h = all_begun c es (standing_after c e s) (entry_begun (is_caller e.who c) e s h)

first_begun : HasBegun at_first
first_begun = record { waits = λ e. e; parts = λ e. absurd (omega arith) }

run_begun : (f : ℕ → ℕ → Option PlainCall) (counts : List ℕ) (capacity : ℕ) (es : List PlainEntry) (u : Terminal)
    → IsRun f counts capacity es u
    → (c : ℕ)
    → HasBegun (standing_of (caller_at u c))
run_begun f counts capacity es u h c =
    subst HasBegun (sym (run_stands f counts capacity es u h c)) (all_begun c es at_first first_begun)

pub run_waits : (f : ℕ → ℕ → Option PlainCall) (counts : List ℕ) (capacity : ℕ) (es : List PlainEntry) (u : Terminal)
    → IsRun f counts capacity es u → (c : ℕ) → is_some (caller_at u c).waits ≡ true → has_begun (caller_at u c) ≡ true
run_waits f counts capacity es u h c e = (run_begun f counts capacity es u h c).waits e

pub run_parts : (f : ℕ → ℕ → Option PlainCall) (counts : List ℕ) (capacity : ℕ) (es : List PlainEntry) (u : Terminal)
    → IsRun f counts capacity es u → (c : ℕ) → 0 < (caller_at u c).parts → has_begun (caller_at u c) ≡ true
run_parts f counts capacity es u h c e = (run_begun f counts capacity es u h c).parts e

pub part_some : (t : Terminal) (s : CallerState) (call : PlainCall) (n : ℕ) → TakesPart (outcome t s call) n → 1 ≤ n
part_some t s call n h = ((outcome_keeps t s (Some call)).part n h).some

pub part_more : (t : Terminal) (s : CallerState) (call : PlainCall) (n : ℕ)
    → TakesPart (outcome t s call) n
    → s.taken + n < byte_count call
part_more t s call n h = ((outcome_keeps t s (Some call)).part n h).more

own_parts : (event : PlainEvent) (generation : ℕ) (s : Standing)
    → (standing_after_own event generation s).parts ≤ s.parts + 1
own_parts (answered a dropped) generation s = omega arith
own_parts (parted n) generation s = omega arith
own_parts waited generation s = omega arith
own_parts (flushed chars) generation s = omega arith
own_parts ticked generation s = omega arith
own_parts (line_ended n) generation s = omega arith
own_parts clock_ended generation s = omega arith
own_parts caller_ended generation s = omega arith
own_parts phase_ended generation s = omega arith
own_parts (hung_up dropped) generation s = omega arith

other_parts : (event : PlainEvent) (s : Standing) → (standing_after_other event s).parts ≤ s.parts + 1
other_parts (answered a dropped) s = omega arith
other_parts (parted n) s = omega arith
other_parts waited s = omega arith
other_parts (flushed chars) s = omega arith
other_parts ticked s = omega arith
other_parts (line_ended n) s = omega arith
other_parts clock_ended s = omega arith
other_parts caller_ended s = omega arith
other_parts phase_ended s = omega arith
other_parts (hung_up dropped) s = omega arith

entry_parts : (own : Bool) (e : PlainEntry) (s : Standing)
    → (if own then standing_after_own e.event e.generation s else standing_after_other e.event s).parts ≤ s.parts + 1
entry_parts true e s = own_parts e.event e.generation s
entry_parts false e s = other_parts e.event s

all_parts : (c : ℕ) (es : List PlainEntry) (s : Standing) → (standing_in c es s).parts ≤ s.parts + length es
all_parts c [] s = omega arith
all_parts c (e ∷ es) s = omega (arith, all_parts c es (standing_after c e s), entry_parts (is_caller e.who c) e s)

-- no more parts of a call were taken than there are entries
pub run_part_count : (f : ℕ → ℕ → Option PlainCall) (counts : List ℕ) (capacity : ℕ) (es : List PlainEntry)
    (u : Terminal)
    → IsRun f counts capacity es u
    → (c : ℕ)
    → (caller_at u c).parts ≤ length es
run_part_count f counts capacity es u h c =
    let same : (caller_at u c).parts ≡ (standing_in c es at_first).parts =
    ap (λ (s : Standing). s.parts) (run_stands f counts capacity es u h c) in
    omega (arith, same, all_parts c es at_first)
