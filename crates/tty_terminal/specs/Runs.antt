-- Whole journals: runs of the terminal, flush runs and calls in one generation, and the characters
-- that a journal accounts for.
use Rattle.std.specs.Prelude.{◌≡◌, ℕ, List, [], ◌∷◌, ◌++◌, Bool, true, false, Option}
use Rattle.std.specs.Prelude.{Some, is_some, IsTrue, MatchBool, ◌&&◌, ◌==◌, ◌+◌, ◌<◌, sum}
use Rattle.tty_base.specs.declared.characters.Flagged.{Flagged}
use Rattle.tty_calls.specs.declared.journals.Who.{Who}
use Rattle.tty_calls.specs.declared.journals.Who.TheVariants.{Caller, Flusher, Line, Clock, Session}
use Rattle.tty_calls.specs.Plain.{PlainCall, PlainEvent, answered, parted, waited, flushed, ticked, line_ended}
use Rattle.tty_calls.specs.Plain.{clock_ended, caller_ended, phase_ended, hung_up, PlainEntry, is_caller, chars_in}
use Rattle.tty_terminal.specs.Terminals.{Terminal, opening, caller_at}
use Rattle.tty_terminal.specs.Steps.{Allowed, after}

-- the entries are steps, one after the other, and lead from the one terminal to the other
abbrev pub Leads : (ℕ → ℕ → Option PlainCall) → List ℕ → Terminal → List PlainEntry → Terminal → Type 0
Leads calls counts t [] u = u ≡ t
Leads calls counts t (e ∷ es) u = Allowed calls counts t e × Leads calls counts (after calls t e) es u

-- a run: from the opening terminal, with so many callers in each phase and a flip buffer of this capacity
abbrev pub IsRun : (ℕ → ℕ → Option PlainCall) → List ℕ → ℕ → List PlainEntry → Terminal → Type 0
IsRun calls counts capacity journal t = Leads calls counts (opening (sum counts) capacity) journal t

abbrev pub is_flush : PlainEvent → Bool
is_flush (answered a dropped) = false
is_flush (parted taken) = false
is_flush waited = false
is_flush (flushed chars) = true
is_flush ticked = false
is_flush (line_ended n) = false
is_flush clock_ended = false
is_flush caller_ended = false
is_flush phase_ended = false
is_flush (hung_up dropped) = false

-- an entry of a call: its answer, a part of it, or its wait
abbrev pub is_of_call : PlainEvent → Bool
is_of_call (answered a dropped) = true
is_of_call (parted taken) = true
is_of_call waited = true
is_of_call (flushed chars) = false
is_of_call ticked = false
is_of_call (line_ended n) = false
is_of_call clock_ended = false
is_of_call caller_ended = false
is_of_call phase_ended = false
is_of_call (hung_up dropped) = false

-- each piece of this flush run has this generation
abbrev pub RunHas : ℕ → ℕ → List PlainEntry → Type 0
RunHas run generation [] = Unit {0}
RunHas run generation (e ∷ es) =
    (IsTrue (is_flush e.event && (e.step == run)) → e.generation ≡ generation) × RunHas run generation es

-- the next entry of this caller's call has this generation
abbrev pub NextHas : ℕ → ℕ → ℕ → List PlainEntry → Type 0
NextHas c step generation [] = Unit {0}
NextHas c step generation (e ∷ es) =
    MatchBool (is_of_call e.event && is_caller e.who c && (e.step == step)) (e.generation ≡ generation)
    (NextHas c step generation es)

abbrev pub CallGoesOn : Who → ℕ → ℕ → List PlainEntry → Type 0
CallGoesOn (Caller c) step generation es = NextHas c step generation es
CallGoesOn Flusher step generation es = Unit {0}
CallGoesOn Line step generation es = Unit {0}
CallGoesOn Clock step generation es = Unit {0}
CallGoesOn Session step generation es = Unit {0}

-- what follows an entry in its generation: a call that did not wait, and the other pieces of a flush run
abbrev pub GoesOn : PlainEvent → Who → ℕ → ℕ → List PlainEntry → Type 0
GoesOn (answered a dropped) who step generation es = CallGoesOn who step generation es
GoesOn (parted taken) who step generation es = CallGoesOn who step generation es
GoesOn waited who step generation es = Unit {0}
GoesOn (flushed chars) who step generation es = RunHas step generation es
GoesOn ticked who step generation es = Unit {0}
GoesOn (line_ended n) who step generation es = Unit {0}
GoesOn clock_ended who step generation es = Unit {0}
GoesOn caller_ended who step generation es = Unit {0}
GoesOn phase_ended who step generation es = Unit {0}
GoesOn (hung_up dropped) who step generation es = Unit {0}

-- each flush run, and each call between its waits, lies in one generation
abbrev pub OneGeneration : List PlainEntry → Type 0
OneGeneration [] = Unit {0}
OneGeneration (e ∷ es) = GoesOn e.event e.who e.step e.generation es × OneGeneration es

-- a call of which a part was taken, and which has not waited since, goes on in the generation of its parts
abbrev pub GoesOnInGeneration : Terminal → PlainEntry → Type 0
GoesOnInGeneration t e =
    (c : ℕ)
    → is_of_call e.event ≡ true
    → is_caller e.who c ≡ true
    → 0 < (caller_at t c).parts
    → is_some (caller_at t c).waits ≡ false
    → (caller_at t c).generation ≡ e.generation

-- the characters of a journal, in the order of its entries
abbrev pub chars_of : List PlainEntry → List Flagged
chars_of [] = []
chars_of (e ∷ es) = chars_in e.event ++ chars_of es

-- the phase after an event
abbrev pub phase_after : PlainEvent → ℕ → ℕ
phase_after (answered a dropped) phase = phase
phase_after (parted taken) phase = phase
phase_after waited phase = phase
phase_after (flushed chars) phase = phase
phase_after ticked phase = phase
phase_after (line_ended n) phase = phase
phase_after clock_ended phase = phase
phase_after caller_ended phase = phase
phase_after phase_ended phase = phase + 1
phase_after (hung_up dropped) phase = phase

-- each call that the one knows the other knows too
abbrev pub KnowsMore : (ℕ → ℕ → Option PlainCall) → (ℕ → ℕ → Option PlainCall) → Type 0
KnowsMore f g = (c step : ℕ) (call : PlainCall) → f c step ≡ Some call → g c step ≡ Some call

-- two functions of calls agree on an entry: where it is one of a call, the call is the same
abbrev pub AgreesAt : (ℕ → ℕ → Option PlainCall) → (ℕ → ℕ → Option PlainCall) → Who → ℕ → PlainEvent → Type 0
AgreesAt f g who step event = (c : ℕ) → is_of_call event ≡ true → is_caller who c ≡ true → g c step ≡ f c step

abbrev pub AgreesOn : (ℕ → ℕ → Option PlainCall) → (ℕ → ℕ → Option PlainCall) → List PlainEntry → Type 0
AgreesOn f g [] = Unit {0}
AgreesOn f g (e ∷ es) = AgreesAt f g e.who e.step e.event × AgreesOn f g es
