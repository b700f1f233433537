-- The order of one thread: whose turn it is after the entries so far, and how much a flush takes. It is read off the
-- session, the terminal, the entry before, and the steps that the line has done.
use Rattle.std.specs.Prelude.{◌≡◌, ◌≤◌, ◌<◌, ◌+◌, ◌==◌, ℕ, List, [], ◌∷◌, ◌++◌, Bool, false, not, ◌&&◌}
use Rattle.std.specs.Prelude.{◌||◌, nat_le, IsTrue, MatchBool, Option, None, Some, is_some, if◌then◌else◌}
use Rattle.std.specs.Prelude.{length, flat_map, reverse, sum, option_to_list, slice_index_or}
use Rattle.tty_base.specs.Sizes.{PIECE}
use Rattle.tty_base.specs.declared.characters.Flagged.{Flagged}
use Rattle.tty_base.specs.declared.lines.LineStep.{LineStep}
use Rattle.tty_base.specs.declared.lines.Overrun.{Overrun}
use Rattle.tty_calls.specs.declared.journals.Who.{Who}
use Rattle.tty_calls.specs.declared.journals.Who.TheVariants.{Caller, Flusher, Line, Clock, Session}
use Rattle.tty_calls.specs.Plain.{PlainCall, PlainEvent, answered, parted, waited, flushed, ticked}
use Rattle.tty_calls.specs.Plain.{line_ended, clock_ended, caller_ended, phase_ended, hung_up, PlainEntry}
use Rattle.tty_calls.specs.Sessions.{PlainSession, line_on, scripts_on, scripts_over}
use Rattle.tty_calls.specs.Sessions.{names_of, number_in, call_at, counts_on}
use Rattle.uart_line.specs.Received.{is_cut, window, window_output, closed_script}
use Rattle.tty_terminal.specs.Terminals.{Terminal, opening, caller_at, live_count}
use Rattle.tty_terminal.specs.Receiving.{accepts, after_character, after_characters}
use Rattle.tty_terminal.specs.Calls.{outcome_of}
use Rattle.tty_terminal.specs.Steps.{is_wait, nothing_to_flush, after}
use Rattle.tty_terminal.specs.Runs.{is_flush, chars_of}
use Rattle.legal_runs.specs.Legal.{phase_at, script_of_first, received_before, before_line_end, flip_on}

-- ---- what the line hands over, cut by cut

-- what is handed over at each cut of these steps, after the steps before them, the last one first
abbrev pub cuts_after : List LineStep → List LineStep → List (List Flagged)
cuts_after past [] = []
cuts_after past (step ∷ steps) =
    (if is_cut (step ∷ past) (window (step ∷ past)) then window_output (window (step ∷ past)) ∷ [] else [])
    ++ cuts_after (step ∷ past) steps

-- at each cut of the line of phase k
abbrev pub cuts_in : ℕ → PlainSession → ℕ → List (List Flagged)
cuts_in p session k =
    cuts_after (reverse (script_of_first p session k)) (closed_script (line_on p (phase_at session k)))

-- as many of these characters as the discipline accepts, one after the other
abbrev pub accepted_front : Terminal → List Flagged → List Flagged
accepted_front t [] = []
accepted_front t (c ∷ cs) = if accepts t then c ∷ accepted_front (after_character t c) cs else []

-- what a flush takes of these characters
abbrev pub front_to_flush : Terminal → List Flagged → List Flagged
front_to_flush t chars = if live_count t == 0 then [] else accepted_front t chars

-- ---- the callers of a phase

-- their numbers, in the text's order
abbrev pub callers_of : ℕ → PlainSession → ℕ → List ℕ
callers_of p session k =
    flat_map (λ s. option_to_list (number_in (names_of (scripts_over p session.phases)) s.name))
    (scripts_on p (phase_at session k))

abbrev pub must_wait : (ℕ → ℕ → Option PlainCall) → Terminal → ℕ → Bool
must_wait calls t c = is_wait (outcome_of t (caller_at t c) (calls c (caller_at t c).next))

abbrev pub is_waiting : Terminal → ℕ → Bool
is_waiting t c = is_some (caller_at t c).waits

-- a caller that is not over, and does not wait or need not wait any more
abbrev pub can_go_on : (ℕ → ℕ → Option PlainCall) → Terminal → ℕ → Bool
can_go_on calls t c = not (caller_at t c).over && (not (is_waiting t c) || not (must_wait calls t c))

-- the first of these callers that is such a one, or else another's turn
abbrev pub first_of : (ℕ → Bool) → List ℕ → Who → Who
first_of is_such [] other = other
first_of is_such (c ∷ cs) other = if is_such c then Caller c else first_of is_such cs other

-- ---- whose turn it is

-- where a journal stands: the terminal to which it leads, its last entry, and how many cuts of the phase were flushed
pub record Place : Type 0 where
  pub terminal : Terminal
  pub before : Option PlainEntry
  pub cuts : ℕ

-- what a flush takes before the line's end: of what was handed over at the next cut as much as it can
abbrev pub due : ℕ → PlainSession → Place → List Flagged
due p session s = front_to_flush s.terminal (slice_index_or (cuts_in p session s.terminal.phase) s.cuts [])

-- After the line's end: a flush, else the first caller that can go on, else the clock, else the first caller that
-- waits, which is told that it waits in vain, else the end of the phase. Where the clock is first it comes before the
-- callers.
abbrev pub turn_by_rank : (clock_first : Bool) → (ℕ → ℕ → Option PlainCall) → List ℕ → Terminal → Who
turn_by_rank clock_first calls callers t =
    if not (nothing_to_flush t) then Flusher
    else if clock_first && not t.clock_over then Clock
    else first_of (can_go_on calls t) callers
    (if not t.clock_over then Clock else first_of (is_waiting t) callers Session)

-- consoles have no clocks: there the clock ends with the line. Their sessions have no version
abbrev pub is_of_consoles : PlainSession → Bool
is_of_consoles session = session.version == 0

-- a call of which a part was taken goes on
abbrev pub turn_after_event : PlainEvent → Who → Who → Who
turn_after_event (answered a dropped) who other = other
turn_after_event (parted taken) who other = who
turn_after_event waited who other = other
turn_after_event (flushed chars) who other = other
turn_after_event ticked who other = other
turn_after_event (line_ended n) who other = other
turn_after_event clock_ended who other = other
turn_after_event caller_ended who other = other
turn_after_event phase_ended who other = other
turn_after_event (hung_up dropped) who other = other

abbrev pub turn_after : Option PlainEntry → Who → Who
turn_after None other = other
turn_after (Some e) other = turn_after_event e.event e.who other

-- Before the line's end: a flush of what is due, else the line.
abbrev pub turn : ℕ → PlainSession → Place → Who
turn p session s =
    if nat_le (length session.phases) s.terminal.phase then Session
    else if not s.terminal.line_over then (if length (due p session s) == 0 then Line else Flusher)
    else turn_after s.before
    (turn_by_rank (is_of_consoles session) (call_at p session) (callers_of p session s.terminal.phase) s.terminal)

-- ---- how much a flush takes

-- as many characters as can be: a whole piece, or all that were sent, or as many as the discipline accepts
abbrev pub is_most : Terminal → List Flagged → Bool
is_most t chars =
    (length chars == PIECE) || ((t.taken + length chars == t.sent) || not (accepts (after_characters t chars)))

abbrev pub is_after_flush : Option PlainEntry → Bool
is_after_flush None = false
is_after_flush (Some e) = is_flush e.event

-- Before the line's end each flush is a run of its own, of what is due; after it each takes as much as it can, and
-- flushes that follow each other are one run.
abbrev pub IsPiece : ℕ → PlainSession → Place → ℕ → List Flagged → Type 0
IsPiece p session s part chars =
    MatchBool s.terminal.line_over
    (IsTrue (is_most s.terminal chars) × ((part == 0) ≡ not (is_after_flush s.before)))
    ((chars ≡ due p session s) × (part ≡ 0))

abbrev pub IsPieceOf : ℕ → PlainSession → Place → ℕ → PlainEvent → Type 0
IsPieceOf p session s part (answered a dropped) = Unit {0}
IsPieceOf p session s part (parted taken) = Unit {0}
IsPieceOf p session s part waited = Unit {0}
IsPieceOf p session s part (flushed chars) = IsPiece p session s part chars
IsPieceOf p session s part ticked = Unit {0}
IsPieceOf p session s part (line_ended n) = Unit {0}
IsPieceOf p session s part clock_ended = Unit {0}
IsPieceOf p session s part caller_ended = Unit {0}
IsPieceOf p session s part phase_ended = Unit {0}
IsPieceOf p session s part (hung_up dropped) = Unit {0}

-- ---- journals in order

pub record IsInTurn (p : ℕ) (session : PlainSession) (s : Place) (e : PlainEntry) : Type 0 where
  pub by_turn : e.who ≡ turn p session s
  pub piece : IsPieceOf p session s e.part e.event

-- how many cuts of the phase were flushed after an event: before the line's end each flush is of one
abbrev pub cuts_flushed : Terminal → PlainEvent → ℕ → ℕ
cuts_flushed t (answered a dropped) cuts = cuts
cuts_flushed t (parted taken) cuts = cuts
cuts_flushed t waited cuts = cuts
cuts_flushed t (flushed chars) cuts = if t.line_over then cuts else cuts + 1
cuts_flushed t ticked cuts = cuts
cuts_flushed t (line_ended n) cuts = cuts
cuts_flushed t clock_ended cuts = cuts
cuts_flushed t caller_ended cuts = cuts
cuts_flushed t phase_ended cuts = 0
cuts_flushed t (hung_up dropped) cuts = cuts

abbrev pub first_place : ℕ → PlainSession → Place
first_place p session =
    record { terminal = opening (sum (counts_on p session)) (flip_on p session); before = None; cuts = 0 }

abbrev pub next_place : (ℕ → ℕ → Option PlainCall) → Place → PlainEntry → Place
next_place calls s e =
    record { terminal = after calls s.terminal e; before = Some e; cuts = cuts_flushed s.terminal e.event s.cuts }

-- where these entries lead
abbrev pub place_after : (ℕ → ℕ → Option PlainCall) → Place → List PlainEntry → Place
place_after calls s [] = s
place_after calls s (e ∷ es) = place_after calls (next_place calls s e) es

-- each entry in its turn
abbrev pub AreInTurn : ℕ → PlainSession → Place → List PlainEntry → Type 0
AreInTurn p session s [] = Unit {0}
AreInTurn p session s (e ∷ es) = IsInTurn p session s e × AreInTurn p session (next_place (call_at p session) s e) es

-- an overrun in the line of phase k has seen taken all that was taken before that line's end
abbrev pub SeesAll : ℕ → PlainSession → List PlainEntry → Overrun → Type 0
SeesAll p session journal o =
    (k : ℕ)
    → received_before p session k ≤ o.at
    → o.at < received_before p session (k + 1)
    → o.seen ≡ length (chars_of (before_line_end k journal))

abbrev pub AllSeeAll : ℕ → PlainSession → List PlainEntry → List Overrun → Type 0
AllSeeAll p session journal [] = Unit {0}
AllSeeAll p session journal (o ∷ overruns) = SeesAll p session journal o × AllSeeAll p session journal overruns

-- A journal, with the overruns of its line, in the order of one thread.
pub record IsInOneOrder (p : ℕ) (session : PlainSession) (journal : List PlainEntry)
    (overruns : List Overrun) : Type 0 where
  pub turns : AreInTurn p session (first_place p session) journal
  pub seen : AllSeeAll p session journal overruns
