-- The report of a session of consoles: the callers' calls, the operators' calls, and what became of the consoles.
use Rattle.std.specs.Prelude.{ℕ, ◌+◌, ◌==◌, nat_lt, Bool, true, false, List, [], ◌∷◌, ◌++◌, Option}
use Rattle.std.specs.Prelude.{None, Some, codes, decimal, flat_map, length, slice_get, if◌then◌else◌}
use Rattle.tty_calls.specs.declared.journals.PortRun.{PortRun}
use Rattle.tty_calls.specs.Sessions.{number_in}
use Rattle.session_print.specs.Ends.{PlainEnd}
use Rattle.session_print.specs.Lines.{newline, flushed_count, dropped_count}
use Rattle.session_print.specs.Report.{calls_from}
use Rattle.vt_consoles.specs.declared.entries.VtEntry.{VtEntry}
use Rattle.vt_consoles.specs.declared.entries.VtEvent.{VtEvent}
use Rattle.vt_consoles.specs.declared.entries.VtEvent.TheVariants.{Activate, State, Key}
use Rattle.vt_print.specs.declared.consoles.Tally.{Tally}
use Rattle.vt_print.specs.Consoles.{console_text, active_line}
use Rattle.vt_text.specs.declared.sessions.OpCall.{OpCall}
use Rattle.vt_text.specs.declared.sessions.OpCall.TheVariants as op
use Rattle.vt_text.specs.Sessions.{PlainOperator, PlainVtSession}
use Rattle.vt_account.specs.Seats.{operator_names}
use Rattle.vt_account.specs.Account.{is_seat}

-- ---- the operators

abbrev pub verb_of : OpCall → List ℕ
verb_of (op.Activate n) = codes "activate"
verb_of op.State = codes "state"

-- vt.NAME.STEP VERB ANSWER
abbrev pub call_line : List ℕ → (step : ℕ) → OpCall → List ℕ → List ℕ
call_line name step call answer =
    codes "vt."
    ++ (name ++ (codes "." ++ (decimal step ++ (codes " " ++ (verb_of call ++ (codes " " ++ (answer ++ newline)))))))

-- which consoles were told as active to a seat, in order
abbrev pub state_in : VtEvent → List ℕ
state_in (Activate n) = []
state_in (State n) = n ∷ []
state_in (Key index n) = []

abbrev pub states_by : (seat : ℕ) → List VtEntry → List ℕ
states_by seat entries = flat_map (λ (e : VtEntry). if e.seat == seat then state_in e.event else []) entries

-- an activation of a console that there is not is refused
abbrev pub activation_answer : (consoles n : ℕ) → List ℕ
activation_answer consoles n = if nat_lt n consoles then codes "ok" else codes "ENXIO"

-- the line of a `state`, where an entry answers it
abbrev pub state_line : List ℕ → (step : ℕ) → Option ℕ → List ℕ
state_line name step None = []
state_line name step (Some n) = call_line name step op.State (decimal n)

-- the line of a call before which this seat was told so many times
abbrev pub line_of : (consoles : ℕ) → (states : List ℕ) → List ℕ → (step told : ℕ) → OpCall → List ℕ
line_of consoles states name step told (op.Activate n) =
    call_line name step (op.Activate n) (activation_answer consoles n)
line_of consoles states name step told op.State = state_line name step (slice_get states told)

abbrev pub is_state : OpCall → Bool
is_state (op.Activate n) = false
is_state op.State = true

-- how many of these calls ask which console is active
abbrev pub asked_states : List OpCall → ℕ
asked_states [] = 0
asked_states (call ∷ calls) = (if is_state call then 1 else 0) + asked_states calls

-- the lines of an operator's calls, from this step on
abbrev pub lines_from : (consoles : ℕ) → (states : List ℕ) → List ℕ → (step told : ℕ) → List OpCall → List ℕ
lines_from consoles states name step told [] = []
lines_from consoles states name step told (call ∷ calls) =
    line_of consoles states name step told call
    ++ lines_from consoles states name (step + 1) (if is_state call then told + 1 else told) calls

-- the calls of one seat
abbrev pub calls_of : List (List ℕ) → (seat : ℕ) → List PlainOperator → List OpCall
calls_of names seat operators =
    flat_map (λ operator. if is_seat (number_in names operator.name) seat then operator.calls else []) operators

-- the lines of an operator's block, where these blocks came before: steps go on over the blocks
abbrev pub block_lines : (consoles : ℕ) → List VtEntry → (before : ℕ → List OpCall) → PlainOperator → Option ℕ → List ℕ
block_lines consoles entries before operator None = []
block_lines consoles entries before operator (Some seat) =
    lines_from consoles (states_by seat entries) operator.name (length (before seat)) (asked_states (before seat))
    operator.calls

abbrev pub blocks_lines : List (List ℕ) → (consoles : ℕ) → List VtEntry → (before operators : List PlainOperator)
    → List ℕ
blocks_lines names consoles entries before [] = []
blocks_lines names consoles entries before (operator ∷ operators) =
    block_lines consoles entries (λ seat. calls_of names seat before) operator (number_in names operator.name)
    ++ blocks_lines names consoles entries (before ++ operator ∷ []) operators

-- the lines of all operators, in the text's order
abbrev pub operators_text : PlainVtSession → List VtEntry → List ℕ
operators_text session entries =
    blocks_lines (operator_names session.phases) session.calls.ports entries []
    (flat_map (λ phase. phase.operators) session.phases)

-- ---- the consoles

-- what is counted of a console
abbrev pub tally_of : PortRun → PlainEnd → Tally
tally_of run end = record {
  overrun = length run.line.overruns.items;
  taken = flushed_count run.journal.items;
  dropped = dropped_count run.journal.items;
  generation = end.generation;
}

-- what is told of the consoles, from this one on; there is one run and one end for each
abbrev pub consoles_from : (p : ℕ) → List VtEntry → List PortRun → List PlainEnd → List ℕ
consoles_from p entries [] ends = []
consoles_from p entries (run ∷ runs) [] = []
consoles_from p entries (run ∷ runs) (end ∷ ends) =
    console_text p entries (tally_of run end) end.wire ++ consoles_from (p + 1) entries runs ends

-- ---- the report

-- what stands behind the callers' lines
abbrev pub behind_callers : PlainVtSession → List VtEntry → List PortRun → List PlainEnd → List ℕ
behind_callers session entries runs ends =
    operators_text session entries
    ++ (consoles_from 0 entries runs ends ++ (active_line entries ++ (codes "done" ++ newline)))

abbrev pub report_text : PlainVtSession → List VtEntry → List PortRun → List PlainEnd → List ℕ
report_text session entries runs ends = calls_from 0 session.calls runs ++ behind_callers session entries runs ends
