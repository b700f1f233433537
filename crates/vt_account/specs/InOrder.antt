-- The order of one thread for a board: in each phase the keys, and then the operators one after the other.
use Rattle.std.specs.Prelude.{ℕ, ◌+◌, ◌<◌, List, [], ◌∷◌, ◌++◌, flat_map, length, map, option_to_list}
use Rattle.std.specs.List.{fold, range_with_len}
use Rattle.tty_base.specs.Sizes.{MOST_ENTRIES}
use Rattle.tty_calls.specs.declared.answers.Denied.{Denied}
use Rattle.tty_calls.specs.declared.answers.Denied.TheVariants.{NoMemory, Full}
use Rattle.tty_calls.specs.Sessions.{number_in}
use Rattle.vt_consoles.specs.declared.entries.VtEntry.{VtEntry}
use Rattle.vt_consoles.specs.declared.entries.VtEvent.{VtEvent}
use Rattle.vt_consoles.specs.declared.entries.VtEvent.TheVariants.{Activate, State, Key}
use Rattle.vt_consoles.specs.Runs.{active_after}
use Rattle.vt_text.specs.declared.sessions.OpCall.{OpCall}
use Rattle.vt_text.specs.declared.sessions.OpCall.TheVariants as op
use Rattle.vt_text.specs.Sessions.{PlainOperator, PlainVtPhase, PlainVtSession}
use Rattle.vt_account.specs.Seats.{operator_names}
use Rattle.vt_account.specs.Account.{granted}

-- the console that is active behind entries, where this one is active before them
abbrev pub active_behind : (active : ℕ) → List VtEntry → ℕ
active_behind active entries = fold (λ n (e : VtEntry). active_after n e.event) active entries

-- so many keys, from this index on, on one console
abbrev pub key_entries : (seat console first count : ℕ) → List VtEntry
key_entries seat console first count =
    map (λ index. record { seat = seat; event = Key index console }) (range_with_len first count)

-- the event of a call, where this console is active
abbrev pub event_of : (active : ℕ) → OpCall → VtEvent
event_of active (op.Activate n) = Activate n
event_of active op.State = State active

abbrev pub call_entries : (seat active : ℕ) → List OpCall → List VtEntry
call_entries seat active [] = []
call_entries seat active (call ∷ calls) =
    record { seat = seat; event = event_of active call }
    ∷ call_entries seat (active_after active (event_of active call)) calls

-- the calls of an operator that are not refused
abbrev pub entries_at : (consoles active : ℕ) → List ℕ → List OpCall → List VtEntry
entries_at consoles active [] calls = []
entries_at consoles active (seat ∷ seats) calls = call_entries seat active (flat_map (granted consoles) calls)

abbrev pub operator_entries : List (List ℕ) → (consoles active : ℕ) → PlainOperator → List VtEntry
operator_entries names consoles active operator =
    entries_at consoles active (option_to_list (number_in names operator.name)) operator.calls

-- the calls of operators, one operator after the other
abbrev pub operators_entries : List (List ℕ) → (consoles active : ℕ) → List PlainOperator → List VtEntry
operators_entries names consoles active [] = []
operators_entries names consoles active (operator ∷ operators) =
    operator_entries names consoles active operator
    ++ operators_entries names consoles (active_behind active (operator_entries names consoles active operator))
    operators

-- a phase
abbrev pub phase_entries : List (List ℕ) → (consoles active first : ℕ) → PlainVtPhase → List VtEntry
phase_entries names consoles active first phase =
    key_entries (length names) active first (length phase.keys)
    ++ operators_entries names consoles active phase.operators

abbrev pub entries_from : List (List ℕ) → (consoles active first : ℕ) → List PlainVtPhase → List VtEntry
entries_from names consoles active first [] = []
entries_from names consoles active first (phase ∷ phases) =
    phase_entries names consoles active first phase
    ++ entries_from names consoles (active_behind active (phase_entries names consoles active first phase))
    (first + length phase.keys) phases

-- the entries of the board of a session on one thread
abbrev pub entries_in_order : PlainVtSession → List VtEntry
entries_in_order session = entries_from (operator_names session.phases) session.calls.ports 0 0 session.phases

-- why the board of a session is not played: it has no room for all entries, or memory is short
abbrev pub IsBoardDenied : PlainVtSession → Denied → Type 0
IsBoardDenied session Full = MOST_ENTRIES < length (entries_in_order session)
IsBoardDenied session NoMemory = Unit {0}
