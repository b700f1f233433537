-- The account of a board: which entries come of the keys and the operators' calls of a session.
use Rattle.std.specs.Prelude.{◌≡◌, ℕ, ◌+◌, ◌==◌, nat_lt, Bool, false, List, [], ◌∷◌}
use Rattle.std.specs.Prelude.{◌++◌, Option, None, Some, flat_map, length, if◌then◌else◌}
use Rattle.std.specs.List.{range_with_len}
use Rattle.tty_calls.specs.Sessions.{number_in}
use Rattle.vt_consoles.specs.declared.entries.VtEntry.{VtEntry}
use Rattle.vt_consoles.specs.declared.entries.VtEvent.{VtEvent}
use Rattle.vt_consoles.specs.declared.entries.VtEvent.TheVariants.{Activate, State, Key}
use Rattle.vt_consoles.specs.Runs.{IsBoardRun}
use Rattle.vt_text.specs.declared.sessions.OpCall.{OpCall}
use Rattle.vt_text.specs.declared.sessions.OpCall.TheVariants as op
use Rattle.vt_text.specs.Sessions.{PlainVtPhase, PlainVtSession}
use Rattle.vt_account.specs.Seats.{operator_names, keyboard_seat}

-- ---- what a session asks

-- a call that is not refused: an activation of a console that there is not is
abbrev pub granted : (consoles : ℕ) → OpCall → List OpCall
granted consoles (op.Activate n) = if nat_lt n consoles then op.Activate n ∷ [] else []
granted consoles op.State = op.State ∷ []

abbrev pub is_seat : Option ℕ → ℕ → Bool
is_seat None seat = false
is_seat (Some n) seat = n == seat

-- the calls of the operator with this seat in a phase
abbrev pub calls_at : List (List ℕ) → (seat : ℕ) → PlainVtPhase → List OpCall
calls_at names seat phase =
    flat_map (λ operator. if is_seat (number_in names operator.name) seat then operator.calls else []) phase.operators

-- ---- what entries tell

-- the call that an event answers, and the index of the key that it is of
abbrev pub call_in : VtEvent → List OpCall
call_in (Activate n) = op.Activate n ∷ []
call_in (State n) = op.State ∷ []
call_in (Key index n) = []

abbrev pub index_in : VtEvent → List ℕ
index_in (Activate n) = []
index_in (State n) = []
index_in (Key index n) = index ∷ []

-- those of the entries of one seat
abbrev pub calls_by : (seat : ℕ) → List VtEntry → List OpCall
calls_by seat entries = flat_map (λ (e : VtEntry). if e.seat == seat then call_in e.event else []) entries

abbrev pub indexes_by : (seat : ℕ) → List VtEntry → List ℕ
indexes_by seat entries = flat_map (λ (e : VtEntry). if e.seat == seat then index_in e.event else []) entries

-- ---- the account

-- The entries of a phase, of whose keys the first has this index: the keyboard's are one for each key, in order, and
-- each operator's are one for each call of the phase that is not refused, in order. There are no others.
pub record IsPhasePart (session : PlainVtSession) (phase : PlainVtPhase) (first : ℕ) (part : List VtEntry) : Type 0
  where
    pub keys : (seat : ℕ)
        → indexes_by seat part
        ≡ (if keyboard_seat session.phases == seat then range_with_len first (length phase.keys) else [])
    pub calls : (seat : ℕ)
        → calls_by seat part
        ≡ flat_map (granted session.calls.ports) (calls_at (operator_names session.phases) seat phase)

-- the entries of a phase, and what is left
pub record BeginsWithPart (session : PlainVtSession) (phase : PlainVtPhase) (first : ℕ) (entries : List VtEntry)
    (IsRest : List VtEntry → Type 0) : Type 0 where
  pub part : List VtEntry
  pub rest : List VtEntry
  pub parts : entries ≡ part ++ rest
  pub is_part : IsPhasePart session phase first part
  pub goes_on : IsRest rest

-- the entries of these phases, one behind the other
abbrev pub HasParts : PlainVtSession → (first : ℕ) → List PlainVtPhase → List VtEntry → Type 0
HasParts session first [] entries = entries ≡ []
HasParts session first (phase ∷ phases) entries =
    BeginsWithPart session phase first entries (HasParts session (first + length phase.keys) phases)

-- The account: a board run, in which the session's keys and each operator's calls other than refused ones stand once,
-- in order, phase by phase.
pub record IsAccount (session : PlainVtSession) (entries : List VtEntry) : Type 0 where
  pub run : IsBoardRun session.calls.ports entries
  pub parts : HasParts session 0 session.phases entries
