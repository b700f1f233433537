-- How the printer goes on: for private functions alone.
use Rattle.std.specs.Prelude.{◌≡◌, ◌<◌, ℕ, ◌+◌, List, [], ◌∷◌, ◌++◌, Option, None, Some}
use Rattle.std.specs.Prelude.{flat_map, if◌then◌else◌, length, map, slice_index_or, slice_set}
use Rattle.tty_calls.specs.Sessions.{number_in}
use Rattle.vt_consoles.specs.declared.entries.VtEntry.{VtEntry}
use Rattle.vt_text.specs.declared.sessions.OpCall.{OpCall}
use Rattle.vt_text.specs.declared.sessions.VtPhase.{VtPhase}
use Rattle.vt_text.specs.Sessions.{PlainOperator, vt_phase_of}
use Rattle.vt_report.specs.declared.operators.Cursor.{Cursor}
use Rattle.vt_report.specs.Report.{is_state, lines_from, state_in, states_by}

abbrev pub first_cursor : Cursor
first_cursor = record { step = 0; told = 0 }

abbrev pub cursor_at : List Cursor → (seat : ℕ) → Cursor
cursor_at cursors seat = slice_index_or cursors seat first_cursor

-- where a seat stands after a call, and after these
abbrev pub cursor_next : Cursor → OpCall → Cursor
cursor_next at call = record { step = at.step + 1; told = if is_state call then at.told + 1 else at.told }

abbrev pub cursor_then : Cursor → List OpCall → Cursor
cursor_then at [] = at
cursor_then at (call ∷ calls) = cursor_then (cursor_next at call) calls

abbrev pub cursors_then : List Cursor → List OpCall → Option ℕ → List Cursor
cursors_then cursors calls None = cursors
cursors_then cursors calls (Some seat) = slice_set cursors seat (cursor_then (cursor_at cursors seat) calls)

-- what a seat was told, where these lists have it seat by seat
abbrev pub told_to : List (List ℕ) → (seat : ℕ) → List ℕ
told_to states seat = slice_index_or states seat []

-- the lines of an operator's block, by where each seat stands
abbrev pub block_text : (consoles : ℕ) → List (List ℕ) → List Cursor → PlainOperator → Option ℕ → List ℕ
block_text consoles states cursors operator None = []
block_text consoles states cursors operator (Some seat) =
    lines_from consoles (told_to states seat) operator.name (cursor_at cursors seat).step
    (cursor_at cursors seat).told operator.calls

-- those of blocks, one behind the other, and where each seat stands then
abbrev pub blocks_text : List (List ℕ) → (consoles : ℕ) → List (List ℕ) → List Cursor → List PlainOperator → List ℕ
blocks_text names consoles states cursors [] = []
blocks_text names consoles states cursors (operator ∷ operators) =
    block_text consoles states cursors operator (number_in names operator.name)
    ++ blocks_text names consoles states (cursors_then cursors operator.calls (number_in names operator.name)) operators

abbrev pub cursors_after : List (List ℕ) → List Cursor → List PlainOperator → List Cursor
cursors_after names cursors [] = cursors
cursors_after names cursors (operator ∷ operators) =
    cursors_after names (cursors_then cursors operator.calls (number_in names operator.name)) operators

-- for each of so many seats what it was told
pub record AreStates (states : List (List ℕ)) (count : ℕ) (entries : List VtEntry) : Type 0 where
  pub count_is : length states ≡ count
  pub each : (seat : ℕ) → seat < count → told_to states seat ≡ states_by seat entries

-- .. after an entry more: where it tells its seat which console is active
abbrev pub states_with : List (List ℕ) → (seat : ℕ) → List ℕ → List (List ℕ)
states_with states seat told = slice_set states seat (told_to states seat ++ told)

abbrev pub states_then : List (List ℕ) → VtEntry → List (List ℕ)
states_then states e = states_with states e.seat (state_in e.event)

abbrev pub states_after : List (List ℕ) → List VtEntry → List (List ℕ)
states_after states [] = states
states_after states (e ∷ entries) = states_after (states_then states e) entries

-- the blocks of phases, one behind the other
abbrev pub blocks_in : List VtPhase → List PlainOperator
blocks_in phases = flat_map (λ phase. phase.operators) (map vt_phase_of phases)

-- ---- loops, by what is left of their items

-- blocks: the text, and where each seat stands
pub record HasBlocks (names : List (List ℕ)) (consoles : ℕ) (states : List (List ℕ)) (first : List ℕ)
    (from : List Cursor) (operators : List PlainOperator) (text : List ℕ) (cursors : List Cursor)
    (left : List PlainOperator) : Type 0 where
  pub text_left : text ++ blocks_text names consoles states cursors left
      ≡ first ++ blocks_text names consoles states from operators
  pub after : cursors_after names cursors left ≡ cursors_after names from operators
  pub each : length cursors ≡ length from

-- calls of a seat
pub record HasCalls (consoles : ℕ) (states name first : List ℕ) (from : Cursor) (calls : List OpCall) (text : List ℕ)
    (at : Cursor) (left : List OpCall) : Type 0 where
  pub text_left : text ++ lines_from consoles states name at.step at.told left
      ≡ first ++ lines_from consoles states name from.step from.told calls
  pub after : cursor_then at left ≡ cursor_then from calls
