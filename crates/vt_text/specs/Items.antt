-- The items that a session of ports lacks: what is wrong with one, and what it adds.
use Rattle.std.specs.Prelude.{◌≡◌, ℕ, ◌-◌, ◌/◌, ◌==◌, nat_le, nat_lt, Bool, true, false}
use Rattle.std.specs.Prelude.{List, [], ◌∷◌, ◌++◌, length, Option, None, Some, if◌then◌else◌}
use Rattle.std.specs.Str.{bytes_eq}
use Rattle.std.specs.List.{list_any}
use Rattle.std.specs.Option.{option_or}
use Rattle.tty_base.specs.Sizes.{MOST_KEYS, MOST_OPERATORS, MOST_STEPS}
use Rattle.text_lines.specs.Values.{word_at, is_name, is_hex, is_number, number_of, bytes_of}
use Rattle.session_text.specs.declared.faults.Reason.{Reason}
use Rattle.session_text.specs.declared.faults.Reason.TheVariants.{Word, Number, Hex, Order, Limit}
use Rattle.session_text.specs.Stands.{in_phase}
use Rattle.session_text.specs.Reading.{PlainReading, first_reading}
use Rattle.vt_text.specs.declared.sessions.OpCall.{OpCall}
use Rattle.vt_text.specs.declared.items.Block.{Block}
use Rattle.vt_text.specs.declared.items.Block.TheVariants as block
use Rattle.vt_text.specs.Sessions.{PlainOperator, PlainVtPhase}

-- What was read of the callers' session; whose block is open; the keys and the operators of the open phase; the
-- phases before it; and how many calls and keys may still come.
pub record PlainVtReading : Type 0 where
  pub session : PlainReading
  pub block : Block
  pub keys : List ℕ
  pub operators : List PlainOperator
  pub phases : List PlainVtPhase
  pub calls_left : ℕ
  pub keys_left : ℕ

abbrev pub first_vt_reading : PlainVtReading
first_vt_reading = record {
  session = first_reading;
  block = block.Neither;
  keys = [];
  operators = [];
  phases = [];
  calls_left = MOST_STEPS;
  keys_left = MOST_KEYS;
}

abbrev pub in_open_phase : PlainVtReading → Bool
in_open_phase r = in_phase r.session.stand.place

abbrev pub is_caller : Block → Bool
is_caller block.Caller = true
is_caller other = false

abbrev pub is_operator : Block → Bool
is_operator block.Operator = true
is_operator other = false

-- ---- what is wrong with an item, test by test: its place, how many arguments it has, the argument, totals

abbrev pub fault_by : (at_place has_arguments : Bool) (argument late : Option Reason) → Option Reason
fault_by at_place has_arguments argument late =
    if at_place then (if has_arguments then option_or argument late else Some Word) else Some Order

abbrev pub wrong_unless : Reason → Bool → Option Reason
wrong_unless reason fits = if fits then None else Some reason

abbrev pub keys_fault : PlainVtReading → List (List ℕ) → Option Reason
keys_fault r arguments =
    fault_by (in_open_phase r) (length arguments == 1) (wrong_unless Hex (is_hex (word_at arguments 0)))
    (wrong_unless Limit (nat_le (length (word_at arguments 0) / 2) r.keys_left))

abbrev pub is_named : List ℕ → PlainOperator → Bool
is_named name operator = bytes_eq operator.name name

-- an operator may stand once in a phase, and beside a limited number of others
abbrev pub once_fault : List PlainOperator → List ℕ → Option Reason
once_fault operators name =
    if list_any (is_named name) operators
    then Some Order
    else wrong_unless Limit (nat_lt (length operators) MOST_OPERATORS)

abbrev pub operator_fault : PlainVtReading → List (List ℕ) → Option Reason
operator_fault r arguments =
    fault_by (in_open_phase r) (length arguments == 1) (wrong_unless Word (is_name (word_at arguments 0)))
    (once_fault r.operators (word_at arguments 0))

abbrev pub byte_fault : List ℕ → Option Reason
byte_fault word = if is_number word then wrong_unless Limit (nat_le (number_of word) 255) else Some Number

-- there is just one argument, and it is a number that a console may have
pub record IsByteAlone (arguments : List (List ℕ)) : Type 0 where
  pub one : (length arguments == 1) ≡ true
  pub good : byte_fault (word_at arguments 0) ≡ None

abbrev pub activate_fault : PlainVtReading → List (List ℕ) → Option Reason
activate_fault r arguments =
    fault_by (is_operator r.block) (length arguments == 1) (byte_fault (word_at arguments 0))
    (wrong_unless Limit (nat_lt 0 r.calls_left))

abbrev pub state_fault : PlainVtReading → List (List ℕ) → Option Reason
state_fault r arguments =
    fault_by (is_operator r.block) (length arguments == 0) None (wrong_unless Limit (nat_lt 0 r.calls_left))

-- ---- what an item adds that is not wrong

-- a call more of the last operator
abbrev pub with_op_call : OpCall → List PlainOperator → List PlainOperator
with_op_call call [] = []
with_op_call call (operator ∷ []) = record operator { calls = operator.calls ++ call ∷ [] } ∷ []
with_op_call call (operator ∷ other ∷ operators) = operator ∷ with_op_call call (other ∷ operators)

abbrev pub with_keys : PlainVtReading → List ℕ → PlainVtReading
with_keys r digits =
    record r { block = block.Neither; keys = r.keys ++ bytes_of digits; keys_left = r.keys_left - length digits / 2 }

abbrev pub with_operator : PlainVtReading → List ℕ → PlainVtReading
with_operator r name =
    record r { block = block.Operator; operators = r.operators ++ record { name = name; calls = [] } ∷ [] }

abbrev pub with_call : PlainVtReading → OpCall → PlainVtReading
with_call r call = record r { operators = with_op_call call r.operators; calls_left = r.calls_left - 1 }

-- the phase that was open is over, where one was
abbrev pub phases_closed : Bool → PlainVtReading → List PlainVtPhase
phases_closed is_open r =
    if is_open then r.phases ++ record { keys = r.keys; operators = r.operators } ∷ [] else r.phases

abbrev pub with_phase_closed : Bool → PlainVtReading → PlainVtReading
with_phase_closed is_open r =
    record r { block = block.Neither; keys = []; operators = []; phases = phases_closed is_open r }
