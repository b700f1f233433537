-- Who has which seat at the board of a session.
use Rattle.std.specs.Prelude.{ℕ, List, [], fold, flat_map, length}
use Rattle.tty_calls.specs.Sessions.{with_name}
use Rattle.vt_text.specs.Sessions.{PlainOperator, PlainVtPhase}

-- the names of operators, in the order in which they first occur; the number of an operator's seat is the place of
-- its name
abbrev pub names_of : List PlainOperator → List (List ℕ)
names_of operators = fold (λ names operator. with_name names operator.name) [] operators

abbrev pub operator_names : List PlainVtPhase → List (List ℕ)
operator_names phases = names_of (flat_map (λ phase. phase.operators) phases)

-- the keyboard has the next seat
abbrev pub keyboard_seat : List PlainVtPhase → ℕ
keyboard_seat phases = length (operator_names phases)
