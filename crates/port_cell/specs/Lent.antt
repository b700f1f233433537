-- The value in a turn, and a turn after a write through `value`.
use Rattle.port_cell.specs.declared.turns.Turn.{Turn}

abbrev pub value_in : {V : Type 0} → Turn V → V
value_in t = t.value

abbrev pub with_value : {V : Type 0} → V → Turn V
with_value x = record { value = x }
