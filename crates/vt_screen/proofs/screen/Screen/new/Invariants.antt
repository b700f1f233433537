use Rattle.std.proofs.Common.{◌≡◌, replicate}
use Rattle.std.specs.VecDeque.{deque_len}
use Rattle.vt_screen.specs.Paper.{blank_row}
use Rattle.vt_screen.proofs.screen.Screen.new.Given as goal

abbrev pub invariant-loop : goal.invariant-loop
invariant-loop l = record { items : l.rows.items ≡ replicate l.counter blank_row; len : deque_len l.rows ≡ l.counter }
