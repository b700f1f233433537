-- What an answer of the port makes of the lines, as the desk makes it.
use Rattle.std.proofs.Common.{◌≡◌, ℕ, Bool, true, false, not, ◌&&◌, ◌==◌, Some, if◌then◌else◌, refl}
use Rattle.std.proofs.Common.{arith}
use Rattle.std.specs.Prelude.{nat_lt}
use Rattle.std.proofs.lemmas.Bool.Decides.{nat_tests}
use Rattle.tty_calls.specs.Plain.{PlainCall, opens, closes, reads, writes, gets_modes, sets_modes, gets_disc, sets_disc}
use Rattle.tty_calls.specs.Plain.{flushes, steers, counts_input, counts_output, excludes, admits, drains, gets_counts}
use Rattle.tty_calls.specs.Plain.{hangs_up, sends_packet, takes_packet, PlainAnswer, done, count_is, got, number_is}
use Rattle.tty_calls.specs.Plain.{modes_are, counts_are, refused, idle}
use Rattle.tty_terminal.specs.Terminals.{Terminal, live_count}
use Rattle.modem_lines.specs.Lines.{Lines, after_open, after_shut}
use Rattle.passed_calls.specs.Scripts.{plain}
use Rattle.modem_steps.specs.Steps.{lines_after_done, lines_after_answer}
use Rattle.modem_one.specs.Controls.{has_live, is_done, lines_settled}

opened : (b : Bool) (x y : Lines) → (if b then x else y) ≡ (if not b then y else x)
opened true x y = refl
opened false x y = refl

some_live : (n : ℕ) → nat_lt 0 n ≡ not (n == 0)
some_live n = grind (arith, nat_tests)

once : (b : Bool) → b ≡ not (not b)
once true = refl
once false = refl

shut : (before now : ℕ) (x y : Lines)
    → (if nat_lt 0 before && (now == 0) then x else y) ≡ (if not (before == 0) && not (not (now == 0)) then x else y)
shut before now x y = λ i. if some_live before i && once (now == 0) i then x else y

settled_done : (lines : Lines) (t u : Terminal) (call : PlainCall)
    → lines_after_done lines (live_count t) (live_count u) call ≡ lines_settled lines (has_live t) (has_live u) call
settled_done lines t u (opens h access nonblock) = opened (live_count t == 0) (after_open lines) lines
settled_done lines t u (closes h) = shut (live_count t) (live_count u) (after_shut lines) lines
settled_done lines t u (reads h n) = refl
settled_done lines t u (writes h bytes) = refl
settled_done lines t u (gets_modes h) = refl
settled_done lines t u (sets_modes h when words) = refl
settled_done lines t u (gets_disc h) = refl
settled_done lines t u (sets_disc h number) = refl
settled_done lines t u (flushes h queue) = refl
settled_done lines t u (steers h act) = refl
settled_done lines t u (counts_input h) = refl
settled_done lines t u (counts_output h) = refl
settled_done lines t u (excludes h) = refl
settled_done lines t u (admits h) = refl
settled_done lines t u (drains h) = refl
settled_done lines t u (gets_counts h) = refl
settled_done lines t u (sends_packet h bytes) = refl
settled_done lines t u (takes_packet h) = refl
settled_done lines t u (hangs_up h) = refl

pub settled_answer : (lines : Lines) (t u : Terminal) (call : PlainCall) (answer : PlainAnswer)
    → lines_after_answer lines (live_count t) (live_count u) (Some (plain call)) answer
    ≡ (if is_done answer then lines_settled lines (has_live t) (has_live u) call else lines)
settled_answer lines t u call done = settled_done lines t u call
settled_answer lines t u call (count_is taken) = refl
settled_answer lines t u call (got bytes) = refl
settled_answer lines t u call (number_is n) = refl
settled_answer lines t u call (modes_are modes) = refl
settled_answer lines t u call (counts_are counts) = refl
settled_answer lines t u call (refused errno) = refl
settled_answer lines t u call idle = refl
