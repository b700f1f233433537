-- The journals after a session, line by line: what is due, and the tests of a line there.
use Rattle.std.specs.Prelude.{ℕ, ◌+◌, ◌-◌, ◌==◌, nat_lt, Bool, true, false, List, [], ◌∷◌, ◌++◌, length}
use Rattle.std.specs.Prelude.{map, Option, None, Some, slice_get, Result, Ok, Err, codes, if◌then◌else◌}
use Rattle.std.specs.List.{range_with_len}
use Rattle.tty_base.specs.declared.lines.Overrun.{Overrun}
use Rattle.tty_calls.specs.Plain.{PlainEntry}
use Rattle.tty_calls.specs.Sessions.{PlainSession}
use Rattle.text_lines.specs.Lines.{first_is}
use Rattle.session_text.specs.declared.faults.Reason.TheVariants.{Order}
use Rattle.session_text.specs.declared.faults.BadLine.{BadLine}
use Rattle.session_text.specs.Refusals.{next_line}
use Rattle.check_text.specs.declared.journals.Due.{Due}
use Rattle.check_text.specs.declared.journals.Due.TheVariants as due
use Rattle.check_text.specs.declared.entries.LineNumbers.{LineNumbers}
use Rattle.check_text.specs.Fields.{Read, ◌>>=◌}
use Rattle.check_text.specs.Callers.{PlainCallers, callers_on}
use Rattle.check_text.specs.Entries.{entry_in, fixed_in, heading_in, overrun_in, numbers_in}
use Rattle.check_text.specs.Runs.{PlainRun}

-- the callers of each port; which line is due; the runs that were read, and what was read of the next
pub record PlainJournals : Type 0 where
  pub callers : List PlainCallers
  pub due : Due
  pub runs : List PlainRun
  pub entries : List PlainEntry
  pub overruns : List Overrun

abbrev pub callers_by_port : PlainSession → List PlainCallers
callers_by_port session = map (λ port. callers_on port session) (range_with_len 0 session.ports)

abbrev pub first_journals : PlainSession → PlainJournals
first_journals session =
    record { callers = callers_by_port session; due = due.Journals; runs = []; entries = []; overruns = [] }

-- ---- what is due

abbrev pub run_due : ℕ → ℕ → Due
run_due ports port = if nat_lt port ports then due.Journal else due.Done

abbrev pub entries_due : ℕ → Due
entries_due left = if left == 0 then due.Overruns else due.Entry left

abbrev pub overruns_due : ℕ → Due
overruns_due left = if left == 0 then due.Numbers else due.Overrun left

abbrev pub is_over : Due → Bool
is_over due.Journals = false
is_over due.Journal = false
is_over (due.Entry left) = false
is_over due.Overruns = false
is_over (due.Overrun left) = false
is_over due.Numbers = false
is_over due.Done = false
is_over due.Over = true

-- ---- a line

abbrev pub entry_by : Option PlainCallers → List (List ℕ) → Read PlainEntry
entry_by None words = Err Order
entry_by (Some callers) words = entry_in callers words

abbrev pub run_with : PlainJournals → LineNumbers → PlainRun
run_with j numbers = record {
  journal = j.entries;
  overruns = j.overruns;
  arrived = numbers.arrived;
  lost = numbers.lost;
  sent = numbers.sent;
}

abbrev pub with_run : PlainJournals → LineNumbers → PlainJournals
with_run j numbers = record j {
  due = run_due (length j.callers) (length j.runs + 1);
  runs = j.runs ++ run_with j numbers ∷ [];
  entries = [];
  overruns = [];
}

-- what a line of these words leaves, where this is due
abbrev pub line_by : PlainJournals → Due → List (List ℕ) → Read PlainJournals
line_by j due.Journals words =
    fixed_in (codes "journals") words >>= λ end. Ok (record j { due = run_due (length j.callers) (length j.runs) })
line_by j due.Journal words =
    heading_in (codes "journal") (length j.runs) words >>= λ n. Ok (record j { due = entries_due n })
line_by j (due.Entry left) words =
    entry_by (slice_get j.callers (length j.runs)) words
    >>= λ entry. Ok (record j { due = entries_due (left - 1); entries = j.entries ++ entry ∷ [] })
line_by j due.Overruns words =
    heading_in (codes "overruns") (length j.runs) words >>= λ n. Ok (record j { due = overruns_due n })
line_by j (due.Overrun left) words =
    overrun_in words
    >>= λ overrun. Ok (record j { due = overruns_due (left - 1); overruns = j.overruns ++ overrun ∷ [] })
line_by j due.Numbers words = numbers_in (length j.runs) words >>= λ numbers. Ok (with_run j numbers)
line_by j due.Done words = fixed_in (codes "done") words >>= λ end. Ok (record j { due = due.Over })
line_by j due.Over words = Err Order

-- .. with its number, where it is wrong
abbrev pub at_line : {X : Type 0} → ℕ → Read X → Result X BadLine
at_line n (Ok x) = Ok x
at_line n (Err reason) = Err (record { line = n; reason = reason })

abbrev pub journals_after_line : PlainJournals → ℕ → List (List ℕ) → Result PlainJournals BadLine
journals_after_line j n [] = Ok j
journals_after_line j n (word ∷ words) = if first_is 35 word then Ok j else at_line n (line_by j j.due (word ∷ words))

-- ---- all lines from this one on

abbrev pub then_on : {X Y : Type 0} → Result X BadLine → (X → Result Y BadLine) → Result Y BadLine
then_on (Ok x) later = later x
then_on (Err line) later = Err line

abbrev pub runs_at_end : PlainJournals → ℕ → Result (List PlainRun) BadLine
runs_at_end j n = if is_over j.due then Ok j.runs else Err (record { line = n; reason = Order })

abbrev pub runs_from : PlainJournals → ℕ → List (List (List ℕ)) → Result (List PlainRun) BadLine
runs_from j n [] = runs_at_end j n
runs_from j n (words ∷ lines) = then_on (journals_after_line j n words) (λ next. runs_from next (next_line n) lines)
