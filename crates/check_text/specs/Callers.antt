-- The callers of a port: their names by their numbers, and what each of their calls may be answered.
use Rattle.std.specs.Prelude.{ℕ, List, [], map, Option, None, if◌then◌else◌, slice_get, slice_index_or}
use Rattle.tty_calls.specs.Plain.{PlainCall, opens, closes, reads, writes, gets_modes, sets_modes, gets_disc}
use Rattle.tty_calls.specs.Plain.{sets_disc, flushes, steers, counts_input, counts_output, excludes, admits}
use Rattle.tty_calls.specs.Plain.{drains, gets_counts, hangs_up, sends_packet, takes_packet}
use Rattle.tty_calls.specs.Sessions.{PlainScript, PlainSession, scripts_over, names_of, number_in, calls_under}
use Rattle.text_lines.specs.Values.{is_name}
use Rattle.check_text.specs.declared.kinds.AnswerKind.{AnswerKind}
use Rattle.check_text.specs.declared.kinds.AnswerKind.TheVariants as kind

-- what a call is answered where it is neither refused nor told that nothing can come any more
abbrev pub answer_kind : PlainCall → AnswerKind
answer_kind (opens h access nonblock) = kind.Done
answer_kind (closes h) = kind.Done
answer_kind (reads h n) = kind.Got
answer_kind (writes h bytes) = kind.Count
answer_kind (gets_modes h) = kind.Modes
answer_kind (sets_modes h when words) = kind.Done
answer_kind (gets_disc h) = kind.Number
answer_kind (sets_disc h number) = kind.Done
answer_kind (flushes h queue) = kind.Done
answer_kind (steers h act) = kind.Done
answer_kind (counts_input h) = kind.Number
answer_kind (counts_output h) = kind.Number
answer_kind (excludes h) = kind.Done
answer_kind (admits h) = kind.Done
answer_kind (drains h) = kind.Done
answer_kind (gets_counts h) = kind.Counts
answer_kind (hangs_up h) = kind.Done
answer_kind (sends_packet h bytes) = kind.Done
answer_kind (takes_packet h) = kind.Got

-- the names of callers, and for each the kinds of its calls, from step 0 on
pub record PlainCallers : Type 0 where
  pub names : List (List ℕ)
  pub kinds : List (List AnswerKind)

abbrev pub kinds_under : List PlainScript → List ℕ → List AnswerKind
kinds_under scripts name = map answer_kind (calls_under name scripts)

abbrev pub callers_of_scripts : List PlainScript → PlainCallers
callers_of_scripts scripts = record { names = names_of scripts; kinds = map (kinds_under scripts) (names_of scripts) }

abbrev pub callers_on : ℕ → PlainSession → PlainCallers
callers_on port session = callers_of_scripts (scripts_over port session.phases)

-- the number of the caller that a word names, if it is a name
abbrev pub caller_named : List (List ℕ) → List ℕ → Option ℕ
caller_named names word = if is_name word then number_in names word else None

-- the kind of a caller's call, where its script has this step
abbrev pub kind_at : PlainCallers → ℕ → ℕ → Option AnswerKind
kind_at callers caller step = slice_get (slice_index_or callers.kinds caller []) step
