-- What a report tells: a line for each call.
use Rattle.std.specs.Prelude.{◌≡◌, ℕ, List, Some, map, flat_map, slice_get}
use Rattle.std.specs.List.{AllZip, concat}
use Rattle.tty_calls.specs.declared.journals.PortRun.{PortRun}
use Rattle.tty_calls.specs.Plain.{PlainCall, PlainAnswer, PlainEntry}
use Rattle.tty_calls.specs.Sessions.{PlainSession, scripts_over, names_of, call_at}
use Rattle.session_print.specs.Lines.{call_line}
use Rattle.session_print.specs.Report.{ToldCall, told_on, answer_in, calls_text}

-- each call of a port is answered by these entries
abbrev pub AnswersEvery : ℕ → PlainSession → List PlainEntry → Type 0
AnswersEvery p session es =
    (c step : ℕ) (call : PlainCall)
    → call_at p session c step ≡ Some call
    → (answer : PlainAnswer) × (answer_in es c step ≡ Some answer)

-- The line of a call that is told: it is the session's call of this caller and step, and the line has the name of the
-- caller, the step, and the answer that these entries have for them.
pub record IsLineOf (p : ℕ) (session : PlainSession) (es : List PlainEntry) (told : ToldCall)
    (line : List ℕ) : Type 0 where
  pub caller : ℕ
  pub answer : PlainAnswer
  pub numbered : told.caller ≡ Some caller
  pub named : slice_get (names_of (scripts_over p session.phases)) caller ≡ Some told.name
  pub called : call_at p session caller told.step ≡ Some told.call
  pub answered : answer_in es caller told.step ≡ Some answer
  pub is_line : line ≡ call_line p told.name told.step told.call answer

-- the calls that are told of a port are all its calls, in the text's order
abbrev pub ToldAreAll : ℕ → PlainSession → Type 0
ToldAreAll p session =
    map (λ told. told.call) (told_on p session) ≡ flat_map (λ script. script.calls) (scripts_over p session.phases)

-- the lines of a port's calls: one for each call that is told, in that order
abbrev pub TellsEachCall : Type 0
TellsEachCall =
    (p : ℕ) (session : PlainSession) (run : PortRun) → AnswersEvery p session run.journal.items
    → (lines : List (List ℕ))
    × (calls_text p session run ≡ concat lines)
    × AllZip (IsLineOf p session run.journal.items) (told_on p session) lines
