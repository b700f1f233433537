-- The text of a report: what each call of a session was answered, and what became of its ports.
use Rattle.std.specs.Prelude.{ℕ, List, [], ◌∷◌, ◌++◌, ◌+◌, ◌==◌, ◌&&◌, Bool, false}
use Rattle.std.specs.Prelude.{Option, None, Some, if◌then◌else◌, length, flat_map, codes}
use Rattle.std.specs.Option.{option_or}
use Rattle.tty_calls.specs.declared.journals.PortRun.{PortRun}
use Rattle.tty_calls.specs.Plain.{PlainCall, PlainAnswer, PlainEvent, answered, parted, waited, flushed, ticked}
use Rattle.tty_calls.specs.Plain.{line_ended, clock_ended, caller_ended, phase_ended, hung_up, PlainEntry, is_caller}
use Rattle.tty_calls.specs.Sessions.{PlainScript, PlainSession, scripts_over, names_of, number_in, calls_under}
use Rattle.session_print.specs.Lines.{call_line, port_text, newline}
use Rattle.session_print.specs.Ends.{PlainEnd}
use Rattle.session_print.specs.Journals.{journals_text}

abbrev pub answer_of_event : PlainEvent → Option PlainAnswer
answer_of_event (answered answer dropped) = Some answer
answer_of_event (parted taken) = None
answer_of_event waited = None
answer_of_event (flushed chars) = None
answer_of_event ticked = None
answer_of_event (line_ended sent) = None
answer_of_event clock_ended = None
answer_of_event caller_ended = None
answer_of_event phase_ended = None
answer_of_event (hung_up dropped) = None

-- what an entry answers to a caller's step
abbrev pub answer_by : PlainEntry → ℕ → ℕ → Option PlainAnswer
answer_by e c step = if is_caller e.who c && (e.step == step) then answer_of_event e.event else None

-- the answer of the Answer entry of a caller and step: a run has one at most, and else it is the latest
abbrev pub answer_in : List PlainEntry → ℕ → ℕ → Option PlainAnswer
answer_in [] c step = None
answer_in (e ∷ es) c step = option_or (answer_in es c step) (answer_by e c step)

-- a call as a report tells it: its caller's name and number, its step, and what it calls
pub record ToldCall : Type 0 where
  pub name : List ℕ
  pub caller : Option ℕ
  pub step : ℕ
  pub call : PlainCall

-- a caller's calls, from this step on
abbrev pub told_from : List ℕ → Option ℕ → ℕ → List PlainCall → List ToldCall
told_from name c step [] = []
told_from name c step (call ∷ calls) =
    record { name = name; caller = c; step = step; call = call } ∷ told_from name c (step + 1) calls

-- the calls of scripts that come after others: a caller's steps go on over its scripts
abbrev pub told_in : List (List ℕ) → List PlainScript → List PlainScript → List ToldCall
told_in names before [] = []
told_in names before (s ∷ ss) =
    told_from s.name (number_in names s.name) (length (calls_under s.name before)) s.calls
    ++ told_in names (before ++ s ∷ []) ss

-- the calls of a port, in the text's order
abbrev pub told_on : ℕ → PlainSession → List ToldCall
told_on p session = told_in (names_of (scripts_over p session.phases)) [] (scripts_over p session.phases)

-- the answer to a told call, by the answers of each caller and step
abbrev pub answer_to : (ℕ → ℕ → Option PlainAnswer) → Option ℕ → ℕ → Option PlainAnswer
answer_to answers None step = None
answer_to answers (Some c) step = answers c step

-- the line of a call that was answered
abbrev pub answered_line : ℕ → ToldCall → Option PlainAnswer → List ℕ
answered_line p t None = []
answered_line p t (Some answer) = call_line p t.name t.step t.call answer

abbrev pub told_line : ℕ → (ℕ → ℕ → Option PlainAnswer) → ToldCall → List ℕ
told_line p answers t = answered_line p t (answer_to answers t.caller t.step)

-- the lines of the calls of a port
abbrev pub calls_text : ℕ → PlainSession → PortRun → List ℕ
calls_text p session run = flat_map (told_line p (answer_in run.journal.items)) (told_on p session)

-- the lines of the calls of all ports, from this port on; there is one run for each port
abbrev pub calls_from : ℕ → PlainSession → List PortRun → List ℕ
calls_from p session [] = []
calls_from p session (run ∷ runs) = calls_text p session run ++ calls_from (p + 1) session runs

-- the lines of all ports, from this port on; there is one run and one end for each port
abbrev pub ports_from : ℕ → PlainSession → List PortRun → List PlainEnd → List ℕ
ports_from p session [] ends = []
ports_from p session (run ∷ runs) [] = []
ports_from p session (run ∷ runs) (end ∷ ends) = port_text session p run end ++ ports_from (p + 1) session runs ends

-- The text of a session that was played: the answers, what became of the ports, and, where they are
-- asked for, the journals.
abbrev pub play_text : Bool → PlainSession → List PortRun → List PlainEnd → List ℕ
play_text journals session runs ends =
    calls_from 0 session runs ++ (ports_from 0 session runs ends
    ++ ((if journals then journals_text session runs else []) ++ (codes "done" ++ newline)))

-- the report: the text without the journals
abbrev pub report_text : PlainSession → List PortRun → List PlainEnd → List ℕ
report_text session runs ends = play_text false session runs ends
