-- What a port was passed, as its log is walked: for private functions alone.
use Rattle.std.specs.Prelude.{ℕ, ◌+◌, List, [], ◌∷◌, ◌++◌, length, replicate}
use Rattle.tty_calls.specs.declared.journals.PortRun.{PortRun}
use Rattle.tty_calls.specs.Plain.{PlainEntry}
use Rattle.tty_calls.specs.Sessions.{PlainSession, scripts_over, names_of}
use Rattle.derived_session.specs.declared.passed.PassedDown.{PassedDown}
use Rattle.derived_session.specs.declared.passed.Down.TheVariants as down
use Rattle.derived_session.specs.Begun.{begun_down, one_more, after_all}
use Rattle.job_text.specs.Events.{JobEvent, own, passed, passed_down, sent, JobLog, events_on}
use Rattle.order_laws.specs.Sessions.{journal_on}

-- what was passed down so far, how many calls of each caller were answered, and the latest step that was answered
-- without the port
pub record Walked : Type 0 where
  pub passed : List PassedDown
  pub answered : List ℕ
  pub latest : ℕ

abbrev pub first_walk : (callers : ℕ) → Walked
first_walk n = record { passed = []; answered = replicate n 0; latest = 0 }

-- behind one event more, and behind all of these
abbrev pub walked_by : Walked → JobEvent → Walked
walked_by w (own c step answer) =
    record { passed = w.passed; answered = one_more w.answered c; latest = step }
walked_by w (passed c step answer) = record {
  passed = w.passed ++ record { caller = c; step = step; down = down.Call } ∷ [];
  answered = one_more w.answered c;
  latest = w.latest;
}
walked_by w (passed_down c h) = record {
  passed = w.passed ++ record { caller = c; step = w.latest; down = down.Hangup h } ∷ [];
  answered = w.answered;
  latest = w.latest;
}
walked_by w (sent signal target) = w

abbrev pub walked_over : Walked → List JobEvent → Walked
walked_over w es = after_all walked_by w es

-- what a port of so many callers was passed: what was logged of it, and the calls that it has begun
abbrev pub all_down : (callers : ℕ) → List JobEvent → List PlainEntry → List PassedDown
all_down n events journal =
    (walked_over (first_walk n) events).passed ++ begun_down journal (walked_over (first_walk n) events).answered

abbrev pub down_on : PlainSession → JobLog → List PortRun → (p : ℕ) → List PassedDown
down_on session log runs p =
    all_down (length (names_of (scripts_over p session.phases))) (events_on p log) (journal_on runs p)
