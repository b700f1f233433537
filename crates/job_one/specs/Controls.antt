-- The calls of job control at a desk.
use Rattle.std.specs.Prelude.{ℕ, Option, None, Some, Result, Ok, Err, List, [], ◌∷◌, map, position, if◌then◌else◌}
use Rattle.std.specs.Option.{option_to_list}
use Rattle.handle_table.specs.Handles.{is_live}
use Rattle.tty_terminal.specs.Terminals.{Terminal}
use Rattle.job_control.specs.declared.answers.JobAnswer.{JobAnswer}
use Rattle.job_control.specs.declared.answers.JobAnswer.TheVariants as told
use Rattle.job_control.specs.declared.processes.JobRefusal.{JobRefusal}
use Rattle.job_control.specs.declared.processes.JobSignal.TheVariants.{Hup, Cont}
use Rattle.job_control.specs.Control.{JobState, leads_holder}
use Rattle.job_text.specs.Events.{JobEvent, passed_down, sent}
use Rattle.job_steps.specs.Steps.{ControlOutcome, leaves, refusal_answer, foreground_target}
use Rattle.job_one.specs.declared.controls.Due.{Due}
use Rattle.job_one.specs.declared.controls.Due.TheVariants as due

-- what is due, where this is the least live handle
abbrev pub due_events : Due → (c : ℕ) → (least : Option ℕ) → List JobEvent
due_events due.Nothing c least = []
due_events (due.Signal signal target) c least = sent signal target ∷ []
due_events (due.Left target) c least = sent Hup target ∷ sent Cont target ∷ []
due_events (due.Ended target) c least = sent Hup target ∷ map (passed_down c) (option_to_list least)

-- where a process ends that leads the session that holds the port
abbrev pub ended_due : JobState → (p c : ℕ) → (least : Option ℕ) → List JobEvent
ended_due jobs p c least =
    if leads_holder jobs p then sent Hup (foreground_target jobs) ∷ map (passed_down c) (option_to_list least) else []

abbrev pub told_by : Result (Unit {0}) JobRefusal → JobAnswer
told_by (Ok x) = told.Done
told_by (Err refusal) = refusal_answer refusal

-- a call that is refused for its handle, or else comes to this
abbrev pub refused_or : JobState → Option JobAnswer → ControlOutcome → ControlOutcome
refused_or jobs None outcome = outcome
refused_or jobs (Some answer) outcome = leaves answer jobs

-- a call of job control came to this
abbrev pub came_to : Terminal → (c : ℕ) → JobAnswer → JobState → Due → ControlOutcome
came_to t c answer left due =
    record { answer = answer; left = left; due = due_events due c (position is_live t.handles) }

-- the handle of the hangup that is due, where this is the least live one
abbrev pub hangup_due : Due → (least : Option ℕ) → Option ℕ
hangup_due due.Nothing least = None
hangup_due (due.Signal signal target) least = None
hangup_due (due.Left target) least = None
hangup_due (due.Ended target) least = least
