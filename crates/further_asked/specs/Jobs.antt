-- What a session of processes asks of its ports.
use Rattle.std.specs.Prelude.{List, map}
use Rattle.job_text.specs.Sessions.{JobsPhase, JobsSession}
use Rattle.further_asked.specs.Asked.{AskedPhase, asks_of}

abbrev pub asked_phase_of : JobsPhase → AskedPhase
asked_phase_of phase = record { lines = phase.lines; ticks = phase.ticks; callers = map asks_of phase.callers }

abbrev pub asked_phases : JobsSession → List AskedPhase
asked_phases session = map asked_phase_of session.phases
