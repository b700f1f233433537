-- What a session must be for its journals to be judged. That is less than the limits of a session's text: nothing is
-- said of how many ports, phases, callers, calls or characters there are, nor of names, ticks or flip buffers.
use Rattle.std.specs.Prelude.{◌<◌, IsTrue, All}
use Rattle.tty_base.specs.Sizes.{MOST_HANDLES}
use Rattle.tty_base.specs.Lines.{is_step}
use Rattle.tty_calls.specs.Plain.{PlainCall, handle_of}
use Rattle.tty_calls.specs.Sessions.{PlainScript, PlainPhase, PlainSession}

-- a call names its handle by one of the 32 numbers
abbrev pub IsOfTable : PlainCall → Type 0
IsOfTable call = handle_of call < MOST_HANDLES

abbrev pub AreOfTable : PlainScript → Type 0
AreOfTable script = All IsOfTable script.calls

-- each step is one that a line can take
pub record IsPhaseWellFormed (phase : PlainPhase) : Type 0 where
  pub steps : All (λ line. All (λ step. IsTrue (is_step step)) line) phase.lines
  pub calls : All AreOfTable phase.callers

pub record IsWellFormed (session : PlainSession) : Type 0 where
  pub phases : All IsPhaseWellFormed session.phases
