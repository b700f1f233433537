-- What the words of a session can write: names of callers, characters that are bytes, and mode words.
use Rattle.std.specs.Prelude.{◌<◌, IsTrue}
use Rattle.std.specs.List.{AllByRecursion}
use Rattle.tty_base.specs.declared.lines.LineStep.{LineStep}
use Rattle.tty_base.specs.declared.lines.LineStep.TheVariants.{Rx, Break, Idle, Mask, Unmask, Trigger}
use Rattle.tty_modes.specs.Word.{IsModeWord}
use Rattle.tty_calls.specs.Plain.{PlainCall, sets_modes}
use Rattle.tty_calls.specs.Sessions.{PlainScript, PlainPhase}
use Rattle.text_lines.specs.Values.{is_name}

-- what arrives in a step is a byte
abbrev pub IsByteStep : LineStep → Type 0
IsByteStep (Rx c) = c.byte < 256
IsByteStep Break = Unit {0}
IsByteStep (Idle n) = Unit {0}
IsByteStep Mask = Unit {0}
IsByteStep Unmask = Unit {0}
IsByteStep (Trigger n) = Unit {0}

-- the modes that a call sets are mode words
abbrev pub SetsModeWords : PlainCall → Type 0
SetsModeWords (sets_modes h when words) = AllByRecursion IsModeWord words
SetsModeWords other = Unit {0}

pub record IsWrittenScript (script : PlainScript) : Type 0 where
  pub named : IsTrue (is_name script.name)
  pub calls : AllByRecursion SetsModeWords script.calls

pub record IsWrittenPhase (phase : PlainPhase) : Type 0 where
  pub lines : AllByRecursion (AllByRecursion IsByteStep) phase.lines
  pub scripts : AllByRecursion IsWrittenScript phase.callers
