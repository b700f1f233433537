-- What is left of a text without the lines that only it has: a session of ports.
use Rattle.std.specs.Prelude.{◌≡◌, ℕ, Bool, Option, None, Some, is_some, Ok}
use Rattle.std.specs.Prelude.{Err, List, [], ◌∷◌, flat_map, map, if◌then◌else◌}
use Rattle.tty_calls.specs.Sessions.{PlainSession}
use Rattle.text_lines.specs.Lines.{first_is}
use Rattle.session_text.specs.Grammar.{Spells}
use Rattle.session_text.specs.Refusals.{lines_in}
use Rattle.passed_calls.specs.declared.placed.PlacedCall.{PlacedCall}
use Rattle.further_text.specs.Faults.{Read}
use Rattle.further_text.specs.Left.{text_left}
use Rattle.job_text.specs.declared.calls.OwnCall.{OwnCall}
use Rattle.job_text.specs.declared.sessions.PortProc.{PortProc}
use Rattle.job_text.specs.declared.verbs.JobVerb.{JobVerb}
use Rattle.job_text.specs.declared.verbs.JobVerb.TheVariants.{Proc}
use Rattle.job_text.specs.Calls.{call_of}
use Rattle.job_text.specs.Sessions.{JobsSession, session_with}
use Rattle.job_text.specs.Verbs.{verb_of}

-- the first word of a line that only this text has
abbrev pub is_own : List ℕ → Bool
is_own word = is_some (verb_of word)

-- the calls that a line of job control says
abbrev pub call_by : Read OwnCall → List OwnCall
call_by (Ok call) = call ∷ []
call_by (Err reason) = []

abbrev pub calls_by : Option JobVerb → (arguments : List (List ℕ)) → List OwnCall
calls_by None arguments = []
calls_by (Some Proc) arguments = []
calls_by (Some verb) arguments = call_by (call_of verb arguments)

abbrev pub calls_said : List (List ℕ) → List OwnCall
calls_said [] = []
calls_said (word ∷ arguments) = if first_is 35 word then [] else calls_by (verb_of word) arguments

-- those that phases have beside, in order
abbrev pub calls_beside : List (List (PlacedCall OwnCall)) → List OwnCall
calls_beside parts = flat_map (λ own. map (λ o. o.call) own) parts

-- what is left spells a session of ports, and this is that session with its processes and what its phases have beside,
-- where the calls are those that its own lines say
pub record IsLeft (text : List ℕ) (session : JobsSession) : Type 0 where
  pub base : PlainSession
  pub procs : List PortProc
  pub parts : List (List (PlacedCall OwnCall))
  pub spells : Spells (text_left is_own text) base
  pub is : session ≡ session_with base procs parts
  pub calls : calls_beside parts ≡ flat_map calls_said (lines_in text)
