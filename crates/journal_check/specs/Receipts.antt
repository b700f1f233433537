-- What a port's line comes to, phase by phase: for private functions alone.
use Rattle.std.specs.Prelude.{◌≡◌, ℕ, ◌+◌, ◌<◌, ◌≤◌, List, [], length, take, drop, slice_index}
use Rattle.tty_base.specs.Contents.{Contents}
use Rattle.tty_base.specs.declared.characters.Flagged.{Flagged}
use Rattle.tty_base.specs.declared.lines.Overrun.{Overrun}
use Rattle.tty_base.specs.Lines.{arrival_count}
use Rattle.tty_calls.specs.Sessions.{PlainSession}
use Rattle.tty_calls.specs.Limits.{character_count}
use Rattle.uart_line.specs.LineState.{LineState, HasDone}
use Rattle.uart_line.specs.Received.{received_list, lost_count}
use Rattle.journal_check.specs.declared.lines.Received.{Received}
use Rattle.legal_runs.specs.Legal.{script_of_first, script_on}
use Rattle.journal_check.specs.Accounts.{kept_from}

-- how many characters were received in the first phases, and how many of these are no overruns
abbrev pub received_count : ℕ → PlainSession → ℕ → ℕ
received_count p session phases = length (received_list (script_of_first p session phases))

abbrev pub kept_count : ℕ → PlainSession → List Overrun → ℕ → ℕ
kept_count p session overruns phases =
    length (kept_from 0 (received_list (script_of_first p session phases)) overruns).chars

pub record IsReceived (p : ℕ) (session : PlainSession) (overruns : List Overrun) (r : Received) : Type 0 where
  pub kept : r.kept.items ≡ (kept_from 0 (received_list (script_on p session)) overruns).chars
  pub many_ends : length r.ends.items ≡ length session.phases
  pub ends : (k : ℕ) → k < length session.phases → slice_index r.ends.items k ≡ received_count p session (k + 1)
  pub many_sents : length r.sents.items ≡ length session.phases
  pub sents : (k : ℕ) → k < length session.phases → slice_index r.sents.items k ≡ kept_count p session overruns (k + 1)
  pub arrived : r.arrived ≡ arrival_count (script_on p session)
  pub fifo_lost : r.fifo_lost ≡ lost_count (script_on p session)

-- what was done of the first phases: by the line, by the list of what it received, and by what was kept of that
pub record HasReceived (p : ℕ) (session : PlainSession) (overruns : List Overrun) (phases : ℕ) (line : LineState)
    (chars : Contents Flagged) (r : Received) (next : ℕ) : Type 0 where
  pub done : HasDone line (script_of_first p session phases)
  pub none : line.report.overruns.items ≡ []
  pub arrived : line.report.arrived ≡ character_count p (take phases session.phases)
  pub most : line.most ≡ character_count p session.phases
  pub spare : line.most ≤ chars.spare + line.handed
  pub chars_are : chars.items ≡ received_list (script_of_first p session phases)
  pub kept : r.kept.items ≡ (kept_from 0 (received_list (script_of_first p session phases)) overruns).chars
  pub within : next ≤ length overruns
  pub rest : drop next overruns ≡ (kept_from 0 (received_list (script_of_first p session phases)) overruns).overruns
  pub many_ends : length r.ends.items ≡ phases
  pub ends : (k : ℕ) → k < phases → slice_index r.ends.items k ≡ received_count p session (k + 1)
  pub many_sents : length r.sents.items ≡ phases
  pub sents : (k : ℕ) → k < phases → slice_index r.sents.items k ≡ kept_count p session overruns (k + 1)
