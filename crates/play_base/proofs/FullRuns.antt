-- A journal that became full in a phase.
use Rattle.std.proofs.Common.{◌≡◌, ℕ, ◌+◌, ◌<◌, ◌≤◌, List, [], ◌++◌, length, map, drop, sym, ◌∙◌, ap, subst}
use Rattle.tty_base.specs.Sizes.{MOST_ENTRIES}
use Rattle.tty_base.specs.declared.characters.Flagged.{Flagged}
use Rattle.tty_base.specs.declared.lines.Overrun.{Overrun}
use Rattle.word_ring.specs.Ends.{PutterState}
use Rattle.uart_line.specs.LineState.{LineState}
use Rattle.uart_line.specs.Received.{script}
use Rattle.tty_calls.specs.Plain.{PlainEntry}
use Rattle.tty_calls.specs.Sessions.{line_on, ticks_on, call_at, counts_on}
use Rattle.tty_terminal.specs.Runs.{Leads}
use Rattle.legal_runs.specs.Legal.{phase_at, script_of_first, session_events_in}
use Rattle.legal_runs.specs.Short.{after_phases}
use Rattle.port_core.specs.Ports.{PortValue}
use Rattle.play_base.specs.Roles.{Scene}
use Rattle.play_base.specs.Putting.{HasPut}
use Rattle.play_base.specs.Phases.{HasFewTicks, HavePlayed, IsFullRun}
use Rattle.play_base.proofs.JournalLemmas.{stops_within}
use Rattle.play_base.proofs.ReceivedLemmas.{script_parts}
use Rattle.play_base.proofs.PhaseLemmas.{few_ticks}

-- the journal is full in a phase whose line has done its steps
pub full_in_phase : (s : Scene) (k : ℕ) (old new : PortValue) (now : PutterState Flagged) (played : LineState)
    (overruns : List Overrun) (part : List PlainEntry)
    → k < length s.session.phases
    → HavePlayed s k old.journal overruns
    → length new.journal ≡ MOST_ENTRIES
    → new.journal ≡ old.journal ++ part
    → Leads (call_at s.port s.session) (counts_on s.port s.session) old.terminal part new.terminal
    → session_events_in part ≡ []
    → new.terminal.tick ≤ old.terminal.tick + ticks_on s.port (phase_at s.session k)
    → HasPut new now played (script_of_first s.port s.session (k + 1))
    → IsFullRun s new now played
full_in_phase s k old new now played overruns part within so_far full added leads inside ticks put = record {
  full = full;
  ticks = subst (HasFewTicks s) (sym added)
      (few_ticks s k old.journal part old.terminal new.terminal so_far.up_to so_far.ticks leads inside ticks);
  last =
      ap (after_phases (length s.session.phases)) added
      ∙ stops_within k (length s.session.phases) old.journal part so_far.up_to inside within;
  done = script_of_first s.port s.session (k + 1);
  left = script (map (line_on s.port) (drop (k + 1) s.session.phases));
  script_is = script_parts s.port s.session (k + 1);
  has_put = put;
}
