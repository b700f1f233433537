-- A console between two phases.
use Rattle.std.specs.Prelude.{◌≡◌, ◌≤◌, ℕ, List, [], ◌++◌, length, sum}
use Rattle.tty_base.specs.Sizes.{MOST_ENTRIES}
use Rattle.tty_calls.specs.Limits.{character_count}
use Rattle.tty_calls.specs.Sessions.{counts_on}
use Rattle.legal_runs.specs.Legal.{script_of_first}
use Rattle.legal_runs.specs.Short.{after_phases}
use Rattle.play_base.specs.Roles.{Scene, AreFirstSteps, names_in}
use Rattle.play_base.specs.Putting.{HasPut}
use Rattle.play_base.specs.Phases.{HasFewTicks, IsPortOf}
use Rattle.play_base.specs.declared.stations.Station.{Station}
use Rattle.many_threads.specs.InPlay.{IsBeforePhase}
use Rattle.many_threads.specs.declared.shared_phase.PhaseEnd.{PhaseEnd}
use Rattle.many_threads.specs.declared.shared_phase.PhaseEnd.TheVariants.{Over, Full}
use Rattle.vt_consoles.specs.declared.entries.VtEntry.{VtEntry}
use Rattle.vt_text.specs.Sessions.{PlainVtSession}
use Rattle.vt_account.specs.Keyed.{keyed}
use Rattle.vt_threads.specs.declared.consoles.Console.{Console}

-- The journal is full, and the line has done the phases before phase k: its keys go on after its journal was full.
pub record IsFullBefore (s : Scene) (k : ℕ) (station : Station) : Type 0 where
  pub port_of : IsPortOf s station.port
  pub full : length station.port.journal ≡ MOST_ENTRIES
  pub ticks : HasFewTicks s station.port.journal
  pub last : after_phases (length s.session.phases) station.port.journal ≡ []
  pub has_put : HasPut station.port station.putter station.line (script_of_first s.port s.session k)
  pub most : character_count s.port s.session.phases ≤ station.line.most

-- the phases before phase k were played, or the journal is full
abbrev pub ConsoleStands : Scene → ℕ → Station → PhaseEnd → Type 0
ConsoleStands s k station (Over run) = IsBeforePhase s k station run
ConsoleStands s k station Full = IsFullBefore s k station

-- Console p before phase k, where the board has these entries: whatever entries follow, it stands so in the session
-- that the consoles then play.
abbrev pub StandsKeyed : (session : PlainVtSession) → (p k : ℕ) → (entries : List VtEntry) → Station → PhaseEnd → Type 0
StandsKeyed session p k entries station end =
    (more : List VtEntry) → ConsoleStands (record { port = p; session = keyed session (entries ++ more) }) k station end

pub record IsConsoleBefore (session : PlainVtSession) (p k : ℕ) (entries : List VtEntry) (c : Console) : Type 0 where
  pub names : c.names ≡ names_in (record { port = p; session = session.calls })
  pub callers : c.callers ≡ sum (counts_on p session.calls)
  pub steps : AreFirstSteps (record { port = p; session = session.calls }) k c.station.steps.items
  pub stands : StandsKeyed session p k entries c.station c.end
