-- How far the playing of a port on threads has come, phase by phase.
use Rattle.std.specs.Prelude.{◌≡◌, ℕ, length}
use Rattle.play_base.specs.Roles.{Scene, AreFirstSteps}
use Rattle.play_base.specs.Phases.{HavePlayed, IsPortOf, IsFullRun}
use Rattle.play_base.specs.declared.stations.Station.{Station}
use Rattle.many_threads.specs.PhaseStarts.{IsAtPhase}
use Rattle.many_threads.specs.declared.shared_phase.PhaseEnd.{PhaseEnd}
use Rattle.many_threads.specs.declared.shared_phase.PhaseEnd.TheVariants.{Over, Full}

-- a port, the putting end of its flip buffer, its line, and the next steps of its callers at the beginning of phase k
pub record IsBeforePhase (s : Scene) (k : ℕ) (station : Station) (run : ℕ) : Type 0 where
  pub at_phase : IsAtPhase s k station.port station.putter station.line run
  pub steps : AreFirstSteps s k station.steps.items
  pub played : HavePlayed s k station.port.journal station.line.report.overruns.items

-- the phases before phase k were played, or the journal is full
abbrev pub WerePlayedBefore : Scene → ℕ → Station → PhaseEnd → Type 0
WerePlayedBefore s k station (Over run) = IsBeforePhase s k station run
WerePlayedBefore s k station Full = IsPortOf s station.port × IsFullRun s station.port station.putter station.line

-- what a port is like that can be hung up, or is full
abbrev pub CanEnd : Station → PhaseEnd → Type 0
CanEnd station (Over run) =
    (station.port.terminal.phase ≡ length station.port.counts)
    × (station.putter.ring ≡ station.port.flip.ring)
    × (station.port.terminal.sent ≡ length station.putter.sent)
CanEnd station Full = station.putter.ring ≡ station.port.flip.ring
