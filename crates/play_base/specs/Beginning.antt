-- A port, the putting end of its flip buffer, and its line at the beginning of a phase.
use Rattle.std.specs.Prelude.{◌≡◌, ◌≤◌, ℕ, List, true, false, length}
use Rattle.tty_base.specs.Sizes.{LEAST_FLIP}
use Rattle.tty_base.specs.declared.characters.Flagged.{Flagged}
use Rattle.word_ring.specs.Ends.{PutterState}
use Rattle.uart_line.specs.LineState.{LineState}
use Rattle.tty_calls.specs.Plain.{PlainEntry}
use Rattle.tty_calls.specs.Limits.{character_count}
use Rattle.tty_terminal.specs.Steps.{nothing_to_flush}
use Rattle.legal_runs.specs.Legal.{script_of_first}
use Rattle.port_core.specs.Ports.{PortValue}
use Rattle.play_base.specs.Roles.{Scene}
use Rattle.play_base.specs.Scenes.{HasOneOrder, IsOfSceneIn, AreAtFirst, BeginsRun, place_of}
use Rattle.play_base.specs.Putting.{HasPut}

-- port, putter and line at the beginning of phase k
pub record IsAtPhaseIn (HasOrder : Scene → List PlainEntry → Type 0) (s : Scene) (k : ℕ) (v : PortValue)
    (putter : PutterState Flagged) (line : LineState) (run : ℕ) : Type 0 where
  pub of_scene : IsOfSceneIn HasOrder s v
  pub phase : v.terminal.phase ≡ k
  pub line_over : v.terminal.line_over ≡ false
  pub clock_over : v.terminal.clock_over ≡ false
  pub callers : AreAtFirst s k v.terminal
  pub begins_run : BeginsRun run v
  -- nothing is left to flush, and no cut of this phase was flushed
  pub rest : nothing_to_flush v.terminal ≡ true
  pub cuts : (place_of s v.journal).cuts ≡ 0
  pub some_room : LEAST_FLIP ≤ v.flip.capacity
  pub sent : v.terminal.sent ≡ length putter.sent
  pub has_put : HasPut v putter line (script_of_first s.port s.session k)
  pub most : character_count s.port s.session.phases ≤ line.most

abbrev pub IsAtPhase : Scene → (k : ℕ) → PortValue → PutterState Flagged → LineState → (run : ℕ) → Type 0
IsAtPhase s k v putter line run = IsAtPhaseIn HasOneOrder s k v putter line run
