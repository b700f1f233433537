-- The ports of a session on threads between two phases.
use Rattle.std.specs.Prelude.{◌≡◌, ℕ, List, Some, sum, slice_get}
use Rattle.tty_calls.specs.Sessions.{PlainSession, counts_on}
use Rattle.play_base.specs.Roles.{Scene, names_in}
use Rattle.many_threads.specs.InPlay.{WerePlayedBefore}
use Rattle.threads_play.specs.declared.ports.PortInPlay.{PortInPlay}

pub record IsInPlay (s : Scene) (k : ℕ) (p : PortInPlay) : Type 0 where
  pub number : p.number ≡ s.port
  pub names : p.names ≡ names_in s
  pub callers : p.callers ≡ sum (counts_on s.port s.session)
  pub stands : WerePlayedBefore s k p.station p.end

-- each of these ports, which begin with port 0
abbrev pub AreInPlay : PlainSession → ℕ → List PortInPlay → Type 0
AreInPlay session k ports =
    (p : ℕ) (port : PortInPlay)
    → slice_get ports p ≡ Some port
    → IsInPlay (record { port = p; session = session }) k port
