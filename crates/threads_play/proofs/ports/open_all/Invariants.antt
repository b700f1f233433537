use Rattle.std.proofs.Common.{◌≡◌, length}
use Rattle.tty_calls.specs.Sessions.{session_of}
use Rattle.threads_play.specs.PortsInPlay.{AreInPlay}
use Rattle.threads_play.proofs.ports.open_all.Given as goal

abbrev pub invariant-loop-number : goal.invariant-loop-number
invariant-loop-number l = record {
  in_play : AreInPlay (session_of l.session) 0 l.all.items;
  count : length l.all.items ≡ l.number;
}
