use Rattle.std.proofs.Common.{◌≡◌, length}
use Rattle.tty_calls.specs.Sessions.{session_of}
use Rattle.threads_play.specs.PortsInPlay.{AreInPlay}
use Rattle.threads_play.proofs.session.play.Given as goal

abbrev pub invariant-loop-k : goal.invariant-loop-k
invariant-loop-k g l = record {
  in_play : AreInPlay (session_of l.session) l.k l.ports.items;
  all : length l.ports.items ≡ (session_of l.session).ports;
}
