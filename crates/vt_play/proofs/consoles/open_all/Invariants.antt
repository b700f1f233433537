use Rattle.std.proofs.Common.{◌≡◌, [], length}
use Rattle.vt_text.specs.Sessions.{vt_session_of}
use Rattle.vt_play.specs.Parts.{AreConsolesBefore}
use Rattle.vt_play.proofs.consoles.open_all.Given as goal

abbrev pub invariant-loop-number : goal.invariant-loop-number
invariant-loop-number l = record {
  before : AreConsolesBefore (vt_session_of l.session) 0 [] l.all.items;
  count : length l.all.items ≡ l.number;
}
