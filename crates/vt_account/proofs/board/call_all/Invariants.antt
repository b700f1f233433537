use Rattle.vt_account.specs.Played.{HasCalled}
use Rattle.vt_account.proofs.board.call_all.Given as goal

abbrev pub invariant-loop-call : goal.invariant-loop-call
invariant-loop-call l = HasCalled l.seat l.calls l.call-index l.initial.board l.board
