use Rattle.vt_account.specs.Played.{HasPressed}
use Rattle.vt_account.proofs.board.press_all.Given as goal

abbrev pub invariant-loop-place : goal.invariant-loop-place
invariant-loop-place l = HasPressed l.seat l.first l.count l.place l.initial.board l.board
