use Rattle.std.proofs.Common.{◌≡◌, take}
use Rattle.vt_screen.specs.Paper.{screen_of}
use Rattle.vt_print.proofs.rows.screen_of.Given as goal

abbrev pub invariant-loop-b : goal.invariant-loop-b
invariant-loop-b l = l.screen ≡ screen_of (take l.b-index l.text)
