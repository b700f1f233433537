use Rattle.tty_one.specs.Reported.{IsInAnyOrder, IsOrdered}
use Rattle.tty_one.proofs.Answered.{answered_once}
use Rattle.tty_one.proofs.ReportedLines.{each_once}
use Rattle.tty_one.proofs.laws.each_call_has_one_line.Goals as goal

pub returns : goal.returns
returns c = record {
  answered = answered_once;
  in_any_order = each_once IsInAnyOrder c.each_call_has_its_line.ensures.lines;
  in_one_order = each_once IsOrdered c.each_call_has_its_line.ensures.lines;
}
