use Rattle.std.proofs.Common.{[], refl}
use Rattle.tty_calls.specs.Sessions.{scripts_over, names_of}
use Rattle.session_print.proofs.Naming.{scripts_lines, told_calls}
use Rattle.session_print.proofs.laws.each_call_has_its_line.Goals as goal

pub returns : goal.returns
returns c = record {
  all = λ p session. told_calls (names_of (scripts_over p session.phases)) [] (scripts_over p session.phases);
  lines = λ p session run all. scripts_lines p session run.journal.items all [] (scripts_over p session.phases) refl;
}
