use Rattle.std.proofs.Common.{◌*◌, ◌-◌}
use Rattle.session_gen.specs.Generated.{reading_phase}
use Rattle.session_gen.proofs.phases.later_phase.Goals as goal

pub returns-clause-phase : goal.returns-clause-phase
unfolding reading_phase
returns-clause-phase c = λ i. record {
  lines = c.in_ok-draw_lines.ensures.lines c.args.number (16000 * (c.args.phase - 1)) c.requires.drawn i;
  ticks = c.in_ok-no_ticks.ensures i;
  callers = c.in_ok-readers.ensures i;
}
