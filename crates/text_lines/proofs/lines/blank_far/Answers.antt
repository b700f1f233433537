use Rattle.std.proofs.Common.{arith, sym, ◌∙◌}
use Rattle.text_lines.specs.Lines.{is_blank}
use Rattle.text_lines.proofs.Finds.{first_later, no_blank}
use Rattle.text_lines.proofs.lines.blank_far.Goals as goal

pub loop-rest-preserved : goal.loop-rest-preserved
loop-rest-preserved c = record {
  all = omega (arith, c.loop-rest.invariant.all, c.split_at.ensures.back_len);
  first = first_later is_blank c.args.line.now c.loop-rest.rest.now _ _ c.loop-rest.passed c.split_at.ensures.front
      c.split_at.ensures.back (omega arith)
      (no_blank c.split_at.result.0.now (sym c.has_low.ensures ∙ c.if-has_low.false)) c.loop-rest.invariant.first;
}
