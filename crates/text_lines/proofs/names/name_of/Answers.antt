use Rattle.text_lines.proofs.Digits.{name_is_text}
use Rattle.text_lines.proofs.names.name_of.Goals as goal

pub unreachable-requires-in-Err : goal.unreachable-requires-in-Err
unreachable-requires-in-Err c = c.in-Err.ensures.cases.0 (name_is_text c.args.word.now c.requires)
