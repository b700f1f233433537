use Rattle.std.proofs.Common.{◌==◌, sym}
use Rattle.check_text.proofs.Parts.{after_found, after_none}
use Rattle.check_text.proofs.answers.after_equals.Goals as goal

pub returns-in-Some : goal.returns-in-Some
returns-in-Some c = after_found (λ byte. byte == 61) c.args.word.now c.in-Some.at (sym c.in-Some.ensures)

pub returns-in-None : goal.returns-in-None
returns-in-None c = after_none (λ byte. byte == 61) c.args.word.now (sym c.in-None.ensures)
