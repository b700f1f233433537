use Rattle.std.proofs.Common.{rules}
use Rattle.check_text.proofs.answers.words_after.Goals as goal

pub loop-expected-preserved : goal.loop-expected-preserved
loop-expected-preserved c = search rules steps 300000
