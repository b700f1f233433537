use Rattle.std.proofs.Common.{rules}
use Rattle.tty_modes.proofs.reading.set_word.Goals as goal

pub returns-clause-word : goal.returns-clause-word
returns-clause-word c = search rules steps 300000

pub returns-clause-read_back : goal.returns-clause-read_back
returns-clause-read_back c = search rules steps 300000

pub returns-clause-bad : goal.returns-clause-bad
returns-clause-bad c = search rules steps 300000

pub returns-clause-value : goal.returns-clause-value
returns-clause-value c = search rules steps 300000
