use Rattle.tty_modes.proofs.WordTexts.{word_of-word_text, word_text-distinct, word_of-spelled}
use Rattle.tty_modes.proofs.reading.words_are_their_texts.Goals as goal

pub returns-clause-read_back : goal.returns-clause-read_back
returns-clause-read_back c = word_of-word_text

pub returns-clause-spelled : goal.returns-clause-spelled
returns-clause-spelled c = word_of-spelled

pub returns-clause-distinct : goal.returns-clause-distinct
returns-clause-distinct c = word_text-distinct
