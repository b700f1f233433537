use Rattle.std.proofs.Common.{◌≡◌, ◌≢◌, ℕ, Option, Some, None, List, IfOk, OnErr, IfSome, refl, sym, ap, ◌∙◌}
use Rattle.std.specs.Option.{ok_or}
use Rattle.tty_modes.specs.declared.words.Word.{Word}
use Rattle.tty_modes.specs.declared.reading.BadWord.{BadWord}
use Rattle.tty_modes.specs.Reading.{word_of}
use Rattle.tty_modes.specs.Word.{IsModeWord, word_text}
use Rattle.tty_modes.proofs.WordTexts.{word_of-word_text, word_of-spelled}
use Rattle.tty_modes.proofs.reading.set_word_bytes.Goals as goal

spelled_if_ok : (text : List ℕ) (o : Option Word) (e : BadWord)
    → IfSome o (λ w. IsModeWord w × (word_text w ≡ text))
    → IfOk (ok_or o e) (λ w. IsModeWord w × (word_text w ≡ text))
spelled_if_ok text None e found = tt
spelled_if_ok text (Some w) e found = found

-- the word of a text that a word spells
found : (text : List ℕ) (w : Word) → IsModeWord w → word_text w ≡ text → word_of text ≡ Some w
found text w is spelled = ap word_of (sym spelled) ∙ word_of-word_text w is

bad_if_none : (text : List ℕ) (o : Option Word) (e : BadWord)
    → word_of text ≡ o
    → OnErr (ok_or o e) ((w : Word) → IsModeWord w → word_text w ≢ text)
bad_if_none text (Some v) e none = tt
bad_if_none text None e none = λ w is spelled. let some : word_of text ≡ Some w = found text w is spelled in cc

pub returns-clause-word : goal.returns-clause-word
returns-clause-word c =
    rw (c.ok_or.ensures.value, c.read_word.ensures)
    (spelled_if_ok c.args.bytes.now (word_of c.args.bytes.now) _ (word_of-spelled c.args.bytes.now))

pub returns-clause-read_back : goal.returns-clause-read_back
returns-clause-read_back c = λ w is spelled.
    c.ok_or.ensures.value ∙ ap (λ o. ok_or o record {}) (c.read_word.ensures ∙ found c.args.bytes.now w is spelled)

pub returns-clause-bad : goal.returns-clause-bad
returns-clause-bad c =
    rw (c.ok_or.ensures.value, c.read_word.ensures) (bad_if_none c.args.bytes.now (word_of c.args.bytes.now) _ refl)
