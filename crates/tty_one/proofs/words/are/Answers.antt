use Rattle.std.proofs.lemmas.Slice.Eq.{bytes_eq-Decides}
use Rattle.tty_one.proofs.WordLemmas.{texts_same}
use Rattle.tty_one.proofs.words.are.Goals as goal

pub returns : goal.returns
returns c = texts_same (λ a b. bytes_eq-Decides a.now b.now) c.eq.result c.args.words.now c.args.known.now c.eq.ensures
