use Rattle.vt_keyboard.proofs.KeyLemmas.{stays_level}
use Rattle.vt_keyboard.proofs.notes.AcceptingPut.push.Goals as goal

pub returns-clause-rise : goal.returns-clause-rise
returns-clause-rise c = stays_level c.args.self.now.refused 0
