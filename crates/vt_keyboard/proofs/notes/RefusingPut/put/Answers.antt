use Rattle.std.proofs.Common.{◌+◌, sym}
use Rattle.std.proofs.lemmas.List.{length-replicate, replicate_more}
use Rattle.uart_line.specs.Received.{overrun_mark}
use Rattle.vt_keyboard.proofs.KeyLemmas.{stays_level}
use Rattle.vt_keyboard.proofs.notes.RefusingPut.put.Goals as goal

pub returns-clause-counted : goal.returns-clause-counted
returns-clause-counted c = sym (length-replicate c.args.self.now.full.sent overrun_mark)

pub returns-clause-one_more : goal.returns-clause-one_more
returns-clause-one_more c = sym (replicate_more c.args.self.now.refused c.args.self.now.full.seen)

pub returns-clause-rise : goal.returns-clause-rise
returns-clause-rise c = stays_level (c.args.self.now.refused + 1) c.args.self.now.full.seen
