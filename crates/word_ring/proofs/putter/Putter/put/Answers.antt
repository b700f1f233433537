use Rattle.std.proofs.Common.{rules}
use Rattle.word_ring.proofs.putter.Putter.put.Goals as goal

pub returns-then-sent-seen-clause-exact : goal.returns-then-sent-seen-clause-exact
returns-then-sent-seen-clause-exact c = search rules steps 300000

pub put_known-requires-clause-room : goal.put_known-requires-clause-room
put_known-requires-clause-room c = search rules steps 300000

pub returns-clause-ok : goal.returns-clause-ok
returns-clause-ok c = search rules steps 300000

pub returns-clause-exact : goal.returns-clause-exact
returns-clause-exact c = search rules steps 300000
