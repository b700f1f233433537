use Rattle.journal_check.proofs.AccountLemmas.{rest_is}
use Rattle.journal_check.proofs.characters.rest_after.Goals as goal

pub returns : goal.returns
returns c = rest_is c.args.list.now c.args.front.now (c.are_same.ensures.0 c.if-not-are_same.false)
