use Rattle.order_laws.proofs.Owned.{one_more_on, same_on}
use Rattle.job_one.proofs.desks.add_event.Goals as goal
use Rattle.job_text.specs.Events.{logged_of}

pub returns-in-Ok-clause-own : goal.returns-in-Ok-clause-own
returns-in-Ok-clause-own c p is on =
    one_more_on logged_of p c.args.log.now.items c.push_event.new.log.items c.args.logged c.in-Ok.ensures.ok is on

pub returns-in-Err-clause-own : goal.returns-in-Err-clause-own
returns-in-Err-clause-own c p is on = same_on logged_of p c.args.log.now.items c.push_event.new.log.items
    c.in-Err.ensures.err on
