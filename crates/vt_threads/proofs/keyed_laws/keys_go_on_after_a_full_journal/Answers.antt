use Rattle.vt_threads.proofs.FullConsoles.{full_at_end, full_next}
use Rattle.vt_threads.proofs.keyed_laws.keys_go_on_after_a_full_journal.Goals as goal

pub returns-clause-next : goal.returns-clause-next
returns-clause-next c session p k phase entries part more went station
    left within known at below goes each before_keys port does h =
    full_next session p k phase entries part more went station
    left within known at below goes each before_keys port does h

pub returns-clause-end : goal.returns-clause-end
returns-clause-end c s station h = full_at_end s station h
