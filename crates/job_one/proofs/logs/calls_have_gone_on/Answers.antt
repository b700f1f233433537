use Rattle.job_one.proofs.Gone.{gone_begins, gone_stays, gone_behind}
use Rattle.job_one.proofs.logs.calls_have_gone_on.Goals as goal

pub returns : goal.returns
returns c = record { begins = gone_begins; stays = gone_stays; behind = gone_behind }
