use Rattle.job_one.proofs.DeskEvents.{desk_sends, desk_hangs_up, desk_raises}
use Rattle.job_one.proofs.DeskEvents.{desk_answers, desk_stays, desk_begins, desk_passes}
use Rattle.job_one.proofs.desk_laws.desks_follow_their_ports.Goals as goal

pub returns : goal.returns
returns c =
    record {
      sends = desk_sends;
      hangs_up = desk_hangs_up;
      raises = desk_raises;
      answers = desk_answers;
      stays = desk_stays;
      begins = desk_begins;
      passes = desk_passes;
    }
