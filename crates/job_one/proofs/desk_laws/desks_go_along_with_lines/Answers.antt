use Rattle.job_one.proofs.Along.{flush_sends, flush_stops, meeting_sends, line_end_sends}
use Rattle.job_one.proofs.desk_laws.desks_go_along_with_lines.Goals as goal

pub returns : goal.returns
returns c =
    record { flush = flush_sends; stops = flush_stops; meets = meeting_sends; ends = line_end_sends }
