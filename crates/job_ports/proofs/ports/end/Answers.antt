use Rattle.std.proofs.Common.{sym, subst}
use Rattle.job_text.specs.Events.{JobLog}
use Rattle.job_one.specs.Events.{AreOn}
use Rattle.job_ports.specs.Ports.{IsPortPlayed}
use Rattle.job_ports.proofs.Playing.{hung_up_played}
use Rattle.job_ports.proofs.ports.end.Goals as goal

pub returns-clause-played : goal.returns-clause-played
returns-clause-played c first session run scene ends =
    let at = c.args.at in
    let left = c.in_ok-run.run' in
    let end = c.in_ok-run.end in
    subst (λ (log : JobLog). IsPortPlayed first.port session log left end) (sym c.into_log-log.ensures.log)
    (hung_up_played first session at.station.port at.station.putter at.station.line
    run at.desk left end scene ends c.in_ok-run.ensures.journal
    (λ s at_end. c.in_ok-run.ensures.played s at_end) (λ s of phase seen. c.in_ok-run.ensures.in_order s of phase seen))

pub returns-clause-own : goal.returns-clause-own
returns-clause-own c = subst (AreOn c.args.at.desk.number) (sym c.into_log-log.ensures.log) c.into_log-log.ensures.own
