use Rattle.std.proofs.Common.{sym, subst}
use Rattle.modem_text.specs.Events.{ModemLog}
use Rattle.modem_one.specs.Desk.{AreOn}
use Rattle.modem_ports.specs.Ports.{IsPortPlayed}
use Rattle.modem_ports.proofs.Playing.{full_played}
use Rattle.modem_ports.proofs.ports.cut.Goals as goal

pub returns-clause-played : goal.returns-clause-played
returns-clause-played c first session scene full =
    let at = c.args.at in
    let left = c.stop-run.result.0 in
    let end = c.stop-run.result.1 in
    subst (λ (log : ModemLog). IsPortPlayed first.port session log left end) (sym c.into_log-log.ensures.log)
    (full_played first session at.station.port at.station.putter at.station.line at.desk left end scene full
    c.stop-run.ensures.journal (λ s of run. c.stop-run.ensures.played s of run))

pub returns-clause-own : goal.returns-clause-own
returns-clause-own c = subst (AreOn c.args.at.desk.number) (sym c.into_log-log.ensures.log) c.into_log-log.ensures.own
