use Rattle.std.proofs.Common.{map}
use Rattle.further_report.specs.Printing.{bytes_of}
use Rattle.further_report.proofs.Noting.{logged_more}
use Rattle.further_report.proofs.answers.note_all.Goals as goal

pub loop-logged-preserved : goal.loop-logged-preserved
loop-logged-preserved g c =
    let log = c.args.log.now in
    let i = c.loop-logged.logged-index in
    logged_more g.E.Answering.told c.args.port log i c.logged-item.result c.loop-logged-test.true c.logged-item.is
    (map (λ texts. bytes_of texts.items) c.loop-logged.answers)
    (map (λ texts. bytes_of texts.items) c.note_on.new.answers) _ c.in_ok-note_on.ensures c.loop-logged.invariant
