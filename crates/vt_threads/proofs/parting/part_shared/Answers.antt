use Rattle.many_threads.proofs.Onward.{at_ok}
use Rattle.vt_threads.specs.Halves.{IsShut}
use Rattle.vt_threads.specs.declared.console_phase.Shut.{Shut}
use Rattle.vt_threads.proofs.PartedMade.{parted_shared}
use Rattle.vt_threads.proofs.parting.part_shared.Goals as goal

pub returns-clause-shared : goal.returns-clause-shared
returns-clause-shared c =
    let old = c.args.station in
    let shut : Shut = c.in_ok-casting.shut in
    parted_shared old c.args.casting.callers c.args.ticks c.args.run shut c.dealt_out.result
    (at_ok c.share_console-shut.result shut
    (λ (r : Shut). IsShut old c.args.casting.callers r.shared r.dealt r.line r.putter) c.in_ok-casting.ensures.made
    c.share_console-shut.ensures.shut) c.dealt_out.ensures.dealt
