use Rattle.one_thread.proofs.AfterLine.{nothing_left, may_end_of, plays_end}
use Rattle.one_thread.proofs.Trying.{adds_by}
use Rattle.one_thread.proofs.after_line.end_phase.Goals as goal

pub phase_end-requires-clause-may : goal.phase_end-requires-clause-may
phase_end-requires-clause-may c =
    let h = c.requires.turn in
    may_end_of h.scene h.scripts c.args.roles.now c.args.port.now c.args.stand h.plays
    (nothing_left c.args.port.now c.args.roles.now c.args.stand.going h.possible)

pub returns-clause-ok : goal.returns-clause-ok
returns-clause-ok c = plays_end c.args.roles.now c.args.port.now c.phase_end.new.self c.args.putter.now
    c.phase_end.new.putter c.args.stand c.rest.result c.in_ok-phase_end.ensures.ok c.rest.ensures

pub returns-clause-adds : goal.returns-clause-adds
returns-clause-adds c = adds_by c.args.port.now c.phase_end.new.self _ _ c.in_ok-phase_end.ensures.ok.appends
