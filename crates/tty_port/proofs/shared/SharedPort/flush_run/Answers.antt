use Rattle.std.proofs.Common.{rules, sym, subst, arith, sum}
use Rattle.tty_port.specs.Placed.{ArePlaced}
use Rattle.tty_port.specs.Shared.{name_of_port}
use Rattle.tty_port.proofs.CallSteps.{knows_same}
use Rattle.tty_port.proofs.FlushSteps.{flushes_run}
use Rattle.tty_port.proofs.Outcomes.{each_ok, on_err_only}
use Rattle.tty_port.proofs.shared.SharedPort.flush_run.Goals as goal

pub returns-clause-ok : goal.returns-clause-ok
returns-clause-ok g c =
    let name = name_of_port c.args.self.now in
    let s = c.args.seat.now in
    let old = c.hold.new.seat in
    let new = c.flush_held-result.new.seat in
    let t = c.release.new.seat in
    let stepped = c.hold.ensures.stepped in
    let steps = c.flush_held-result.ensures.references.steps in
    let last = c.release.ensures.word.steps in
    each_ok c.flush_held-result.result _ _
    (λ n h. flushes_run name c.args.run h.0 n s old new t
    (knows_same s old c.hold.ensures.turn c.hold.ensures.seat.number)
    (knows_same new t c.release.ensures.turn c.release.ensures.seat.number) c.release.ensures.word.word (omega arith)
    (search rules) h.1)
    c.flush_held-result.ensures.ok

pub returns-clause-err : goal.returns-clause-err
returns-clause-err g c =
    let name = name_of_port c.args.self.now in
    let s = c.args.seat.now in
    let old = c.hold.new.seat in
    let new = c.flush_held-result.new.seat in
    let t = c.release.new.seat in
    let stepped = c.hold.ensures.stepped in
    let steps = c.flush_held-result.ensures.references.steps in
    let last = c.release.ensures.word.steps in
    on_err_only c.flush_held-result.result _ _
    (λ h. (
      h.1,
      flushes_run name c.args.run h.0 h.1 s old new t (knows_same s old c.hold.ensures.turn c.hold.ensures.seat.number)
          (knows_same new t c.release.ensures.turn c.release.ensures.seat.number) c.release.ensures.word.word
          (omega arith) (search rules) h.2,
    ))
    c.flush_held-result.ensures.err

pub returns-clause-placed : goal.returns-clause-placed
returns-clause-placed g c =
    let name = name_of_port c.args.self.now in
    subst (ArePlaced name.callers (sum name.counts)) (sym c.release.ensures.turn.list)
    c.flush_held-result.ensures.placed
