use Rattle.std.proofs.Common.{rules}
use Rattle.tty_calls.specs.Plain.{call_of}
use Rattle.port_core.specs.Attempts.{must_wait}
use Rattle.port_cell.specs.Word.{generation_in}
use Rattle.port_cell.specs.Knowledge.{last_word, step_count}
use Rattle.tty_port.specs.Going.{Turns}
use Rattle.tty_port.proofs.CallSteps.{knows_same, stepped_on, rests}
use Rattle.tty_port.proofs.Outcomes.{at_ok}
use Rattle.tty_port.proofs.shared.SharedPort.step_on.Goals as goal

pub returns-in-Ok-MustWait-clause-none : goal.returns-in-Ok-MustWait-clause-none
returns-in-Ok-MustWait-clause-none g c =
    let old = c.args.seat.now in
    let mid = c.attempt.new.seat in
    let call = call_of c.args.call.now in
    let steps = c.attempt.ensures.references.steps in
    let t : Turns c.args.caller c.args.step call (generation_in (last_word old)) old mid must_wait =
    at_ok c.attempt.result c.in-Ok-MustWait.field-0 _ _ c.in-Ok-MustWait.is
    c.in-Ok-MustWait.field-0-is c.attempt.ensures.tried in
    rests c.args.caller c.args.step call old mid _ (knows_same mid _ (search rules steps 1000000) (search rules steps 1000000))
    (stepped_on (step_count old) (step_count mid) _ steps (search rules steps 1000000)) t

pub returns-in-Err-clause-some : goal.returns-in-Err-clause-some
returns-in-Err-clause-some g c = tt

pub returns-in-Err-clause-generation : goal.returns-in-Err-clause-generation
returns-in-Err-clause-generation g c = tt

pub returns-in-Err-clause-same : goal.returns-in-Err-clause-same
returns-in-Err-clause-same g c = tt
