use Rattle.std.proofs.Common.{rules, arith, ◌∷◌, [], sym, subst}
use Rattle.std.proofs.lemmas.Grind.{common_steps}
use Rattle.vt_consoles.specs.Shared.{name_of_board}
use Rattle.vt_text.specs.declared.sessions.OpCall.{OpCall}
use Rattle.vt_keyboard.specs.Operating.{AnswersCalls}
use Rattle.vt_keyboard.proofs.SeatLemmas.{told}
use Rattle.vt_keyboard.proofs.operators.call_one.Goals as goal

pub returns-in_ok-_active-in-State-clause-ok : goal.returns-in_ok-_active-in-State-clause-ok
returns-in_ok-_active-in-State-clause-ok g c =
    let name = name_of_board c.args.board.now in
    let n = c.args.number in
    subst (λ (call : OpCall). AnswersCalls name.consoles n (call ∷ []) c.args.seat.now c.state.new.seat)
    (sym c.in-State.is)
    (told name n c.in_ok-_active-in-State._active c.args.seat.now c.state.new.seat c.in_ok-_active-in-State.ensures.ok)

pub returns-in-Activate-clause-ok : goal.returns-in-Activate-clause-ok
returns-in-Activate-clause-ok g c = first_of (search rules steps 100000, grind (arith, common_steps) steps 100000)

pub returns-in-Activate-clause-accepted : goal.returns-in-Activate-clause-accepted
returns-in-Activate-clause-accepted g c = first_of (search rules steps 100000, grind (arith, common_steps) steps 100000)
