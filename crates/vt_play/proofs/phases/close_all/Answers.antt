use Rattle.std.proofs.Common.{Result, sym, subst}
use Rattle.std.specs.Prelude.{IfErr}
use Rattle.tty_calls.specs.declared.answers.Denied.{Denied}
use Rattle.vt_text.specs.Sessions.{vt_session_of}
use Rattle.vt_account.specs.InOrder.{IsBoardDenied}
use Rattle.vt_play.specs.Stages.{SomeDenied}
use Rattle.vt_play.proofs.phases.close_all.Goals as goal

pub returns-in-Err-clause-denied : goal.returns-in-Err-clause-denied
returns-in-Err-clause-denied c opening phase_of number =
    let leaves = c.requires.1 in
    let seats = c.args.back.seats.items in
    subst (IsBoardDenied (vt_session_of c.args.of.session.now)) (sym c.end_denied.ensures.same)
    (c.end_denied.ensures.denied opening phase_of number leaves.begun
    (λ phase at. subst (λ (r : Result (Unit {0}) Denied).
    IfErr r (SomeDenied c.args.shared c.args.of.names.now phase seats)) c.in-Err.is (leaves.denied phase at)))
