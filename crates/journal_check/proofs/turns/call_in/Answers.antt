use Rattle.std.proofs.Common.{◌≡◌, Some, rules}
use Rattle.tty_calls.specs.Plain.{call_of}
use Rattle.tty_calls.specs.Sessions.{session_of}
use Rattle.legal_runs.specs.Legal.{name_at}
use Rattle.journal_check.proofs.TurnLemmas.{step_there, call_there}
use Rattle.journal_check.proofs.turns.call_in.Goals as goal

pub call_from-requires : goal.call_from-requires
call_from-requires c =
    let named : name_at c.args.port (session_of c.args.session.now) c.args.caller ≡ Some c.in-Some.name.now =
    search rules in
    step_there c.args.port (session_of c.args.session.now) c.args.phase
    c.args.caller c.args.turn c.args.step c.in-Some.name.now _
    c.requires.open named c.scripts_of-scripts.ensures c.requires.first c.requires.within

pub returns : goal.returns
returns c =
    let named : name_at c.args.port (session_of c.args.session.now) c.args.caller ≡ Some c.in-Some.name.now =
    search rules in
    call_there c.args.port (session_of c.args.session.now) c.args.phase c.args.caller c.args.turn c.args.step
    c.in-Some.name.now _ (call_of c.call_from.result)
    c.requires.phase c.requires.open named c.scripts_of-scripts.ensures c.call_from.ensures c.requires.first
