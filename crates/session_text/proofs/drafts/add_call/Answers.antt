use Rattle.tty_calls.specs.Plain.{call_of}
use Rattle.session_text.proofs.Lists.{call_pushed}
use Rattle.session_text.proofs.drafts.add_call.Goals as goal

pub returns-in_ok-add : goal.returns-in_ok-add
returns-in_ok-add c =
    call_pushed (call_of c.args.call.now) c.args.callers.now c.index-callers-count.result
    c.add.new.self c.if-count-gt0.true c.in_ok-add.ensures.ok
