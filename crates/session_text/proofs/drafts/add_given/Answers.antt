use Rattle.std.proofs.Common.{◌≡◌, arith, length}
use Rattle.tty_calls.specs.Plain.{call_of}
use Rattle.session_text.specs.Meaning.{call_in}
use Rattle.session_text.proofs.Lists.{call_written}
use Rattle.session_text.proofs.drafts.add_given.Goals as goal

pub returns : goal.returns
returns c =
    let same : c.args.callers.now.len ≡ length c.add_call.new.callers =
    omega (arith, c.add_call.auto.callers, c.deref_mut.ensures.len) in
    call_written c.add_call.result c.args.callers.now.len c.args.callers.now.items c.deref_mut.result.now
    c.add_call.new.callers (call_of c.call_of-call.result) (call_in c.args.verb c.args.arguments.now)
    same c.deref_mut.ensures.value c.call_of-call.ensures
    c.add_call.ensures
