use Rattle.std.proofs.Common.{rules, ◌≡◌, None, sym, ◌∙◌, ap}
use Rattle.std.specs.Prelude.{slice_get}
use Rattle.std.proofs.lemmas.Option.{slice_get_within}
use Rattle.job_one.specs.Desk.{signals_of}
use Rattle.job_one.specs.Events.{new_sent_on}
use Rattle.job_one.proofs.Sending.{one_more, none_more}
use Rattle.job_one.proofs.desks.Desk.send_new.Goals as goal

pub send_on-requires : goal.send_on-requires
send_on-requires c =
    slice_get_within (signals_of c.args.port.now.terminal) c.loop-signal.self.sent c.in-Some.signal
    (sym c.next_signal.ensures ∙ c.in-Some.is)

pub loop-signal-preserved : goal.loop-signal-preserved
loop-signal-preserved c =
    ap (new_sent_on c.args.port.now) c.in_ok-send_on.ensures.ok
    ∙ (one_more c.args.port.now c.in-Some.signal c.loop-signal.self (sym c.next_signal.ensures ∙ c.in-Some.is)
    ∙ c.loop-signal.invariant)

pub returns-clause-ok : goal.returns-clause-ok
returns-clause-ok c =
    let none : slice_get (signals_of c.args.port.now.terminal) c.loop-signal.self.sent ≡ None = search rules in
    sym (none_more c.args.port.now c.loop-signal.self none) ∙ c.loop-signal.invariant
