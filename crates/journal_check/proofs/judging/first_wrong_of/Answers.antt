use Rattle.std.proofs.Common.{take, arith}
use Rattle.std.proofs.lemmas.List.{length-take-le}
use Rattle.tty_calls.specs.Plain.{entry_of}
use Rattle.tty_calls.specs.Sessions.{session_of}
use Rattle.journal_check.proofs.JudgingLemmas.{ready, goes_through, is_wrong, none_wrong}
use Rattle.journal_check.proofs.judging.first_wrong_of.Goals as goal

pub judge-requires : goal.judge-requires
judge-requires c =
    ready c.args.port (session_of c.args.session.now) (take c.loop-place.place c.args.journal.now.items)
    c.loop-place.replay c.requires.formed
    (omega (
      arith,
      length-take-le c.loop-place.place c.args.journal.now.items
          (omega (arith, c.loop-place-test.true, c.len-place-end.ensures)),
      c.loop-place-test.true,
      c.len-place-end.ensures,
      c.requires.few,
    )) c.loop-place.invariant

pub returns-then-not-branch : goal.returns-then-not-branch
returns-then-not-branch c =
    is_wrong c.args.port (session_of c.args.session.now) c.args.journal.now.items c.loop-place.place
    (entry_of c.at-entry.result) c.loop-place.replay c.judge.new.replay c.in_ok-judge.field-0
    c.at-entry.ensures c.if-not-branch.true c.loop-place.invariant
    (c.in_ok-judge.ensures (take c.loop-place.place c.args.journal.now.items) c.loop-place.invariant)

pub loop-place-preserved : goal.loop-place-preserved
loop-place-preserved c =
    goes_through c.args.port (session_of c.args.session.now) c.args.journal.now.items c.loop-place.place
    (entry_of c.at-entry.result) c.loop-place.replay c.judge.new.replay c.in_ok-judge.field-0
    c.at-entry.ensures c.if-not-branch.false
    (c.in_ok-judge.ensures (take c.loop-place.place c.args.journal.now.items) c.loop-place.invariant)

pub returns : goal.returns
returns c = none_wrong c.args.port (session_of c.args.session.now) c.args.journal.now.items c.loop-place.place
    c.loop-place.replay (omega (arith, c.loop-place-test.false, c.len-place-end.ensures)) c.loop-place.invariant
