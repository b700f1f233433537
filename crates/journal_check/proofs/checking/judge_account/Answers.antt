use Rattle.tty_calls.specs.Sessions.{session_of}
use Rattle.journal_check.proofs.CheckLemmas.{finds_legal}
use Rattle.journal_check.proofs.checking.judge_account.Goals as goal

pub returns-then-branch : goal.returns-then-branch
returns-then-branch c = finds_legal c.args.port (session_of c.args.session.now) c.args.run.now c.requires.no_wrong
    (c.in_ok-is_accounted.ensures.0 c.if-branch.true)
