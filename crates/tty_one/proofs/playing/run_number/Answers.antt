use Rattle.std.proofs.Common.{sym, subst}
use Rattle.std.specs.Prelude.{IfOk}
use Rattle.tty_calls.specs.Sessions.{PlainSession}
use Rattle.tty_calls.specs.Limits.{IsWithinLimits}
use Rattle.session_gen.proofs.Within.{generated_within}
use Rattle.tty_one.specs.declared.playing.Telling.TheVariants.{Summary}
use Rattle.tty_one.specs.Reported.{IsOrdered}
use Rattle.tty_one.specs.Works.{IsSessionWork, IsNeverFull}
use Rattle.tty_one.proofs.Numbered.{number_ends, number_room}
use Rattle.tty_one.proofs.playing.run_number.Goals as goal

pub run_session-requires : goal.run_session-requires
run_session-requires c = (
  subst IsWithinLimits (sym c.in_ok-session.ensures.session) (generated_within c.args.number),
  subst IsNeverFull (sym c.in_ok-session.ensures.session) (number_room c.args.number),
)

pub returns : goal.returns
returns c =
    let played = subst (λ (session : PlainSession). IfOk c.run_session.result
    (λ work. IsSessionWork IsOrdered (Summary c.args.number) session work.ending work.runs.items))
    c.in_ok-session.ensures.session c.run_session.ensures.played in
    record {
      played = played;
      can = number_ends c.args.number c.run_session.result played;
      own = c.run_session.ensures.own;
    }
