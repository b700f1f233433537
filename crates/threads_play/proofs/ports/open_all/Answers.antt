use Rattle.std.proofs.Common.{[], ◌∷◌, ◌+◌, length, ap, subst, sym, ◌∙◌, length-append}
use Rattle.tty_calls.specs.Sessions.{session_of}
use Rattle.threads_play.specs.PortsInPlay.{IsInPlay}
use Rattle.many_threads.proofs.Onward.{each_one_more}
use Rattle.threads_play.proofs.ports.open_all.Goals as goal

pub loop-number-preserved : goal.loop-number-preserved
loop-number-preserved c =
    let session = session_of c.args.session.now in
    let invariant = c.loop-number.invariant in
    let port = c.in_ok-open.field-0 in
    let now : IsInPlay (record { port = length c.loop-number.all.items; session = session }) 0 port =
    subst (λ n. IsInPlay (record { port = n; session = session }) 0 port) (sym invariant.count) c.in_ok-open.ensures in
    record {
      in_play = each_one_more (λ p. IsInPlay (record { port = p; session = session }) 0) c.push.new.self.items
          c.loop-number.all.items port c.in_ok-push.ensures.items invariant.in_play now;
      count =
          ap length c.in_ok-push.ensures.items
          ∙ (length-append c.loop-number.all.items (port ∷ []) ∙ ap (λ n. n + 1) invariant.count);
    }
