use Rattle.std.proofs.Common.{[], ◌∷◌, ◌+◌, ℕ, length, ap, subst, sym, ◌∙◌, length-append}
use Rattle.many_threads.proofs.Onward.{each_one_more}
use Rattle.vt_text.specs.Sessions.{vt_session_of}
use Rattle.vt_threads.specs.Between.{IsConsoleBefore}
use Rattle.vt_play.proofs.consoles.open_all.Goals as goal

pub loop-number-preserved : goal.loop-number-preserved
loop-number-preserved c =
    let vt = vt_session_of c.args.session.now in
    let invariant = c.loop-number.invariant in
    let console = c.in_ok-open_first.field-0 in
    let now : IsConsoleBefore vt (length c.loop-number.all.items) 0 [] console =
    subst (λ (n : ℕ). IsConsoleBefore vt n 0 [] console) (sym invariant.count) c.in_ok-open_first.ensures in
    record {
      before = each_one_more (λ p. IsConsoleBefore vt p 0 []) c.push.new.self.items c.loop-number.all.items
          console c.in_ok-push.ensures.items invariant.before now;
      count =
          ap length c.in_ok-push.ensures.items
          ∙ (length-append c.loop-number.all.items (console ∷ []) ∙ ap (λ n. n + 1) invariant.count);
    }
