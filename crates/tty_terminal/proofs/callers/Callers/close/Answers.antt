use Rattle.std.proofs.Common.{◌≡◌, List, map, subst, arith}
use Rattle.tty_terminal.specs.declared.callers.CallerState.{CallerState}
use Rattle.tty_terminal.specs.Generations.{caller_after_close}
use Rattle.tty_terminal.proofs.CountLemmas.{close_changes_none}
use Rattle.tty_terminal.proofs.callers.Callers.close.Goals as goal

pub returns-else-self-gt0 : goal.returns-else-self-gt0
returns-else-self-gt0 c =
    subst (λ (cs : List CallerState). cs ≡ map (caller_after_close c.args.h) cs) c.self.view_is
    (close_changes_none c.args.h c.self.inside.states.items
    (omega (arith, c.self.invariant.begun, c.if-self-gt0.false)))
