use Rattle.std.proofs.Common.{◌≡◌, List, map, subst, arith}
use Rattle.tty_terminal.specs.declared.callers.CallerState.{CallerState}
use Rattle.tty_terminal.specs.Generations.{caller_after_hangup}
use Rattle.tty_terminal.proofs.CountLemmas.{hangup_changes_none}
use Rattle.tty_terminal.proofs.callers.Callers.hang_up.Goals as goal

pub returns-else-self-gt0 : goal.returns-else-self-gt0
returns-else-self-gt0 c =
    subst (λ (cs : List CallerState). cs ≡ map caller_after_hangup cs) c.self.view_is
    (hangup_changes_none c.self.inside.states.items (omega (arith, c.self.invariant.begun, c.if-self-gt0.false)))
