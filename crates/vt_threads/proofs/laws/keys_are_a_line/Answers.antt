use Rattle.std.proofs.Common.{◌∷◌, []}
use Rattle.tty_base.specs.declared.lines.LineStep.TheVariants.{Trigger}
use Rattle.uart_line.specs.GoodSteps.{good_steps}
use Rattle.uart_line.specs.Received.{closed_script}
use Rattle.vt_account.specs.Keyed.{key_line}
use Rattle.vt_keyboard.proofs.Pressing.{does_more}
use Rattle.vt_threads.proofs.laws.keys_are_a_line.Goals as goal

pub returns : goal.returns
returns c keys l m k j e f g h begun took ended =
    does_more (key_line keys) (closed_script []) l k j e g h
    (does_more (Trigger 1 ∷ []) (good_steps keys) l m k e f g begun took) ended
