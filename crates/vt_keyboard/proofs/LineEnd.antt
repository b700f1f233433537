-- The line of a console that did its keys has run as any line.
use Rattle.std.proofs.Common.{◌≡◌, List, [], ◌∷◌, Result, Ok, Err, sym, subst, arith}
use Rattle.std.specs.Prelude.{OnErr}
use Rattle.tty_base.specs.declared.characters.Flagged.{Flagged}
use Rattle.tty_base.specs.declared.lines.LineStep.{LineStep}
use Rattle.tty_base.specs.declared.lines.LineStep.TheVariants.{Idle, Unmask}
use Rattle.word_ring.specs.Ends.{PutterState}
use Rattle.uart_line.specs.LineState.{LineState}
use Rattle.uart_line.specs.Received.{closed_script}
use Rattle.uart_line.proofs.Steps.{arrival_count-append}
use Rattle.many_threads.specs.Parts.{RunsLine}
use Rattle.vt_keyboard.specs.Keying.{DoesSteps}

pub runs_of : (steps : List LineStep) (l m : LineState) (e f : PutterState Flagged)
    → DoesSteps (closed_script steps) l m e f
    → RunsLine steps l m e f
runs_of steps l m e f h = record {
  done = h.done;
  hands_over = h.hands_over;
  ring = h.ring;
  capacity = h.capacity;
  most = h.most;
  arrived = omega (arith, h.arrived, arrival_count-append steps (Unmask ∷ Idle 4 ∷ []));
  room = h.room;
  rise = h.rise;
}

-- where nothing came of the putter, the line ran with it as it is
pub runs_still : {A E : Type 0} (r : Result A E) (steps : List LineStep) (l m : LineState) (e f g : PutterState Flagged)
    → RunsLine steps l m e f
    → OnErr r (g ≡ f)
    → OnErr r (RunsLine steps l m e g)
runs_still (Ok x) steps l m e f g h same = tt
runs_still (Err d) steps l m e f g h same = subst (RunsLine steps l m e) (sym same) h
