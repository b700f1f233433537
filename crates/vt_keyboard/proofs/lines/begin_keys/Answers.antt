use Rattle.std.proofs.Common.{◌∷◌, [], arith}
use Rattle.tty_base.specs.declared.lines.LineStep.TheVariants.{Trigger}
use Rattle.vt_keyboard.specs.Keying.{DoesSteps}
use Rattle.vt_keyboard.proofs.Pressing.{begin_can}
use Rattle.vt_keyboard.proofs.lines.begin_keys.Goals as goal

pub returns : goal.returns
returns c =
    let does : DoesSteps (Trigger 1 ∷ []) c.args.line.now c.step.new.self c.args.end.now c.step.new.put = record {
      done = c.step.ensures.done;
      hands_over = c.step.ensures.hands_over;
      ring = c.names_tell_rings.ensures _ _ c.step.ensures.name;
      capacity = c.step.ensures.capacity;
      most = c.step.ensures.room;
      arrived = omega (arith, c.step.ensures.arrived);
      room = c.step.ensures.put;
      rise = c.step.ensures.rise;
    } in
    record {
      can = λ n room. begin_can c.args.line.now c.step.new.self c.args.end.now c.step.new.put n c.requires does room;
      does = does;
    }

pub step-requires-clause-room : goal.step-requires-clause-room
step-requires-clause-room c = omega (arith, c.requires.within)
