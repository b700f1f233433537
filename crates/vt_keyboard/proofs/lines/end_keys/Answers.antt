use Rattle.std.proofs.Common.{arith}
use Rattle.vt_keyboard.proofs.lines.end_keys.Goals as goal

pub returns : goal.returns
returns c = record {
  done = c.run.ensures.done;
  hands_over = c.run.ensures.hands_over;
  ring = c.names_tell_rings.ensures _ _ c.run.ensures.name;
  capacity = c.run.ensures.capacity;
  most = c.run.ensures.room;
  arrived = omega (arith, c.run.ensures.arrived);
  room = c.run.ensures.put;
  rise = c.run.ensures.rise;
}
