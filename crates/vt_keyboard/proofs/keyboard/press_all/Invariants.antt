use Rattle.std.proofs.Common.{◌-◌, ◌≤◌, length, take}
use Rattle.vt_consoles.specs.Shared.{IsHere, name_of_board}
use Rattle.vt_keyboard.specs.Keying.{CanTakeAll, PressesKeys}
use Rattle.vt_keyboard.proofs.keyboard.press_all.Given as goal

abbrev pub invariant-loop-place : goal.invariant-loop-place
invariant-loop-place g l = record {
  within : l.place ≤ length l.keys;
  seat : IsHere l.board l.number l.seat;
  can : CanTakeAll (name_of_board l.board).consoles (length l.keys - l.place) l.keyed.lines.items l.keyed.ends.items;
  so_far : PressesKeys l.number l.first (take l.place l.keys) l.initial.seat l.seat l.initial.keyed.lines.items
      l.keyed.lines.items l.initial.keyed.ends.items l.keyed.ends.items;
}
