use Rattle.std.proofs.Common.{◌≡◌, ◌+◌, ◌++◌, vec_len}
use Rattle.port_cell.specs.Views.{total, installs_of}
use Rattle.port_cell.specs.Seats.{IsFree, EachSeat}
use Rattle.port_cell.specs.Joining.{PartOf}
use Rattle.port_cell.proofs.cell.Cell.gather.Given as goal

abbrev pub invariant-loop-other : goal.invariant-loop-other
invariant-loop-other g l = record {
  done : IsFree l.self.table.shared.table_id l.last;
  seats : EachSeat (IsFree l.self.table.shared.table_id) l.seats.items;
  first : PartOf l.last.me.0 l.fn.last;
  installs : installs_of l.last.me.0 + total (λ s. installs_of s.me.0) l.seats.items
      ≡ installs_of l.fn.last.me.0 + total (λ s. installs_of s.me.0) l.fn.seats.items;
  parts : (taken : _) × (l.fn.seats.items ≡ l.seats.items ++ taken) × EachSeat (PartOf l.last.me.0) taken;
}

abbrev pub decreases-loop-other : goal.decreases-loop-other
decreases-loop-other g l = vec_len l.seats
