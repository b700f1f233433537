use Rattle.std.proofs.Common.{◌≡◌, ◌++◌, drop, flat_map, string_bytes}
use Rattle.session_print.specs.Journals.{entry_line}
use Rattle.session_print.specs.Printing.{Fronts}
use Rattle.session_print.proofs.journals.put_each_entry.Given as goal

abbrev pub invariant-loop-place : goal.invariant-loop-place
invariant-loop-place l = record {
  so_far : string_bytes l.text ++ flat_map (entry_line l.names) (drop l.place l.journal.items)
      ≡ string_bytes l.initial.text ++ flat_map (entry_line l.names) l.journal.items;
  front : Fronts l.names l.front;
}
