use Rattle.std.proofs.Common.{drop, map, string_bytes}
use Rattle.vt_text.specs.Sessions.{operators_of}
use Rattle.vt_report.specs.Printing.{HasBlocks}
use Rattle.vt_report.proofs.operators.Teller.put_blocks.Given as goal

abbrev pub invariant-loop-operator : goal.invariant-loop-operator
invariant-loop-operator l =
    HasBlocks l.self.names l.self.consoles (map (λ told. told.items) l.self.states.items) (string_bytes l.initial.text)
    l.initial.cursors.items (operators_of l.operators)
    (string_bytes l.text) l.cursors.items (operators_of (drop l.operator-index l.operators))
