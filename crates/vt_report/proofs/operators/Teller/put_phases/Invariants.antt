use Rattle.std.proofs.Common.{drop, map, string_bytes}
use Rattle.vt_report.specs.Printing.{HasBlocks, blocks_in}
use Rattle.vt_report.proofs.operators.Teller.put_phases.Given as goal

abbrev pub invariant-loop-phase : goal.invariant-loop-phase
invariant-loop-phase l =
    HasBlocks l.self.names l.self.consoles (map (λ told. told.items) l.self.states.items) (string_bytes l.initial.text)
    l.initial.cursors.items (blocks_in l.phases)
    (string_bytes l.text) l.cursors.items (blocks_in (drop l.phase-index l.phases))
