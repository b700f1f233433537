use Rattle.std.proofs.Common.{◌≡◌, map, drop}
use Rattle.check_text.specs.Building.{rows_after, scripts_for}
use Rattle.check_text.proofs.callers.add_scripts.Given as goal

abbrev pub invariant-loop-script : goal.invariant-loop-script
invariant-loop-script l =
    rows_after l.names (map (λ row. row.items) l.rows) (scripts_for l.port (drop l.script-index l.scripts))
    ≡ rows_after l.names (map (λ row. row.items) l.initial.rows) (scripts_for l.port l.scripts)
