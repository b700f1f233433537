use Rattle.std.proofs.Common.{◌≡◌, [], map, replicate}
use Rattle.session_text.proofs.drafts.empty_lines.Given as goal

abbrev pub invariant-loop : goal.invariant-loop
invariant-loop l = map (λ steps. steps.items) l.lines.items ≡ replicate l.counter []
