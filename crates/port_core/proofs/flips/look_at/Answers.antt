use Rattle.std.proofs.Common.{rules}
use Rattle.port_core.proofs.flips.look_at.Goals as goal

pub returns-then-line_is_over-clause-count : goal.returns-then-line_is_over-clause-count
returns-then-line_is_over-clause-count c = search rules steps 100000
