use Rattle.std.proofs.Common.{rules}
use Rattle.line_store.proofs.store.shorten_first.Goals as goal

pub returns-then-count-first : goal.returns-then-count-first
returns-then-count-first c = search rules steps 300000
