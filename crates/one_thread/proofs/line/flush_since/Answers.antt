use Rattle.std.proofs.Common.{rules, refl, arith}
use Rattle.one_thread.proofs.line.flush_since.Goals as goal

pub returns-then-put-eq0-clause-ok : goal.returns-then-put-eq0-clause-ok
returns-then-put-eq0-clause-ok c = record { none = λ le. (refl, refl, refl); some = λ lt. absurd (omega (arith, lt)) }

pub returns-clause-ok : goal.returns-clause-ok
returns-clause-ok c = search rules steps 300000
