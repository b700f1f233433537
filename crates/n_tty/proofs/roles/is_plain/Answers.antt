use Rattle.std.proofs.Common.{◌≤◌}
use Rattle.n_tty.proofs.roles.is_plain.Goals as goal

pub returns-then-is_printed : goal.returns-then-is_printed
returns-then-is_printed c = λ plain.
    let printed : (32 ≤ c.args.b) × (c.args.b ≤ 126) = c.is_printed.ensures.0 c.if-is_printed.true in
    c.leaves_printed.ensures plain c.args.b printed.0 printed.1
