use Rattle.std.proofs.Common.{ap, arith}
use Rattle.line_store.specs.Unread.{end_count}
use Rattle.n_tty.proofs.StoringLemmas.{end_count-with_plain}
use Rattle.n_tty.proofs.storing.end_with_eof.Goals as goal

pub end_line-requires : goal.end_line-requires
end_line-requires c =
    omega (arith, ap end_count c.append.ensures, end_count-with_plain c.args.store.now c.bytes.result.now)
