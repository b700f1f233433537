use Rattle.std.proofs.Common.{length, ap, arith}
use Rattle.line_store.specs.Unread.{bytes_of, end_count}
use Rattle.n_tty.proofs.StoringLemmas.{length-bytes_of-plain, end_count-with_plain, end_count-byte}
use Rattle.n_tty.proofs.storing.end_with.Goals as goal

pub push-requires : goal.push-requires
push-requires c =
    omega (
      arith,
      ap (λ items. length (bytes_of items)) c.append.ensures,
      length-bytes_of-plain c.args.store.now c.bytes.result.now,
      ap length c.bytes.ensures.bytes,
    )

pub end_line-requires : goal.end_line-requires
end_line-requires c =
    omega (
      arith,
      ap end_count c.push.ensures,
      end_count-byte c.append.new.self c.args.delimiter,
      ap end_count c.append.ensures,
      end_count-with_plain c.args.store.now c.bytes.result.now,
    )
