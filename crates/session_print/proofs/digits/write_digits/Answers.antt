use Rattle.std.proofs.Common.{◌-◌, ◌%◌, length, arith}
use Rattle.session_print.proofs.Pieces.{no_digits, first_of_digits}
use Rattle.session_print.proofs.digits.write_digits.Goals as goal

pub write_some-requires-clause-before : goal.write_some-requires-clause-before
write_some-requires-clause-before c = no_digits

pub write_some-requires-else-count-eq0-clause-before : goal.write_some-requires-else-count-eq0-clause-before
write_some-requires-else-count-eq0-clause-before c = no_digits

pub write_some-requires-else-count-eq0-2-clause-before : goal.write_some-requires-else-count-eq0-2-clause-before
write_some-requires-else-count-eq0-2-clause-before c =
    let bytes = c.args.bytes.now in
    let count = length bytes in
    first_of_digits bytes c.write_some-else-count-eq0.new.digits (count - 8) (count - count % 8) (omega arith)
    (omega arith) c.write_some-else-count-eq0.ensures
