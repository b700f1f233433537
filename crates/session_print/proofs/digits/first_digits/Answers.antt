use Rattle.session_print.proofs.Pieces.{digits_are_text}
use Rattle.session_print.proofs.digits.first_digits.Goals as goal

pub from_utf8_unchecked-requires : goal.from_utf8_unchecked-requires
from_utf8_unchecked-requires c = rw c.requires.written (digits_are_text c.args.bytes.now)
