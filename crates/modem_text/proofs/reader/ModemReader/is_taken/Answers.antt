use Rattle.std.proofs.Common.{rules}
use Rattle.modem_text.proofs.reader.ModemReader.is_taken.Goals as goal

pub returns-then-is_in_phase : goal.returns-then-is_in_phase
returns-then-is_in_phase c = search rules steps 100000
