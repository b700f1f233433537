use Rattle.std.proofs.Common.{◌∙◌, sym}
use Rattle.text_lines.proofs.HexPairs.{bytes_none}
use Rattle.text_lines.proofs.hexadecimal.bytes_of.Goals as goal

pub returns-else-is_hex : goal.returns-else-is_hex
returns-else-is_hex c = c.new.ensures.items ∙ bytes_none c.args.word.now (sym c.is_hex.ensures ∙ c.if-is_hex.false)
