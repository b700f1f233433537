use Rattle.std.proofs.Common.{rules}
use Rattle.tty_embed.proofs.terminal.Tty.advance.Goals as goal

pub returns : goal.returns
returns c = search rules steps 300000
