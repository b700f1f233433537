use Rattle.std.proofs.Common.{rules}
use Rattle.n_tty.proofs.discipline.NTty.has_room.Goals as goal

pub returns-then-unread-most : goal.returns-then-unread-most
returns-then-unread-most c = search rules steps 100000
