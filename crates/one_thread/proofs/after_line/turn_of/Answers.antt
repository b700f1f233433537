use Rattle.std.proofs.Common.{rules}
use Rattle.one_thread.proofs.after_line.turn_of.Goals as goal

pub returns-then-not-has_nothing_to_flush : goal.returns-then-not-has_nothing_to_flush
returns-then-not-has_nothing_to_flush c = search rules steps 100000

pub returns-in-Some-first_to_wait : goal.returns-in-Some-first_to_wait
returns-in-Some-first_to_wait c = search rules steps 100000
