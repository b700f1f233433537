use Rattle.std.proofs.Common.{length}
use Rattle.vt_play.proofs.operator_threads.+play_board.Given as goal

abbrev pub decreases-play_board : goal.decreases-play_board
decreases-play_board g l = length l.hand.seats.items
