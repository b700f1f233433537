use Rattle.std.proofs.Common.{rules}
use Rattle.vt_one.proofs.playing.play_consoles.Goals as goal

pub returns-in-Err-clause-denied : goal.returns-in-Err-clause-denied
returns-in-Err-clause-denied c = search rules steps 100000
