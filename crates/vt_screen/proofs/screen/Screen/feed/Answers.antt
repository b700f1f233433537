use Rattle.vt_screen.proofs.PaperLemmas.{fed}
use Rattle.vt_screen.proofs.screen.Screen.feed.Goals as goal

pub returns : goal.returns
returns c = λ text was. fed text c.args.b c.args.self.now c.print.new.self was c.print.ensures
