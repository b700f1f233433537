use Rattle.std.proofs.Common.{sym}
use Rattle.session_text.specs.Views.{stand_of}
use Rattle.session_text.proofs.Fits.{judged_good}
use Rattle.session_text.proofs.reader.read_by.Goals as goal

pub take_item-requires-clause-good : goal.take_item-requires-clause-good
take_item-requires-clause-good c =
    judged_good (stand_of c.args.stand.now) c.args.word.now c.args.arguments.now c.in-Ok.verb (sym c.in-Ok.ensures)
