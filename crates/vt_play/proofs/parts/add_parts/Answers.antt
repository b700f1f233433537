use Rattle.std.proofs.Common.{rules}
use Rattle.vt_play.proofs.Columns.{parts_more}
use Rattle.vt_play.proofs.parts.add_parts.Goals as goal

pub returns : goal.returns
returns c qs h = parts_more qs c.args.parted c.args.all.now _ h (search rules) (search rules) (search rules)
    (search rules) (search rules) (search rules) (search rules)
