use Rattle.std.proofs.Common.{◌∙◌, ap, subst, sym}
use Rattle.calls_left.specs.declared.remaining.Cursor.{Cursor}
use Rattle.calls_left.specs.Remaining.{IsMarked, calls_from}
use Rattle.calls_left.proofs.Mixed.{steps_on, stays_marked}
use Rattle.calls_left.proofs.remaining.Cursor.passed.Goals as goal

pub returns : goal.returns
returns g c =
    let scripts = c.args.scripts.now in
    let placed = c.args.placed.now in
    record {
      calls =
          ap (calls_from scripts placed) c.step.ensures
          ∙ steps_on scripts placed c.args.self c.plain_count.result c.own.result c.requires c.plain_count.ensures
          c.own.ensures.call c.own.ensures.within;
      marked =
          subst IsMarked (sym c.step.ensures) (stays_marked c.plain_count.result c.own.result c.args.self c.requires);
    }
