use Rattle.std.proofs.Common.{◌∙◌, ap, sym, [], get_or}
use Rattle.std.proofs.lemmas.Option.{unwrap_or-slice_get}
use Rattle.session_print.specs.Journals.{who_text}
use Rattle.session_print.proofs.Pieces.{pointed}
use Rattle.session_print.proofs.fronts.who_of.Goals as goal

pub returns-in-Caller : goal.returns-in-Caller
returns-in-Caller c =
    pointed c.name.result _ c.unwrap_or.result _ c.unwrap_or.ensures c.name.ensures
    ∙ unwrap_or-slice_get c.args.names.now c.from.result []
    ∙ ap (λ n. get_or c.args.names.now n []) c.from.ensures
    ∙ ap (who_text c.args.names.now) (sym c.in-Caller.is)
