use Rattle.std.proofs.Common.{◌==◌, ◌∙◌, ap, drop, sym}
use Rattle.session_text.specs.declared.verbs.Verb.TheVariants.{Call}
use Rattle.session_text.specs.declared.verbs.CallVerb.{CallVerb}
use Rattle.session_text.specs.Kinds.{fault_from, word_fault}
use Rattle.session_text.proofs.ModeWords.{modes_fault}
use Rattle.session_text.proofs.kinds.call_fault_past_two.Goals as goal

pub returns-in-SetModes : goal.returns-in-SetModes
returns-in-SetModes c =
    let words = c.args.arguments.now in
    modes_fault c.args.ports words c.word_fault.result c.args.modes c.count.result c.requires c.count.ensures
    (c.word_fault.ensures ∙ ap (λ n. word_fault (c.args.modes == n)) c.saturating_sub.ensures)
    ∙ ap (λ (v : CallVerb). fault_from c.args.ports (Call v) 2 (drop 2 words)) (sym c.in-SetModes.is)
