use Rattle.std.proofs.Common.{◌∙◌, refl, sym, ap, get_or}
use Rattle.session_text.specs.declared.verbs.TheConstants.{VERBS, VERB_SLOTS}
use Rattle.session_text.specs.declared.verbs.Verb.TheVariants.{Session}
use Rattle.session_text.specs.Verbs.{verb_text}
use Rattle.session_text.proofs.VerbWords.{verb_hit, verb_missed}
use Rattle.session_text.proofs.verbs.verb_of.Goals as goal

pub returns-then-is_text : goal.returns-then-is_text
returns-then-is_text c =
    verb_hit c.args.version (verb_text c.verb_near-verb.result) c.args.word.now c.verb_near-verb.result
    c.in_version.result refl (sym c.is_text.ensures ∙ c.if-is_text.true) c.in_version.ensures

pub returns-else-is_text : goal.returns-else-is_text
returns-else-is_text c =
    verb_missed c.args.version (verb_text c.verb_near-verb.result) c.args.word.now c.verb_near-verb.result
    (c.verb_near-verb.ensures ∙ ap (λ s. get_or VERBS (get_or VERB_SLOTS s 0) Session) c.slot_of.ensures.value) refl
    (sym c.is_text.ensures ∙ c.if-is_text.false)
