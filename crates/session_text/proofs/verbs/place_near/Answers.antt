use Rattle.session_text.proofs.VerbWords.{places_small}
use Rattle.session_text.proofs.verbs.place_near.Goals as goal

pub returns-clause-small : goal.returns-clause-small
returns-clause-small c = places_small c.args.slot
