use Rattle.std.proofs.Common.{◌≡◌, sym, subst}
use Rattle.session_text.specs.declared.verbs.Verb.{Verb}
use Rattle.session_text.specs.Stands.{has_stood}
use Rattle.session_text.specs.Views.{stand_of}
use Rattle.session_text.proofs.Lists.{key_found}
use Rattle.session_text.proofs.stands.Stand.has_stood.Goals as goal

pub returns-in-Caller : goal.returns-in-Caller
returns-in-Caller c =
    subst (λ (v : Verb). c.has_key.result ≡ has_stood (stand_of c.args.self.now) v c.args.arguments.now)
    (sym c.in-Caller.is)
    (key_found c.has_key.result c.args.self.now.callers.items c.as_slice-in-Caller.result.now c.first-name.result.now
    _ c.second_number.result _ c.has_key.ensures
    c.as_slice-in-Caller.ensures c.first-name.ensures c.second_number.ensures)
