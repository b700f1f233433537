use Rattle.std.proofs.Common.{Some, ap, sym, ◌∙◌}
use Rattle.tty_calls.specs.Sessions.{number_in, with_name}
use Rattle.tty_calls.proofs.Learning.{texts_of, name_more, number_more}
use Rattle.tty_calls.proofs.names.Names.learn.Goals as goal

pub returns-clause-number : goal.returns-clause-number
returns-clause-number c =
    let keys = c.self.inside.names.keys in
    let name = c.args.name.now in
    ap (λ ks. number_in (texts_of ks) name.bytes) c.in_ok-number.ensures.keys
    ∙ number_more keys name
    ∙ ap (λ n. Some n) (sym c.in_ok-number.ensures.index)

pub returns-clause-names : goal.returns-clause-names
returns-clause-names c =
    let keys = c.self.inside.names.keys in
    let name = c.args.name.now in
    ap texts_of c.in_ok-number.ensures.keys
    ∙ name_more keys name
    ∙ ap (λ names. with_name names name.bytes) c.self.view_is
