use Rattle.std.proofs.Common.{ap, ◌∙◌}
use Rattle.tty_calls.specs.Sessions.{number_in}
use Rattle.tty_calls.proofs.Learning.{number_is}
use Rattle.tty_calls.proofs.names.Names.number.Goals as goal

pub returns : goal.returns
returns c =
    c.get_index_of.ensures.index
    ∙ number_is c.args.name.now.bytes c.self.inside.names.keys
    ∙ ap (λ names. number_in names c.args.name.now.bytes) c.self.view_is
