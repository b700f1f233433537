use Rattle.std.proofs.Common.{◌≡◌, ◌&&◌, not, Option, Some, rules, ap, ◌∙◌}
use Rattle.tty_modes.specs.declared.places.TheConstants.{IXON}
use Rattle.tty_modes.specs.declared.words.Word.{Word}
use Rattle.tty_modes.specs.Settings.{has_flag}
use Rattle.tty_embed.specs.Embedded.{Embedded, after_setting}
use Rattle.tty_embed.proofs.Reserving.{setting_made}
use Rattle.tty_embed.proofs.terminal.Tty.set.Goals as goal

pub returns-clause-after : goal.returns-clause-after
returns-clause-after c =
    let a = c.self.inside in
    let new = c.apply.new.self in
    let applies : c.if-has.start_where ≡ (has_flag a.modes IXON && not (has_flag new IXON)) =
    search rules steps 1000000 in
    setting_made a.modes new a.tick c.in-Ok.word c.if-has.start_where a.disc c.recast.new.self a.wire c.reserve.new.self
    c.start_where.new.self c.ixoff.new.wire a.tally c.apply.ensures applies c.reserve.ensures.same c.recast.ensures.after
    c.start_where.ensures.after c.ixoff.ensures.after
    ∙ (ap (λ (t : Embedded). after_setting t (Some c.in-Ok.word)) c.self.view_is
    ∙ ap (λ (w : Option Word). after_setting c.args.self.now w) c.in-Ok.ensures.value)

pub ixoff-requires-clause-fitting : goal.ixoff-requires-clause-fitting
ixoff-requires-clause-fitting c = search rules steps 300000
