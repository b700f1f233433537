use Rattle.std.proofs.Common.{List, map, sym, ap, ◌∙◌}
use Rattle.tty_calls.specs.Sessions.{script_of}
use Rattle.passed_calls.specs.Scripts.{mixed_scripts}
use Rattle.derived_session.specs.Steps.{further_steps, steps_in}
use Rattle.derived_session.specs.Making.{PortState, ports_after}
use Rattle.derived_session.proofs.Making.{after_both, both_made}
use Rattle.derived_session.proofs.scripts.make_scripts.Goals as goal

pub returns-clause-made : goal.returns-clause-made
returns-clause-made g c =
    both_made c.args.ports.now c.add_scripts.new.ports
    (map steps_in (mixed_scripts 0 (map script_of c.args.scripts.now) c.args.placed.now))
    (map further_steps c.args.others.now) c.reserve.new.self.items c.add_scripts.new.made.items
    c.reserve-2.new.self.items c.add_others.new.made.items
    (c.in_ok-reserve.ensures.items ∙ ap (λ m. m.items) c.new-made.ensures) c.in_ok-add_scripts.ensures.made
    c.in_ok-reserve-2.ensures.items c.in_ok-add_scripts.ensures.after c.in_ok-add_others.ensures.made

pub returns-clause-after : goal.returns-clause-after
returns-clause-after g c =
    let xs = map steps_in (mixed_scripts 0 (map script_of c.args.scripts.now) c.args.placed.now) in
    let ys = map further_steps c.args.others.now in
    c.in_ok-add_others.ensures.after
    ∙ (ap (λ (ps : List PortState). ports_after ps ys) c.in_ok-add_scripts.ensures.after
    ∙ sym (after_both c.args.ports.now xs ys))
