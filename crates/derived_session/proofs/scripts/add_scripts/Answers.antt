use Rattle.std.proofs.Common.{◌<◌, List, drop, length, map, refl, take, ap, ◌∙◌, arith}
use Rattle.std.specs.Prelude.{slice_set}
use Rattle.std.proofs.lemmas.List.{drop_all, take_rest}
use Rattle.tty_calls.specs.declared.sessions.Script.{Script}
use Rattle.tty_calls.specs.Sessions.{script_of}
use Rattle.passed_calls.specs.Scripts.{mixed_scripts}
use Rattle.derived_session.specs.Steps.{steps_in, steps_with}
use Rattle.derived_session.specs.Making.{PortState, script_after, script_made}
use Rattle.derived_session.proofs.Making.{at_port, each_of, making_done, making_script}
use Rattle.derived_session.proofs.scripts.add_scripts.Goals as goal

pub loop-number-preserved : goal.loop-number-preserved
loop-number-preserved g c =
    let at = c.loop-number in
    let from = c.args.ports.now in
    let scripts = c.args.scripts.now in
    let x = c.index-scripts-number.result in
    let own = take c.count_in-count.result at.rest.now in
    let known = each_of (λ (s : Script). s.port < length from) scripts at.number x c.requires.ports
    c.loop-number-test.true c.index-scripts-number.is in
    let port = at_port at.ports x.port c.index-ports-script.result (omega (arith, known, at.invariant.making.many)) in
    record {
      making = making_script (map script_of c.args.made.now.items) from
          (map steps_in (mixed_scripts 0 (map script_of scripts) c.args.placed.now)) at.made.items
          c.add.new.self.items at.ports _ scripts at.rest.now _ at.number c.count_in-count.result x
          c.in_ok-make_script.field-0 own c.loop-number-test.true c.index-scripts-number.is
          c.count_in-count.ensures.count refl (take_rest at.rest.now c.count_in-count.result)
          (ap (λ m. m.items) c.add.ensures)
          (c.in_ok-make_script.ensures.made
          ∙ ap (λ (t : PortState). script_made t (steps_with (script_of x) own)) port)
          (ap (λ (t : PortState). slice_set at.ports x.port t)
          (c.in_ok-make_script.ensures.after
          ∙ ap (λ (t : PortState). script_after t (steps_with (script_of x) own)) port))
          at.invariant.making;
      room = omega (arith, at.invariant.room, c.loop-number-test.true, ap (λ m. m.spare) c.add.ensures);
    }

pub returns : goal.returns
returns g c =
    let at = c.loop-number in
    let scripts = c.args.scripts.now in
    let done = making_done (map script_of c.args.made.now.items) c.args.ports.now
    (map steps_in (mixed_scripts 0 (map script_of scripts) c.args.placed.now)) (map script_of at.made.items) at.ports
    (map steps_in (mixed_scripts at.number (map script_of (drop at.number scripts)) at.rest.now))
    (ap (λ (ss : List Script). map steps_in (mixed_scripts at.number (map script_of ss) at.rest.now))
    (drop_all at.number scripts c.loop-number-test.false)) at.invariant.making in
    record { made = done.0; after = done.1 }
