use Rattle.std.proofs.Common.{◌<◌, drop, length, map, ap, ◌∙◌, arith}
use Rattle.std.specs.Prelude.{slice_set}
use Rattle.std.proofs.lemmas.List.{drop_all}
use Rattle.tty_calls.specs.Sessions.{script_of}
use Rattle.derived_session.specs.declared.passed.FurtherBlock.{FurtherBlock}
use Rattle.derived_session.specs.Steps.{further_steps}
use Rattle.derived_session.specs.Making.{PortState, script_after, script_made}
use Rattle.derived_session.proofs.Making.{at_port, each_of, making_done, making_further}
use Rattle.derived_session.proofs.scripts.add_others.Goals as goal

pub loop-block-preserved : goal.loop-block-preserved
loop-block-preserved c =
    let at = c.loop-block in
    let from = c.args.ports.now in
    let others = c.args.others.now in
    let b = c.block-item.result in
    let known = each_of (λ (x : FurtherBlock). x.port < length from) others at.block-index b c.requires.ports
    c.loop-block-test.true c.block-item.is in
    let port = at_port at.ports b.port c.index-ports-block.result (omega (arith, known, at.invariant.making.many)) in
    record {
      making = making_further (map script_of c.args.made.now.items) from (map further_steps others) at.made.items
          c.add.new.self.items at.ports _ others at.block-index b c.in_ok-make_further.field-0 c.loop-block-test.true
          c.block-item.is (ap (λ m. m.items) c.add.ensures)
          (c.in_ok-make_further.ensures.made
          ∙ ap (λ (t : PortState). script_made t (further_steps b)) port)
          (ap (λ (t : PortState). slice_set at.ports b.port t)
          (c.in_ok-make_further.ensures.after
          ∙ ap (λ (t : PortState). script_after t (further_steps b)) port))
          at.invariant.making;
      room = omega (arith, at.invariant.room, c.loop-block-test.true, ap (λ m. m.spare) c.add.ensures);
    }

pub returns : goal.returns
returns c =
    let at = c.loop-block in
    let others = c.args.others.now in
    let done = making_done (map script_of c.args.made.now.items) c.args.ports.now (map further_steps others)
    (map script_of at.made.items) at.ports (map further_steps (drop at.block-index others))
    (ap (map further_steps) (drop_all at.block-index others c.loop-block-test.false)) at.invariant.making in
    record { made = done.0; after = done.1 }
