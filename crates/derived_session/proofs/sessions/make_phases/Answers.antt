use Rattle.std.proofs.Common.{◌<◌, ℕ, List, drop, length, map, sym, ap, subst, arith}
use Rattle.std.specs.Prelude.{All}
use Rattle.std.proofs.lemmas.List.{drop_all}
use Rattle.tty_calls.specs.declared.sessions.Phase.{Phase}
use Rattle.tty_calls.specs.Sessions.{PlainPhase, PlainScript, phase_of, script_of}
use Rattle.derived_session.specs.Steps.{phases_steps}
use Rattle.derived_session.proofs.Making.{AreOnPorts, blocks_known, phase_known, phases_done, phases_more}
use Rattle.derived_session.proofs.sessions.make_phases.Goals as goal

pub make_phase-requires-clause-scripts : goal.make_phase-requires-clause-scripts
make_phase-requires-clause-scripts g c =
    let x = c.index-phases-k.result in
    subst (λ (n : ℕ). All (λ (s : PlainScript). s.port < n) (map script_of x.callers.items))
    (sym c.loop-k.invariant.making.many)
    (phase_known (λ (p : PlainPhase). All (λ (s : PlainScript). s.port < length c.args.ports.now) p.callers)
    c.args.phases.now c.loop-k.k x c.requires.scripts c.loop-k-test.true c.index-phases-k.is)

pub make_phase-requires-clause-others : goal.make_phase-requires-clause-others
make_phase-requires-clause-others g c =
    let n = length c.args.ports.now in
    subst (λ (m : ℕ). AreOnPorts m c.others_in.result.now) (sym c.loop-k.invariant.making.many)
    (subst (AreOnPorts n) (sym c.others_in.ensures)
    (blocks_known n c.args.others.now c.loop-k.k c.requires.others))

pub loop-k-preserved : goal.loop-k-preserved
loop-k-preserved g c =
    let at = c.loop-k in
    let placed = map (λ s. s.now) c.args.placed.now in
    let others = map (λ b. b.items) c.args.others.now in
    record {
      making = phases_more c.args.ports.now (phases_steps placed others 0 (map phase_of c.args.phases.now))
          at.made.items c.add.new.self.items at.ports c.make_phase.new.ports placed others c.args.phases.now at.k
          c.index-phases-k.result c.in_ok-one.one c.placed_in.result.now c.others_in.result.now
          c.loop-k-test.true c.index-phases-k.is c.placed_in.ensures c.others_in.ensures
          (ap (λ m. m.items) c.add.ensures) c.in_ok-one.ensures.made c.in_ok-one.ensures.after at.invariant.making;
      room = omega (arith, at.invariant.room, c.loop-k-test.true, ap (λ m. m.spare) c.add.ensures);
    }

pub returns : goal.returns
returns g c =
    let at = c.loop-k in
    let placed = map (λ s. s.now) c.args.placed.now in
    let others = map (λ b. b.items) c.args.others.now in
    let phases = c.args.phases.now in
    phases_done c.args.ports.now (phases_steps placed others 0 (map phase_of phases)) (map phase_of at.made.items)
    at.ports (phases_steps placed others at.k (map phase_of (drop at.k phases)))
    (ap (λ (ps : List Phase). phases_steps placed others at.k (map phase_of ps))
    (drop_all at.k phases c.loop-k-test.false)) at.invariant.making
