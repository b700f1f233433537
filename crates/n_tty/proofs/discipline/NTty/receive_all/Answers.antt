use Rattle.std.proofs.Common.{◌≡◌, ◌-◌, ◌≤◌, length, take, drop, ap, ◌∙◌, subst, arith, length-drop}
use Rattle.n_tty.specs.States.{OnPort, on_port}
use Rattle.n_tty.specs.Runs.{after_characters, AcceptsAll}
use Rattle.n_tty.proofs.FrontLemmas.{received_on, accepts_on}
use Rattle.n_tty.proofs.discipline.NTty.receive_all.Goals as goal

pub loop-done-preserved : goal.loop-done-preserved
loop-done-preserved c =
    let i = c.loop-done.invariant in
    let modes = c.args.modes.now in
    let now = c.args.now in
    let chars = c.args.chars.now in
    let done = c.loop-done.done in
    let count = c.receive_some-count.result in
    let made = c.receive_some-count.ensures in
    let left = c.receive_some-count.new in
    let first : OnPort = on_port c.args.self.now c.args.wire.now c.args.tally.now in
    let port : OnPort = on_port c.loop-done.self c.loop-done.wire c.loop-done.tally in
    let last : OnPort = on_port left.self left.wire left.tally in
    let after : last ≡ after_characters modes now (take count (drop done chars)) port =
    made.after ∙ ap (λ cs. after_characters modes now (take count cs) port) c.rest_of.ensures in
    let accepted : AcceptsAll modes now (take count (drop done chars)) port =
    subst (λ cs. AcceptsAll modes now (take count cs) port) c.rest_of.ensures made.accepted in
    let within : count ≤ length chars - done =
    omega (arith, made.within, ap length c.rest_of.ensures, length-drop done chars) in
    record {
      bound = omega (arith, within, i.bound);
      after = received_on modes now chars done count first port last i.after after;
      accepted = accepts_on modes now chars done count first port last i.after after i.accepted accepted;
      fits = made.fits;
      spent = omega (arith, i.spent, made.spent);
      signals = omega (arith, i.signals, made.signals);
      moved = omega (arith, i.moved, made.moved);
      past = λ h. made.past (i.past h);
    }

pub returns-clause-stops : goal.returns-clause-stops
returns-clause-stops c = λ less. absurd (omega (arith, less, c.loop-done-test.false))
