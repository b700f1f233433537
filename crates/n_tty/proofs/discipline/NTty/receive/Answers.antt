use Rattle.std.proofs.Common.{length, ap, sym, subst, arith}
use Rattle.n_tty.specs.States.{NTtyState, OnPort, FitsModes, on_port}
use Rattle.n_tty.proofs.BoundLemmas.{near_by}
use Rattle.n_tty.proofs.FitsLemmas.{Fits-taken}
use Rattle.n_tty.proofs.discipline.NTty.receive.Goals as goal

pub ixoff-requires-clause-fitting : goal.ixoff-requires-clause-fitting
ixoff-requires-clause-fitting c =
    subst (λ (port : OnPort). FitsModes c.args.modes.now port.tty) (sym c.take.ensures.after)
    (Fits-taken c.args.modes.now c.args.now c.args.c.flag c.args.c.byte
    (on_port c.args.self.now c.args.wire.now c.args.tally.now) c.requires.fitting)

pub ixoff-requires-clause-room : goal.ixoff-requires-clause-room
ixoff-requires-clause-room c =
    let near = near_by c.args.modes.now c.args.now c.args.c.flag c.args.c.byte
    (on_port c.args.self.now c.args.wire.now c.args.tally.now)
    (on_port c.take.new.self c.take.new.wire c.take.new.tally)
    (omega (
      arith,
      ap (λ (tty : NTtyState). length tty.edit) c.self.view_is,
      ap length c.bytes.ensures.bytes,
      c.bytes.ensures.most,
    )) c.take.ensures.after in
    omega (arith, near.spent, c.requires.room)

pub returns-clause-fits : goal.returns-clause-fits
returns-clause-fits c =
    subst (λ (port : OnPort). FitsModes c.args.modes.now port.tty) (sym c.take.ensures.after)
    (Fits-taken c.args.modes.now c.args.now c.args.c.flag c.args.c.byte
    (on_port c.args.self.now c.args.wire.now c.args.tally.now) c.requires.fitting)

pub returns-clause-spent : goal.returns-clause-spent
returns-clause-spent c =
    let near = near_by c.args.modes.now c.args.now c.args.c.flag c.args.c.byte
    (on_port c.args.self.now c.args.wire.now c.args.tally.now)
    (on_port c.take.new.self c.take.new.wire c.take.new.tally)
    (omega (
      arith,
      ap (λ (tty : NTtyState). length tty.edit) c.self.view_is,
      ap length c.bytes.ensures.bytes,
      c.bytes.ensures.most,
    )) c.take.ensures.after in
    omega (arith, near.spent, ap length c.ixoff.ensures.held, c.ixoff.ensures.spent)

pub returns-clause-signals : goal.returns-clause-signals
returns-clause-signals c =
    let near = near_by c.args.modes.now c.args.now c.args.c.flag c.args.c.byte
    (on_port c.args.self.now c.args.wire.now c.args.tally.now)
    (on_port c.take.new.self c.take.new.wire c.take.new.tally)
    (omega (
      arith,
      ap (λ (tty : NTtyState). length tty.edit) c.self.view_is,
      ap length c.bytes.ensures.bytes,
      c.bytes.ensures.most,
    )) c.take.ensures.after in
    near.signals

pub returns-clause-moved : goal.returns-clause-moved
returns-clause-moved c =
    let near = near_by c.args.modes.now c.args.now c.args.c.flag c.args.c.byte
    (on_port c.args.self.now c.args.wire.now c.args.tally.now)
    (on_port c.take.new.self c.take.new.wire c.take.new.tally)
    (omega (
      arith,
      ap (λ (tty : NTtyState). length tty.edit) c.self.view_is,
      ap length c.bytes.ensures.bytes,
      c.bytes.ensures.most,
    )) c.take.ensures.after in
    near.moved

pub returns-clause-past : goal.returns-clause-past
returns-clause-past c =
    let near = near_by c.args.modes.now c.args.now c.args.c.flag c.args.c.byte
    (on_port c.args.self.now c.args.wire.now c.args.tally.now)
    (on_port c.take.new.self c.take.new.wire c.take.new.tally)
    (omega (
      arith,
      ap (λ (tty : NTtyState). length tty.edit) c.self.view_is,
      ap length c.bytes.ensures.bytes,
      c.bytes.ensures.most,
    )) c.take.ensures.after in
    near.past
