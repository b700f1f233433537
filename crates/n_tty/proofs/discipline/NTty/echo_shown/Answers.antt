use Rattle.std.proofs.Common.{◌≤◌, sym, ap, ◌∙◌}
use Rattle.echo_out.specs.declared.EchoEvent.TheVariants as event
use Rattle.n_tty.specs.States.{NTtyState, on_port}
use Rattle.n_tty.specs.Receiving.{with_echo}
use Rattle.n_tty.proofs.EchoLemmas.{unechoed, echoed_plainly}
use Rattle.n_tty.proofs.discipline.NTty.echo_shown.Goals as goal

pub returns-then-not-has : goal.returns-then-not-has
returns-then-not-has c = record {
  after = unechoed c.args.modes.now c.args.b (on_port c.args.self.now c.args.wire.now c.args.tally.now)
      (sym c.has.ensures ∙ c.if-not-has.true);
}

pub returns-then-is_printed : goal.returns-then-is_printed
returns-then-is_printed c =
    let inside = c.self.inside in
    let b = c.args.b in
    let modes = c.args.modes.now in
    let printed : (32 ≤ b) × (b ≤ 126) = c.is_printed.ensures.0 c.if-is_printed.true in
    let tty : NTtyState = record {
      items = inside.store;
      edit = inside.edit;
      start = inside.start;
      quoted = inside.quoted;
      last = inside.last;
      column = inside.out;
    } in
    record {
      after =
          (λ i. on_port (record tty { column = c.echo_printed.ensures.column i }) (c.echo_printed.ensures.wire i)
          (c.echo_printed.ensures.tally i))
          ∙ echoed_plainly modes b tty c.args.wire.now c.args.tally.now (sym c.has.ensures ∙ c.if-not-has.false)
          printed.0 printed.1
          ∙ ap (λ t. with_echo modes (event.Plain b) (on_port t c.args.wire.now c.args.tally.now)) c.self.view_is;
    }
