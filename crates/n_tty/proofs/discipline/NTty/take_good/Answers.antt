use Rattle.std.proofs.Common.{◌≡◌, ◌∙◌, false, sym, ap}
use Rattle.n_tty.specs.States.{NTtyState, OnPort, on_port}
use Rattle.n_tty.proofs.PlainLemmas.{good_plain}
use Rattle.n_tty.proofs.discipline.NTty.take_good.Goals as goal

pub returns-then-is_plain : goal.returns-then-is_plain
returns-then-is_plain c =
    let port : OnPort = on_port c.args.self.now c.args.wire.now c.args.tally.now in
    let unquoted : c.args.self.now.quoted ≡ false =
    sym (ap (λ (tty : NTtyState). tty.quoted) c.self.view_is) ∙ c.if-not-self.true in
    record {
      after =
          c.take_ordinary.ensures.after
          ∙ sym (good_plain c.args.modes.now c.args.b (c.is_plain.ensures c.if-is_plain.true) c.args.now port unquoted);
    }
