use Rattle.std.proofs.Common.{rules, ◌≡◌, ◌≤◌, ◌<◌, ◌^◌, refl, sym, ap, subst, arith}
use Rattle.tty_device.specs.Inside.{line_of}
use Rattle.tty_device.specs.Lines.{PutEnd}
use Rattle.tty_device.proofs.TakingIn.{puts_from, puts_all, handed_straight}
use Rattle.tty_device.proofs.intake.hand_in.Goals as goal

pub returns-then-is_clear : goal.returns-then-is_clear
returns-then-is_clear c =
    let a = c.line.inside in
    let w : PutEnd = line_of a in
    let m : PutEnd = line_of (record a { input = c.give.new.input }) in
    let bytes = c.args.bytes.now in
    let received = c.receive_good-received in
    let old : PutEnd = c.args.line.now in
    let after : w ≡ record old { known = w.known } =
    subst (λ (x : PutEnd). x ≡ record old { known = x.known }) (sym c.line.view_is) c.waiting.ensures.after in
    let rises : old.known ≤ w.known =
    subst (λ (x : PutEnd). old.known ≤ x.known) (sym c.line.view_is) c.waiting.ensures.known in
    let same = ap (λ (x : PutEnd). x.overruns) c.line.view_is in
    let small : w.overruns < 2 ^ 64 = omega (arith, c.overruns-most.ensures, c.overruns-most.type_inv, same) in
    record {
      puts = puts_from old w m c.args.flag bytes _ after rises
          (puts_all w m c.args.flip.now c.give.new.flip a.input c.give.new.input c.args.flag bytes received.result
          c.give.ensures (c.if-is_short_run.ensures.good refl) small refl refl);
      hands = handed_straight c.args.terminal.now.terminal received.new.terminal.terminal c.args.flip.now
          c.give.new.flip a.input c.give.new.input bytes received.result received.new.chars.items
          c.give.ensures (c.if-is_clear.ensures refl) (c.if-is_short_run.ensures.few refl) received.ensures.within
          received.ensures.chars received.ensures.accepted received.ensures.left received.ensures.stops;
      seen = omega (arith, c.give.ensures.shown);
    }

pub returns : goal.returns
returns c = search rules steps 1000000
