use Rattle.std.proofs.Common.{[], ◌∷◌, ◌++◌, length, refl, sym, ap, ◌∙◌, arith, append_assoc}
use Rattle.uart_regs.specs.Registers.{bit}
use Rattle.uart_line.specs.Received.{overrun_mark}
use Rattle.uart_line.proofs.Serving.{Serves-none, Serves-turn, Serves-offer, taken}
use Rattle.uart_line.proofs.Line.empty.Goals as goal

pub loop-reading-init : goal.loop-reading-init
loop-reading-init g c = record {
  put_so_far = [];
  whole = refl;
  serves = Serves-none _ c.args.self.now _ _;
  window = refl;
  lost = refl;
  capacity = refl;
  name = refl;
  room = c.requires;
  rise = λ h. h;
}

pub offer-requires-clause-put : goal.offer-requires-clause-put
offer-requires-clause-put g c =
    let i = c.loop-reading.invariant in
    let t = taken _ _ c.in-Some.reading (sym c.next_reading.ensures.reading ∙ c.in-Some.is) in
    let some = ap length t.1 in
    omega (arith, some, i.room, c.next_reading.ensures.line.room, c.next_reading.ensures.line.arrived)

pub offer-requires-then-reading-clause-put : goal.offer-requires-then-reading-clause-put
offer-requires-then-reading-clause-put g c =
    let i = c.loop-reading.invariant in
    let t = taken _ _ c.in-Some.reading (sym c.next_reading.ensures.reading ∙ c.in-Some.is) in
    let some = ap length t.1 in
    let mark = ap bit (sym t.2 ∙ c.if-reading.true) in
    omega (
      arith,
      some,
      mark,
      i.room,
      c.offer.ensures.put,
      c.next_reading.ensures.line.room,
      c.next_reading.ensures.line.arrived,
    )

pub loop-reading-preserved-then-reading : goal.loop-reading-preserved-then-reading
loop-reading-preserved-then-reading g c =
    let i = c.loop-reading.invariant in
    let turn = Serves-turn (g.P.Put.capacity c.args.put.now) (g.P.Put.capacity c.loop-reading.put) c.args.self.now
    c.loop-reading.self c.next_reading.new.self c.offer.new.self i.put_so_far _ c.in-Some.reading
    _ _ _ _ _ _ i.serves i.whole (sym c.next_reading.ensures.reading ∙ c.in-Some.is) c.next_reading.ensures.after
    c.offer.ensures.same i.capacity c.offer.ensures.offers in
    let registers = ap (λ l. l.registers) c.offer-then-reading.ensures.same in
    record {
      put_so_far = (i.put_so_far ++ c.in-Some.reading.character ∷ []) ++ overrun_mark ∷ [];
      whole = rw (registers, append_assoc) (rw c.if-reading.true at turn.1);
      serves = Serves-offer (g.P.Put.capacity c.args.put.now) (g.P.Put.capacity c.offer.new.put) c.args.self.now
          c.offer.new.self c.offer.new.self c.offer-then-reading.new.self
          (i.put_so_far ++ c.in-Some.reading.character ∷ []) overrun_mark _
          _ _ _ _ _ turn.0 refl refl c.offer-then-reading.ensures.same
          (c.offer.ensures.capacity ∙ i.capacity) c.offer-then-reading.ensures.offers;
      window =
          ap (λ l. l.window) c.offer-then-reading.ensures.same
          ∙ ap (λ l. l.window) c.offer.ensures.same
          ∙ ap (λ l. l.window) c.next_reading.ensures.after
          ∙ i.window;
      lost =
          ap (λ l. l.report.fifo_lost) c.offer-then-reading.ensures.same
          ∙ ap (λ l. l.report.fifo_lost) c.offer.ensures.same
          ∙ ap (λ l. l.report.fifo_lost) c.next_reading.ensures.after ∙ i.lost;
      capacity = c.offer-then-reading.ensures.capacity ∙ c.offer.ensures.capacity ∙ i.capacity;
      name = c.offer-then-reading.ensures.name ∙ c.offer.ensures.name ∙ i.name;
      room = omega (
        arith,
        i.room,
        c.offer.ensures.put,
        c.offer-then-reading.ensures.put,
        ap (λ l. l.handed) c.offer-then-reading.ensures.same,
        ap (λ l. l.handed) c.offer.ensures.same,
        ap (λ l. l.handed) c.next_reading.ensures.after,
        ap (λ l. l.most) c.offer-then-reading.ensures.same,
        ap (λ l. l.most) c.offer.ensures.same,
        ap (λ l. l.most) c.next_reading.ensures.after,
      );
      rise = λ h. c.offer-then-reading.ensures.rise (c.offer.ensures.rise (i.rise h));
    }

pub loop-reading-preserved : goal.loop-reading-preserved
loop-reading-preserved g c =
    let i = c.loop-reading.invariant in
    let turn = Serves-turn (g.P.Put.capacity c.args.put.now) (g.P.Put.capacity c.loop-reading.put) c.args.self.now
    c.loop-reading.self c.next_reading.new.self c.offer.new.self i.put_so_far _ c.in-Some.reading
    _ _ _ _ _ _ i.serves i.whole (sym c.next_reading.ensures.reading ∙ c.in-Some.is) c.next_reading.ensures.after
    c.offer.ensures.same i.capacity c.offer.ensures.offers in
    record {
      put_so_far = i.put_so_far ++ c.in-Some.reading.character ∷ [];
      whole = rw c.if-reading.false at turn.1;
      serves = turn.0;
      window = ap (λ l. l.window) c.offer.ensures.same ∙ ap (λ l. l.window) c.next_reading.ensures.after ∙ i.window;
      lost =
          ap (λ l. l.report.fifo_lost) c.offer.ensures.same
          ∙ ap (λ l. l.report.fifo_lost) c.next_reading.ensures.after
          ∙ i.lost;
      capacity = c.offer.ensures.capacity ∙ i.capacity;
      name = c.offer.ensures.name ∙ i.name;
      room = omega (
        arith,
        i.room,
        c.offer.ensures.put,
        ap (λ l. l.handed) c.offer.ensures.same,
        ap (λ l. l.handed) c.next_reading.ensures.after,
        ap (λ l. l.most) c.offer.ensures.same,
        ap (λ l. l.most) c.next_reading.ensures.after,
      );
      rise = λ h. c.offer.ensures.rise (i.rise h);
    }
