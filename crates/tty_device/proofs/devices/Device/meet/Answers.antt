use Rattle.std.proofs.Common.{length, ap, arith}
use Rattle.tty_device.proofs.Noting.{taken_is}
use Rattle.tty_device.proofs.devices.Device.meet.Goals as goal

pub overflow_sub-result : goal.overflow_sub-result
overflow_sub-result c =
    let d = c.self.inside in
    let all = taken_is d.taken.items d.flip.taken c.self.invariant.taken in
    let first = ap (λ f. length f.taken) c.note.ensures.same in
    let second = ap (λ f. length f.taken) c.meet-2.ensures.same in
    omega (arith, all, c.self.invariant.dropped, c.taken-taken.ensures.count, first, second)

pub returns-clause-flushed : goal.returns-clause-flushed
returns-clause-flushed c =
    let d = c.self.inside in
    let all = taken_is d.taken.items d.flip.taken c.self.invariant.taken in
    let first = ap (λ f. length f.taken) c.note.ensures.same in
    let second = ap (λ f. length f.taken) c.meet-2.ensures.same in
    rw (← c.self.view_is) (omega (arith, all, c.self.invariant.dropped, c.taken-taken.ensures.count, first, second))

pub returns-clause-waiting : goal.returns-clause-waiting
returns-clause-waiting c =
    let d = c.self.inside in
    let all = taken_is d.taken.items d.flip.taken c.self.invariant.taken in
    let first = ap (λ f. length f.taken) c.note.ensures.same in
    let second = ap (λ f. length f.taken) c.meet-2.ensures.same in
    let told = ap (λ n. n.taken) c.note.ensures.note in
    let loaded = ap (λ p. length p.sent) c.meet.ensures.same in
    let noted = ap (λ p. length p.sent) c.note-2.ensures.same in
    let before = ap (λ l. length l.sent) c.line.view_is in
    omega (
      arith,
      all,
      c.self.invariant.dropped,
      c.taken-taken.ensures.count,
      first,
      second,
      told,
      c.meet.ensures.rises.1,
      c.meet.ensures.rises.2,
      c.meet.ensures.within,
      loaded,
      noted,
      before,
      c.sent-sent.ensures,
    )
