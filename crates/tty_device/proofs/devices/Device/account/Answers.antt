use Rattle.std.proofs.Common.{length, ap, arith}
use Rattle.tty_device.proofs.Noting.{taken_is}
use Rattle.tty_device.proofs.devices.Device.account.Goals as goal

pub overflow_sub-result : goal.overflow_sub-result
overflow_sub-result c =
    let d = c.self.inside in
    let all = taken_is d.taken.items d.flip.taken c.self.invariant.taken in
    let same = ap (λ f. length f.taken) c.look-waiting.ensures.same in
    omega (arith, all, c.self.invariant.dropped, c.taken.ensures.count, same)

pub returns-clause-flushed : goal.returns-clause-flushed
returns-clause-flushed c =
    let d = c.self.inside in
    let all = taken_is d.taken.items d.flip.taken c.self.invariant.taken in
    let same = ap (λ f. length f.taken) c.look-waiting.ensures.same in
    rw (← c.self.view_is) (omega (arith, all, c.self.invariant.dropped, c.taken.ensures.count, same))

pub returns-clause-waiting : goal.returns-clause-waiting
returns-clause-waiting c =
    let d = c.self.inside in
    let all = taken_is d.taken.items d.flip.taken c.self.invariant.taken in
    let same = ap (λ f. length f.taken) c.look-waiting.ensures.same in
    omega (arith, all, c.self.invariant.dropped, c.taken.ensures.count, same, c.look-waiting.ensures.count)
