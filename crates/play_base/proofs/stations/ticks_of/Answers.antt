use Rattle.std.proofs.Common.{length, ap, arith}
use Rattle.play_base.proofs.CastLemmas.{phase_in}
use Rattle.play_base.proofs.stations.ticks_of.Goals as goal

pub bounds-as_slice-number : goal.bounds-as_slice-number
bounds-as_slice-number c =
    let phase = phase_in c.args.session.now c.args.k c.as_slice.result.now c.index-as_slice-k.result
    c.requires.within c.requires.phase c.as_slice.ensures in
    let count = ap (λ xs. length xs) c.as_slice-2.ensures in
    let port = c.requires.port in
    omega (arith, phase.ticks, count, port)
