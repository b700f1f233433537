use Rattle.std.proofs.Common.{◌≡◌}
use Rattle.many_threads.proofs.Onward.{at_ok}
use Rattle.vt_threads.proofs.PartedNext.{can_put_back, console_back, moved_few, moved_within}
use Rattle.vt_threads.proofs.parting.whole_console.Goals as goal

pub put_together-left-requires : goal.put_together-left-requires
put_together-left-requires c =
    let h = c.requires.played in
    can_put_back c.args.session.now c.requires.within c.args.number c.requires.port
    c.args.k c.requires.phase h.0 h.1 c.args.back h.2

pub moved_on-requires-clause-within : goal.moved_on-requires-clause-within
moved_on-requires-clause-within c =
    let h = c.requires.played in
    moved_within c.args.session.now c.requires.within c.args.number c.requires.port c.args.k c.requires.phase h.0 h.1
    c.args.back h.2 c.in_ok-casting.casting c.in_ok-casting.station c.in_ok-casting.ensures.kept
    (at_ok c.put_together-left.result (c.in_ok-casting.station, c.in_ok-casting.end)
    (λ r. r.0.steps ≡ c.args.back.rest.steps) c.in_ok-casting.ensures.made c.put_together-left.ensures.steps)

pub moved_on-requires-clause-few : goal.moved_on-requires-clause-few
moved_on-requires-clause-few c =
    let h = c.requires.played in
    moved_few c.args.session.now c.requires.within c.args.number c.requires.port c.args.k c.requires.phase h.0 h.1
    c.args.back h.2 c.in_ok-casting.casting c.in_ok-casting.ensures.kept

pub returns : goal.returns
returns c entries part h =
    console_back c.args.session.now c.requires.within c.args.number c.requires.port
    c.args.k c.requires.phase entries part c.args.back h
    c.put_together-left.result c.in_ok-casting.station c.in_ok-casting.end c.in_ok-casting.casting c.moved_on.result
    c.in_ok-casting.ensures.made c.in_ok-casting.ensures.kept
    c.put_together-left.ensures.whole c.put_together-left.ensures.steps c.moved_on.ensures
