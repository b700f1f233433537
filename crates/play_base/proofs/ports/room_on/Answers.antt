use Rattle.std.proofs.Common.{◌+◌, ◌<◌, length, arith}
use Rattle.std.proofs.lemmas.List.{length-map}
use Rattle.tty_calls.specs.Sessions.{session_of, phase_of}
use Rattle.play_base.proofs.ReceivedLemmas.{room_more, count_part}
use Rattle.play_base.proofs.ports.room_on.Goals as goal

pub loop-k-preserved : goal.loop-k-preserved
loop-k-preserved c =
    let s = session_of c.args.session.now in
    let inside : c.loop-k.k < length s.phases =
    omega (arith, c.loop-k-test.true, c.len-k-end.ensures, length-map c.args.session.now.phases.items phase_of) in
    omega (
      arith,
      room_more c.args.number s c.loop-k.k c.loop-k.steps c.steps_of.result.now.items
          inside c.steps_of.ensures.line c.loop-k.invariant,
      count_part c.args.number s.phases (c.loop-k.k + 1),
      c.requires.within.few_characters c.args.number,
      c.len.ensures,
      c.saturating_add-steps.ensures,
    )
