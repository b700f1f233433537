use Rattle.std.proofs.Common.{◌*◌, ◌+◌, ◌∙◌, arith, set}
use Rattle.std.proofs.lemmas.List.{length-set}
use Rattle.session_print.proofs.Pieces.{digits_more}
use Rattle.session_print.proofs.digits.write_some.Goals as goal

pub loop-place-init : goal.loop-place-init
loop-place-init c = record { room = c.told-digits; so_far = c.requires.before }

pub loop-place-preserved : goal.loop-place-preserved
loop-place-preserved c =
    let digits = c.loop-place.digits in
    let place = c.loop-place.place in
    let high = c.digit_of.result in
    let low = c.digit_of-in-loop-place.result in
    record {
      room =
          length-set (set digits (2 * place) high) (2 * place + 1) low
          ∙ length-set digits (2 * place) high
          ∙ c.loop-place.invariant.room;
      so_far =
          digits_more c.args.bytes.now digits place high low (omega arith) (omega (arith, c.loop-place.invariant.room))
          c.digit_of.ensures c.digit_of-in-loop-place.ensures
          c.loop-place.invariant.so_far;
    }
