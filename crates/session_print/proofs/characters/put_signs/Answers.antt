use Rattle.std.proofs.Common.{◌*◌, ◌+◌, ◌∙◌, arith, set}
use Rattle.std.proofs.lemmas.List.{length-set}
use Rattle.tty_base.specs.declared.characters.Flag.TheVariants.{Normal}
use Rattle.session_print.proofs.Signs.{all_signs, signs_are_text, signs_more}
use Rattle.session_print.proofs.characters.put_signs.Goals as goal

pub loop-place-preserved : goal.loop-place-preserved
loop-place-preserved c =
    let signs = c.loop-place.signs in
    let place = c.loop-place.place in
    let letter = c.letter_of.result in
    let high = c.digit_of.result in
    let low = c.digit_of-in-loop-place.result in
    record {
      room =
          length-set (set (set signs (3 * place) letter) (3 * place + 1) high) (3 * place + 2) low
          ∙ length-set (set signs (3 * place) letter) (3 * place + 1) high
          ∙ length-set signs (3 * place) letter
          ∙ c.loop-place.invariant.room;
      so_far =
          signs_more c.args.characters.now signs place (record { byte = 0; flag = Normal }) letter high low
          (omega arith) (omega (arith, c.loop-place.invariant.room)) c.letter_of.ensures
          c.digit_of.ensures c.digit_of-in-loop-place.ensures
          c.loop-place.invariant.so_far;
    }

pub from_utf8_unchecked-written-requires : goal.from_utf8_unchecked-written-requires
from_utf8_unchecked-written-requires c =
    rw (all_signs c.args.characters.now c.loop-place.signs c.loop-place.place c.args.count
    (omega (arith, c.loop-place-test.false)) c.requires.all c.loop-place.invariant.so_far)
    (signs_are_text c.args.characters.now)
