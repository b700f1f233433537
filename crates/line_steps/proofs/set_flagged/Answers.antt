use Rattle.std.proofs.Common.{ap, sym, ◌∙◌, ◌++◌, ◌∷◌, [], map, take, get_or, arith}
use Rattle.std.proofs.lemmas.List.{length-set, map-append, take_more, take_more_set}
use Rattle.line_steps.specs.Steps.{rx_step}
use Rattle.line_steps.proofs.set_flagged.Goals as goal

pub loop-place-preserved : goal.loop-place-preserved
loop-place-preserved c =
    let steps = c.loop-place.piece in
    let bytes = c.args.bytes.now in
    let place = c.loop-place.place in
    let step = rx_step c.args.flag in
    let last = get_or bytes place 0 in
    record {
      room = length-set steps place (step last) ∙ c.loop-place.invariant.room;
      so_far =
          take_more_set steps place (step last) (omega (arith, c.loop-place.invariant.room))
          ∙ ap (λ xs. xs ++ step last ∷ []) c.loop-place.invariant.so_far
          ∙ sym
          (ap (map step) (take_more bytes place 0 (omega arith)) ∙ map-append step (take place bytes) (last ∷ []));
    }
