use Rattle.std.proofs.Common.{rules, arith, ◌∙◌, map, ap}
use Rattle.std.proofs.lemmas.Grind.{common_steps}
use Rattle.std.proofs.lemmas.List.{length-map}
use Rattle.tty_base.specs.declared.characters.Flagged.{Flagged}
use Rattle.word_ring.specs.Ends.{TakerState, with_shown, with_taken}
use Rattle.flip_buffer.specs.Packed.{char_of, out_state}
use Rattle.flip_buffer.proofs.Characters.{out_taken}
use Rattle.flip_buffer.proofs.output.FlipOut.take.Goals as goal

pub returns-clause-moves : goal.returns-clause-moves
returns-clause-moves c =
    let t = c.self.inside.taker in
    let m = c.take-count.ensures.moves in
    let tail = c.take-count.new.self.floor in (
      map char_of m.0,
      length-map m.0 char_of ∙ m.1,
      search rules,
      ap out_state m.3
          ∙ (out_taken (with_shown t tail) m.0
          ∙ ap (λ (u : TakerState Flagged). with_taken (with_shown u tail) (map char_of m.0)) c.self.view_is),
    )

pub returns-clause-count : goal.returns-clause-count
returns-clause-count c = grind (arith, common_steps) steps 500000
