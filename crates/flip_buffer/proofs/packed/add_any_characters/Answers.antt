use Rattle.std.proofs.Common.{◌∙◌, ◌-◌, ◌++◌, List, ap}
use Rattle.tty_base.specs.declared.characters.Flagged.{Flagged}
use Rattle.flip_buffer.proofs.Characters.{four_of_word}
use Rattle.flip_buffer.proofs.packed.add_any_characters.Goals as goal

pub returns : goal.returns
returns c =
    c.add_four.ensures
    ∙ ap (λ (xs : List Flagged). record { items = c.args.out.now.items ++ xs; spare = c.args.out.now.spare - 4 })
    (four_of_word c.args.word _ _ _ _ c.character_of.ensures c.character_of-2.ensures
    c.character_of-3.ensures c.character_of-4.ensures)
