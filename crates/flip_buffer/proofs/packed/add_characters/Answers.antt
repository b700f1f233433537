use Rattle.std.proofs.Common.{◌∙◌, ◌-◌, ◌++◌, List, ap}
use Rattle.tty_base.specs.declared.characters.Flagged.{Flagged}
use Rattle.flip_buffer.proofs.Characters.{four_of_word}
use Rattle.flip_buffer.proofs.packed.add_characters.Goals as goal

pub returns-then-are_good : goal.returns-then-are_good
returns-then-are_good c =
    c.add_four.ensures
    ∙ ap (λ (xs : List Flagged). record { items = c.args.out.now.items ++ xs; spare = c.args.out.now.spare - 4 })
    (four_of_word c.args.word _ _ _ _ c.good_character_of.ensures c.good_character_of-then-are_good.ensures
    c.good_character_of-then-are_good-2.ensures c.good_character_of-then-are_good-3.ensures)
