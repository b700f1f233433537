use Rattle.std.proofs.Common.{ap, ◌∙◌, ◌++◌, ◌∷◌, []}
use Rattle.check_text.specs.Characters.{chars_from}
use Rattle.check_text.proofs.Parts.{chars_first, chars_more}
use Rattle.check_text.proofs.characters.add_characters.Goals as goal

pub loop-rest-init : goal.loop-rest-init
loop-rest-init c = chars_first c.args.characters.now.items (chars_from c.args.word.now) c.requires

pub loop-rest-preserved : goal.loop-rest-preserved
loop-rest-preserved c = chars_more c.args.word.now c.loop-rest.rest.now c.loop-rest.characters.items
    c.add.new.self.items c.in-Some.character c.in-len3-up.len_at_least c.in-Some.ensures
    (ap (λ chars. chars.items) c.add.ensures
    ∙ ap (λ chars. chars ++ c.in-Some.character ∷ []) c.in_ok-reserve-in-Some.ensures.items) c.loop-rest.invariant
