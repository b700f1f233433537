use Rattle.std.proofs.Common.{◌≡◌, sym, ◌∙◌, ap}
use Rattle.tty_modes.specs.Settings.{Settings, same_modes-Decides}
use Rattle.tty_calls.specs.Plain.{modes_are, answer_lent}
use Rattle.journal_check.proofs.answers.is_same.Goals as goal

pub returns-in-ModesAre-other : goal.returns-in-ModesAre-other
returns-in-ModesAre-other c =
    let a : Settings = c.in-ModesAre.modes.now in
    let b : Settings = c.in-ModesAre-other.others.now in
    let one : answer_lent c.args.one.now ≡ modes_are a = ap answer_lent c.in-ModesAre.is in
    let other : answer_lent c.args.other.now ≡ modes_are b = ap answer_lent c.in-ModesAre-other.is in (
      λ is. (let same : a ≡ b = (same_modes-Decides a b).0 (sym c.eq-in-ModesAre-other.ensures ∙ is) in
          one ∙ ap modes_are same ∙ sym other),
      λ is. (let same : modes_are a ≡ modes_are b = sym one ∙ is ∙ other in
          c.eq-in-ModesAre-other.ensures ∙ (same_modes-Decides a b).1 (cc)),
    )
