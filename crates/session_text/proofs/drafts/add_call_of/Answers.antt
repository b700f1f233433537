use Rattle.std.proofs.Common.{◌≡◌, true, sym, ◌∙◌, subst, List, ℕ}
use Rattle.text_lines.specs.Values.{is_hex}
use Rattle.session_text.proofs.Fits.{handed_is_hex}
use Rattle.session_text.proofs.drafts.add_call_of.Goals as goal

pub bytes_into-requires : goal.bytes_into-requires
bytes_into-requires c =
    subst (λ (word : List ℕ). is_hex word ≡ true) (sym c.second.ensures)
    (handed_is_hex c.args.ports c.args.verb c.args.arguments.now (sym c.hands_over.ensures ∙ c.if-hands_over.true)
    c.requires.good)
