use Rattle.std.proofs.Common.{rules, ◌≤◌, ◌∙◌, sym, ap}
use Rattle.tty_modes.specs.Settings.{has_flag}
use Rattle.tty_modes.specs.declared.places.TheConstants.{IUTF8}
use Rattle.opost_out.specs.Column.{column_after, posted_text, posted_text_under}
use Rattle.opost_out.proofs.Columns.{column_after-append, plain_column}
use Rattle.opost_out.proofs.cursor.Out.post.Goals as goal

pub returns-then-is_plain-clause-text : goal.returns-then-is_plain-clause-text
returns-then-is_plain-clause-text c = λ text is.
    let column = c.self.inside.column in
    let modes = c.args.modes.now in
    let plain : (32 ≤ c.args.b) × (c.args.b ≤ 126) = c.is_plain.ensures.0 c.if-is_plain.true in
    plain_column column c.args.b (has_flag modes IUTF8) plain.0 plain.1
    ∙ ap (λ bytes. column_after column (posted_text_under modes bytes)) (sym c.of_byte.ensures)
    ∙ ap (λ from. column_after from (posted_text_under modes c.of_byte.result)) (c.self.view_is ∙ is)
    ∙ sym (column_after-append 0 text (posted_text_under modes c.of_byte.result))

pub returns-clause-text : goal.returns-clause-text
returns-clause-text c = λ text is.
    c.column_after-self-inside.ensures
    ∙ (λ i. column_after (c.self.view_is i) (posted_text (c.has.ensures i) (c.as_slice.ensures.bytes i)))
    ∙ ap (λ column. column_after column (posted_text_under c.args.modes.now c.would-piece.result)) is
    ∙ sym (column_after-append 0 text (posted_text_under c.args.modes.now c.would-piece.result))

pub returns-clause-column : goal.returns-clause-column
returns-clause-column c = search rules steps 300000
