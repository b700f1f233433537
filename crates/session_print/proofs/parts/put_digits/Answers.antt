use Rattle.std.proofs.Common.{◌++◌, ◌∙◌, ap, cond, is_ok, string_bytes}
use Rattle.session_print.proofs.Entries.{short_is_text, short_pushed}
use Rattle.session_print.proofs.parts.put_digits.Goals as goal

pub from_utf8_unchecked-written-requires : goal.from_utf8_unchecked-written-requires
from_utf8_unchecked-written-requires c =
    short_is_text c.args.digit c.args.part c.args.generation c.requires.digit c.requires.part c.requires.generation

pub returns : goal.returns
returns c =
    let r = c.push_str.result in
    let old = string_bytes c.args.text.now in
    short_pushed r (string_bytes c.push_str.new.self) old c.args.digit c.args.part c.args.generation
    c.requires.digit c.requires.part c.requires.generation
    (c.push_str.ensures.bytes ∙ ap (λ xs. cond (is_ok r) (old ++ xs) old) c.from_utf8_unchecked-written.ensures)
