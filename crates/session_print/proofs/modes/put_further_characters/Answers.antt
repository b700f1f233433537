use Rattle.std.proofs.Common.{string_bytes}
use Rattle.session_print.proofs.ModeTexts.{character_more}
use Rattle.session_print.proofs.modes.put_further_characters.Goals as goal

pub loop-place-preserved : goal.loop-place-preserved
loop-place-preserved c =
    character_more c.args.modes.now _ (string_bytes c.loop-place.text) (string_bytes c.push_str.new.self)
    (string_bytes c.put_character.new.text) c.loop-place.place c.loop-place-test.true c.in_ok-push_str.ensures.bytes
    c.in_ok-put_character.ensures c.loop-place.invariant
