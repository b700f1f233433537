use Rattle.std.proofs.Common.{◌≡◌, length, arith}
use Rattle.std.proofs.lemmas.List.{length-map}
use Rattle.tty_base.specs.Characters.{good_character, good_characters}
use Rattle.port_core.proofs.Giving.{passes_given}
use Rattle.port_core.proofs.flips.take_given.Goals as goal

pub returns-then-received-eq8 : goal.returns-then-received-eq8
returns-then-received-eq8 c =
    let bytes = c.args.bytes.now in
    let count : length (good_characters bytes) ≡ length bytes = length-map bytes good_character in
    passes_given _ _ _ _ (good_characters bytes) c.args.received c.requires.clear
    (omega (arith, count, c.if-received-eq8.true)) (omega (arith, count, c.capacity-room.ensures.least))
    (omega (arith, count, c.if-received-eq8.true)) c.pass.ensures
