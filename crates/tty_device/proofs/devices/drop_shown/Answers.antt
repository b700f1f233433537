use Rattle.std.proofs.Common.{◌≡◌, List, ◌++◌, length, ap, ◌∙◌, arith, length-append}
use Rattle.tty_base.specs.declared.characters.Flagged.{Flagged}
use Rattle.tty_device.specs.Kept.{Taken, dropped_of}
use Rattle.tty_device.proofs.Noting.{taken_is, count_dropped}
use Rattle.tty_device.proofs.devices.drop_shown.Goals as goal

pub overflow_add-count : goal.overflow_add-count
overflow_add-count c =
    let moves = c.drop_all-shown.ensures.moves in
    let xs : List Flagged = moves.0 in
    let each = taken_is c.args.taken.now.items c.args.flip.now.taken c.requires.noted in
    let now = ap length moves.3 ∙ length-append c.args.flip.now.taken xs in
    omega (arith, each, now, moves.1, c.requires.counted, c.taken-most.ensures.count, c.taken-most.type_inv)

pub returns-clause-counted : goal.returns-clause-counted
returns-clause-counted c =
    let moves = c.drop_all-shown.ensures.moves in
    let xs : List Flagged = moves.0 in
    let out : List Flagged = c.drop_all-shown.new.out.items in
    let items : out ≡ xs = ap (λ b. b.items) moves.2 ∙ ap (λ (z : List Flagged). z ++ xs) c.requires.empty in
    let many : length out ≡ length xs = ap length items in
    let more = count_dropped c.args.taken.now.items out in
    let noted = ap (λ (z : List Taken). length (dropped_of z)) c.note.ensures in
    omega (arith, noted, more, many, moves.1, c.requires.counted)
