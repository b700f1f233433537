use Rattle.std.proofs.Common.{◌+◌, ◌++◌, max, ℕ, List, [], length, ap, subst, ◌∙◌}
use Rattle.tty_base.specs.Characters.{good_characters}
use Rattle.word_ring.specs.Ends.{Passes}
use Rattle.tty_device.proofs.TakingIn.{passed_some}
use Rattle.tty_device.proofs.intake.give.Goals as goal

pub returns-then-count-bytes : goal.returns-then-count-bytes
returns-then-count-bytes c =
    let f = c.args.flip.now in
    let g = c.pass.new.self in
    let p = c.args.input.now in
    let q = c.pass.new.input in
    passed_some f g p q c.args.bytes.now c.args.count c.requires.clear
    (subst (λ (xs : List ℕ). Passes p q f g (good_characters xs)) c.front_of.ensures c.pass.ensures)
    c.keep.new.flip c.keep.new.input
    (c.keep.ensures.input
    ∙ ap (λ (xs : List ℕ). record q { sent = q.sent ++ good_characters xs; pushed = q.sent ++ good_characters xs })
    c.rest_of.ensures)
    (c.keep.ensures.flip
    ∙ ap (λ (xs : List ℕ). record g { peeked = []; floor = max g.floor (length q.sent + length xs) }) c.rest_of.ensures)
