use Rattle.std.proofs.Common.{rules, arith, ◌≡◌, ◌<◌, List, length, sym, subst}
use Rattle.std.specs.List.{All}
use Rattle.std.proofs.lemmas.Grind.{common_steps}
use Rattle.tty_base.specs.Sizes.{MOST_SENT}
use Rattle.tty_base.specs.declared.characters.Flagged.{Flagged}
use Rattle.word_ring.specs.Ends.{PutterState}
use Rattle.vt_consoles.specs.Shared.{name_of_board}
use Rattle.vt_keyboard.proofs.Pressing.{can_put, can_note}
use Rattle.vt_keyboard.proofs.keyboard.press.Goals as goal

pub key-requires-clause-can_put : goal.key-requires-clause-can_put
key-requires-clause-can_put g c =
    let same : c.as_mut_slice.result.now ≡ c.args.keyed.now.ends.items = first_of (search rules, cc) in
    subst (λ (l : List (PutterState Flagged)). All (λ (p : PutterState Flagged). length p.sent < MOST_SENT) l)
    (sym same)
    (can_put (name_of_board c.args.board.now).consoles 0 c.args.keyed.now.lines.items
    c.args.keyed.now.ends.items c.requires.can)

pub note_at-requires-clause-can : goal.note_at-requires-clause-can
note_at-requires-clause-can g c =
    let same : c.as_mut_slice.result.now ≡ c.args.keyed.now.ends.items = first_of (search rules, cc) in
    let within = subst (λ (l : List (PutterState Flagged)). c.in_ok-pressed.pressed.console < length l)
    same c.in_ok-pressed.ensures.puts.within in
    let lines : c.as_mut_slice-2.result.now ≡ c.args.keyed.now.lines.items = first_of (search rules, cc) in
    rw lines (can_note (name_of_board c.args.board.now).consoles 0 c.args.keyed.now.lines.items
    c.args.keyed.now.ends.items c.in_ok-pressed.pressed.console c.requires.can within)

pub returns-clause-ok : goal.returns-clause-ok
returns-clause-ok g c = first_of (search rules steps 1000000, grind (arith, common_steps) steps 1000000)
