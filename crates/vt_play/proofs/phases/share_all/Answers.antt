use Rattle.std.proofs.Common.{ap, sym, subst, ◌+◌, ◌≡◌, ℕ, length}
use Rattle.many_threads.proofs.Onward.{at_ok}
use Rattle.vt_consoles.specs.Histories.{history_of}
use Rattle.vt_consoles.specs.Shared.{AreHere, opening_board, seats_of}
use Rattle.vt_text.specs.Sessions.{vt_session_of}
use Rattle.vt_play.specs.declared.parts.AllParts.{AllParts}
use Rattle.vt_play.specs.Parts.{ArePartedAll}
use Rattle.vt_play.proofs.Phasing.{some_before, staged_so}
use Rattle.vt_play.proofs.phases.share_all.Goals as goal

pub part_all-parted-requires-clause-before : goal.part_all-parted-requires-clause-before
part_all-parted-requires-clause-before c = some_before (vt_session_of c.args.of.session.now) c.args.of.k
    c.args.board.entries c.args.consoles.items c.requires.before.consoles

pub returns-clause-staged : goal.returns-clause-staged
returns-clause-staged c =
    let of = c.args.of in
    let calls = of.session.now.calls in
    let kept = c.in_ok-board.board in
    let shared = c.in_ok-parts.shared in
    let seats = c.in_ok-parts.seats in
    let made = c.in_ok-parts.ensures.made in
    let n = c.len.result + 1 in
    staged_so of c.args.board kept c.args.consoles.items shared seats.items c.in_ok-parts.parts n c.requires.phase
    c.requires.before.board c.requires.before.count c.requires.before.consoles c.in_ok-board.ensures.kept
    (at_ok c.new-shared.result (shared, seats) (λ r. opening_board r.0 ≡ kept) made c.new-shared.ensures.opening)
    (ap (λ (m : ℕ). m + 1) c.len.ensures)
    (at_ok c.new-shared.result (shared, seats) (λ r. seats_of r.0 ≡ n) made c.new-shared.ensures.seats)
    (at_ok c.new-shared.result (shared, seats) (λ r. length r.1.items ≡ n) made c.new-shared.ensures.count)
    (at_ok c.new-shared.result (shared, seats) (λ r. AreHere r.0 (history_of kept) 0 r.1.items)
    made c.new-shared.ensures.here)
    (subst (λ (p : AllParts). ArePartedAll calls of.k c.args.consoles.items p) (sym c.in_ok-parts.ensures.kept)
    (at_ok c.part_all-parted.result c.in_ok-board.parts (ArePartedAll calls of.k c.args.consoles.items)
    c.in_ok-board.ensures.made c.part_all-parted.ensures))
