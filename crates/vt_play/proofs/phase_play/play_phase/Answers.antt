use Rattle.std.proofs.Common.{◌≡◌, ◌+◌, ◌++◌, length}
use Rattle.many_threads.proofs.Onward.{at_ok}
use Rattle.vt_text.specs.Sessions.{vt_session_of}
use Rattle.vt_play.specs.declared.stage.PhaseOf.{PhaseOf}
use Rattle.vt_play.specs.Parts.{AreConsolesBefore}
use Rattle.vt_play.proofs.Phasing.{next_so, whole_known, whole_so}
use Rattle.vt_play.proofs.Threads.{kept_of, phase_left}
use Rattle.vt_play.proofs.phase_play.play_phase.Goals as goal

pub close_all-requires : goal.close_all-requires
close_all-requires g c =
    let of : PhaseOf = record {
      session = c.args.session;
      names = c.args.names;
      k = c.args.k;
      first = c.args.in_play.first;
    } in
    let consoles = c.args.in_play.consoles.items in
    let seats = c.in_ok-shared.seats in
    let parts = c.in_ok-shared.parts in
    let shared = c.in_ok-shared-2.shared in
    let back = c.in_ok-shared-2.back in
    let left = phase_left of consoles c.share_all.result c.in_ok-shared.shared seats parts c.play_shared-back.result
    c.beside.result shared back c.in_ok-shared.ensures.made c.share_all.ensures.staged
    c.in_ok-shared-2.ensures.made c.beside.ensures.kept c.beside.ensures.made c.play_shared-back.ensures in
    (parts, left.1)

pub whole_all-consoles-requires-clause-known : goal.whole_all-consoles-requires-clause-known
whole_all-consoles-requires-clause-known g c =
    let of : PhaseOf = record {
      session = c.args.session;
      names = c.args.names;
      k = c.args.k;
      first = c.args.in_play.first;
    } in
    let consoles = c.args.in_play.consoles.items in
    let seats = c.in_ok-shared.seats in
    let parts = c.in_ok-shared.parts in
    let shared = c.in_ok-shared-2.shared in
    let back = c.in_ok-shared-2.back in
    let left = phase_left of consoles c.share_all.result c.in_ok-shared.shared seats parts c.play_shared-back.result
    c.beside.result shared back c.in_ok-shared.ensures.made c.share_all.ensures.staged
    c.in_ok-shared-2.ensures.made c.beside.ensures.kept c.beside.ensures.made c.play_shared-back.ensures in
    whole_known of shared seats.items consoles parts left.0 back left.1 c.in_ok-board.board c.in_ok-board.all
    c.in_ok-board.ensures.closed

pub whole_all-consoles-requires-clause-played : goal.whole_all-consoles-requires-clause-played
whole_all-consoles-requires-clause-played g c =
    let of : PhaseOf = record {
      session = c.args.session;
      names = c.args.names;
      k = c.args.k;
      first = c.args.in_play.first;
    } in
    let consoles = c.args.in_play.consoles.items in
    let seats = c.in_ok-shared.seats in
    let parts = c.in_ok-shared.parts in
    let shared = c.in_ok-shared-2.shared in
    let back = c.in_ok-shared-2.back in
    let left = phase_left of consoles c.share_all.result c.in_ok-shared.shared seats parts c.play_shared-back.result
    c.beside.result shared back c.in_ok-shared.ensures.made c.share_all.ensures.staged
    c.in_ok-shared-2.ensures.made c.beside.ensures.kept c.beside.ensures.made c.play_shared-back.ensures in
    whole_so of shared seats.items consoles parts left.0 back left.1 c.in_ok-board.board c.in_ok-board.all
    c.in_ok-board.ensures.closed

pub returns-clause-played : goal.returns-clause-played
returns-clause-played g c =
    let of : PhaseOf = record {
      session = c.args.session;
      names = c.args.names;
      k = c.args.k;
      first = c.args.in_play.first;
    } in
    let consoles = c.args.in_play.consoles.items in
    let seats = c.in_ok-shared.seats in
    let parts = c.in_ok-shared.parts in
    let shared = c.in_ok-shared-2.shared in
    let back = c.in_ok-shared-2.back in
    let left = phase_left of consoles c.share_all.result c.in_ok-shared.shared seats parts c.play_shared-back.result
    c.beside.result shared back c.in_ok-shared.ensures.made c.share_all.ensures.staged
    c.in_ok-shared-2.ensures.made c.beside.ensures.kept c.beside.ensures.made c.play_shared-back.ensures in
    let vt = vt_session_of c.args.session.now in
    let all = c.in_ok-board.all in
    let whole = c.in_ok-board-2.consoles in
    let kept = kept_of c.beside-2.result c.in_ok-board.board c.whole_all-consoles.result c.in_ok-board-2.board whole
    c.in_ok-board-2.ensures.made c.beside-2.ensures.kept c.beside-2.ensures.made in
    next_so of shared seats.items consoles parts left.0 back left.1 c.in_ok-board.board all
    c.in_ok-board.ensures.closed _ kept.0 c.next_first.ensures
    (at_ok c.whole_all-consoles.result whole (λ v. length v.items ≡ length all.kept.items) kept.1
    c.whole_all-consoles.ensures.count)
    (λ entries part played.
    at_ok c.whole_all-consoles.result whole
    (λ v. AreConsolesBefore vt (c.args.k + 1) (entries ++ part) v.items) kept.1
    (c.whole_all-consoles.ensures.before entries part played))
