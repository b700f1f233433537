use Rattle.std.proofs.Common.{sym, subst}
use Rattle.std.proofs.lemmas.Result.{err_from_is_err_and}
use Rattle.tty_calls.specs.Limits.{IsWithinLimits}
use Rattle.tty_calls.specs.Sessions.{session_of}
use Rattle.vt_text.specs.Sessions.{vt_session_of}
use Rattle.vt_account.specs.InOrder.{entries_in_order}
use Rattle.vt_account.proofs.Playing.{memory_denied}
use Rattle.vt_one.proofs.Parts.{keyed_by, is_played, is_in_order}
use Rattle.vt_one.proofs.playing.play_vt.Goals as goal

pub play_consoles-requires : goal.play_consoles-requires
play_consoles-requires c =
    let session = vt_session_of c.args.session.now in
    subst IsWithinLimits (sym c.in_ok-board.ensures.keyed)
    (c.keyed_sessions_are_within_limits.ensures session (entries_in_order session) c.requires)

pub returns-clause-played : goal.returns-clause-played
returns-clause-played c =
    let session = vt_session_of c.args.session.now in
    is_played session (session_of c.play_board.new.session.calls) c.in_ok-board.board.entries
    c.in_ok-consoles.consoles.runs.items c.in_ok-consoles.consoles.ends.items
    c.in_ok-board.ensures.entries c.in_ok-board.ensures.keyed (c.entries_in_order_are_an_account.ensures session)
    c.in_ok-consoles.ensures.played

pub returns-clause-in_order : goal.returns-clause-in_order
returns-clause-in_order c =
    let session = vt_session_of c.args.session.now in
    is_in_order session (session_of c.play_board.new.session.calls) c.in_ok-board.board.entries
    c.in_ok-consoles.consoles.runs.items
    c.in_ok-board.ensures.entries c.in_ok-board.ensures.keyed c.in_ok-consoles.ensures.in_order

pub returns-clause-keyed : goal.returns-clause-keyed
returns-clause-keyed c =
    keyed_by (vt_session_of c.args.session.now) (session_of c.play_board.new.session.calls) c.in_ok-board.board.entries
    c.in_ok-board.ensures.entries c.in_ok-board.ensures.keyed

pub returns-in_err-consoles-clause-denied : goal.returns-in_err-consoles-clause-denied
returns-in_err-consoles-clause-denied c =
    let p = err_from_is_err_and c.from_residual-in_err-consoles.result c.from_residual-in_err-consoles.ensures.1 in
    rw (p.1, p.2)
    (memory_denied (vt_session_of c.args.session.now) c.in_err-consoles.field-0.0 c.in_err-consoles.ensures.denied)
