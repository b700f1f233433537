use Rattle.std.proofs.Common.{◌≡◌, map, ap, ◌∙◌}
use Rattle.std.specs.Vec.{with_items}
use Rattle.std.proofs.lemmas.List.{with_items_is}
use Rattle.std.proofs.lemmas.Result.{err_from_is_err_and}
use Rattle.tty_base.specs.Sizes.{MOST_ENTRIES}
use Rattle.tty_calls.specs.Sessions.{phase_of}
use Rattle.vt_text.specs.Sessions.{vt_phase_of, vt_session_of}
use Rattle.vt_account.specs.Seats.{operator_names}
use Rattle.vt_account.proofs.KeyLines.{keyed_is}
use Rattle.vt_account.proofs.Playing.{board_denied, memory_denied, had_room}
use Rattle.vt_account.proofs.keying.play_board.Goals as goal

pub returns-clause-keyed : goal.returns-clause-keyed
returns-clause-keyed c =
    let session = vt_session_of c.args.session.now in
    let old = c.into_vec-phases.result in
    let new = c.play_phases.new.phases in
    let written : (with_items old new).items ≡ new =
    with_items_is old new (c.play_phases.auto.phases ∙ c.as_mut_slice.ensures.len) in
    let was : c.as_mut_slice.result.now ≡ c.args.session.now.calls.phases.items =
    c.as_mut_slice.ensures.value ∙ (c.into_vec-phases.ensures ∙ ap (λ b. b.items) c.replace.ensures.value) in
    keyed_is session c.in_ok-names.names c.in_ok-board.board MOST_ENTRIES
    (map vt_phase_of c.as_slice-keyboards.result.now)
    (map phase_of c.as_mut_slice.result.now) (map phase_of c.from_vec.result.items)
    (c.in_ok-names.ensures.names ∙ ap (λ xs. operator_names (map vt_phase_of xs)) c.as_slice.ensures)
    c.in_ok-board.ensures.made
    (ap (map vt_phase_of) c.as_slice-keyboards.ensures)
    (ap (map phase_of) was)
    (ap (λ b. map phase_of b.items) c.from_vec.ensures
    ∙ (ap (map phase_of) written ∙ c.in_ok-play_phases.ensures.phases))

pub returns-clause-room : goal.returns-clause-room
returns-clause-room c =
    had_room (vt_session_of c.args.session.now) c.in_ok-names.names c.in_ok-board.board c.play_phases.new.board
    (map vt_phase_of c.as_slice-keyboards.result.now)
    (c.in_ok-names.ensures.names ∙ ap (λ xs. operator_names (map vt_phase_of xs)) c.as_slice.ensures)
    c.in_ok-board.ensures.made
    (ap (map vt_phase_of) c.as_slice-keyboards.ensures)
    c.in_ok-play_phases.ensures.entries
    c.entries-entries.ensures.board

pub returns-in_err-board-clause-denied : goal.returns-in_err-board-clause-denied
returns-in_err-board-clause-denied c =
    let p = err_from_is_err_and c.from_residual.result c.from_residual.ensures.1 in
    rw (p.1, p.2)
    (memory_denied (vt_session_of c.args.session.now) c.in_err-board.field-0.0 c.in_err-board.ensures.denied)

pub returns-in_err-names-clause-denied : goal.returns-in_err-names-clause-denied
returns-in_err-names-clause-denied c =
    let p = err_from_is_err_and c.from_residual-in_err-names.result c.from_residual-in_err-names.ensures.1 in
    rw (p.1, p.2)
    (memory_denied (vt_session_of c.args.session.now) c.in_err-names.field-0.0 c.in_err-names.ensures.denied)

pub returns-in_err-play_phases-clause-denied : goal.returns-in_err-play_phases-clause-denied
returns-in_err-play_phases-clause-denied c =
    let p =
    err_from_is_err_and c.from_residual-in_err-play_phases.result c.from_residual-in_err-play_phases.ensures.1 in
    rw (p.1, p.2)
    (board_denied (vt_session_of c.args.session.now) c.in_ok-names.names c.in_ok-board.board
    (map vt_phase_of c.as_slice-keyboards.result.now) c.in_err-play_phases.field-0.0
    (c.in_ok-names.ensures.names ∙ ap (λ xs. operator_names (map vt_phase_of xs)) c.as_slice.ensures)
    c.in_ok-board.ensures.made
    (ap (map vt_phase_of) c.as_slice-keyboards.ensures)
    c.in_err-play_phases.ensures.denied)
