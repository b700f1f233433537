use Rattle.std.proofs.Common.{subst}
use Rattle.std.proofs.lemmas.Result.{on_ok_weaker, IfErr-weaker, err_from_is_err_and}
use Rattle.vt_text.specs.Sessions.{operators_of, vt_phase_of}
use Rattle.vt_consoles.specs.Boards.{active_on}
use Rattle.vt_account.specs.InOrder.{operators_entries, phase_entries}
use Rattle.vt_account.specs.Played.{AddsAll, LacksRoom}
use Rattle.vt_account.proofs.Playing.{phase_played, keys_lack, operators_lack}
use Rattle.vt_account.proofs.board.play_phase.Goals as goal

pub returns-clause-added : goal.returns-clause-added
returns-clause-added c =
    let a = c.args.board.now in
    let b = c.press_all.new.board in
    let names = c.args.names.now in
    on_ok_weaker c.operate.result
    (λ (d : AddsAll (operators_entries names b.consoles (active_on b) (operators_of c.as_slice.result.now))
    b c.operate.new.board). phase_played a b c.operate.new.board names c.args.first c.len-keyboard.result c.len.result
    (vt_phase_of c.args.phase.now) c.len-keyboard.ensures c.len.ensures c.in_ok-press_all.ensures.added
    (subst (λ xs. AddsAll (operators_entries names b.consoles (active_on b) (operators_of xs)) b c.operate.new.board)
    c.as_slice.ensures d))
    c.operate.ensures.added

pub returns-clause-denied : goal.returns-clause-denied
returns-clause-denied c =
    let a = c.args.board.now in
    let b = c.press_all.new.board in
    let names = c.args.names.now in
    let phase = vt_phase_of c.args.phase.now in
    IfErr-weaker c.operate.result
    (λ denied.
    LacksRoom (operators_entries names b.consoles (active_on b) (operators_of c.as_slice.result.now)) b denied)
    (λ denied. LacksRoom (phase_entries names a.consoles (active_on a) c.args.first phase) a denied)
    (λ denied lacks. operators_lack a b names c.args.first c.len-keyboard.result c.len.result phase denied
    c.len-keyboard.ensures c.len.ensures c.in_ok-press_all.ensures.added
    (subst (λ xs. LacksRoom (operators_entries names b.consoles (active_on b) (operators_of xs)) b denied)
    c.as_slice.ensures lacks))
    c.operate.ensures.denied

pub returns-in_err-press_all-clause-denied : goal.returns-in_err-press_all-clause-denied
returns-in_err-press_all-clause-denied c =
    let p = err_from_is_err_and c.from_residual.result c.from_residual.ensures.1 in
    rw (p.1, p.2)
    (keys_lack c.args.board.now c.args.names.now c.args.first c.len-keyboard.result c.len.result
    (vt_phase_of c.args.phase.now) c.in_err-press_all.field-0.0 c.len-keyboard.ensures
    c.len.ensures c.in_err-press_all.ensures.denied)
