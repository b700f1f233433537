use Rattle.std.proofs.Common.{get_or, length, map, ap, arith}
use Rattle.std.proofs.lemmas.Result.{err_from_is_err_and}
use Rattle.tty_calls.specs.Sessions.{phase_of}
use Rattle.vt_text.specs.Sessions.{vt_phase_of}
use Rattle.vt_account.proofs.Playing.{next_mapped, keys_fit, step_played, phase_lacks}
use Rattle.vt_account.proofs.keying.play_phases.Goals as goal

pub play_phase-requires-clause-keys : goal.play_phase-requires-clause-keys
play_phase-requires-clause-keys c =
    let keyboards = c.args.keyboards.now in
    let x = c.index-keyboards-k.result in
    let fit = keys_fit c.args.names.now (map vt_phase_of keyboards) (vt_phase_of x) c.loop-k.k c.loop-k.first
    c.args.board.now c.loop-k.board (map phase_of c.args.phases.now) (map phase_of c.loop-k.phases)
    (next_mapped vt_phase_of keyboards c.loop-k.k x c.loop-k-test.true c.index-keyboards-k.is) c.loop-k.invariant in
    omega (arith, fit, c.requires.keys)

pub overflow_cast-first : goal.overflow_cast-first
overflow_cast-first c =
    let keyboards = c.args.keyboards.now in
    let x = c.index-keyboards-k.result in
    let fit = keys_fit c.args.names.now (map vt_phase_of keyboards) (vt_phase_of x) c.loop-k.k c.loop-k.first
    c.args.board.now c.loop-k.board (map phase_of c.args.phases.now) (map phase_of c.loop-k.phases)
    (next_mapped vt_phase_of keyboards c.loop-k.k x c.loop-k-test.true c.index-keyboards-k.is) c.loop-k.invariant in
    omega (arith, fit, c.requires.keys, ap (λ xs. length xs) c.as_slice-keys.ensures)

pub overflow_add-first : goal.overflow_add-first
overflow_add-first c =
    let keyboards = c.args.keyboards.now in
    let x = c.index-keyboards-k.result in
    let fit = keys_fit c.args.names.now (map vt_phase_of keyboards) (vt_phase_of x) c.loop-k.k c.loop-k.first
    c.args.board.now c.loop-k.board (map phase_of c.args.phases.now) (map phase_of c.loop-k.phases)
    (next_mapped vt_phase_of keyboards c.loop-k.k x c.loop-k-test.true c.index-keyboards-k.is) c.loop-k.invariant in
    omega (arith, fit, c.requires.keys, ap (λ xs. length xs) c.as_slice-keys.ensures)

pub loop-k-preserved : goal.loop-k-preserved
loop-k-preserved c =
    let y = get_or c.loop-k.phases c.loop-k.k c.index-phases-k.result in
    step_played c.args.names.now c.args.keyboards.now c.index-keyboards-k.result c.loop-k.k c.loop-k.first
    c.args.board.now c.loop-k.board c.play_phase.new.board c.args.phases.now c.loop-k.phases y c.set_lines.new.phase
    c.as_slice-keys.result.now c.loop-k-test.true c.index-keyboards-k.is
    (ap (get_or c.loop-k.phases c.loop-k.k) c.index-phases-k.is) c.as_slice-keys.ensures c.in_ok-set_lines.ensures.set
    c.in_ok-play_phase.ensures.added c.loop-k.invariant

pub returns-in_err-play_phase-clause-denied : goal.returns-in_err-play_phase-clause-denied
returns-in_err-play_phase-clause-denied c =
    let p = err_from_is_err_and c.from_residual-in_err-play_phase.result c.from_residual-in_err-play_phase.ensures.1 in
    rw (p.1, p.2)
    (phase_lacks c.args.names.now c.args.keyboards.now c.index-keyboards-k.result c.loop-k.k c.loop-k.first
    c.args.board.now c.loop-k.board (map phase_of c.args.phases.now) (map phase_of c.loop-k.phases)
    c.in_err-play_phase.field-0.0
    c.loop-k-test.true c.index-keyboards-k.is c.in_err-play_phase.ensures.denied c.loop-k.invariant)
