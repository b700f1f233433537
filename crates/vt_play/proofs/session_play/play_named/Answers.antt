use Rattle.std.proofs.Common.{◌≡◌, ℕ, length, arith, subst}
use Rattle.std.proofs.lemmas.List.{length-map}
use Rattle.many_threads.proofs.Onward.{at_ok}
use Rattle.vt_text.specs.Sessions.{vt_phase_of, vt_session_of}
use Rattle.vt_one.specs.Played.{IsVtPlayed}
use Rattle.vt_play.specs.Phases.{IsVtBefore}
use Rattle.vt_play.proofs.Threads.{passed_on}
use Rattle.vt_play.proofs.session_play.play_named.Goals as goal

pub loop-k-init : goal.loop-k-init
loop-k-init g c = record {
  before = at_ok c.open.result c.in_ok-in_play.in_play (IsVtBefore (vt_session_of c.args.session.now) 0)
      c.in_ok-in_play.ensures.made c.open.ensures;
}

pub play_phase-requires-clause-before : goal.play_phase-requires-clause-before
play_phase-requires-clause-before g c κs within = c.loop-k.invariant.before

pub loop-k-preserved : goal.loop-k-preserved
loop-k-preserved g c = record { before = c.in_ok-in_play-2.ensures.played }

pub end-requires : goal.end-requires
end-requires g c =
    let vt = vt_session_of c.args.session.now in
    let all = c.loop-k-test.false in
    let within = c.loop-k.auto.k-end in
    let phases = c.len-k-end.ensures in
    let size = length-map c.args.session.now.phases.items vt_phase_of in
    let last : c.loop-k.k ≡ length vt.phases = omega (arith, all, within, phases, size) in
    (vt, (c.requires.within, subst (λ (n : ℕ). IsVtBefore vt n c.loop-k.in_play) last c.loop-k.invariant.before))

pub returns-clause-played : goal.returns-clause-played
returns-clause-played g c =
    let vt = vt_session_of c.args.session.now in
    let all = c.loop-k-test.false in
    let within = c.loop-k.auto.k-end in
    let phases = c.len-k-end.ensures in
    let size = length-map c.args.session.now.phases.items vt_phase_of in
    let last : c.loop-k.k ≡ length vt.phases = omega (arith, all, within, phases, size) in
    passed_on c.or_denied-2.result c.end.result
    (λ played. IsVtPlayed vt played.board.entries played.consoles.runs.items played.consoles.ends.items)
    c.or_denied-2.ensures.made
    (c.end.ensures vt
    (c.requires.within, subst (λ (n : ℕ). IsVtBefore vt n c.loop-k.in_play) last c.loop-k.invariant.before))
