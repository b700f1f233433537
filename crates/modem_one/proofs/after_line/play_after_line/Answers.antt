use Rattle.std.proofs.Common.{◌≡◌, [], ◌∙◌, sym, subst}
use Rattle.std.proofs.lemmas.Bool.{false≢true}
use Rattle.std.proofs.lemmas.Result.{err_from_is_err_and}
use Rattle.one_thread.specs.declared.after_line.Turn.TheVariants as turn
use Rattle.modem_one.specs.AfterLine.{IsTurnOf}
use Rattle.modem_one.specs.declared.turns.Next.{Next}
use Rattle.modem_one.specs.declared.turns.Next.TheVariants as next
use Rattle.modem_one.proofs.Taking.{in_turn_at, can_end, ring_is, stops_with}
use Rattle.modem_one.proofs.LeftCalls.{begins_between, asked_at, items_at, going_at}
use Rattle.modem_one.proofs.Ending.{ends_turns}
use Rattle.modem_one.proofs.after_line.play_after_line.Goals as goal

pub next_of-next-requires : goal.next_of-next-requires
next_of-next-requires g c =
    let h = begins_between g.frame c.args.roles.now c.args.port.now c.args.desk.now c.args.stand c.args.calls.now
    c.args.items.now c.requires.0 in (
      asked_at g.frame c.args.roles.now c.args.port.now c.args.desk.now c.args.stand c.args.calls.now c.args.items.now
          h,
      (
        items_at g.frame c.args.roles.now c.args.port.now c.args.desk.now c.args.stand c.args.calls.now
            c.args.items.now h,
        going_at g.frame c.args.roles.now c.args.port.now c.args.desk.now c.args.stand c.args.calls.now
            c.args.items.now h,
      ),
    )

pub loop-next-init : goal.loop-next-init
loop-next-init g c =
    record {
      between = begins_between g.frame c.args.roles.now c.args.port.now
          c.args.desk.now c.args.stand c.args.calls.now c.args.items.now c.requires.0;
      turn = c.next_of-next.ensures;
    }

pub next_of-next-requires-in-loop-next : goal.next_of-next-requires-in-loop-next
next_of-next-requires-in-loop-next g c =
    let h = c.in_ok-stand.ensures.ok in (
      asked_at g.frame c.args.roles.now c.play_turn.new.port c.play_turn.new.desk c.in_ok-stand.stand
          c.play_turn.new.calls c.play_turn.new.items h,
      (
        items_at g.frame c.args.roles.now c.play_turn.new.port c.play_turn.new.desk c.in_ok-stand.stand
            c.play_turn.new.calls c.play_turn.new.items h,
        going_at g.frame c.args.roles.now c.play_turn.new.port c.play_turn.new.desk c.in_ok-stand.stand
            c.play_turn.new.calls c.play_turn.new.items h,
      ),
    )

pub loop-next-preserved : goal.loop-next-preserved
loop-next-preserved g c =
    record {
      between = c.in_ok-stand.ensures.ok;
      turn = c.next_of-next-in-loop-next.ensures;
    }

pub returns-in_err-stand-clause-err : goal.returns-in_err-stand-clause-err
returns-in_err-stand-clause-err g c =
    let p = err_from_is_err_and c.from_residual.result c.from_residual.ensures.1 in
    rw (p.1, p.2) c.in_err-stand.ensures.err

pub end_phase-requires-clause-turn : goal.end_phase-requires-clause-turn
end_phase-requires-clause-turn g c =
    let at_end : c.loop-next.next ≡ next.End =
    elim c.match-matches.branch [
      | goal.in-End w ↦ w.in-End.is
      | goal.in_default w ↦ absurd (false≢true (sym w.matches-is ∙ c.if-not-matches.false))
    ] in
    in_turn_at g.frame c.args.roles.now c.loop-next.port c.loop-next.desk
    c.loop-next.stand turn.End c.loop-next.invariant.between.at
    (can_end g.frame c.args.roles.now c.loop-next.port c.loop-next.desk c.loop-next.stand
    c.loop-next.invariant.between.at
    (subst (λ (n : Next). IsTurnOf g.frame c.args.roles.now c.loop-next.port c.loop-next.desk c.loop-next.stand n)
    at_end c.loop-next.invariant.turn))

pub end_phase-requires-clause-ring : goal.end_phase-requires-clause-ring
end_phase-requires-clause-ring g c =
    c.requires.1
    ∙ (ring_is g.frame c.args.roles.now c.args.port.now c.args.desk.now c.args.stand [] c.requires.0.at.playing
    ∙ sym (ring_is g.frame c.args.roles.now c.loop-next.port c.loop-next.desk
    c.loop-next.stand [] c.loop-next.invariant.between.at.playing))

pub returns-in_err-run-clause-err : goal.returns-in_err-run-clause-err
returns-in_err-run-clause-err g c =
    let p = err_from_is_err_and c.from_residual-in_err-run.result c.from_residual-in_err-run.ensures.1 in
    rw (p.1, p.2) (stops_with g.frame c.args.roles.now c.in_err-run.field-0.0 c.loop-next.port c.end_phase.new.port
    c.loop-next.desk c.loop-next.stand [] c.loop-next.invariant.between.at.playing c.in_err-run.ensures.err)

pub returns-clause-ok : goal.returns-clause-ok
returns-clause-ok g c =
    let at_end : c.loop-next.next ≡ next.End =
    elim c.match-matches.branch [
      | goal.in-End w ↦ w.in-End.is
      | goal.in_default w ↦ absurd (false≢true (sym w.matches-is ∙ c.if-not-matches.false))
    ] in
    ends_turns g.frame c.args.roles.now c.loop-next.port c.end_phase.new.port c.args.putter.now c.end_phase.new.putter
    c.loop-next.desk c.loop-next.stand c.loop-next.calls c.loop-next.items _ c.loop-next.invariant.between
    (subst (λ (n : Next). IsTurnOf g.frame c.args.roles.now c.loop-next.port c.loop-next.desk c.loop-next.stand n)
    at_end c.loop-next.invariant.turn)
    c.in_ok-run.ensures.ok c.in_ok-run.ensures.adds c.journal-last.ensures.port c.journal-behind.ensures.port
