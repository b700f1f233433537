use Rattle.std.proofs.Common.{◌≡◌, ◌+◌, List, [], ◌∷◌, ◌++◌, ap, subst, sym, ◌∙◌, arith}
use Rattle.tty_calls.specs.declared.answers.PortEnd.{PortEnd}
use Rattle.tty_calls.specs.declared.journals.PortRun.{PortRun}
use Rattle.tty_calls.specs.Sessions.{session_of}
use Rattle.play_base.specs.Phases.{AreFirstPlayed}
use Rattle.play_base.specs.Played.{AreInOneOrder}
use Rattle.play_base.proofs.PortLemmas.{one_more_played, none_played, all_played, one_more_in_order, none_in_order}
use Rattle.one_thread.proofs.playing.play.Goals as goal

pub loop-number-init : goal.loop-number-init
loop-number-init c =
    let runs : c.reserve.new.self.items ≡ [] = c.in_ok-reserve.ensures.items ∙ ap (λ b. b.items) c.new-runs.ensures in
    let ends : c.reserve-2.new.self.items ≡ [] =
    c.in_ok-reserve-2.ensures.items ∙ ap (λ b. b.items) c.new-ends.ensures in
    let some_runs = c.in_ok-reserve.ensures.ok in
    let some_ends = c.in_ok-reserve-2.ensures.ok in
    record {
      room_for_runs = omega (arith, some_runs);
      room_for_ends = omega (arith, some_ends);
      played = subst
          (λ (xs : List PortRun). AreFirstPlayed (session_of c.args.session.now) 0 xs c.reserve-2.new.self.items)
          (sym runs)
          (subst (λ (xs : List PortEnd). AreFirstPlayed (session_of c.args.session.now) 0 [] xs) (sym ends)
          (none_played (session_of c.args.session.now)));
      in_order = subst (AreInOneOrder (session_of c.args.session.now)) (sym runs)
          (none_in_order (session_of c.args.session.now));
    }

pub loop-number-preserved : goal.loop-number-preserved
loop-number-preserved c =
    let invariant = c.loop-number.invariant in
    let runs = ap (λ b. b.spare) c.add.ensures in
    let ends = ap (λ b. b.spare) c.add-in-loop-number.ensures in
    let below = c.loop-number-test.true in
    record {
      room_for_runs = let room = invariant.room_for_runs in omega (arith, room, runs, below);
      room_for_ends = let room = invariant.room_for_ends in omega (arith, room, ends, below);
      played = subst (λ (xs : List PortRun). AreFirstPlayed (session_of c.args.session.now) (c.loop-number.number + 1)
          xs c.add-in-loop-number.new.self.items)
          (sym (ap (λ b. b.items) c.add.ensures))
          (subst (λ (xs : List PortEnd). AreFirstPlayed (session_of c.args.session.now) (c.loop-number.number + 1)
          (c.loop-number.runs.items ++ c.in_ok-run.run' ∷ []) xs)
          (sym (ap (λ b. b.items) c.add-in-loop-number.ensures))
          (one_more_played (session_of c.args.session.now) c.loop-number.number c.loop-number.runs.items
          c.loop-number.ends.items c.in_ok-run.run' c.in_ok-run.end invariant.played c.in_ok-run.ensures.played));
      in_order = subst (AreInOneOrder (session_of c.args.session.now)) (sym (ap (λ b. b.items) c.add.ensures))
          (one_more_in_order (session_of c.args.session.now) c.loop-number.number c.loop-number.runs.items
          c.in_ok-run.run' invariant.played.runs_of invariant.in_order c.in_ok-run.ensures.in_order);
    }

pub returns : goal.returns
returns c =
    let ports = c.from-ports.ensures in
    let past = c.loop-number-test.false in
    let end = c.loop-number.auto.number-end in
    record {
      played = all_played (session_of c.args.session.now) c.loop-number.number c.loop-number.runs.items
          c.loop-number.ends.items c.loop-number.invariant.played (omega (arith, ports, past, end));
      in_order = c.loop-number.invariant.in_order;
    }
