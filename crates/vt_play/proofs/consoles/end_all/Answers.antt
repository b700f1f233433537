use Rattle.std.proofs.Common.{rules, ◌≡◌, ◌+◌, ◌++◌, ◌∷◌, [], List, Some, None, length}
use Rattle.std.proofs.Common.{sym, ap, subst, refl, arith, length-append}
use Rattle.std.specs.Prelude.{slice_get}
use Rattle.std.specs.Vec.Iter.{into_iter_len}
use Rattle.std.proofs.lemmas.Option.{slice_get_read}
use Rattle.std.proofs.lemmas.Iterator.Adapters.{YieldsList-from_vec}
use Rattle.std.proofs.lemmas.Iterator.Consumers.{YieldsList-turn, YieldsList-end}
use Rattle.tty_calls.specs.declared.answers.PortEnd.{PortEnd}
use Rattle.tty_calls.specs.declared.journals.PortRun.{PortRun}
use Rattle.play_base.specs.Phases.{AreFirstPlayed}
use Rattle.vt_play.proofs.ConsoleLists.{all_ended, none_ended, one_more_ended}
use Rattle.vt_play.proofs.consoles.end_all.Goals as goal

pub loop-console-init : goal.loop-console-init
loop-console-init c = record {
  room_for_runs = first_of (search rules, omega arith);
  room_for_ends = first_of (search rules, omega arith);
  played = λ x stand. none_ended x _ _ (first_of (search rules, cc)) (first_of (search rules, cc));
}

pub end_console-requires : goal.end_console-requires
end_console-requires c =
    let gives = c.into_iter-console-iterator.ensures.into_iter_gives in
    let count : into_iter_len c.into_iter-console-iterator.result ≡ length c.args.consoles.items =
    omega (arith, gives.1) in
    let turn = YieldsList-turn (YieldsList-from_vec c.args.consoles.items gives.0 count) c.loop-console.yielded
    c.loop-console.console-iterator c.loop-console.yielded_by c.next.result c.next.new.self
    c.in-Some.console c.in-Some.is c.next.ensures.steps in
    let at : slice_get c.args.consoles.items (length c.loop-console.yielded) ≡ Some c.in-Some.console =
    slice_get_read c.args.consoles.items (length c.args.consoles.items) (length c.loop-console.yielded)
    c.in-Some.console refl turn.0 turn.1 in
    c.requires (length c.loop-console.yielded) c.in-Some.console at

pub add-requires : goal.add-requires
add-requires c =
    let gives = c.into_iter-console-iterator.ensures.into_iter_gives in
    let count : into_iter_len c.into_iter-console-iterator.result ≡ length c.args.consoles.items =
    omega (arith, gives.1) in
    let turn = YieldsList-turn (YieldsList-from_vec c.args.consoles.items gives.0 count) c.loop-console.yielded
    c.loop-console.console-iterator c.loop-console.yielded_by c.next.result c.next.new.self
    c.in-Some.console c.in-Some.is c.next.ensures.steps in
    let below = turn.0 in
    let room = c.loop-console.invariant.room_for_runs in
    let all = c.len-count.ensures in
    omega (arith, room, below, all)

pub add-requires-in-loop-console : goal.add-requires-in-loop-console
add-requires-in-loop-console c =
    let gives = c.into_iter-console-iterator.ensures.into_iter_gives in
    let count : into_iter_len c.into_iter-console-iterator.result ≡ length c.args.consoles.items =
    omega (arith, gives.1) in
    let turn = YieldsList-turn (YieldsList-from_vec c.args.consoles.items gives.0 count) c.loop-console.yielded
    c.loop-console.console-iterator c.loop-console.yielded_by c.next.result c.next.new.self
    c.in-Some.console c.in-Some.is c.next.ensures.steps in
    let below = turn.0 in
    let room = c.loop-console.invariant.room_for_ends in
    let all = c.len-count.ensures in
    omega (arith, room, below, all)

pub loop-console-preserved : goal.loop-console-preserved
loop-console-preserved c =
    let gives = c.into_iter-console-iterator.ensures.into_iter_gives in
    let count : into_iter_len c.into_iter-console-iterator.result ≡ length c.args.consoles.items =
    omega (arith, gives.1) in
    let turn = YieldsList-turn (YieldsList-from_vec c.args.consoles.items gives.0 count) c.loop-console.yielded
    c.loop-console.console-iterator c.loop-console.yielded_by c.next.result c.next.new.self
    c.in-Some.console c.in-Some.is c.next.ensures.steps in
    let yielded = c.loop-console.yielded in
    let one : length (yielded ++ c.in-Some.console ∷ []) ≡ length yielded + 1 =
    length-append yielded (c.in-Some.console ∷ []) in
    let invariant = c.loop-console.invariant in
    let runs = ap (λ b. b.spare) c.add.ensures in
    let ends = ap (λ b. b.spare) c.add-in-loop-console.ensures in
    let all = c.len-count.ensures in
    let below = turn.0 in
    record {
      room_for_runs = let room = invariant.room_for_runs in omega (arith, room, runs, one, below, all);
      room_for_ends = let room = invariant.room_for_ends in omega (arith, room, ends, one, below, all);
      played = λ x stand.
          subst (λ (xs : List PortRun).
          AreFirstPlayed x (length (yielded ++ c.in-Some.console ∷ [])) xs c.add-in-loop-console.new.self.items)
          (sym (ap (λ b. b.items) c.add.ensures))
          (subst (λ (xs : List PortEnd). AreFirstPlayed x (length (yielded ++ c.in-Some.console ∷ []))
          (c.loop-console.runs.items ++ c.in_ok-run.run' ∷ []) xs)
          (sym (ap (λ b. b.items) c.add-in-loop-console.ensures))
          (one_more_ended x yielded c.in-Some.console c.loop-console.runs.items c.loop-console.ends.items
          c.in_ok-run.run' c.in_ok-run.port_end (invariant.played x) c.in_ok-run.ensures stand));
    }

pub returns : goal.returns
returns c x ports stand =
    let gives = c.into_iter-console-iterator.ensures.into_iter_gives in
    let count : into_iter_len c.into_iter-console-iterator.result ≡ length c.args.consoles.items =
    omega (arith, gives.1) in
    let none : c.next.result ≡ None = first_of (search rules, cc) in
    let over = YieldsList-end (YieldsList-from_vec c.args.consoles.items gives.0 count) c.loop-console.yielded
    c.loop-console.console-iterator c.loop-console.yielded_by c.next.result c.next.new.self none c.next.ensures.steps in
    all_ended x c.args.consoles.items c.loop-console.yielded c.loop-console.runs.items c.loop-console.ends.items over.0
    ports stand (c.loop-console.invariant.played x)
