use Rattle.std.proofs.Common.{◌≡◌, ◌+◌, ◌++◌, ◌∷◌, [], ℕ, List, Some, length}
use Rattle.std.proofs.Common.{sym, ap, subst, refl, arith, length-append}
use Rattle.std.specs.Prelude.{slice_get}
use Rattle.std.specs.Vec.Iter.{into_iter_len}
use Rattle.std.proofs.lemmas.Option.{slice_get_read}
use Rattle.std.proofs.lemmas.Iterator.Adapters.{YieldsList-from_vec}
use Rattle.std.proofs.lemmas.Iterator.Consumers.{YieldsList-turn}
use Rattle.tty_calls.specs.declared.answers.PortEnd.{PortEnd}
use Rattle.tty_calls.specs.declared.journals.PortRun.{PortRun}
use Rattle.tty_calls.specs.Sessions.{session_of}
use Rattle.play_base.specs.Phases.{AreFirstPlayed}
use Rattle.play_base.specs.Roles.{Scene}
use Rattle.play_base.proofs.PortLemmas.{one_more_played}
use Rattle.many_threads.proofs.Onward.{can_end}
use Rattle.threads_play.proofs.session.end_all.Goals as goal

pub end-requires : goal.end-requires
end-requires c =
    let gives = c.into_iter-port-iterator.ensures.into_iter_gives in
    let count : into_iter_len c.into_iter-port-iterator.result ≡ length c.args.ports.items = omega (arith, gives.1) in
    let turn = YieldsList-turn (YieldsList-from_vec c.args.ports.items gives.0 count) c.loop-port.yielded
    c.loop-port.port-iterator c.loop-port.yielded_by c.next.result c.next.new.self
    c.in-Some.port c.in-Some.is c.next.ensures.steps in
    let at : slice_get c.args.ports.items (length c.loop-port.yielded) ≡ Some c.in-Some.port =
    slice_get_read c.args.ports.items (length c.args.ports.items) (length c.loop-port.yielded)
    c.in-Some.port refl turn.0 turn.1 in
    let s : Scene = record { port = length c.loop-port.yielded; session = session_of c.args.session.now } in
    can_end s c.in-Some.port.station c.in-Some.port.end
    (c.requires.in_play (length c.loop-port.yielded) c.in-Some.port at).stands

pub add-requires : goal.add-requires
add-requires c =
    let gives = c.into_iter-port-iterator.ensures.into_iter_gives in
    let count : into_iter_len c.into_iter-port-iterator.result ≡ length c.args.ports.items = omega (arith, gives.1) in
    let turn = YieldsList-turn (YieldsList-from_vec c.args.ports.items gives.0 count) c.loop-port.yielded
    c.loop-port.port-iterator c.loop-port.yielded_by c.next.result c.next.new.self
    c.in-Some.port c.in-Some.is c.next.ensures.steps in
    let below = turn.0 in
    let room = c.loop-port.invariant.room_for_runs in
    let all = c.requires.all in
    let ports = c.from-count.ensures in
    omega (arith, room, below, all, ports)

pub add-requires-in-loop-port : goal.add-requires-in-loop-port
add-requires-in-loop-port c =
    let gives = c.into_iter-port-iterator.ensures.into_iter_gives in
    let count : into_iter_len c.into_iter-port-iterator.result ≡ length c.args.ports.items = omega (arith, gives.1) in
    let turn = YieldsList-turn (YieldsList-from_vec c.args.ports.items gives.0 count) c.loop-port.yielded
    c.loop-port.port-iterator c.loop-port.yielded_by c.next.result c.next.new.self
    c.in-Some.port c.in-Some.is c.next.ensures.steps in
    let below = turn.0 in
    let room = c.loop-port.invariant.room_for_ends in
    let all = c.requires.all in
    let ports = c.from-count.ensures in
    omega (arith, room, below, all, ports)

pub loop-port-preserved : goal.loop-port-preserved
loop-port-preserved c =
    let gives = c.into_iter-port-iterator.ensures.into_iter_gives in
    let count : into_iter_len c.into_iter-port-iterator.result ≡ length c.args.ports.items = omega (arith, gives.1) in
    let turn = YieldsList-turn (YieldsList-from_vec c.args.ports.items gives.0 count) c.loop-port.yielded
    c.loop-port.port-iterator c.loop-port.yielded_by c.next.result c.next.new.self
    c.in-Some.port c.in-Some.is c.next.ensures.steps in
    let n : ℕ = length c.loop-port.yielded in
    let at : slice_get c.args.ports.items n ≡ Some c.in-Some.port =
    slice_get_read c.args.ports.items (length c.args.ports.items) n c.in-Some.port refl turn.0 turn.1 in
    let session = session_of c.args.session.now in
    let s : Scene = record { port = n; session = session } in
    let one : length (c.loop-port.yielded ++ c.in-Some.port ∷ []) ≡ n + 1 =
    length-append c.loop-port.yielded (c.in-Some.port ∷ []) in
    let invariant = c.loop-port.invariant in
    let runs = ap (λ b. b.spare) c.add.ensures in
    let ends = ap (λ b. b.spare) c.add-in-loop-port.ensures in
    let all = c.requires.all in
    let ports = c.from-count.ensures in
    let below = turn.0 in
    record {
      room_for_runs = let room = invariant.room_for_runs in omega (arith, room, runs, one, below, all, ports);
      room_for_ends = let room = invariant.room_for_ends in omega (arith, room, ends, one, below, all, ports);
      played =
          subst (λ (m : ℕ). AreFirstPlayed session m c.add.new.self.items c.add-in-loop-port.new.self.items) (sym one)
          (subst (λ (xs : List PortRun). AreFirstPlayed session (n + 1) xs c.add-in-loop-port.new.self.items)
          (sym (ap (λ b. b.items) c.add.ensures))
          (subst
          (λ (xs : List PortEnd). AreFirstPlayed session (n + 1) (c.loop-port.runs.items ++ c.in_ok-run.run' ∷ []) xs)
          (sym (ap (λ b. b.items) c.add-in-loop-port.ensures))
          (one_more_played session n c.loop-port.runs.items c.loop-port.ends.items c.in_ok-run.run' c.in_ok-run.port_end
          invariant.played (c.in_ok-run.ensures s (c.requires.in_play n c.in-Some.port at)))));
    }
