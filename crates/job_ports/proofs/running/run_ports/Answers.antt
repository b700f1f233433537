use Rattle.std.proofs.Common.{◌≡◌, ℕ, List, [], map, ap, subst, sym, ◌∙◌, arith}
use Rattle.tty_calls.specs.declared.answers.PortEnd.{PortEnd}
use Rattle.tty_calls.specs.declared.journals.PortRun.{PortRun}
use Rattle.passed_calls.specs.declared.logs.Logged.{Logged}
use Rattle.job_text.specs.declared.logs.JobEvent.{JobEvent as KeptEvent}
use Rattle.job_text.specs.Events.{logged_of}
use Rattle.job_text.specs.Sessions.{jobs_session_of}
use Rattle.job_ports.specs.Ports.{AreFirstPlayed, IsPortPlayed}
use Rattle.passed_ports.proofs.Joining.{nothing_played, port_more}
use Rattle.job_ports.proofs.running.run_ports.Goals as goal

pub loop-number-init : goal.loop-number-init
loop-number-init c =
    let session = jobs_session_of c.args.session.now in
    let runs : c.reserve.new.self.items ≡ [] = c.in_ok-reserve.ensures.items ∙ ap (λ b. b.items) c.new-runs.ensures in
    let ends : c.reserve-2.new.self.items ≡ [] =
    c.in_ok-reserve-2.ensures.items ∙ ap (λ b. b.items) c.new-ends.ensures in
    let some_runs = c.in_ok-reserve.ensures.ok in
    let some_ends = c.in_ok-reserve-2.ensures.ok in
    let count = c.from-count.ensures in
    record {
      room_for_runs = omega (arith, some_runs, count);
      room_for_ends = omega (arith, some_ends, count);
      played = subst (λ (xs : List PortRun).
          AreFirstPlayed session 0 (map logged_of c.new-log.result.items) xs c.reserve-2.new.self.items)
          (sym runs)
          (subst (λ (xs : List PortEnd). AreFirstPlayed session 0 (map logged_of c.new-log.result.items) [] xs)
          (sym ends)
          (subst (λ (ls : List (Logged KeptEvent)). AreFirstPlayed session 0 (map logged_of ls) [] [])
          (sym c.new-log.ensures.items) (nothing_played (λ p log run end. IsPortPlayed p session log run end))));
    }

pub loop-number-preserved : goal.loop-number-preserved
loop-number-preserved c =
    let session = jobs_session_of c.args.session.now in
    let at = c.loop-number in
    let invariant = at.invariant in
    let runs = ap (λ b. b.spare) c.add.ensures in
    let ends = ap (λ b. b.spare) c.add-in-loop-number.ensures in
    let below = c.loop-number-test.true in
    let played = c.in_ok-played.played in
    record {
      room_for_runs = let room = invariant.room_for_runs in omega (arith, room, runs, below);
      room_for_ends = let room = invariant.room_for_ends in omega (arith, room, ends, below);
      played = port_more (λ p log run end. IsPortPlayed p session log run end) logged_of at.number at.log.items
          played.log.items c.add_log.new.log.items at.runs.items
          c.add.new.self.items at.ends.items c.add-in-loop-number.new.self.items played.run played.end invariant.played
          c.in_ok-played.ensures.played c.in_ok-played.ensures.own
          c.in_ok-add_log.ensures (ap (λ b. b.items) c.add.ensures) (ap (λ b. b.items) c.add-in-loop-number.ensures);
    }

pub returns : goal.returns
returns c =
    let session = jobs_session_of c.args.session.now in
    let at = c.loop-number in
    let past = c.loop-number-test.false in
    let end = at.auto.number-end in
    let number : at.number ≡ session.ports = omega (arith, past, end) in
    subst (λ (n : ℕ). AreFirstPlayed session n (map logged_of at.log.items) at.runs.items at.ends.items) number
    at.invariant.played
