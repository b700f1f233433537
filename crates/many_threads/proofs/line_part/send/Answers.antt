use Rattle.std.proofs.Common.{◌+◌, ◌-◌, ◌≤◌, List, [], ◌++◌, take, refl}
use Rattle.std.proofs.Common.{sym, subst, ◌∙◌, arith, append-nil, length}
use Rattle.std.proofs.lemmas.List.{take_all}
use Rattle.tty_base.specs.Sizes.{MOST_SENT}
use Rattle.tty_base.specs.declared.characters.Flag.TheVariants.{Normal}
use Rattle.tty_base.specs.declared.characters.Flagged.{Flagged}
use Rattle.tty_base.specs.declared.lines.LineStep.{LineStep}
use Rattle.tty_base.specs.declared.lines.LineStep.TheVariants.{Rx}
use Rattle.uart_line.specs.Received.{received_list}
use Rattle.uart_line.proofs.Steps.{take-step, arrival_count-take, arrival_count-take-≤, HandsOver-none}
use Rattle.play_base.proofs.Meetings.{names_tell}
use Rattle.many_threads.proofs.SendLemmas.{hands_over_more, closed_script-append}
use Rattle.many_threads.proofs.line_part.send.Goals as goal

pub loop-step-init : goal.loop-step-init
loop-step-init g c = record {
  seat = refl;
  done = λ before d. rw append-nil d;
  hands_over = λ before d. rw append-nil (HandsOver-none _ (received_list before) _ _ _);
  ring = refl;
  capacity = refl;
  rise = λ h. h;
  room = refl;
  arrived = omega arith;
  put = c.requires.put;
}

-- what a read past the end would give
abbrev nothing : LineStep
nothing = Rx (record { byte = 0; flag = Normal })

pub step-requires-clause-room : goal.step-requires-clause-room
step-requires-clause-room g c =
    let i = c.loop-step.invariant in
    omega (
      arith,
      i.arrived,
      i.room,
      c.requires.room,
      arrival_count-take c.args.steps.now c.loop-step.step-index nothing c.loop-step-test.true,
      arrival_count-take-≤ c.args.steps.now (c.loop-step.step-index + 1),
    )

pub step-requires-clause-put : goal.step-requires-clause-put
step-requires-clause-put g c =
    subst (λ (sent : List Flagged). c.loop-step.line.most ≤ (MOST_SENT - length sent) + c.loop-step.line.handed)
    (sym c.give_way.ensures.sent) c.loop-step.invariant.put

pub loop-step-preserved : goal.loop-step-preserved
loop-step-preserved g c =
    let i = c.loop-step.invariant in
    let w = c.give_way.ensures in
    let more = arrival_count-take c.args.steps.now c.loop-step.step-index nothing c.loop-step-test.true in
    let capacity = w.same.1 ∙ i.capacity in
    record {
      seat = w.seat ∙ i.seat;
      done = λ before d. rw (take-step before c.args.steps.now c.loop-step.step-index nothing c.loop-step-test.true)
          (c.step.ensures.done (before ++ take c.loop-step.step-index c.args.steps.now) (i.done before d));
      hands_over = λ before d.
          rw (take-step before c.args.steps.now c.loop-step.step-index nothing c.loop-step-test.true)
          (hands_over_more _ _ _ _ _ _ _ _ _ _ _ _ _ _ _ _ (i.hands_over before d) w.sent w.heads.1 capacity
          (c.step.ensures.hands_over (before ++ take c.loop-step.step-index c.args.steps.now) (i.done before d)));
      ring = names_tell _ _ c.step.ensures.name ∙ (w.same.0 ∙ i.ring);
      capacity = c.step.ensures.capacity ∙ capacity;
      rise = λ h. c.step.ensures.rise (w.rise (i.rise h));
      room = c.step.ensures.room ∙ i.room;
      arrived = omega (arith, c.step.ensures.arrived, i.arrived, more);
      put = c.step.ensures.put;
    }

pub returns-clause-runs : goal.returns-clause-runs
returns-clause-runs g c =
    let i = c.loop-step.invariant in
    let all = take_all c.loop-step.step-index c.args.steps.now c.loop-step-test.false in
    record {
      done = λ before d.
          rw (closed_script-append before c.args.steps.now, ← all) (c.run.ensures.done _ (i.done before d));
      hands_over = λ before d. rw (closed_script-append before c.args.steps.now, ← all)
          (hands_over_more _ _ _ _ _ _ _ _ [] _ _ _ _ _ _ _ (i.hands_over before d) refl (sym (append-nil _)) i.capacity
          (c.run.ensures.hands_over _ (i.done before d)));
      ring = names_tell _ _ c.run.ensures.name ∙ i.ring;
      capacity = c.run.ensures.capacity ∙ i.capacity;
      most = c.run.ensures.room ∙ i.room;
      arrived = rw (← all) (omega (arith, c.run.ensures.arrived, i.arrived));
      room = c.run.ensures.put;
      rise = λ h. c.run.ensures.rise (i.rise h);
    }
