use Rattle.std.proofs.Common.{◌+◌, ◌++◌, take, refl, ◌∙◌, arith, append-nil, inl}
use Rattle.std.proofs.lemmas.List.{take_all}
use Rattle.tty_base.specs.declared.characters.Flag.TheVariants.{Normal}
use Rattle.tty_base.specs.declared.lines.LineStep.{LineStep}
use Rattle.tty_base.specs.declared.lines.LineStep.TheVariants.{Rx}
use Rattle.uart_line.specs.Received.{received_list}
use Rattle.uart_line.proofs.OfferedLemmas.{HandsOver-trans}
use Rattle.uart_line.proofs.Steps.{take-step, arrival_count-take, arrival_count-take-≤, closed_script-steps}
use Rattle.uart_line.proofs.Steps.{waiting_list-closed_script, HandsOver-none, shown_again}
use Rattle.uart_line.proofs.Line.run.Goals as goal

pub loop-step-init : goal.loop-step-init
loop-step-init g c = record {
  done = λ before d. rw append-nil d;
  hands_over = λ before d. rw append-nil (HandsOver-none _ (received_list before) _ _ _);
  shown = inl refl;
  capacity = refl;
  rise = λ h. h;
  room = refl;
  arrived = omega arith;
  name = refl;
  put = c.requires.put;
}

-- what a read past the end would give
abbrev nothing : LineStep
nothing = Rx (record { byte = 0; flag = Normal })

pub advance-requires-clause-room : goal.advance-requires-clause-room
advance-requires-clause-room g c =
    let i = c.loop-step.invariant in
    omega (
      arith,
      i.arrived,
      i.room,
      arrival_count-take c.args.steps.now c.loop-step.step-index nothing c.loop-step-test.true,
      arrival_count-take-≤ c.args.steps.now (c.loop-step.step-index + 1),
    )

pub loop-step-preserved : goal.loop-step-preserved
loop-step-preserved g c =
    let i = c.loop-step.invariant in
    let more = arrival_count-take c.args.steps.now c.loop-step.step-index nothing c.loop-step-test.true in
    record {
      done = λ before d. rw (take-step before c.args.steps.now c.loop-step.step-index nothing c.loop-step-test.true)
          (c.advance.ensures.done (before ++ take c.loop-step.step-index c.args.steps.now) (i.done before d));
      hands_over = λ before d.
          rw (take-step before c.args.steps.now c.loop-step.step-index nothing c.loop-step-test.true)
          (HandsOver-trans _ _ _ _ _ _ _ _ _ _ _ _ _ (i.hands_over before d)
          (rw i.capacity at
          (c.advance.ensures.hands_over (before ++ take c.loop-step.step-index c.args.steps.now) (i.done before d))));
      shown = shown_again g.P.Put.visible _ _ _ _ i.shown c.advance.ensures.shown;
      capacity = c.advance.ensures.capacity ∙ i.capacity;
      rise = λ h. c.advance.ensures.rise (i.rise h);
      room = c.advance.ensures.room ∙ i.room;
      arrived = omega (arith, c.advance.ensures.arrived, i.arrived, more);
      name = c.advance.ensures.name ∙ i.name;
      put = c.advance.ensures.put;
    }

pub returns-clause-done : goal.returns-clause-done
returns-clause-done g c = λ before d.
    let all = take_all c.loop-step.step-index c.args.steps.now c.loop-step-test.false in
    rw (closed_script-steps before c.args.steps.now, ← all)
    (c.advance-3.ensures.done _ (c.advance-2.ensures.done _ (c.loop-step.invariant.done before d)))

pub returns-clause-whole : goal.returns-clause-whole
returns-clause-whole g c = λ before. waiting_list-closed_script before c.args.steps.now

pub returns-clause-hands_over : goal.returns-clause-hands_over
returns-clause-hands_over g c = λ before d.
    let i = c.loop-step.invariant in
    let all = take_all c.loop-step.step-index c.args.steps.now c.loop-step-test.false in
    let unmasked = c.advance-2.ensures.done _ (i.done before d) in
    rw (closed_script-steps before c.args.steps.now, ← all)
    (HandsOver-trans _ _ _ _ _ _ _ _ _ _ _ _ _ (i.hands_over before d)
    (HandsOver-trans _ _ _ _ _ _ _ _ _ _ _ _ _ (rw i.capacity at (c.advance-2.ensures.hands_over _ (i.done before d)))
    (rw (c.advance-2.ensures.capacity ∙ i.capacity) at (c.advance-3.ensures.hands_over _ unmasked))))

pub returns-clause-rise : goal.returns-clause-rise
returns-clause-rise g c = λ h. c.advance-3.ensures.rise (c.advance-2.ensures.rise (c.loop-step.invariant.rise h))
