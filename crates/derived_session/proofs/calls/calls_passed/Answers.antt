use Rattle.std.proofs.Common.{rules, ap, ◌∙◌, ◌+◌, ℕ}
use Rattle.std.proofs.lemmas.List.{length-map}
use Rattle.passed_calls.specs.Scripts.{mixed}
use Rattle.derived_session.specs.Steps.{step_of}
use Rattle.derived_session.proofs.Walking.{walked_all}
use Rattle.derived_session.proofs.calls.calls_passed.Goals as goal

pub returns : goal.returns
returns g c =
    let calls = c.args.calls.now.items in
    let placed = c.args.placed.now in
    let done = walked_all c.args.slots.now calls c.loop-at.made.items _ placed c.loop-at.at _
    (search rules) (search rules) c.loop-at.invariant.calls c.loop-at.invariant.step in
    record {
      calls = done.0;
      next = done.1 ∙ ap (λ (n : ℕ). c.args.first + n) (length-map (mixed 0 calls placed) step_of);
    }
