use Rattle.std.proofs.Common.{◌≡◌, Bool, [], ◌++◌, ◌∙◌, sym, map, arith, if◌then◌else◌}
use Rattle.std.proofs.Common.{append-nil, slice_set, length, get_or, ◌-◌, List}
use Rattle.std.proofs.lemmas.Result.{IfOk-weaker, on_err_weaker}
use Rattle.tty_base.specs.declared.lines.LineStep.{LineStep}
use Rattle.line_steps.specs.Steps.{rx_step, steps_in, steps_of}
use Rattle.line_steps.proofs.Parts.{last_part_longer}
use Rattle.line_steps.proofs.add_to_last.Goals as goal

pub returns-clause-ok : goal.returns-clause-ok
returns-clause-ok c =
    let parts = c.args.parts.now in
    let more : Bool → List LineStep = λ added. if added then map (rx_step c.args.flag) c.args.bytes.now else [] in
    IfOk-weaker c.extend.result
    (λ added.
    steps_of c.extend.new.self ≡ steps_of (get_or parts (length parts - 1) c.index-parts-count.result) ++ more added)
    (λ added. steps_in (slice_set parts (length parts - 1) c.extend.new.self) ≡ steps_in parts ++ more added)
    (λ added longer. last_part_longer parts (length parts - 1) c.index-parts-count.result c.extend.new.self (more added)
    (omega (arith, c.if-count-eq0.false)) longer)
    c.extend.ensures.ok

pub returns-clause-err : goal.returns-clause-err
returns-clause-err c =
    let parts = c.args.parts.now in
    on_err_weaker c.extend.result
    (λ same.
    last_part_longer parts (length parts - 1) c.index-parts-count.result c.extend.new.self []
    (omega (arith, c.if-count-eq0.false)) (same ∙ sym (append-nil _))
    ∙ append-nil (steps_in parts))
    c.extend.ensures.err
