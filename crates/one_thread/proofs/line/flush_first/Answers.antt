use Rattle.std.proofs.Common.{◌≡◌, List, [], ◌∷◌, take, drop, sym, ◌∙◌, ap, subst}
use Rattle.std.proofs.lemmas.Result.{err_from_is_err_and}
use Rattle.tty_base.specs.declared.characters.Flag.TheVariants.{Normal}
use Rattle.tty_base.specs.declared.characters.Flagged.{Flagged}
use Rattle.tty_base.specs.declared.lines.LineStep.{LineStep}
use Rattle.tty_base.specs.declared.lines.LineStep.TheVariants.{Rx}
use Rattle.uart_line.specs.GoodSteps.{good_steps}
use Rattle.one_thread.specs.LineInside.{line_at, PlaysSteps, StopsSteps, StandsBefore}
use Rattle.one_thread.proofs.LineLoop.{run_from, stands_first, stops_early}
use Rattle.one_thread.proofs.line.flush_first.Goals as goal

pub flush_step-requires-clause-stands : goal.flush_step-requires-clause-stands
flush_step-requires-clause-stands c =
    let bytes = c.args.bytes.now in
    let rest : List LineStep = drop 1 (good_steps bytes) in
    let all : Rx c.good.result ∷ rest ≡ good_steps bytes =
    ap (λ (x : Flagged). Rx x ∷ rest) c.good.ensures ∙ sym (run_from Normal bytes 0 c.requires.some) in
    let at = line_at c.args.port.now c.args.putter.now c.args.line.now in
    stands_first (Rx c.good.result ∷ []) rest at c.args.run
    (subst (λ (l : List LineStep). StandsBefore l at c.args.run) (sym all) c.requires.stands)

pub returns-in_err-next-clause-does : goal.returns-in_err-next-clause-does
returns-in_err-next-clause-does c =
    let bytes = c.args.bytes.now in
    let p = err_from_is_err_and c.from_residual.result c.from_residual.ensures.1 in
    let d = c.in_err-next.field-0.0 in
    let w = c.flush_step.new in
    let old = line_at c.args.port.now c.args.putter.now c.args.line.now in
    let new = line_at w.port w.putter w.line in
    let rest : List LineStep = drop 1 (good_steps bytes) in
    let all : Rx c.good.result ∷ rest ≡ good_steps bytes =
    ap (λ (x : Flagged). Rx x ∷ rest) c.good.ensures ∙ sym (run_from Normal bytes 0 c.requires.some) in
    rw (p.1, p.2) (subst (λ (l : List LineStep). StopsSteps d l old new c.args.run) all
    (stops_early d (Rx c.good.result ∷ []) rest old new c.args.run c.in_err-next.ensures.does))

pub returns-clause-does : goal.returns-clause-does
returns-clause-does c =
    let bytes = c.args.bytes.now in
    let w = c.flush_step.new in
    let first : Rx c.good.result ∷ [] ≡ take 1 (good_steps bytes) =
    ap (λ (x : Flagged). Rx x ∷ []) c.good.ensures ∙ sym (ap (take 1) (run_from Normal bytes 0 c.requires.some)) in
    subst (λ (l : List LineStep). PlaysSteps l (line_at c.args.port.now c.args.putter.now c.args.line.now)
    (line_at w.port w.putter w.line) c.args.run c.in_ok-next.next)
    first c.in_ok-next.ensures.does
