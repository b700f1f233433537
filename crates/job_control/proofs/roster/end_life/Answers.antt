use Rattle.std.proofs.Common.{◌≡◌, ◌-◌, ◌∙◌, sym, ap, arith}
use Rattle.job_control.specs.Keeping.{counted, life_of, one_at}
use Rattle.job_control.proofs.Ties.{lives_here, lives_not_here}
use Rattle.job_control.proofs.roster.end_life.Goals as goal

pub returns-then-has_exited : goal.returns-then-has_exited
returns-then-has_exited c = λ key.
    let none : life_of c.args.procs.now c.args.exited.now key c.args.gone ≡ 0 =
    lives_not_here c.args.procs.now c.args.exited.now key c.args.gone (sym c.has_exited.ensures ∙ c.if-has_exited.true)
    in
    omega (arith, none)

pub returns : goal.returns
returns c = λ key.
    c.take.ensures key
    ∙ ap (λ one. counted c.args.living.now key - one)
    (ap (λ k. one_at k key) c.key_of.ensures.key
    ∙ sym
    (lives_here c.args.procs.now c.args.exited.now key c.args.gone (sym c.has_exited.ensures ∙ c.if-has_exited.false)))
