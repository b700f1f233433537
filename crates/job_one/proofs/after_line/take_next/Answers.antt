use Rattle.std.proofs.Common.{subst}
use Rattle.calls_left.specs.Remaining.{any_call_of}
use Rattle.job_one.specs.Taken.{IsNextOf}
use Rattle.job_text.specs.declared.calls.OwnCall.{OwnCall}
use Rattle.calls_left.specs.declared.remaining.NextCall.{NextCall}
use Rattle.job_one.proofs.after_line.take_next.Goals as goal

pub take_plain-requires : goal.take_plain-requires
take_plain-requires g c = (
  c.requires.0,
  (
    c.requires.1.0,
    (
      c.requires.1.1.0,
      subst (λ (n : NextCall OwnCall). IsNextOf g.frame c.args.roles.now c.args.desk.now c.args.place (any_call_of n))
          c.in-Port.is c.requires.1.1.1,
    ),
  ),
)

pub take_own-requires : goal.take_own-requires
take_own-requires g c = (
  c.requires.0,
  (
    c.requires.1.0,
    (
      c.requires.1.1.0,
      subst (λ (n : NextCall OwnCall). IsNextOf g.frame c.args.roles.now c.args.desk.now c.args.place (any_call_of n))
          c.in-Own.is c.requires.1.1.1,
    ),
  ),
)
