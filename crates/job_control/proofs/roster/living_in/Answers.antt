use Rattle.std.proofs.Common.{◌∙◌, sym, ap, length}
use Rattle.job_control.specs.Keeping.{counted, lives_under, living_count}
use Rattle.job_control.proofs.Counting.{counted_few, counted_over}
use Rattle.job_control.proofs.Ties.{life_counted, no_life_counted, groups_more}
use Rattle.job_control.proofs.roster.living_in.Goals as goal
use Rattle.job_control.proofs.roster.living_in.Goals.{then-not-has_exited+in_ok-add, else-not-has_exited}

pub add-requires : goal.add-requires
add-requires c =
    counted_few (lives_under c.args.procs.now c.args.exited.now c.key_of-key.result) c.loop-place.place
    (length c.args.procs.now) (counted c.loop-place.living c.key_of-key.result)
    c.requires (c.loop-place.invariant.0 c.key_of-key.result)

pub loop-place-preserved : goal.loop-place-preserved
loop-place-preserved c = (
  λ key.
      elim c.if-not-has_exited.branch [
        | then-not-has_exited+in_ok-add w ↦
            life_counted c.args.procs.now c.args.exited.now key c.loop-place.place (length c.args.procs.now)
            (counted c.loop-place.living key) (counted c.if-not-has_exited.living key)
            c.key_of-key.result (living_count c.args.procs.now c.args.exited.now key)
            c.loop-place-test.true (sym c.has_exited.ensures ∙ w.if-not-has_exited.true) c.key_of-key.ensures.key
            (ap (λ living. counted living key) w.living-is ∙ w.in_ok-add.ensures key) (c.loop-place.invariant.0 key)
        | else-not-has_exited w ↦
            no_life_counted c.args.procs.now c.args.exited.now key c.loop-place.place (length c.args.procs.now)
            (counted c.loop-place.living key) (counted c.if-not-has_exited.living key)
            (living_count c.args.procs.now c.args.exited.now key)
            c.loop-place-test.true (sym c.has_exited.ensures ∙ w.if-not-has_exited.false)
            (ap (λ living. counted living key) w.living-is) (c.loop-place.invariant.0 key)
      ],
  groups_more c.args.procs.now c.loop-place.place c.key_of-key.ensures.fits c.loop-place.invariant.1,
)

pub returns-clause-counts : goal.returns-clause-counts
returns-clause-counts c = λ key.
    counted_over (lives_under c.args.procs.now c.args.exited.now key) c.loop-place.place (length c.args.procs.now)
    (counted c.loop-place.living key) (living_count c.args.procs.now c.args.exited.now key)
    c.loop-place-test.false (c.loop-place.invariant.0 key)
