use Rattle.std.proofs.Common.{◌∙◌, sym, ap, length}
use Rattle.job_control.specs.Roster.{ties_group}
use Rattle.job_control.specs.Keeping.{counted, ties_count}
use Rattle.job_control.proofs.Counting.{counted_few, counted_over}
use Rattle.job_control.proofs.Ties.{tie_counted, no_tie_counted}
use Rattle.job_control.proofs.roster.ties_in.Goals as goal
use Rattle.job_control.proofs.roster.ties_in.Goals.{then-is_tied+in_ok-add, else-is_tied}

pub add-requires : goal.add-requires
add-requires c =
    counted_few (ties_group c.args.procs.now c.args.exited.now c.from.result) c.loop-place.place
    (length c.args.procs.now) (counted c.loop-place.ties c.from.result)
    c.requires (c.loop-place.invariant c.from.result)

pub loop-place-preserved : goal.loop-place-preserved
loop-place-preserved c = λ group.
    elim c.if-is_tied.branch [
      | then-is_tied+in_ok-add w ↦
          tie_counted c.args.procs.now c.args.exited.now group c.loop-place.place (length c.args.procs.now)
          (counted c.loop-place.ties group) (counted c.if-is_tied.ties group)
          w.from.result (ties_count c.args.procs.now c.args.exited.now group)
          c.loop-place-test.true (sym c.is_tied.ensures ∙ w.if-is_tied.true) (w.from.ensures ∙ w.group_of.ensures)
          (ap (λ ties. counted ties group) w.ties-is ∙ w.in_ok-add.ensures group) (c.loop-place.invariant group)
      | else-is_tied w ↦
          no_tie_counted c.args.procs.now c.args.exited.now group c.loop-place.place (length c.args.procs.now)
          (counted c.loop-place.ties group) (counted c.if-is_tied.ties group)
          (ties_count c.args.procs.now c.args.exited.now group)
          c.loop-place-test.true (sym c.is_tied.ensures ∙ w.if-is_tied.false)
          (ap (λ ties. counted ties group) w.ties-is) (c.loop-place.invariant group)
    ]

pub returns : goal.returns
returns c = λ group.
    counted_over (ties_group c.args.procs.now c.args.exited.now group) c.loop-place.place (length c.args.procs.now)
    (counted c.loop-place.ties group) (ties_count c.args.procs.now c.args.exited.now group)
    c.loop-place-test.false (c.loop-place.invariant group)
