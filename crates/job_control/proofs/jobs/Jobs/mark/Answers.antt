use Rattle.std.proofs.Common.{◌∙◌, ap, List, Bool, true, set, map}
use Rattle.std.specs.Prelude.{◌==◌}
use Rattle.job_control.specs.Control.{JobState}
use Rattle.job_control.proofs.Marks.{marked}
use Rattle.job_control.proofs.jobs.Jobs.mark.Goals as goal

pub returns : goal.returns
returns c =
    let marks = c.self.inside.given_up_at.items in
    let with_marks : List Bool → JobState = λ flags. record {
      procs = c.self.inside.procs.items;
      exited = c.self.inside.exited.items;
      given_up = flags;
      holder = c.self.inside.holder;
    } in
    let given_up_by : JobState → JobState = λ state. record state { given_up = set state.given_up c.args.proc true } in
    ap with_marks (marked marks c.self.inside.taken c.from.result
    ∙ ap (λ p. set (map (λ mark. mark == c.self.inside.taken) marks) p true) c.from.ensures)
    ∙ ap given_up_by c.self.view_is
