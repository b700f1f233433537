use Rattle.std.proofs.Common.{◌∙◌, ap}
use Rattle.std.proofs.lemmas.Result.{on_ok_weaker}
use Rattle.job_text.specs.Reading.{JobsReading}
use Rattle.job_text.specs.Tables.{BlockState}
use Rattle.job_text.specs.Views.{jobs_reading_of}
use Rattle.job_text.proofs.Tables.{exits_is}
use Rattle.job_text.proofs.reader.JobsReader.exit.Goals as goal

pub returns : goal.returns
returns c =
    let r = jobs_reading_of c.args.self.now in
    on_ok_weaker c.exit.result
    (λ e. ap (λ (b : BlockState). let x : JobsReading = record r { open_block = b.block; exited = b.exited } in x) e
    ∙ exits_is r.open_block r)
    c.exit.ensures
