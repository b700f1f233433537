use Rattle.std.proofs.Common.{◌∙◌, take, ap, refl}
use Rattle.slip_frames.specs.Decoding.{Decoding}
use Rattle.n_slip.specs.Discipline.{Slip, after_characters}
use Rattle.n_slip.proofs.TextRuns.{received_run, uncounted_run}
use Rattle.n_slip.proofs.discipline.NSlip.receive_run.Goals as goal

pub returns-clause-after : goal.returns-clause-after
returns-clause-after c =
    let cs = take c.feed_run.result c.args.chars.now in
    let slip : Slip = record { piece = c.self.inside.decoder.piece; packets = c.self.inside.queue } in
    ap (λ (d : Decoding). record slip { piece = d.piece }) c.feed_run.ensures.after
    ∙ received_run slip c.self.inside.decoder cs refl c.feed_run.ensures.text
    ∙ ap (λ (s : Slip). after_characters s cs) c.self.view_is

pub returns-clause-counts : goal.returns-clause-counts
returns-clause-counts c = λ counts.
    uncounted_run c.args.self.now (take c.feed_run.result c.args.chars.now) counts c.feed_run.ensures.text
