use Rattle.std.proofs.Common.{ap, ◌∙◌}
use Rattle.slip_frames.specs.Decoding.{piece_after_character}
use Rattle.slip_frames.proofs.Feeding.{piece_more, outcomes_more}
use Rattle.slip_frames.proofs.receiving.Decoder.feed.Goals as goal

pub returns-clause-fed : goal.returns-clause-fed
returns-clause-fed c list h =
    rw c.step.ensures.after (ap (λ b. piece_after_character b c.args.c) h ∙ piece_more list c.args.c)

pub returns-clause-outcomes : goal.returns-clause-outcomes
returns-clause-outcomes c list h =
    rw (c.step.ensures.result, c.step.ensures.after) (outcomes_more list c.args.c c.args.self.now h)
