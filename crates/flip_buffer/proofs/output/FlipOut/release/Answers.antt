use Rattle.std.proofs.Common.{◌∙◌, ap, sym, take}
use Rattle.std.proofs.lemmas.List.{take-map}
use Rattle.tty_base.specs.declared.characters.Flagged.{Flagged}
use Rattle.word_ring.specs.Ends.{TakerState, with_taken}
use Rattle.flip_buffer.specs.Packed.{char_of, out_state}
use Rattle.flip_buffer.proofs.Characters.{out_taken}
use Rattle.flip_buffer.proofs.output.FlipOut.release.Goals as goal

pub returns-clause-same : goal.returns-clause-same
returns-clause-same c =
    let t = c.self.inside.taker in
    ap out_state c.release.ensures.same
    ∙ (out_taken t (take c.args.n t.peeked)
    ∙ (ap (with_taken (out_state t)) (sym (take-map char_of c.args.n t.peeked))
    ∙ ap (λ (u : TakerState Flagged). with_taken u (take c.args.n u.peeked)) c.self.view_is))
