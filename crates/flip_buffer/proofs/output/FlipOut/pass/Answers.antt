use Rattle.std.proofs.Common.{sym, subst, List, arith}
use Rattle.tty_base.specs.declared.characters.Flagged.{Flagged}
use Rattle.word_ring.specs.Ends.{PutterState, TakerState, Passes}
use Rattle.flip_buffer.specs.Packed.{in_state, out_state}
use Rattle.flip_buffer.proofs.Characters.{good_seen, passes_seen}
use Rattle.flip_buffer.proofs.output.FlipOut.pass.Goals as goal

pub returns : goal.returns
returns c =
    let seen = passes_seen _ _ _ _ _ c.pass.ensures in
    let good = good_seen c.args.bytes.now (λ k. omega (arith, c.type_inv.bytes k)) in
    subst (λ (z : PutterState Flagged × TakerState Flagged × List Flagged).
    Passes z.0 (in_state c.pass.new.putter) z.1 (out_state c.pass.new.self) z.2)
    (λ i. (c.input.view_is i, c.self.view_is i, sym good i)) seen
