use Rattle.std.proofs.Common.{◌≡◌, List, ◌++◌, take, sym, ◌∙◌, ap, subst}
use Rattle.tty_base.specs.declared.characters.Flagged.{Flagged}
use Rattle.word_ring.specs.Ends.{TakerState, with_taken}
use Rattle.port_core.specs.Flips.{TakesOut}
use Rattle.port_core.proofs.Taking.{takes_peeked}
use Rattle.port_core.proofs.flips.hand_over.Goals as goal

pub returns-clause-takes_out : goal.returns-clause-takes_out
returns-clause-takes_out c =
    let f : TakerState Flagged = c.args.flip.now in
    let n = c.receive_front-received.result in
    let peeks = c.peek.ensures.peeks in
    let xs : List Flagged = peeks.0 in
    let out : c.peek.new.out.items ≡ xs =
    ap (λ b. b.items) peeks.2 ∙ ap (λ (z : List Flagged). z ++ xs) c.requires.empty in
    let flip : c.peek.new.self ≡ record f { peeked = xs } =
    peeks.3 ∙ ap (λ (z : List Flagged). record f { peeked = z ++ xs }) c.requires.looked in
    let items : c.receive_front-received.new.chars.items ≡ take n xs =
    c.receive_front-received.ensures.front ∙ ap (take n) out in
    let now : c.release.new.self ≡ with_taken (record f { peeked = xs }) (take n xs) =
    c.release.ensures.same ∙ ap (λ (g : TakerState Flagged). with_taken g (take n g.peeked)) flip in
    subst (λ (z : TakerState Flagged × List Flagged). TakesOut f z.0 z.1) (λ i. (sym now i, sym items i))
    (takes_peeked f xs (take n xs))
