use Rattle.std.proofs.Common.{rules, ◌≡◌, ◌+◌, ◌<◌, ◌≤◌, ℕ, [], ◌∷◌, ◌++◌, Ok}
use Rattle.std.proofs.Common.{length, length-append, ap, subst, sym, ◌∙◌, arith}
use Rattle.tty_calls.specs.Sessions.{session_of}
use Rattle.threads_play.specs.PortsInPlay.{IsInPlay, AreInPlay}
use Rattle.many_threads.proofs.Onward.{each_front, each_last, each_one_more, at_ok}
use Rattle.threads_play.proofs.ports.+fn-play_side_by_side-join+arg2+play_side_by_side.Goals as goal

pub join-others-requires-after_bounds : goal.join-others-requires-after_bounds
join-others-requires-after_bounds g t c κs within =
    let session = session_of c.args.session.now in
    let others = c.pop.new.self.items in
    let port = c.in-Some.port in
    let whole : c.args.ports.items ≡ others ++ port ∷ [] = c.in-Some.ensures.items in
    let size : length c.args.ports.items ≡ length others + 1 = ap length whole ∙ length-append others (port ∷ []) in
    let known = c.requires.known in
    let at = each_last (λ p. IsInPlay (record { port = p; session = session }) c.args.k)
    c.args.ports.items others port whole c.requires.in_play in
    let number : port.number ≡ length others = at.number in
    let few : length others ≤ session.ports = omega (arith, size, known) in
    let below : port.number < session.ports = omega (arith, size, known, number) in
    let front : AreInPlay session c.args.k others =
    each_front (λ p. IsInPlay (record { port = p; session = session }) c.args.k)
    c.args.ports.items others port whole c.requires.in_play in
    let last : IsInPlay (record { port = port.number; session = session }) c.args.k port =
    subst (λ (n : ℕ). IsInPlay (record { port = n; session = session }) c.args.k port) (sym number) at in (
      (
        first_of (omega arith, search rules),
        (
          (λ a x. x),
          (
            (λ a x. x),
            (
              (search rules, search rules, c.requires.within, c.requires.phase, few, front),
              (search rules, search rules),
            ),
          ),
        ),
      ),
      ((search rules, search rules, c.requires.within, c.requires.phase, below, last), (search rules, search rules)),
    )

pub returns : goal.returns
returns g t c =
    let session = session_of c.args.session.now in
    let others = c.pop.new.self.items in
    let port = c.in-Some.port in
    let all = c.in_ok-one.all in
    let one = c.in_ok-one-2.field-0 in
    let whole : c.args.ports.items ≡ others ++ port ∷ [] = c.in-Some.ensures.items in
    let size : length c.args.ports.items ≡ length others + 1 = ap length whole ∙ length-append others (port ∷ []) in
    let was = each_last (λ p. IsInPlay (record { port = p; session = session }) c.args.k)
    c.args.ports.items others port whole c.requires.in_play in
    let number : port.number ≡ length others = was.number in
    let is_all : c.join-others.result.0 ≡ Ok all = c.in_ok-one.ensures.made in
    let kept : c.in_ok-one.one ≡ c.join-others.result.1 = c.in_ok-one.ensures.kept in
    let is_one : c.join-others.result.1 ≡ Ok one = first_of (cc, search rules) in
    let first = at_ok c.join-others.result.0 all
    (λ v. AreInPlay session (c.args.k + 1) v.items × (length v.items ≡ length others))
    is_all c.join-others.ensures.first in
    let second = at_ok c.join-others.result.1 one
    (IsInPlay (record { port = port.number; session = session }) (c.args.k + 1)) is_one c.join-others.ensures.second in
    let now : IsInPlay (record { port = length all.items; session = session }) (c.args.k + 1) one =
    subst (λ (n : ℕ). IsInPlay (record { port = n; session = session }) (c.args.k + 1) one) (number ∙ sym first.1)
    second in
    let added = length-append all.items (one ∷ []) in
    let items = ap length c.in_ok-push.ensures.items in
    let count = first.1 in (
      each_one_more (λ p. IsInPlay (record { port = p; session = session }) (c.args.k + 1)) c.push.new.self.items
          all.items one c.in_ok-push.ensures.items first.0 now,
      omega (arith, items, added, count, size),
    )
