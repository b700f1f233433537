-- What the consoles' own threads come to, one console after the other.
use Rattle.std.proofs.Common.{◌≡◌, ℕ, List, [], ◌∷◌, ◌++◌, Option, Some, length}
use Rattle.std.proofs.Common.{sym, subst, ap, ◌∙◌, ◌⊎◌, inl, inr, arith, length-append}
use Rattle.std.specs.Prelude.{IfOk, Result, Ok, Err, slice_get}
use Rattle.std.proofs.lemmas.Option.{slice_get_within}
use Rattle.play_base.proofs.PortLemmas.{last_or}
use Rattle.tty_calls.specs.declared.sessions.Script.{Script}
use Rattle.tty_port.specs.declared.shared.SharedPort.{SharedPort}
use Rattle.many_threads.specs.Callers.{plain_cast}
use Rattle.many_threads.specs.declared.caller_threads.CallersBack.{CallersBack}
use Rattle.many_threads.specs.declared.thread_bodies.FlusherBack.{FlusherBack}
use Rattle.many_threads.proofs.Onward.{each_front, each_last}
use Rattle.vt_threads.specs.Parting.{OwnCame}
use Rattle.vt_threads.specs.declared.parting.OwnSeats.{OwnSeats}
use Rattle.vt_threads.specs.declared.parting.Casting.{Casting}
use Rattle.vt_play.specs.declared.stage.Stage.{Stage}
use Rattle.vt_play.specs.declared.board_threads.BoardHand.{BoardHand}
use Rattle.vt_play.specs.declared.console_threads.ThreadsBack.{ThreadsBack}
use Rattle.vt_play.specs.Stages.{BoardComes, CanOwn, CanOwnAt}
use Rattle.vt_play.specs.Stages.{CanPlayOwns, OwnCameAt, OwnsCame, ThreadsCome}
use Rattle.vt_play.proofs.Listing.{same_there, some_is}

-- ---- one console

-- what came of the console at a place
pub own_at : (stage : Stage) (p : ℕ) (own : Option OwnSeats) (back : Option (FlusherBack × CallersBack))
    (port : Option SharedPort) (casting : Casting)
    → slice_get stage.ports.now p ≡ Some port
    → slice_get stage.castings.now p ≡ Some casting
    → OwnCame port own (plain_cast stage.scripts.now casting.cast.items) back
    → OwnCameAt stage p own back
own_at stage p own back port casting at_port at_casting h port' casting' also_port also_casting =
    subst (λ (o : Option SharedPort). OwnCame o own (plain_cast stage.scripts.now casting'.cast.items) back)
    (same_there stage.ports.now p port port' at_port also_port)
    (subst (λ (c : Casting). OwnCame port own (plain_cast stage.scripts.now c.cast.items) back)
    (same_there stage.castings.now p casting casting' at_casting also_casting) h)

-- ---- consoles one after the other

module _ (stage : Stage) (owns others : List (Option OwnSeats)) (own : Option OwnSeats)
    (split : owns ≡ others ++ own ∷ []) where
  pub can_last : CanPlayOwns stage owns → CanOwnAt stage (length others) own
  can_last can = each_last (CanOwnAt stage) owns others own split can

  -- .. where its threads meet
  module _ (n : ℕ) (number : n ≡ length others) (port : Option SharedPort) (casting : Casting) (scripts : List Script)
      (at_port : slice_get stage.ports.now n ≡ Some port) (at_casting : slice_get stage.castings.now n ≡ Some casting)
      (scripts_are : scripts ≡ stage.scripts.now) where
    port_there : slice_get stage.ports.now (length others) ≡ Some port
    port_there = subst (λ (m : ℕ). slice_get stage.ports.now m ≡ Some port) number at_port

    casting_there : slice_get stage.castings.now (length others) ≡ Some casting
    casting_there = subst (λ (m : ℕ). slice_get stage.castings.now m ≡ Some casting) number at_casting

    pub can_meet : CanPlayOwns stage owns → CanOwn port own scripts casting.cast.items
    can_meet can =
        subst (λ (l : List Script). CanOwn port own l casting.cast.items) (sym scripts_are)
        ((can_last can).can port casting port_there casting_there)

    pub came_there : (back : Option (FlusherBack × CallersBack))
        → OwnCame port own (plain_cast scripts casting.cast.items) back
        → OwnCameAt stage (length others) own back
    came_there back h =
        own_at stage (length others) own back port casting port_there casting_there
        (subst (λ (l : List Script). OwnCame port own (plain_cast l casting.cast.items) back) scripts_are h)

  pub can_others : CanPlayOwns stage owns → CanPlayOwns stage others
  can_others can = each_front (CanOwnAt stage) owns others own split can

  came_one : (backs : List (Option (FlusherBack × CallersBack))) (back : Option (FlusherBack × CallersBack))
      → OwnsCame stage others backs
      → OwnCameAt stage (length others) own back
      → (p : ℕ) (x : Option OwnSeats) (y : Option (FlusherBack × CallersBack))
      → (slice_get others p ≡ Some x) ⊎ ((p ≡ length others) × (Some own ≡ Some x))
      → (slice_get backs p ≡ Some y) ⊎ ((p ≡ length backs) × (Some back ≡ Some y))
      → OwnCameAt stage p x y
  came_one backs back h now p x y (inl a) (inl b) = h.each p x y a b
  came_one backs back h now p x y (inl a) (inr b) =
      let below = slice_get_within others p x a in
      let is = b.0 in let count = h.count in absurd (omega (arith, below, is, count))
  came_one backs back h now p x y (inr a) (inl b) =
      let below = slice_get_within backs p y b in
      let is = a.0 in let count = h.count in absurd (omega (arith, below, is, count))
  came_one backs back h now p x y (inr a) (inr b) =
      subst (λ (n : ℕ). OwnCameAt stage n x y) (sym a.0)
      (subst (λ (o : Option OwnSeats). OwnCameAt stage (length others) o y) (some_is own x a.1)
      (subst (λ (o : Option (FlusherBack × CallersBack)). OwnCameAt stage (length others) own o) (some_is back y b.1)
      now))

  pub owns_more : (backs now : List (Option (FlusherBack × CallersBack))) (back : Option (FlusherBack × CallersBack))
      → now ≡ backs ++ back ∷ []
      → OwnsCame stage others backs
      → OwnCameAt stage (length others) own back
      → OwnsCame stage owns now
  owns_more backs now back added h one = record {
    count =
        let a = ap (λ (l : List (Option (FlusherBack × CallersBack))). length l) added in
        let b = length-append backs (back ∷ []) in
        let c = ap (λ (l : List (Option OwnSeats)). length l) split in
        let d = length-append others (own ∷ []) in
        let n = h.count in
        omega (arith, a, b, c, d, n);
    each = λ p x y at at_back.
        came_one backs back h one p x y
        (last_or others own p x (ap (λ (l : List (Option OwnSeats)). slice_get l p) (sym split) ∙ at))
        (last_or backs back p y
        (ap (λ (l : List (Option (FlusherBack × CallersBack))). slice_get l p) (sym added) ∙ at_back));
  }

  pub owns_ok : {E : Type 0} (hand : BoardHand) (r : Result ThreadsBack E) (back : ThreadsBack)
      (one : Option (FlusherBack × CallersBack))
      → ThreadsCome stage others hand back
      → OwnCameAt stage (length others) own one
      → IfOk r (λ x. x.owns.items ≡ back.owns.items ++ one ∷ [])
      → IfOk r (λ x. x.board ≡ back.board)
      → IfOk r (ThreadsCome stage owns hand)
  owns_ok hand (Ok now) back one h o added board = record {
    owns = owns_more back.owns.items now.owns.items one added h.owns o;
    board = subst (BoardComes stage hand) (sym board) h.board;
  }
  owns_ok hand (Err e) back one h o added board = tt
