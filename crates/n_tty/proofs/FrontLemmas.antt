-- Characters that are received one after the other: some at the front, and then more.
use Rattle.std.proofs.Common.{◌≡◌, ◌∙◌, ℕ, ◌+◌, List, [], ◌∷◌, ◌++◌, take, drop, refl, sym, ap, subst}
use Rattle.std.proofs.Math.Seq.{take-add}
use Rattle.tty_base.specs.declared.characters.Flagged.{Flagged}
use Rattle.tty_modes.specs.Settings.{Settings}
use Rattle.n_tty.specs.States.{OnPort}
use Rattle.n_tty.specs.Receiving.{after_character}
use Rattle.n_tty.specs.Runs.{after_characters, AcceptsAll}

module _ (modes : Settings) (now : ℕ) where
  received_more : (xs ys : List Flagged) (port : OnPort)
      → after_characters modes now (xs ++ ys) port ≡ after_characters modes now ys (after_characters modes now xs port)
  received_more [] ys port = refl
  received_more (x ∷ xs) ys port = received_more xs ys (after_character modes now x port)

  accepts_more : (xs ys : List Flagged) (port : OnPort)
      → AcceptsAll modes now xs port
      → AcceptsAll modes now ys (after_characters modes now xs port)
      → AcceptsAll modes now (xs ++ ys) port
  accepts_more [] ys port all more = more
  accepts_more (x ∷ xs) ys port all more = (all.0, accepts_more xs ys (after_character modes now x port) all.1 more)

  module _ (chars : List Flagged) (i n : ℕ) (port next last : OnPort)
      (before : next ≡ after_characters modes now (take i chars) port)
      (after : last ≡ after_characters modes now (take n (drop i chars)) next) where
    pub received_on : last ≡ after_characters modes now (take (i + n) chars) port
    received_on =
        after
        ∙ ap (after_characters modes now (take n (drop i chars))) before
        ∙ sym (ap (λ cs. after_characters modes now cs port) (take-add i n chars)
        ∙ received_more (take i chars) (take n (drop i chars)) port)

    pub accepts_on : AcceptsAll modes now (take i chars) port
        → AcceptsAll modes now (take n (drop i chars)) next
        → AcceptsAll modes now (take (i + n) chars) port
    accepts_on all more =
        subst (λ cs. AcceptsAll modes now cs port) (sym (take-add i n chars))
        (accepts_more (take i chars) (take n (drop i chars)) port all
        (subst (AcceptsAll modes now (take n (drop i chars))) before more))
