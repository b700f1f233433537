-- Characters that are received up to the first that is not accepted: those at the front first, then the rest.
use Rattle.std.proofs.Common.{◌≡◌, ℕ, zero, suc, ◌+◌, ◌<◌, ◌≤◌, false, List, [], ◌∷◌}
use Rattle.std.proofs.Common.{length, take, drop, ap, sym, ◌∙◌, refl, arith, inl, inr}
use Rattle.std.proofs.lemmas.Bool.{cases_Bool, cases_lt, cond-true, cond-false}
use Rattle.std.proofs.lemmas.List.{drop_all}
use Rattle.tty_base.specs.declared.characters.Flagged.{Flagged}
use Rattle.tty_modes.specs.Settings.{Settings}
use Rattle.n_tty.specs.States.{OnPort, is_accepting}
use Rattle.n_tty.specs.Room.{port_without_room}
use Rattle.n_tty.specs.Receiving.{after_character}
use Rattle.n_tty.specs.Runs.{after_characters, AcceptsAll}
use Rattle.n_tty.proofs.WithoutRoom.{after_character-room}
use Rattle.tty_embed.specs.Embedded.{after_accepted, accepted_count}

module _ (modes : Settings) (tick : ℕ) where
  after_front : (n : ℕ) (cs : List Flagged) (port : OnPort)
      → AcceptsAll modes tick (take n cs) port
      → after_accepted modes tick cs port
      ≡ after_accepted modes tick (drop n cs) (after_characters modes tick (take n cs) port)
  after_front zero cs port all = refl
  after_front (suc n) [] port all = refl
  after_front (suc n) (c ∷ cs) port all =
      cond-true _ _ _ all.0 ∙ after_front n cs (after_character modes tick c port) all.1

  count_front : (n : ℕ) (cs : List Flagged) (port : OnPort)
      → n ≤ length cs
      → AcceptsAll modes tick (take n cs) port
      → accepted_count modes tick cs port
      ≡ n + accepted_count modes tick (drop n cs) (after_characters modes tick (take n cs) port)
  count_front zero cs port within all = omega arith
  count_front (suc n) [] port within all = absurd (omega (arith, within))
  count_front (suc n) (c ∷ cs) port within all =
      let next : OnPort = after_character modes tick c port in
      let first : accepted_count modes tick (c ∷ cs) port ≡ suc (accepted_count modes tick cs next) =
      cond-true _ _ _ all.0 in
      omega (arith, first, count_front n cs next (omega (arith, within)) all.1)

  -- the first that is not accepted is the first of all
  after_none : (cs : List Flagged) (port : OnPort)
      → is_accepting modes port.tty ≡ false
      → after_accepted modes tick cs port ≡ port
  after_none [] port full = refl
  after_none (c ∷ cs) port full = cond-false _ _ _ full

  count_none : (cs : List Flagged) (port : OnPort)
      → is_accepting modes port.tty ≡ false
      → accepted_count modes tick cs port ≡ 0
  count_none [] port full = refl
  count_none (c ∷ cs) port full = cond-false _ _ _ full

  -- characters were received from the front, and the next is not accepted: these are all
  module _ (n : ℕ) (cs : List Flagged) (port left : OnPort) (within : n ≤ length cs)
      (after : left ≡ after_characters modes tick (take n cs) port) (all : AcceptsAll modes tick (take n cs) port)
      (stops : n < length cs → is_accepting modes left.tty ≡ false) where
    nothing_more : (after_accepted modes tick (drop n cs) left ≡ left)
        × (accepted_count modes tick (drop n cs) left ≡ 0)
    nothing_more = elim (cases_lt n (length cs)) [
      | inl more ↦ (after_none (drop n cs) left (stops more), count_none (drop n cs) left (stops more))
      | inr none ↦
          let whole = drop_all n cs none in (
            ap (λ (rest : List Flagged). after_accepted modes tick rest left) whole,
            ap (λ (rest : List Flagged). accepted_count modes tick rest left) whole,
          )
    ]

    pub all_received : left ≡ after_accepted modes tick cs port
    all_received =
        sym (after_front n cs port all ∙ ap (after_accepted modes tick (drop n cs)) (sym after) ∙ nothing_more.0)

    pub all_counted : n ≡ accepted_count modes tick cs port
    all_counted =
        let rest : accepted_count modes tick (drop n cs) (after_characters modes tick (take n cs) port) ≡ 0 =
        ap (accepted_count modes tick (drop n cs)) (sym after) ∙ nothing_more.1 in
        omega (arith, count_front n cs port within all, rest)

  pub after_accepted-room : (cs : List Flagged) (port : OnPort)
      → port_without_room (after_accepted modes tick cs port) ≡ after_accepted modes tick cs (port_without_room port)
  after_accepted-room [] port = refl
  after_accepted-room (c ∷ cs) port = elim (cases_Bool (is_accepting modes port.tty)) [
    | inl accepted ↦
        ap port_without_room (cond-true _ _ _ accepted)
        ∙ after_accepted-room cs (after_character modes tick c port)
        ∙ ap (after_accepted modes tick cs) (after_character-room modes tick c port)
        ∙ sym (cond-true _ _ _ accepted)
    | inr full ↦ ap port_without_room (cond-false _ _ _ full) ∙ sym (cond-false _ _ _ full)
  ]

  pub accepted_count-room : (cs : List Flagged) (port : OnPort)
      → accepted_count modes tick cs port ≡ accepted_count modes tick cs (port_without_room port)
  accepted_count-room [] port = refl
  accepted_count-room (c ∷ cs) port = elim (cases_Bool (is_accepting modes port.tty)) [
    | inl accepted ↦
        cond-true _ _ _ accepted
        ∙ ap suc
        (accepted_count-room cs (after_character modes tick c port)
        ∙ ap (accepted_count modes tick cs) (after_character-room modes tick c port))
        ∙ sym (cond-true _ _ _ accepted)
    | inr full ↦ cond-false _ _ _ full ∙ sym (cond-false _ _ _ full)
  ]
