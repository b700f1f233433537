-- Good bytes that no rule concerns, or none but those of storing and echo.
use Rattle.std.proofs.Common.{◌≡◌, ℕ, ◌%◌, Bool, true, false, cond, not, ◌&&◌, ◌||◌, ◌==◌, nat_le}
use Rattle.std.proofs.Common.{nat_lt, None, Some, [], ◌∷◌, ap, sym, ◌∙◌, inl, inr, arith, ne_eqb}
use Rattle.std.proofs.lemmas.Bool.{and_parts, cases_Bool, cond-true, cond-false, eqb-true, not-true}
use Rattle.tty_base.specs.declared.counters.Signal.TheVariants.{Int, Quit, Susp}
use Rattle.tty_modes.specs.Settings.{Settings, has_flag, character}
use Rattle.tty_modes.specs.declared.places.TheConstants.{ISTRIP, IXON, IXANY, IXOFF, ISIG, INLCR, IGNCR, ICRNL}
use Rattle.tty_modes.specs.declared.places.TheConstants.{ICANON, PARMRK, ECHO, IEXTEN, VSTART, VSTOP, VINTR, VQUIT}
use Rattle.tty_modes.specs.declared.places.TheConstants.{VSUSP, VERASE, VKILL, VWERASE, VLNEXT, VEOF, VEOL, VEOL2}
use Rattle.n_tty.specs.declared.roles.Role.TheVariants.{Ordinary}
use Rattle.n_tty.specs.States.{OnPort, unread_count, has_piece}
use Rattle.n_tty.specs.Storing.{after_store, with_plain_bytes}
use Rattle.n_tty.specs.Roles.{is_character, is_extended, signal_of, mapped_byte, role_of, is_raw, IsPlain}
use Rattle.n_tty.specs.Receiving.{after_good, after_unquoted, after_unsteered, after_mapped, after_role}
use Rattle.n_tty.specs.Receiving.{after_ordinary, after_resume_where, ordinary_bytes, stripped_byte, with_ixoff_rule}
use Rattle.n_tty.specs.Flow.{HIGH_WATER, LOW_WATER, must_stop, may_start}
use Rattle.n_tty.proofs.EchoLemmas.{unechoed, either_way, never_both}

-- ---- printed bytes

module _ (modes : Settings) (b : ℕ) (plain : IsPlain modes b) where
  none : (place : ℕ) → is_character modes place b ≡ false
  none place =
      ap (λ t. not (b == 0) && t) (ne_eqb b (character modes place) (plain.apart place)) ∙ never_both (not (b == 0))

  none_extended : (place : ℕ) → is_extended modes place b ≡ false
  none_extended place = ap (λ t. has_flag modes IEXTEN && t) (none place) ∙ never_both (has_flag modes IEXTEN)

  unsteered : (place : ℕ) → (has_flag modes IXON && is_character modes place b) ≡ false
  unsteered place = ap (λ t. has_flag modes IXON && t) (none place) ∙ never_both (has_flag modes IXON)

  stays_as_it_is : stripped_byte modes b ≡ b
  stays_as_it_is =
      let low : b % 128 ≡ b = omega (arith, plain.high) in
      ap (λ k. cond (has_flag modes ISTRIP) k b) low ∙ either_way (has_flag modes ISTRIP) b

  no_signal : signal_of modes b ≡ None
  no_signal =
      ap (λ t. cond (not (has_flag modes ISIG)) None
      (cond t (Some Int)
      (cond (is_character modes VQUIT b) (Some Quit) (cond (is_character modes VSUSP b) (Some Susp) None))))
      (none VINTR)
      ∙ ap
      (λ t.
      cond (not (has_flag modes ISIG)) None (cond t (Some Quit) (cond (is_character modes VSUSP b) (Some Susp) None)))
      (none VQUIT)
      ∙ ap (λ t. cond (not (has_flag modes ISIG)) None (cond t (Some Susp) None)) (none VSUSP)
      ∙ either_way (not (has_flag modes ISIG)) None

  no_return : (b == 13) ≡ false
  no_return = ne_eqb b 13 (λ e. omega (arith, plain.low))

  no_newline : (b == 10) ≡ false
  no_newline = ne_eqb b 10 (λ e. omega (arith, plain.low))

  unmapped : mapped_byte modes b ≡ Some b
  unmapped = cond-false _ _ _ no_return ∙ cond-false _ _ _ (ap (λ t. t && has_flag modes INLCR) no_newline)

  ordinary : role_of modes b ≡ Ordinary
  ordinary =
      cond-false _ _ _ (none VERASE)
      ∙ cond-false _ _ _ (none VKILL)
      ∙ cond-false _ _ _ (none_extended VWERASE)
      ∙ cond-false _ _ _ (none_extended VLNEXT)
      ∙ cond-false _ _ _ no_newline
      ∙ cond-false _ _ _ (none VEOF)
      ∙ cond-false _ _ _ (none VEOL)
      ∙ cond-false _ _ _ (none_extended VEOL2)

  module _ (now : ℕ) (port : OnPort) where
    unquoted_plain : after_unquoted modes now b port ≡ after_ordinary modes now b port
    unquoted_plain =
        let any : Bool = has_flag modes IXON && has_flag modes IXANY in
        let steady : any ≡ false = ap (λ t. has_flag modes IXON && t) plain.steady ∙ never_both (has_flag modes IXON) in
        cond-false _ _ _ (unsteered VSTART)
        ∙ cond-false _ _ _ (unsteered VSTOP)
        ∙ ap (λ signal. after_unsteered modes now b signal (after_resume_where any port)) no_signal
        ∙ ap (λ t. after_mapped modes now (mapped_byte modes b) (after_resume_where t port)) steady
        ∙ ap (λ m. after_mapped modes now m port) unmapped
        ∙ ap (λ role. cond (has_flag modes ICANON) (after_role modes now role b port) (after_ordinary modes now b port))
        ordinary
        ∙ either_way (has_flag modes ICANON) (after_ordinary modes now b port)

    -- one that is not quoted is ordinary
    pub good_plain : port.tty.quoted ≡ false → after_good modes now b port ≡ after_ordinary modes now b port
    good_plain unquoted =
        cond-false _ _ _ unquoted ∙ ap (λ k. after_unquoted modes now k port) stays_as_it_is ∙ unquoted_plain

-- ---- bytes in raw mode

all_off : (a b c d e f g h i : Bool)
    → (not a && not b && not c && not d && not e && not f && not g && not h && not i) ≡ true
    → (a ≡ false)
    × (b ≡ false)
    × (c ≡ false)
    × (d ≡ false)
    × (e ≡ false)
    × (f ≡ false)
    × (g ≡ false)
    × (h ≡ false)
    × (i ≡ false)
all_off a b c d e f g h i off =
    let p8 = and_parts (not a && not b && not c && not d && not e && not f && not g && not h) (not i) off in
    let p7 = and_parts (not a && not b && not c && not d && not e && not f && not g) (not h) p8.0 in
    let p6 = and_parts (not a && not b && not c && not d && not e && not f) (not g) p7.0 in
    let p5 = and_parts (not a && not b && not c && not d && not e) (not f) p6.0 in
    let p4 = and_parts (not a && not b && not c && not d) (not e) p5.0 in
    let p3 = and_parts (not a && not b && not c) (not d) p4.0 in
    let p2 = and_parts (not a && not b) (not c) p3.0 in
    let p1 = and_parts (not a) (not b) p2.0 in (
      not-true a p1.0,
      not-true b p1.1,
      not-true c p2.1,
      not-true d p3.1,
      not-true e p4.1,
      not-true f p5.1,
      not-true g p6.1,
      not-true h p7.1,
      not-true i p8.1,
    )

module _ (modes : Settings) (raw : is_raw modes ≡ true) where
  off : (has_flag modes ISTRIP ≡ false)
      × (has_flag modes IXON ≡ false)
      × (has_flag modes ISIG ≡ false)
      × (has_flag modes INLCR ≡ false)
      × (has_flag modes IGNCR ≡ false)
      × (has_flag modes ICRNL ≡ false)
      × (has_flag modes ICANON ≡ false)
      × (has_flag modes PARMRK ≡ false)
      × (has_flag modes ECHO ≡ false)
  off = all_off (has_flag modes ISTRIP) (has_flag modes IXON) (has_flag modes ISIG) (has_flag modes INLCR)
      (has_flag modes IGNCR) (has_flag modes ICRNL) (has_flag modes ICANON) (has_flag modes PARMRK)
      (has_flag modes ECHO) raw

  pub raw_plain : has_flag modes ICANON ≡ false
  raw_plain = off.6

  kept : (b : ℕ) → mapped_byte modes b ≡ Some b
  kept b = elim (cases_Bool (b == 13)) [
    | inl is ↦ cond-true _ _ _ is ∙ cond-false _ _ _ off.4 ∙ cond-false _ _ _ off.5 ∙ ap Some (sym (eqb-true b 13 is))
    | inr other ↦ cond-false _ _ _ other ∙ cond-false _ _ _ (ap (λ t. (b == 10) && t) off.3 ∙ never_both (b == 10))
  ]

  module _ (now b : ℕ) (port : OnPort) where
    -- one that is not quoted is stored, and that is all
    pub good_raw : port.tty.quoted ≡ false
        → record port { tty = with_plain_bytes now (b ∷ []) port.tty } ≡ after_good modes now b port
    good_raw unquoted =
        let any : Bool = has_flag modes IXON && has_flag modes IXANY in
        sym (
        cond-false _ _ _ unquoted
        ∙ ap (λ k. after_unquoted modes now k port) (cond-false _ (b % 128) b off.0)
        ∙ cond-false _ _ _ (ap (λ t. t && is_character modes VSTART b) off.1)
        ∙ cond-false _ _ _ (ap (λ t. t && is_character modes VSTOP b) off.1)
        ∙ ap (λ signal. after_unsteered modes now b signal (after_resume_where any port))
        (cond-true _ _ _ (ap not off.2))
        ∙ ap (λ t. after_mapped modes now (mapped_byte modes b) (after_resume_where (t && has_flag modes IXANY) port))
        off.1
        ∙ ap (λ m. after_mapped modes now m port) (kept b)
        ∙ cond-false _ _ _ off.6
        ∙ sym (unechoed modes b (after_store modes now (ordinary_bytes modes b) port) off.8)
        ∙ ap (λ bytes. after_store modes now bytes port)
        (cond-false (has_flag modes PARMRK && not (has_flag modes ISTRIP) && b == 255) (255 ∷ 255 ∷ []) (b ∷ [])
        (ap (λ t. t && not (has_flag modes ISTRIP) && b == 255) off.7))
        ∙ cond-false _ _ _ off.6
        )

-- ---- the rule for ixoff

-- without ixoff, and where no STOP was sent, it does nothing
pub rule_idle : (modes : Settings) (port : OnPort)
    → has_flag modes IXOFF ≡ false
    → port.output.noted ≡ false
    → port ≡ with_ixoff_rule modes port
rule_idle modes port free quiet =
    let unread : ℕ = unread_count port.tty in
    let stop : must_stop modes unread (has_piece port.tty) port.output ≡ false =
    ap (λ t.
    t && not port.output.noted && nat_lt HIGH_WATER unread && (not (has_flag modes ICANON) || has_piece port.tty))
    free in
    let start : may_start modes unread port.output ≡ false =
    ap (λ t. t && (nat_le unread LOW_WATER || not (has_flag modes IXOFF))) quiet in
    sym (ap (λ output. record port { output = output }) (cond-false _ _ _ stop ∙ cond-false _ _ _ start))
