use Rattle.std.proofs.Common.{◌≡◌, ◌∙◌, ◌≤◌, ℕ, Bool, List, length, true, false, ap, sym, arith}
use Rattle.std.proofs.Math.ListN.{set}
use Rattle.tty_modes.specs.Bits.{flags_of}
use Rattle.tty_modes.specs.Settings.{Settings, with_flags_at, raw_places}
use Rattle.tty_modes.specs.Word.{after_word}
use Rattle.tty_modes.specs.declared.words.Word.{Word}
use Rattle.tty_modes.specs.declared.words.Word.TheVariants.{On, Off, Raw}
use Rattle.tty_modes.proofs.FlagBits.{flags_of-set, flags_of-clear, flags_of-raw}
use Rattle.tty_modes.proofs.FlagBits.{set_fits, clear_fits, set-past, length-flags_of}
use Rattle.tty_modes.proofs.settings.Modes.apply.Goals as goal

-- modes whose flags were changed as the word says
flags_changed : (before : List Bool) (characters : List ℕ) (modes : Settings) (word given : Word) (after : Settings)
    → (let old : Settings = record { flags = before; characters = characters } in old ≡ modes)
    → given ≡ word
    → (let old : Settings = record { flags = before; characters = characters } in after ≡ after_word old word)
    → after ≡ after_word modes given
flags_changed before characters modes word given after view is step =
    step ∙ ap (λ m. after_word m word) view ∙ ap (after_word modes) (sym is)

pub invariant_of-self : goal.invariant_of-self
invariant_of-self c =
    record {
      fits = rw (c.insert.ensures tt, c.bit.ensures)
          (set_fits c.self.inside.bits.0 c.in-On.flag c.self.invariant.fits c.if-flag-lt-FLAG_COUNT.true);
      unprinted = c.self.invariant.unprinted;
    }

pub invariant_of-self-then-flag-lt-FLAG_COUNT-2 : goal.invariant_of-self-then-flag-lt-FLAG_COUNT-2
invariant_of-self-then-flag-lt-FLAG_COUNT-2 c =
    record {
      fits = rw (c.remove.ensures tt)
          (clear_fits c.self.inside.bits.0 c.bit-then-flag-lt-FLAG_COUNT-2.result.0 c.self.invariant.fits);
      unprinted = c.self.invariant.unprinted;
    }

pub invariant_of-self-in-Raw : goal.invariant_of-self-in-Raw
invariant_of-self-in-Raw c =
    record {
      fits = rw (c.remove-in-Raw.ensures tt) (clear_fits c.self.inside.bits.0 76420075 c.self.invariant.fits);
      unprinted = c.self.invariant.unprinted;
    }

pub returns-then-flag-lt-FLAG_COUNT : goal.returns-then-flag-lt-FLAG_COUNT
returns-then-flag-lt-FLAG_COUNT c =
    let is : flags_of 29 c.insert.new.self.0 ≡ set (flags_of 29 c.self.inside.bits.0) c.in-On.flag true =
    rw (c.insert.ensures tt, c.bit.ensures)
    (flags_of-set 29 c.self.inside.bits.0 c.in-On.flag c.if-flag-lt-FLAG_COUNT.true) in
    flags_changed _ c.self.inside.characters _ (On c.in-On.flag) _ _ c.self.view_is c.in-On.is
    (ap (λ flags. record { flags = flags; characters = c.self.inside.characters }) is)

pub returns-else-flag-lt-FLAG_COUNT : goal.returns-else-flag-lt-FLAG_COUNT
returns-else-flag-lt-FLAG_COUNT c =
    let long : length (flags_of 29 c.self.inside.bits.0) ≤ c.in-On.flag =
    omega (arith, length-flags_of 29 c.self.inside.bits.0) in
    sym c.self.view_is ∙ flags_changed _ c.self.inside.characters _ (On c.in-On.flag) _ _ c.self.view_is c.in-On.is
    (ap (λ flags. record { flags = flags; characters = c.self.inside.characters })
    (sym (set-past (flags_of 29 c.self.inside.bits.0) c.in-On.flag true long)))

pub returns-then-flag-lt-FLAG_COUNT-2 : goal.returns-then-flag-lt-FLAG_COUNT-2
returns-then-flag-lt-FLAG_COUNT-2 c =
    let is : flags_of 29 c.remove.new.self.0 ≡ set (flags_of 29 c.self.inside.bits.0) c.in-Off.flag false =
    rw (c.remove.ensures tt, c.bit-then-flag-lt-FLAG_COUNT-2.ensures)
    (flags_of-clear c.self.inside.bits.0 c.in-Off.flag c.if-flag-lt-FLAG_COUNT-2.true) in
    flags_changed _ c.self.inside.characters _ (Off c.in-Off.flag) _ _ c.self.view_is c.in-Off.is
    (ap (λ flags. record { flags = flags; characters = c.self.inside.characters }) is)

pub returns-else-flag-lt-FLAG_COUNT-2 : goal.returns-else-flag-lt-FLAG_COUNT-2
returns-else-flag-lt-FLAG_COUNT-2 c =
    let long : length (flags_of 29 c.self.inside.bits.0) ≤ c.in-Off.flag =
    omega (arith, length-flags_of 29 c.self.inside.bits.0) in
    sym c.self.view_is ∙ flags_changed _ c.self.inside.characters _ (Off c.in-Off.flag) _ _ c.self.view_is c.in-Off.is
    (ap (λ flags. record { flags = flags; characters = c.self.inside.characters })
    (sym (set-past (flags_of 29 c.self.inside.bits.0) c.in-Off.flag false long)))

pub returns-in-Raw : goal.returns-in-Raw
returns-in-Raw c =
    let is : flags_of 29 c.remove-in-Raw.new.self.0
    ≡ with_flags_at false raw_places (flags_of 29 c.self.inside.bits.0) =
    rw (c.remove-in-Raw.ensures tt) (flags_of-raw c.self.inside.bits.0) in
    flags_changed _ c.self.inside.characters _ Raw _ _ c.self.view_is c.in-Raw.is
    (ap (λ flags. record { flags = flags; characters = c.self.inside.characters }) is)
