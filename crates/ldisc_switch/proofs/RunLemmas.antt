-- Characters that are received one after the other, under either discipline.
use Rattle.std.proofs.Common.{◌≡◌, ◌∙◌, ℕ, Bool, true, false, cond, not, ◌&&◌, ◌||◌, nat_le, ◌<◌}
use Rattle.std.proofs.Common.{◌==◌, List, [], ◌∷◌, ◌++◌, length, refl, ap, sym, arith, inl, inr}
use Rattle.std.proofs.lemmas.Bool.{cond-false, cond_both, cases_Bool, true≢false}
use Rattle.tty_base.specs.declared.characters.Flagged.{Flagged}
use Rattle.tty_modes.specs.Settings.{Settings, has_flag, character}
use Rattle.tty_modes.specs.declared.places.TheConstants.{ICANON, IXOFF, VSTART}
use Rattle.flow_control.specs.Output.{Output}
use Rattle.flow_control.specs.declared.tally.Tally.{Tally}
use Rattle.n_tty.specs.States.{OnPort}
use Rattle.n_tty.specs.Flow.{must_stop, may_start, with_start_sent, after_ixoff_rule}
use Rattle.n_tty.specs.Receiving.{after_character}
use Rattle.n_tty.specs.Runs.{after_characters, AcceptsAll}
use Rattle.n_tty.proofs.EchoLemmas.{never_both}
use Rattle.n_slip.specs.Discipline.{Slip, after_character as after_slip_character}
use Rattle.n_slip.specs.Discipline.{after_characters as after_slip_characters}
use Rattle.n_slip.specs.Discipline.{counts_after_character, counts_after_characters}
use Rattle.ldisc_switch.specs.declared.kinds.Kind.{Kind}
use Rattle.ldisc_switch.specs.declared.discipline.Disc.{Disc}
use Rattle.ldisc_switch.specs.declared.discipline.Disc.TheVariants as disc
use Rattle.ldisc_switch.specs.Disciplines.{DiscOnPort, fresh_of, disc_on_port, tty_on_port, after_character_of}
use Rattle.ldisc_switch.specs.Disciplines.{after_characters_of, AcceptsAllOf, disc_without_room}
use Rattle.ldisc_switch.specs.Happenings.{Happening, characters_at, after_one, after_all, HasHappened}
use Rattle.ldisc_switch.proofs.WithoutRoom.{after_character_of-room}

pub tty_run : (modes : Settings) (now : ℕ) (cs : List Flagged) (port : OnPort)
    → tty_on_port (after_characters modes now cs port) ≡ after_characters_of modes now cs (tty_on_port port)
tty_run modes now [] port = refl
tty_run modes now (c ∷ cs) port = tty_run modes now cs (after_character modes now c port)

pub tty_accepts : (modes : Settings) (now : ℕ) (cs : List Flagged) (port : OnPort)
    → AcceptsAll modes now cs port
    → AcceptsAllOf modes now cs (tty_on_port port)
tty_accepts modes now [] port all = tt
tty_accepts modes now (c ∷ cs) port all = (all.0, tty_accepts modes now cs (after_character modes now c port) all.1)

-- where STOP was not sent, and nothing is unread, the rule for ixoff does nothing
rule_idle : (modes : Settings) (output : Output) → output.noted ≡ false → output ≡ after_ixoff_rule modes 0 false output
rule_idle modes output quiet =
    let full : Bool = has_flag modes IXOFF && not output.noted in
    let stop : must_stop modes 0 false output ≡ false =
    ap (λ b. b && (not (has_flag modes ICANON) || false)) (never_both full) in
    let start : may_start modes 0 output ≡ false = ap (λ b. b && (nat_le 0 128 || not (has_flag modes IXOFF))) quiet in
    sym (cond-false _ _ _ stop ∙ cond-false _ _ _ start)

-- and after it was applied, no STOP is noted
quiet_after_rule : (modes : Settings) (output : Output) → (after_ixoff_rule modes 0 false output).noted ≡ false
quiet_after_rule modes output =
    let full : Bool = has_flag modes IXOFF && not output.noted in
    let stop : must_stop modes 0 false output ≡ false =
    ap (λ b. b && (not (has_flag modes ICANON) || false)) (never_both full) in
    let goes : Output = cond (may_start modes 0 output) (with_start_sent modes output) output in
    ap (λ (o : Output). o.noted) (cond-false _ _ goes stop)
    ∙ cond_both (may_start modes 0 output) (with_start_sent modes output) output (λ (o : Output). o.noted ≡ false)
    (λ _. cond_both (character modes VSTART == 0) _ _ (λ (o : Output). o.noted ≡ false) (λ _. refl) (λ _. refl))
    (λ still. elim (cases_Bool output.noted) [
      | inl noted ↦
          absurd (true≢false (sym (ap (λ b. b && (nat_le 0 128 || not (has_flag modes IXOFF))) noted) ∙ still))
      | inr quiet ↦ quiet
    ])

slip_one : (modes : Settings) (now : ℕ) (c : Flagged) (slip : Slip) (output : Output) (tally : Tally)
    → output.noted ≡ false
    → disc_on_port (disc.Slip (after_slip_character slip c)) output
    (record tally { counts = counts_after_character slip c tally.counts })
    ≡ after_character_of modes now c (disc.Slip slip) output tally
slip_one modes now c slip output tally quiet =
    ap (λ (o : Output). disc_on_port (disc.Slip (after_slip_character slip c)) o
    (record tally { counts = counts_after_character slip c tally.counts }))
    (rule_idle modes output quiet)

pub slip_run : (modes : Settings) (now : ℕ) (cs : List Flagged) (slip : Slip) (output : Output) (tally : Tally)
    → output.noted ≡ false
    → disc_on_port (disc.Slip (after_slip_characters slip cs)) output
    (record tally { counts = counts_after_characters slip cs tally.counts })
    ≡ after_characters_of modes now cs (disc_on_port (disc.Slip slip) output tally)
slip_run modes now [] slip output tally quiet = refl
slip_run modes now (c ∷ cs) slip output tally quiet =
    slip_run modes now cs (after_slip_character slip c) output
    (record tally { counts = counts_after_character slip c tally.counts }) quiet
    ∙ ap (after_characters_of modes now cs) (slip_one modes now c slip output tally quiet)

pub slip_accepts : (modes : Settings) (now : ℕ) (cs : List Flagged) (slip : Slip) (output : Output) (tally : Tally)
    → AcceptsAllOf modes now cs (disc_on_port (disc.Slip slip) output tally)
slip_accepts modes now [] slip output tally = tt
slip_accepts modes now (c ∷ cs) slip output tally =
    let next : DiscOnPort = after_character_of modes now c (disc.Slip slip) output tally in
    (refl, slip_accepts modes now cs (after_slip_character slip c) next.output next.tally)

-- characters under N_SLIP, with the rule for ixoff once
pub slip_all : (modes : Settings) (now : ℕ) (cs : List Flagged) (slip : Slip) (output : Output) (tally : Tally)
    → 0 < length cs
    → disc_on_port (disc.Slip (after_slip_characters slip cs)) (after_ixoff_rule modes 0 false output)
    (record tally { counts = counts_after_characters slip cs tally.counts })
    ≡ after_characters_of modes now cs (disc_on_port (disc.Slip slip) output tally)
slip_all modes now [] slip output tally some = absurd (omega (arith, some))
slip_all modes now (c ∷ cs) slip output tally some =
    slip_run modes now cs (after_slip_character slip c) (after_ixoff_rule modes 0 false output)
    (record tally { counts = counts_after_character slip c tally.counts })
    (quiet_after_rule modes output)

-- what the characters leave of a discipline is what their happenings do
heard_all : (modes : Settings) (now : ℕ) (cs : List Flagged) (port : DiscOnPort)
    → (after_characters_of modes now cs port).disc ≡ after_all port.disc (characters_at modes now cs port)
heard_all modes now [] port = refl
heard_all modes now (c ∷ cs) port =
    heard_all modes now cs (after_character_of modes now c port.disc port.output port.tally)

all_and_more : (state : Disc) (xs ys : List Happening) → after_all state (xs ++ ys) ≡ after_all (after_all state xs) ys
all_and_more state [] ys = refl
all_and_more state (x ∷ xs) ys = all_and_more (after_one state x) xs ys

pub happened_so : (modes : Settings) (now : ℕ) (cs : List Flagged) (before left : DiscOnPort) (kind : Kind)
    (events : List Happening)
    → left ≡ after_characters_of modes now cs before
    → HasHappened before.disc kind events
    → HasHappened left.disc kind (events ++ characters_at modes now cs before)
happened_so modes now cs before left kind events is has =
    ap (λ (port : DiscOnPort). port.disc) is
    ∙ heard_all modes now cs before
    ∙ ap (λ (d : Disc). after_all d (characters_at modes now cs before)) has
    ∙ sym (all_and_more (fresh_of kind) events (characters_at modes now cs before))

-- reserved room makes no difference to them
pub after_characters_of-room : (modes : Settings) (now : ℕ) (cs : List Flagged) (port : DiscOnPort)
    → disc_without_room (after_characters_of modes now cs port)
    ≡ after_characters_of modes now cs (disc_without_room port)
after_characters_of-room modes now [] port = refl
after_characters_of-room modes now (c ∷ cs) port =
    after_characters_of-room modes now cs (after_character_of modes now c port.disc port.output port.tally)
    ∙ ap (after_characters_of modes now cs) (after_character_of-room modes now c port.disc port.output port.tally)
