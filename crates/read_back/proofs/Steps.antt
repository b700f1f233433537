-- Each entry keeps what can be printed.
use Rattle.std.proofs.Common.{◌≡◌, ℕ, ◌+◌, ◌*◌, ◌<◌, ◌≤◌, Option, None, Some, List, [], ◌∷◌, length, refl, subst, arith}
use Rattle.tty_base.specs.declared.characters.Flagged.{Flagged}
use Rattle.tty_modes.specs.Settings.{Settings}
use Rattle.tty_calls.specs.declared.journals.Who.{Who}
use Rattle.tty_calls.specs.declared.journals.Who.TheVariants.{Caller, Flusher, Line, Clock, Session}
use Rattle.tty_calls.specs.Plain.{PlainCall, PlainEvent, answered, parted, waited, flushed, ticked}
use Rattle.tty_calls.specs.Plain.{line_ended, clock_ended, caller_ended, phase_ended, hung_up, chars_in}
use Rattle.flow_control.specs.Output.{Output}
use Rattle.flow_control.specs.declared.tally.Tally.{Tally}
use Rattle.n_tty.specs.States.{on_port}
use Rattle.ldisc_switch.specs.declared.discipline.Disc.{Disc}
use Rattle.ldisc_switch.specs.declared.discipline.Disc.TheVariants as disc
use Rattle.ldisc_switch.specs.Disciplines.{DiscOnPort, unread_of, has_piece_of, after_character_of}
use Rattle.tty_terminal.specs.declared.callers.CallerState.{CallerState}
use Rattle.tty_terminal.specs.Terminals.{Terminal, caller_at}
use Rattle.tty_terminal.specs.Receiving.{after_character, after_characters}
use Rattle.tty_terminal.specs.Generations.{after_hangup}
use Rattle.tty_terminal.specs.Calls.{outcome, outcome_of}
use Rattle.tty_terminal.specs.Steps.{left_by, IsAllowed, after_event}
use Rattle.read_back.proofs.Characters.{HeldFits, tty_more, rule_fits, by_character}
use Rattle.read_back.proofs.Packets.{slip_more, slip_counts}
use Rattle.check_text.specs.Grammar.{most}
use Rattle.check_text.specs.Printed.{AreCounts}
use Rattle.read_back.proofs.Outcomes.{IsByteDisc, IsSized, IsSmallCall, IsTaken, left_sized, call_met, hung_up_sized}
use Rattle.read_back.proofs.Received.{AreByteChars}

-- ---- more may be unread

disc_more : (few n : ℕ) (d : Disc) → few ≤ n → IsByteDisc few d → IsByteDisc n d
disc_more few n (disc.Tty tty) le h = tty_more few n tty le h
disc_more few n (disc.Slip slip) le h = h

sized_more : (few n : ℕ) (t : Terminal) → few ≤ n → IsSized few t → IsSized n t
sized_more few n t le h =
    record { modes = h.modes; counts = h.counts; disc = disc_more few n t.disc le h.disc; held = h.held }

-- ---- characters

record IsSizedPort (few : ℕ) (port : DiscOnPort) : Type 0 where
  disc : IsByteDisc few port.disc
  counts : AreCounts port.tally.counts
  held : HeldFits port.output

port_sized : (modes : Settings) (now few : ℕ) (c : Flagged) (d : Disc) (output : Output) (tally : Tally)
    → c.byte < 256
    → IsByteDisc few d
    → AreCounts tally.counts
    → HeldFits output
    → IsSizedPort (few + 3) (after_character_of modes now c d output tally)
port_sized modes now few c (disc.Tty tty) output tally small h counts held =
    let k =
    by_character modes now c few (on_port tty output tally) small (record { tty = h; counts = counts; held = held }) in
    record { disc = k.tty; counts = k.counts; held = k.held }
port_sized modes now few c (disc.Slip slip) output tally small h counts held =
    record {
      disc = slip_more slip c small h;
      counts = slip_counts slip c tally.counts counts;
      held = rule_fits modes (unread_of (disc.Slip slip)) (has_piece_of (disc.Slip slip)) output held;
    }

character_sized : (few : ℕ) (t : Terminal) (c : Flagged)
    → c.byte < 256
    → IsSized few t
    → IsSized (few + 3) (after_character t c)
character_sized few t c small h =
    let k = port_sized t.modes t.tick few c t.disc t.output t.tally small h.disc h.counts h.held in
    record { modes = h.modes; counts = k.counts; disc = k.disc; held = k.held }

characters_sized : (few n : ℕ) (t : Terminal) (chars : List Flagged)
    → n ≡ few + 3 * length chars
    → AreByteChars chars
    → IsSized few t
    → IsSized n (after_characters t chars)
characters_sized few n t [] e small h = sized_more few n t (omega (arith, e)) h
characters_sized few n t (c ∷ chars) e small h =
    characters_sized (few + 3) n (after_character t c) chars (omega (arith, e)) small.1
    (character_sized few t c small.0 h)

-- ---- entries

-- what is known of a call that is made
record IsKnown (s : CallerState) (call : PlainCall) : Type 0 where
  small : IsSmallCall call
  taken : IsTaken s call

outcome_sized : (few : ℕ) (t : Terminal) (s : CallerState) (o : Option PlainCall)
    → few ≤ most
    → ((call : PlainCall) → o ≡ Some call → IsKnown s call)
    → IsSized few t
    → IsSized few (left_by (outcome_of t s o) t)
outcome_sized few t s None le known h = h
outcome_sized few t s (Some call) le known h =
    let k = known call refl in
    left_sized call few t (outcome t s call) (call_met few t s call le k.small k.taken h)

-- the calls of callers as they stand
abbrev pub AreKnown : (ℕ → ℕ → Option PlainCall) → Terminal → Type 0
AreKnown calls t =
    (c : ℕ) (call : PlainCall)
    → calls c (caller_at t c).next ≡ Some call
    → IsSmallCall call × IsTaken (caller_at t c) call

module _ (calls : ℕ → ℕ → Option PlainCall) (counts : List ℕ) (few : ℕ) (t : Terminal) (le : few ≤ most)
    (known : AreKnown calls t) (h : IsSized few t) where
  left_is : (c step : ℕ)
      → step ≡ (caller_at t c).next
      → IsSized few (left_by (outcome_of t (caller_at t c) (calls c step)) t)
  left_is c step at =
      outcome_sized few t (caller_at t c) (calls c step) le
      (λ call e.
      let k = known c call (subst (λ (i : ℕ). calls c i ≡ Some call) at e) in record { small = k.0; taken = k.1 }) h

  pub event_sized : (who : Who) (step part n : ℕ) (event : PlainEvent)
      → n ≡ few + 3 * length (chars_in event)
      → AreByteChars (chars_in event)
      → IsAllowed calls counts t who step part event
      → IsSized n (after_event calls t who step part event)
  event_sized (Caller c) step part n (answered a dropped) e small allowed =
      let u = left_by (outcome_of t (caller_at t c) (calls c step)) t in
      let k = sized_more few n u (omega (arith, e)) (left_is c step allowed.next.at_step) in
      record { modes = k.modes; counts = k.counts; disc = k.disc; held = k.held }
  event_sized Flusher step part n (answered a dropped) e small allowed = absurd allowed
  event_sized Line step part n (answered a dropped) e small allowed = absurd allowed
  event_sized Clock step part n (answered a dropped) e small allowed = absurd allowed
  event_sized Session step part n (answered a dropped) e small allowed = absurd allowed
  event_sized (Caller c) step part n (parted taken) e small allowed =
      let u = left_by (outcome_of t (caller_at t c) (calls c step)) t in
      let k = sized_more few n u (omega (arith, e)) (left_is c step allowed.next.at_step) in
      record { modes = k.modes; counts = k.counts; disc = k.disc; held = k.held }
  event_sized Flusher step part n (parted taken) e small allowed = absurd allowed
  event_sized Line step part n (parted taken) e small allowed = absurd allowed
  event_sized Clock step part n (parted taken) e small allowed = absurd allowed
  event_sized Session step part n (parted taken) e small allowed = absurd allowed
  event_sized (Caller c) step part n waited e small allowed =
      let k = sized_more few n t (omega (arith, e)) h in
      record { modes = k.modes; counts = k.counts; disc = k.disc; held = k.held }
  event_sized Flusher step part n waited e small allowed = absurd allowed
  event_sized Line step part n waited e small allowed = absurd allowed
  event_sized Clock step part n waited e small allowed = absurd allowed
  event_sized Session step part n waited e small allowed = absurd allowed
  event_sized who step part n (flushed chars) e small allowed =
      let k = characters_sized few n t chars e small h in
      record { modes = k.modes; counts = k.counts; disc = k.disc; held = k.held }
  event_sized who step part n ticked e small allowed =
      let k = sized_more few n t (omega (arith, e)) h in
      record { modes = k.modes; counts = k.counts; disc = k.disc; held = k.held }
  event_sized who step part n (line_ended sent) e small allowed =
      let k = sized_more few n t (omega (arith, e)) h in
      record { modes = k.modes; counts = k.counts; disc = k.disc; held = k.held }
  event_sized who step part n clock_ended e small allowed =
      let k = sized_more few n t (omega (arith, e)) h in
      record { modes = k.modes; counts = k.counts; disc = k.disc; held = k.held }
  event_sized (Caller c) step part n caller_ended e small allowed =
      let k = sized_more few n t (omega (arith, e)) h in
      record { modes = k.modes; counts = k.counts; disc = k.disc; held = k.held }
  event_sized Flusher step part n caller_ended e small allowed = absurd allowed
  event_sized Line step part n caller_ended e small allowed = absurd allowed
  event_sized Clock step part n caller_ended e small allowed = absurd allowed
  event_sized Session step part n caller_ended e small allowed = absurd allowed
  event_sized who step part n phase_ended e small allowed =
      let k = sized_more few n t (omega (arith, e)) h in
      record { modes = k.modes; counts = k.counts; disc = k.disc; held = k.held }
  event_sized who step part n (hung_up dropped) e small allowed =
      let k = sized_more few n (after_hangup t) (omega (arith, e)) (hung_up_sized few t h) in
      record { modes = k.modes; counts = k.counts; disc = k.disc; held = k.held }
