-- A worked journal in which nothing is flushed, and its log, are in order where the turns of all entries are these.
use Rattle.std.proofs.Common.{◌≡◌, ℕ, ◌+◌, ◌&&◌, Bool, true, false, not, List, [], ◌∷◌, map}
use Rattle.std.proofs.lemmas.Bool.{false≢true, and_parts}
use Rattle.tty_calls.specs.Plain.{PlainEvent, answered, parted, waited, flushed, ticked, line_ended, clock_ended}
use Rattle.tty_calls.specs.Plain.{caller_ended, phase_ended, hung_up, PlainEntry}
use Rattle.tty_calls.specs.Sessions.{PlainSession, call_at}
use Rattle.legal_runs.specs.Order.{Place, first_place, next_place, IsPieceOf}
use Rattle.passed_calls.specs.Logs.{logged_on}
use Rattle.modem_text.specs.Events.{ModemLog}
use Rattle.modem_steps.specs.Derived.{derived}
use Rattle.modem_steps.specs.Steps.{Port, first_state}
use Rattle.modem_steps.specs.Order.{Turn, goes_on, modem_turn, state_before, AreEntriesInTurn, AreEventsInTurn}
use Rattle.modem_steps.specs.Order.{IsInModemOrder}

abbrev pub is_flush : PlainEvent → Bool
is_flush (answered a dropped) = false
is_flush (parted taken) = false
is_flush waited = false
is_flush (flushed chars) = true
is_flush ticked = false
is_flush (line_ended n) = false
is_flush clock_ended = false
is_flush caller_ended = false
is_flush phase_ended = false
is_flush (hung_up dropped) = false

abbrev pub flush_nothing : List PlainEntry → Bool
flush_nothing [] = true
flush_nothing (e ∷ es) = not (is_flush e.event) && flush_nothing es

no_piece : (p : ℕ) (session : PlainSession) (s : Place) (part : ℕ) (event : PlainEvent)
    → not (is_flush event) ≡ true
    → IsPieceOf p session s part event
no_piece p session s part (answered a dropped) none = tt
no_piece p session s part (parted taken) none = tt
no_piece p session s part waited none = tt
no_piece p session s part (flushed chars) none = absurd (false≢true none)
no_piece p session s part ticked none = tt
no_piece p session s part (line_ended n) none = tt
no_piece p session s part clock_ended none = tt
no_piece p session s part caller_ended none = tt
no_piece p session s part phase_ended none = tt
no_piece p session s part (hung_up dropped) none = tt

same_first : (a b : Turn) (as' bs : List Turn) → a ∷ as' ≡ b ∷ bs → (a ≡ b) × (as' ≡ bs)
same_first a b as' bs e = (cc, cc)

module _ (played : PlainSession) (port : Port) (log : ModemLog) where
  -- whose turn it is before each entry
  abbrev pub turns_of : Place → ℕ → List PlainEntry → List Turn
  turns_of place n [] = []
  turns_of place n (e ∷ es) =
      modem_turn played port (state_before port (first_state port.number port.session) log n) place
      ∷ turns_of (next_place (call_at port.number played) place e) (n + 1) es

  in_turn : (place : Place) (n : ℕ) (es : List PlainEntry)
      → turns_of place n es ≡ map (λ e. goes_on e.who) es
      → flush_nothing es ≡ true
      → AreEntriesInTurn played port log place n es
  in_turn place n [] turns none = tt
  in_turn place n (e ∷ es) turns none =
      let before = state_before port (first_state port.number port.session) log n in
      let both = same_first (modem_turn played port before place) (goes_on e.who)
      (turns_of (next_place (call_at port.number played) place e) (n + 1) es) (map (λ x. goes_on x.who) es) turns in
      let parts = and_parts (not (is_flush e.event)) (flush_nothing es) none in (
        both.0,
        no_piece port.number played place e.part e.event parts.0,
        in_turn (next_place (call_at port.number played) place e) (n + 1) es both.1 parts.1,
      )

pub worked : (port : Port) (log : ModemLog)
    → turns_of (derived port.session log) port (logged_on port.number log)
    (first_place port.number (derived port.session log)) 0 port.journal.entries
    ≡ map (λ e. goes_on e.who) port.journal.entries
    → flush_nothing port.journal.entries ≡ true
    → AreEventsInTurn (derived port.session log) port (first_state port.number port.session)
    (logged_on port.number log)
    → IsInModemOrder port log []
worked port log turns none events = record {
  turns = record {
    entries = in_turn (derived port.session log) port (logged_on port.number log)
        (first_place port.number (derived port.session log)) 0 port.journal.entries turns none;
    events = events;
  };
  seen = tt;
}
