-- The event of modem lines that comes next where nothing is due.
use Rattle.std.proofs.Common.{◌≡◌, ◌⊎◌, inl, inr, ℕ, Bool, List, [], ◌∷◌, refl, subst, arith}
use Rattle.std.proofs.lemmas.Bool.{cases_lt}
use Rattle.tty_calls.specs.Plain.{PlainAnswer, PlainEntry}
use Rattle.tty_calls.specs.Sessions.{PlainSession}
use Rattle.modem_lines.specs.declared.pins.Pin.{Pin}
use Rattle.passed_calls.specs.declared.logs.Logged.{Logged}
use Rattle.passed_calls.specs.Journals.{terminal_at}
use Rattle.logged_laws.proofs.Places.{IsPast, Here, no_due, answer_late}
use Rattle.modem_text.specs.Events.{ModemEvent, pin_set, own, passed, carrier_lost, ModemLog}
use Rattle.modem_text.specs.Sessions.{ModemSession}
use Rattle.modem_steps.specs.Steps.{Port, ModemState, next_call, IsPin, IsOwn, IsPassed, IsLoss, IsAllowed}
use Rattle.modem_steps.specs.Order.{sets_pin, modem_turn, own_turn, place_at, IsEventInTurn}
use Rattle.modem_one.specs.Played.{port_in}
use Rattle.modem_laws.proofs.Steps.{modem_log, log_steps}

-- an item of the modem block is done next
pub record PinHead (played : PlainSession) (port : Port) (u : ModemState) (log : ModemLog) (n : ℕ) : Type 0 where
  pub head : Logged ModemEvent
  pub rest : ModemLog
  pub is : log ≡ head ∷ rest
  pub at_place : head.at ≡ n
  pub pin : Pin
  pub up : Bool
  pub event_is : head.event ≡ pin_set pin up
  pub pins : IsPin port u (terminal_at port.journal n) pin up
  pub turn : modem_turn played port u (place_at played port n) ≡ sets_pin

-- or a call is answered without the port
pub record OwnHead (played : PlainSession) (port : Port) (u : ModemState) (log : ModemLog) (n : ℕ) : Type 0 where
  pub head : Logged ModemEvent
  pub rest : ModemLog
  pub is : log ≡ head ∷ rest
  pub at_place : head.at ≡ n
  pub caller : ℕ
  pub step : ℕ
  pub answer : PlainAnswer
  pub event_is : head.event ≡ own caller step answer
  pub owns : IsOwn port u (terminal_at port.journal n) caller step answer
  pub turn : modem_turn played port u (place_at played port n)
      ≡ own_turn (next_call port u (place_at played port n).terminal caller) caller

abbrev pub Heads : PlainSession → Port → ModemState → ModemLog → ℕ → Type 0
Heads played port u log n = PinHead played port u log n ⊎ OwnHead played port u log n

module _ (p : ℕ) (session : ModemSession) (played : PlainSession) (journal : List PlainEntry) (end u : ModemState)
    (n : ℕ) (idle : u.due ≡ []) where
  abbrev port : Port
  port = port_in session played p journal

  abbrev HereOf : ModemLog → Type 0
  HereOf log = Here (modem_log p session) played journal end u log n

  at_head : (l : Logged ModemEvent) (log : ModemLog) (event : ModemEvent)
      → l.event ≡ event
      → l.at ≡ n
      → HereOf (l ∷ log)
      → Heads played port u (l ∷ log) n
  at_head l log (pin_set pin up) is at h =
      let allowed : IsPin port u (terminal_at port.journal l.at) pin up =
      subst (λ (e : ModemEvent). IsAllowed port u l.at e) is h.leads.2 in
      let turned : modem_turn played port u (place_at played port l.at) ≡ sets_pin =
      subst (λ (e : ModemEvent). IsEventInTurn played port u (place_at played port l.at) e) is h.turns.0 in
      inl (record {
        head = l;
        rest = log;
        is = refl;
        at_place = at;
        pin = pin;
        up = up;
        event_is = is;
        pins = subst (λ (m : ℕ). IsPin port u (terminal_at port.journal m) pin up) at allowed;
        turn = subst (λ (m : ℕ). modem_turn played port u (place_at played port m) ≡ sets_pin) at turned;
      })
  at_head l log (own c step answer) is at h =
      let allowed : IsOwn port u (terminal_at port.journal l.at) c step answer =
      subst (λ (e : ModemEvent). IsAllowed port u l.at e) is h.leads.2 in
      let turned : modem_turn played port u (place_at played port l.at)
      ≡ own_turn (next_call port u (place_at played port l.at).terminal c) c =
      subst (λ (e : ModemEvent). IsEventInTurn played port u (place_at played port l.at) e) is h.turns.0 in
      inr (record {
        head = l;
        rest = log;
        is = refl;
        at_place = at;
        caller = c;
        step = step;
        answer = answer;
        event_is = is;
        owns = subst (λ (m : ℕ). IsOwn port u (terminal_at port.journal m) c step answer) at allowed;
        turn = subst (λ (m : ℕ). modem_turn played port u (place_at played port m)
            ≡ own_turn (next_call port u (place_at played port m).terminal c) c) at turned;
      })
  at_head l log (passed c step answer) is at h =
      let allowed : IsPassed port u l.at c step answer =
      subst (λ (e : ModemEvent). IsAllowed port u l.at e) is h.leads.2 in
      let late = answer_late (modem_log p session) p played journal (log_steps p session played journal) end u (l ∷ log)
      n l.at (c, answer) h (allowed.entry, allowed.at_once) h.from in
      absurd (omega (arith, late, at))
  at_head l log (carrier_lost handle) is at h =
      let allowed : IsLoss port u l.at handle = subst (λ (e : ModemEvent). IsAllowed port u l.at e) is h.leads.2 in
      no_due u.due handle [] idle allowed.is_due

  pub heads : (log : ModemLog) → HereOf log → IsPast n log ⊎ Heads played port u log n
  heads [] h = inl tt
  heads (l ∷ log) h = elim (cases_lt n l.at) [
    | inl lt ↦ inl lt
    | inr ge ↦ (let from = h.from in inr (at_head l log l.event refl (omega (arith, from, ge)) h))
  ]
