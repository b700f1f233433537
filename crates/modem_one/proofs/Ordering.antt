-- One entry, or one event, more in its turn.
use Rattle.std.proofs.Common.{◌≡◌, ◌≤◌, ◌<◌, ℕ, ◌+◌, Bool, true, false, List, [], ◌∷◌, ◌++◌, length}
use Rattle.std.proofs.Common.{if◌then◌else◌, take, refl, sym, ap, ◌∙◌, subst, arith}
use Rattle.std.specs.Prelude.{nat_le}
use Rattle.std.proofs.lemmas.Bool.Decides.{nat_tests}
use Rattle.tty_calls.specs.Plain.{PlainEntry}
use Rattle.tty_calls.specs.Sessions.{PlainSession, call_at}
use Rattle.port_core.specs.Ports.{PortValue}
use Rattle.legal_runs.specs.Order.{Place, first_place, next_place, place_after, IsPieceOf}
use Rattle.play_base.specs.Roles.{Scene}
use Rattle.order_laws.specs.Agreed.{Agrees, IsLike}
use Rattle.order_laws.proofs.Agreeing.{before_all}
use Rattle.passed_calls.specs.declared.logs.Logged.{Logged}
use Rattle.passed_calls.specs.Journals.{Journal}
use Rattle.passed_calls.specs.Logs.{logged_on}
use Rattle.order_laws.specs.Witness.{scene_on}
use Rattle.order_laws.specs.Later.{IsLater, ComesBy}
use Rattle.order_laws.proofs.Laters.{later_before, on_more, front}
use Rattle.modem_text.specs.Events.{ModemEvent, pin_set, own, passed, carrier_lost, ModemLog}
use Rattle.modem_text.specs.Sessions.{ModemSession}
use Rattle.modem_steps.specs.Steps.{Port, ModemState, first_state, after_event, Leads}
use Rattle.modem_steps.specs.Order.{modem_turn, goes_on, state_before, IsEventInTurn, AreEventsInTurn, AreEntriesInTurn}
use Rattle.modem_steps.specs.Order.{place_at}
use Rattle.modem_one.specs.Later.{port_with, HasLogged, HasOrdered}

-- ---- the state before an entry

is_le : (a b : ℕ) → a ≤ b → nat_le a b ≡ true
is_le a b le = grind (arith, nat_tests)

later_not : (a b : ℕ) → b < a → nat_le a b ≡ false
later_not a b lt = grind (arith, nat_tests)

after_low : (port : Port) (s : ModemState) (at : ℕ) (event : ModemEvent) → (after_event port s at event).at ≡ at
after_low port s at (pin_set pin up) = refl
after_low port s at (own c step answer) = refl
after_low port s at (passed c step answer) = refl
after_low port s at (carrier_lost h) = refl

leads_low : (port : Port) (s u : ModemState) (log : ModemLog) → Leads port s log u → s.at ≤ u.at
leads_low port s u [] h = subst (λ (x : ModemState). s.at ≤ x.at) (sym h) (omega arith)
leads_low port s u (l ∷ log) h =
    let rest = leads_low port (after_event port s l.at l.event) u log h.3 in
    omega (arith, h.0, after_low port s l.at l.event, rest)

-- behind all events
state_now : (port : Port) (s u : ModemState) (log : ModemLog) (n : ℕ)
    → Leads port s log u
    → u.at ≤ n
    → state_before port s log n ≡ u
state_now port s u [] n h high = sym h
state_now port s u (l ∷ log) n h high =
    let later = leads_low port (after_event port s l.at l.event) u log h.3 in
    let at = after_low port s l.at l.event in
    ap (λ (b : Bool). if b then state_before port (after_event port s l.at l.event) log n else s)
    (is_le l.at n (omega (arith, later, at, high)))
    ∙ state_now port (after_event port s l.at l.event) u log n h.3 high

-- a later event changes nothing of it
state_stays : (port : Port) (s : ModemState) (log : ModemLog) (l : Logged ModemEvent) (n : ℕ)
    → n < l.at
    → state_before port s (log ++ l ∷ []) n ≡ state_before port s log n
state_stays port s [] l n lt =
    ap (λ (b : Bool). if b then state_before port (after_event port s l.at l.event) [] n else s) (later_not l.at n lt)
state_stays port s (x ∷ log) l n lt =
    ap (λ (u : ModemState). if nat_le x.at n then u else s)
    (state_stays port (after_event port s x.at x.event) log l n lt)

-- ---- entries

entries_stay : (played : PlainSession) (port : Port) (log : ModemLog) (l : Logged ModemEvent) (place : Place) (n : ℕ)
    (es : List PlainEntry)
    → n + length es ≤ l.at
    → AreEntriesInTurn played port log place n es
    → AreEntriesInTurn played port (log ++ l ∷ []) place n es
entries_stay played port log l place n [] few h = tt
entries_stay played port log l place n (e ∷ es) few h = (
  ap (λ (u : ModemState). modem_turn played port u place)
      (state_stays port (first_state port.number port.session) log l n (omega (arith, few))) ∙ h.0,
  h.1,
  entries_stay played port log l (next_place (call_at port.number played) place e) (n + 1) es (omega (arith, few)) h.2,
)

entries_more : (played : PlainSession) (port : Port) (log : ModemLog) (place : Place) (n : ℕ) (es : List PlainEntry)
    (e : PlainEntry)
    → AreEntriesInTurn played port log place n es
    → modem_turn played port (state_before port (first_state port.number port.session) log (n + length es))
    (place_after (call_at port.number played) place es) ≡ goes_on e.who
    → IsPieceOf port.number played (place_after (call_at port.number played) place es) e.part e.event
    → AreEntriesInTurn played port log place n (es ++ e ∷ [])
entries_more played port log place n [] e h turn piece = (
  ap (λ (i : ℕ). modem_turn played port (state_before port (first_state port.number port.session) log i) place)
      (omega arith) ∙ turn,
  piece,
  tt,
)
entries_more played port log place n (x ∷ es) e h turn piece = (
  h.0,
  h.1,
  entries_more played port log (next_place (call_at port.number played) place x) (n + 1) es e h.2
      (ap (λ (i : ℕ). modem_turn played port (state_before port (first_state port.number port.session) log i)
      (place_after (call_at port.number played) (next_place (call_at port.number played) place x) es)) (omega arith)
      ∙ turn) piece,
)

-- ---- events

events_more : (played : PlainSession) (port : Port) (s u : ModemState) (log : ModemLog) (l : Logged ModemEvent)
    → Leads port s log u
    → AreEventsInTurn played port s log
    → IsEventInTurn played port u (place_at played port l.at) l.event
    → AreEventsInTurn played port s (log ++ l ∷ [])
events_more played port s u [] l h turns it =
    (subst (λ (x : ModemState). IsEventInTurn played port x (place_at played port l.at) l.event) h it, tt)
events_more played port s u (x ∷ log) l h turns it =
    (turns.0, events_more played port (after_event port s x.at x.event) u log l h.3 turns.1 it)

-- where the journal stands, whatever session was played
abbrev pub here : Scene → PlainSession → PortValue → Place
here first played v = place_after (call_at first.port played) (first_place first.port played) v.journal

place_now : (first : Scene) (session : ModemSession) (played : PlainSession) (v : PortValue) (j : Journal)
    → IsLater v j
    → place_at played (port_with first.port session j) (length v.journal) ≡ here first played v
place_now first session played v j later =
    ap (λ (es : List PlainEntry). place_after (call_at first.port played) (first_place first.port played) es)
    (ap (take (length v.journal)) later.entries ∙ front v.journal later.rest)

-- an event that is in its turn whatever session was played
pub event_more : (first : Scene) (session : ModemSession) (log : ModemLog) (v : PortValue) (u : ModemState)
    (event : ModemEvent)
    → HasLogged first.port session log v u
    → HasOrdered first session log v
    → ((played : PlainSession)
    → IsLike first (scene_on first.port played)
    → Agrees (scene_on first.port played) v
    → (j : Journal)
    → IsLater v j
    → IsEventInTurn played (port_with first.port session j) u (here first played v) event)
    → HasOrdered first session (log ++ record { port = first.port; at = length v.journal; event = event } ∷ []) v
event_more first session log v u event h ordered it =
    record {
      turns = λ played like agrees j later.
          let port = port_with first.port session j in
          let l : Logged ModemEvent = record { port = first.port; at = length v.journal; event = event } in
          let was = ordered.turns played like agrees j later in
          let more = sym (on_more first.port (length v.journal) event log) in record {
            entries_are = subst (λ (es : ModemLog).
                AreEntriesInTurn played port es (first_place first.port played) 0 v.journal) more
                (entries_stay played port (logged_on first.port log) l (first_place first.port played) 0 v.journal
                (omega arith) was.entries_are);
            events_are = subst (λ (es : ModemLog). AreEventsInTurn played port (first_state first.port session) es) more
                (events_more played port (first_state first.port session) u (logged_on first.port log) l
                (h.leads j later) was.events_are
                (subst (λ (x : Place). IsEventInTurn played port u x event)
                (sym (place_now first session played v j later)) (it played like agrees j later)));
          };
    }

-- an entry that is in its turn whatever session was played
pub record IsEntryInTurn (first : Scene) (session : ModemSession) (v w : PortValue) (u : ModemState)
    (e : PlainEntry) : Type 0 where
  pub turn : (played : PlainSession)
      → IsLike first (scene_on first.port played)
      → Agrees (scene_on first.port played) w
      → (j : Journal)
      → IsLater v j
      → modem_turn played (port_with first.port session j) u (here first played v) ≡ goes_on e.who
  pub piece : (played : PlainSession)
      → IsLike first (scene_on first.port played)
      → Agrees (scene_on first.port played) w
      → IsPieceOf first.port played (here first played v) e.part e.event

pub entry_more : (first : Scene) (session : ModemSession) (log : ModemLog) (v w : PortValue) (u : ModemState)
    (e : PlainEntry)
    → ComesBy v w (e ∷ [])
    → HasLogged first.port session log v u
    → HasOrdered first session log v
    → IsEntryInTurn first session v w u e
    → HasOrdered first session log w
entry_more first session log v w u e by h ordered it =
    record {
      turns = λ played like agrees j later.
          let port = port_with first.port session j in
          let before = later_before v w (e ∷ []) j by later in
          let agreed = before_all (scene_on first.port played) v w (e ∷ []) by.added by.grows agrees in
          let was = ordered.turns played like agreed j before in
          let from : 0 + length v.journal ≡ length v.journal = omega arith in
          let now = state_now port (first_state first.port session) u (logged_on first.port log) (length v.journal)
          (h.leads j before) h.at in record {
            entries_are = subst (λ (es : List PlainEntry).
                AreEntriesInTurn played port (logged_on first.port log) (first_place first.port played) 0 es)
                (sym by.added)
                (entries_more played port (logged_on first.port log) (first_place first.port played) 0 v.journal e
                was.entries_are
                (ap (λ (i : ℕ). modem_turn played port
                (state_before port (first_state first.port session) (logged_on first.port log) i)
                (here first played v)) from
                ∙ ap (λ (x : ModemState). modem_turn played port x (here first played v)) now
                ∙ it.turn played like agrees j before) (it.piece played like agrees));
            events_are = was.events_are;
          };
    }
