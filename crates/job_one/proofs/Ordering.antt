-- One event more in its turn.
use Rattle.std.proofs.Common.{◌≡◌, ◌≤◌, ℕ, ◌+◌, ◌-◌, List, [], ◌∷◌, ◌++◌, Some, length}
use Rattle.std.proofs.Common.{map, take, sym, ap, ◌∙◌, subst, arith, length-append}
use Rattle.std.specs.Prelude.{slice_get}
use Rattle.std.proofs.lemmas.List.{length-map}
use Rattle.tty_calls.specs.declared.sessions.Script.{Script}
use Rattle.tty_calls.specs.declared.journals.Who.TheVariants.{Caller}
use Rattle.tty_calls.specs.Plain.{PlainAnswer, PlainEntry}
use Rattle.tty_calls.specs.Sessions.{PlainSession, call_at}
use Rattle.tty_terminal.specs.Terminals.{Terminal}
use Rattle.port_core.specs.Ports.{PortValue, IsPort}
use Rattle.legal_runs.specs.Order.{is_of_consoles, first_place, place_after, turn as whose_turn}
use Rattle.play_base.specs.Roles.{Scene}
use Rattle.one_thread.specs.Turns.{role_numbers, IsTurn, Plays}
use Rattle.play_base.specs.declared.roles.Role.{Role}
use Rattle.one_thread.specs.declared.after_line.Stand.{Stand}
use Rattle.one_thread.specs.declared.after_line.Turn.TheVariants as turn
use Rattle.one_thread.proofs.Calling.{role_number}
use Rattle.one_thread.proofs.Entries.{by_turn}
use Rattle.order_laws.specs.Agreed.{Agrees, IsLike, PlaysEach}
use Rattle.order_laws.proofs.Agreeing.{before_all}
use Rattle.job_control.specs.declared.answers.JobAnswer.{JobAnswer}
use Rattle.job_control.specs.declared.answers.Target.{Target}
use Rattle.job_control.specs.declared.processes.JobSignal.{JobSignal}
use Rattle.passed_calls.specs.declared.logs.Logged.{Logged}
use Rattle.passed_calls.specs.Journals.{Journal}
use Rattle.passed_calls.specs.Logs.{logged_on}
use Rattle.job_text.specs.Events.{JobEvent, own, passed, passed_down, sent, JobLog}
use Rattle.job_text.specs.Sessions.{JobsSession}
use Rattle.job_steps.specs.Steps.{Port, JobsState, first_state, after_event, job_signal, Leads}
use Rattle.job_steps.specs.Order.{AreSent, IsEventInTurn, AreEventsInTurn}
use Rattle.order_laws.specs.Witness.{scene_on}
use Rattle.order_laws.specs.Later.{IsLater, ComesBy}
use Rattle.job_one.specs.Later.{port_with, HasLogged}
use Rattle.job_one.specs.Ordered.{HasOrdered}
use Rattle.order_laws.proofs.Laters.{later_before, terminal_now, on_more, front}
use Rattle.order_laws.proofs.Witnessed.{consoles_in}

turns_more : (played : PlainSession) (port : Port) (s u : JobsState) (log : JobLog) (l : Logged JobEvent)
    → Leads port s log u
    → AreEventsInTurn played port s log
    → IsEventInTurn played port u l.at l.event
    → AreEventsInTurn played port s (log ++ l ∷ [])
turns_more played port s u [] l h turns it =
    (subst (λ (x : JobsState). IsEventInTurn played port x l.at l.event) h it, tt)
turns_more played port s u (x ∷ log) l h turns it =
    (turns.0, turns_more played port (after_event port s x.at x.event) u log l h.3 turns.1 it)

-- an event that is in its turn whatever session was played
event_more : (first : Scene) (session : JobsSession) (log : JobLog) (v : PortValue) (u : JobsState) (event : JobEvent)
    → HasLogged first.port session log v u
    → HasOrdered first session log v
    → ((played : PlainSession)
    → IsLike first (scene_on first.port played)
    → Agrees (scene_on first.port played) v
    → (j : Journal)
    → IsLater v j
    → IsEventInTurn played (port_with first.port session j) u (length v.journal) event)
    → HasOrdered first session (log ++ record { port = first.port; at = length v.journal; event = event } ∷ []) v
event_more first session log v u event h ordered it =
    record {
      turns = λ played like agrees j later.
          let port = port_with first.port session j in
          subst (λ (es : JobLog). AreEventsInTurn played port (first_state port) es)
          (sym (on_more first.port (length v.journal) event log))
          (turns_more played port (first_state port) u (logged_on first.port log)
          (record { port = first.port; at = length v.journal; event = event }) (h.leads j later)
          (ordered.turns played like agrees j later) (it played like agrees j later));
    }

pub ordered_stays : (first : Scene) (session : JobsSession) (log : JobLog) (v w : PortValue) (part : List PlainEntry)
    → ComesBy v w part
    → HasOrdered first session log v
    → HasOrdered first session log w
ordered_stays first session log v w part by h =
    record {
      turns = λ played like agrees j later. h.turns played like
          (before_all (scene_on first.port played) v w part by.added by.grows agrees) j
          (later_before v w part j by later);
    }

-- a signal, and the hangup of a process that has ended
pub ordered_sent : (first : Scene) (session : JobsSession) (log : JobLog) (v : PortValue) (u : JobsState)
    (signal : JobSignal) (target : Target)
    → HasLogged first.port session log v u
    → HasOrdered first session log v
    → HasOrdered first session
    (log ++ record { port = first.port; at = length v.journal; event = sent signal target } ∷ []) v
ordered_sent first session log v u signal target h ordered =
    event_more first session log v u (sent signal target) h ordered (λ played like agrees j later. tt)

pub ordered_down : (first : Scene) (session : JobsSession) (log : JobLog) (v : PortValue) (u : JobsState) (c handle : ℕ)
    → HasLogged first.port session log v u
    → HasOrdered first session log v
    → HasOrdered first session
    (log ++ record { port = first.port; at = length v.journal; event = passed_down c handle } ∷ []) v
ordered_down first session log v u c handle h ordered =
    event_more first session log v u (passed_down c handle) h ordered (λ played like agrees j later. tt)

sent_now : (p : ℕ) (session : JobsSession) (v : PortValue) (u : JobsState) (j : Journal)
    → IsPort v
    → IsLater v j
    → length v.terminal.tally.signals.items ≤ u.signals
    → AreSent (port_with p session j) u (length v.journal)
sent_now p session v u j port later all =
    omega (
      arith,
      all,
      ap (λ (t : Terminal). length (map job_signal t.tally.signals.items)) (terminal_now v j port later),
      length-map v.terminal.tally.signals.items job_signal,
    )

-- a call that is answered without the port, in its caller's turn
pub ordered_own : (first : Scene) (session : JobsSession) (log : JobLog) (scripts : Scene → List Script)
    (roles : List Role) (start v : PortValue) (ticks : ℕ) (stand : Stand) (place : ℕ) (r : Role) (u : JobsState)
    (step : ℕ) (answer : JobAnswer)
    → PlaysEach first scripts roles start v ticks stand
    → IsTurn (is_of_consoles first.session) v (role_numbers roles) stand.going (turn.Call place)
    → slice_get roles place ≡ Some r
    → IsPort v
    → HasLogged first.port session log v u
    → HasOrdered first session log v
    → length v.terminal.tally.signals.items ≤ u.signals
    → HasOrdered first session
    (log ++ record { port = first.port; at = length v.journal; event = own r.number step answer } ∷ []) v
ordered_own first session log scripts roles start v ticks stand place r u step answer each whose is port h ordered all =
    event_more first session log v u (own r.number step answer) h ordered
    (λ played like agrees j later.
    let s = scene_on first.port played in
    let plays : Plays s (scripts s) roles v stand = (each.each s like agrees).plays in
    let who = by_turn s (scripts s) roles v stand (Caller r.number) plays
    (ap (λ (n : ℕ). Caller n) (sym (role_number roles place r is))
    ∙ (consoles_in first s roles v stand (turn.Call place) like whose).who) in
    let here : take (length v.journal) j.entries ≡ v.journal =
    ap (take (length v.journal)) later.entries ∙ front v.journal later.rest in (
      sent_now first.port session v u j port later all,
      ap (λ (es : List PlainEntry).
          whose_turn first.port played (place_after (call_at first.port played) (first_place first.port played) es))
          here
          ∙ sym who,
    ))

-- the answer of the port: before its entry each signal was sent on
pub ordered_passed : (first : Scene) (session : JobsSession) (log : JobLog) (old v : PortValue) (e : PlainEntry)
    (u : JobsState) (c step : ℕ) (answer : PlainAnswer)
    → IsPort old
    → ComesBy old v (e ∷ [])
    → HasLogged first.port session log v u
    → HasOrdered first session log v
    → length old.terminal.tally.signals.items ≤ u.signals
    → HasOrdered first session
    (log ++ record { port = first.port; at = length v.journal; event = passed c step answer } ∷ []) v
ordered_passed first session log old v e u c step answer port by h ordered all =
    let count : length v.journal ≡ length old.journal + 1 =
    ap (λ (es : List PlainEntry). length es) by.added ∙ length-append old.journal (e ∷ []) in
    let before : length old.journal ≡ length v.journal - 1 = omega (arith, count) in
    event_more first session log v u (passed c step answer) h ordered
    (λ played like agrees j later.
    subst (λ (n : ℕ). AreSent (port_with first.port session j) u n) before
    (sent_now first.port session old u j port (later_before old v (e ∷ []) j by later) all))
