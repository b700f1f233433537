-- The event of job control that comes next where nothing is due.
use Rattle.std.proofs.Common.{◌≡◌, ◌≤◌, ◌<◌, ◌⊎◌, inl, inr, ℕ, ◌-◌, List, [], ◌∷◌, Some, length, refl, sym, ap, ◌∙◌}
use Rattle.std.proofs.Common.{subst, arith}
use Rattle.std.specs.Prelude.{slice_get}
use Rattle.std.proofs.lemmas.Bool.{cases_lt}
use Rattle.std.proofs.lemmas.Option.{slice_get_within}
use Rattle.tty_calls.specs.declared.journals.Who.TheVariants.{Caller}
use Rattle.tty_calls.specs.Plain.{PlainAnswer, PlainEntry}
use Rattle.tty_calls.specs.Sessions.{PlainSession}
use Rattle.job_control.specs.declared.answers.JobAnswer.{JobAnswer}
use Rattle.job_control.specs.declared.answers.Target.{Target}
use Rattle.job_control.specs.declared.processes.JobSignal.{JobSignal}
use Rattle.passed_calls.specs.declared.logs.Logged.{Logged}
use Rattle.logged_laws.proofs.Places.{IsPast, Here, no_due, answer_late}
use Rattle.job_text.specs.Events.{JobEvent, own, passed, passed_down, sent, JobLog}
use Rattle.job_text.specs.Sessions.{JobsSession}
use Rattle.job_steps.specs.Steps.{Port, JobsState, IsOwn, IsPassed, IsPassedDown, IsRaised, IsSent, IsAllowed}
use Rattle.job_steps.specs.Steps.{raised_at, foreground_target}
use Rattle.job_steps.specs.Order.{turn_at, AreSent, IsEventInTurn}
use Rattle.job_one.specs.Played.{port_in}
use Rattle.job_one.proofs.Rising.{raised_rise}
use Rattle.job_laws.proofs.Steps.{job_log, log_steps}

-- a signal of the port that was not sent on comes next
pub record RaisedHead (port : Port) (u : JobsState) (log : JobLog) (n : ℕ) : Type 0 where
  pub head : Logged JobEvent
  pub rest : JobLog
  pub is : log ≡ head ∷ rest
  pub at_place : head.at ≡ n
  pub signal : JobSignal
  pub target : Target
  pub event_is : head.event ≡ sent signal target
  pub raised : slice_get (raised_at port.journal n) u.signals ≡ Some signal
  pub goes_to : target ≡ foreground_target u.now.jobs

-- or a call that is answered without the port
pub record OwnHead (played : PlainSession) (port : Port) (u : JobsState) (log : JobLog) (n : ℕ) : Type 0 where
  pub head : Logged JobEvent
  pub rest : JobLog
  pub is : log ≡ head ∷ rest
  pub at_place : head.at ≡ n
  pub caller : ℕ
  pub step : ℕ
  pub answer : JobAnswer
  pub event_is : head.event ≡ own caller step answer
  pub owns : IsOwn port u n caller step answer
  pub turn : turn_at played port n ≡ Caller caller

module _ (p : ℕ) (session : JobsSession) (played : PlainSession) (journal : List PlainEntry) (end u : JobsState) (n : ℕ)
    (idle : u.due ≡ []) where
  abbrev port : Port
  port = port_in session played p journal

  abbrev HereOf : JobLog → Type 0
  HereOf log = Here (job_log p session) played journal end u log n

  -- the answer of a call comes later
  passed_late : (l : Logged JobEvent) (log : JobLog) (c step : ℕ) (answer : PlainAnswer)
      → HereOf (l ∷ log)
      → IsPassed port u l.at c step answer
      → n < l.at
  passed_late l log c step answer h allowed =
      answer_late (job_log p session) p played journal (log_steps p session played journal) end u (l ∷ log) n l.at
      (c, answer) h (allowed.entry, allowed.at_once) h.from

  raised_event : (l : Logged JobEvent) (log : JobLog) (event : JobEvent)
      → l.event ≡ event
      → HereOf (l ∷ log)
      → u.signals < length (raised_at port.journal n)
      → RaisedHead port u (l ∷ log) n
  raised_event l log (own c step answer) is h few =
      let turned : AreSent port u l.at × (turn_at played port l.at ≡ Caller c) =
      subst (λ (e : JobEvent). IsEventInTurn played port u l.at e) is h.turns.0 in
      let rise = raised_rise port.journal n l.at h.from in
      let sent_on = turned.0 in
      absurd (omega (arith, few, rise, sent_on))
  raised_event l log (passed c step answer) is h few =
      let allowed : IsPassed port u l.at c step answer =
      subst (λ (e : JobEvent). IsAllowed port u l.at e) is h.leads.2 in
      let sent_on : AreSent port u (l.at - 1) =
      subst (λ (e : JobEvent). IsEventInTurn played port u l.at e) is h.turns.0 in
      let late = passed_late l log c step answer h allowed in
      let rise = raised_rise port.journal n (l.at - 1) (omega (arith, late)) in
      absurd (omega (arith, few, rise, sent_on))
  raised_event l log (passed_down c handle) is h few =
      let allowed : IsPassedDown port u l.at c handle =
      subst (λ (e : JobEvent). IsAllowed port u l.at e) is h.leads.2 in
      no_due u.due (passed_down c handle) allowed.rest idle allowed.is_due
  raised_event l log (sent signal target) is h few =
      let allowed : IsSent port u l.at signal target u.due =
      subst (λ (e : JobEvent). IsAllowed port u l.at e) is h.leads.2 in
      let raised : IsRaised port u l.at signal target =
      subst (λ (es : List JobEvent). IsSent port u l.at signal target es) idle allowed in
      let from = h.from in
      let fresh = raised.fresh in
      let at : l.at ≡ n = elim (cases_lt n l.at) [
        | inl lt ↦
            let rise = raised_rise port.journal n (l.at - 1) (omega (arith, lt)) in
            absurd (omega (arith, few, rise, fresh))
        | inr ge ↦ omega (arith, from, ge)
      ] in
      record {
        head = l;
        rest = log;
        is = refl;
        at_place = at;
        signal = signal;
        target = target;
        event_is = is;
        raised = ap (λ (m : ℕ). slice_get (raised_at port.journal m) u.signals) (sym at) ∙ raised.raised;
        goes_to = raised.goes_to;
      }

  pub raised_head : (log : JobLog)
      → end.signals ≡ length (raised_at port.journal (length journal))
      → HereOf log
      → u.signals < length (raised_at port.journal n)
      → RaisedHead port u log n
  raised_head [] all h few =
      let rise = raised_rise port.journal n (length journal) h.within in
      let same = ap (λ (x : JobsState). x.signals) h.leads in
      absurd (omega (arith, all, rise, same, few))
  raised_head (l ∷ log) all h few = raised_event l log l.event refl h few

  own_event : (l : Logged JobEvent) (log : JobLog) (event : JobEvent)
      → l.event ≡ event
      → l.at ≡ n
      → HereOf (l ∷ log)
      → length (raised_at port.journal n) ≤ u.signals
      → OwnHead played port u (l ∷ log) n
  own_event l log (own c step answer) is at h all =
      let allowed : IsOwn port u l.at c step answer =
      subst (λ (e : JobEvent). IsAllowed port u l.at e) is h.leads.2 in
      let turned : AreSent port u l.at × (turn_at played port l.at ≡ Caller c) =
      subst (λ (e : JobEvent). IsEventInTurn played port u l.at e) is h.turns.0 in
      record {
        head = l;
        rest = log;
        is = refl;
        at_place = at;
        caller = c;
        step = step;
        answer = answer;
        event_is = is;
        owns = subst (λ (m : ℕ). IsOwn port u m c step answer) at allowed;
        turn = ap (λ (m : ℕ). turn_at played port m) (sym at) ∙ turned.1;
      }
  own_event l log (passed c step answer) is at h all =
      let allowed : IsPassed port u l.at c step answer =
      subst (λ (e : JobEvent). IsAllowed port u l.at e) is h.leads.2 in
      let late = passed_late l log c step answer h allowed in
      absurd (omega (arith, late, at))
  own_event l log (passed_down c handle) is at h all =
      let allowed : IsPassedDown port u l.at c handle =
      subst (λ (e : JobEvent). IsAllowed port u l.at e) is h.leads.2 in
      no_due u.due (passed_down c handle) allowed.rest idle allowed.is_due
  own_event l log (sent signal target) is at h all =
      let allowed : IsSent port u l.at signal target u.due =
      subst (λ (e : JobEvent). IsAllowed port u l.at e) is h.leads.2 in
      let raised : IsRaised port u l.at signal target =
      subst (λ (es : List JobEvent). IsSent port u l.at signal target es) idle allowed in
      let below = slice_get_within (raised_at port.journal l.at) u.signals signal raised.raised in
      let same = ap (λ (m : ℕ). length (raised_at port.journal m)) at in
      absurd (omega (arith, below, same, all))

  pub own_head : (log : JobLog)
      → HereOf log
      → length (raised_at port.journal n) ≤ u.signals
      → IsPast n log ⊎ OwnHead played port u log n
  own_head [] h all = inl tt
  own_head (l ∷ log) h all = elim (cases_lt n l.at) [
    | inl lt ↦ inl lt
    | inr ge ↦ (let from = h.from in inr (own_event l log l.event refl (omega (arith, from, ge)) h all))
  ]
