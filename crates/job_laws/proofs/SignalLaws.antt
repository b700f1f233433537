-- A signal of the port goes to the foreground: nothing else of its kind is ever due.
use Rattle.std.proofs.Common.{◌≡◌, ℕ, List, [], ◌∷◌, ◌++◌, sym, ap, ◌∙◌, subst}
use Rattle.job_control.specs.Control.{JobState}
use Rattle.job_control.specs.declared.answers.Target.{Target}
use Rattle.job_control.specs.declared.processes.JobSignal.{JobSignal}
use Rattle.job_text.specs.Events.{JobEvent, own, passed, passed_down, sent, JobLog}
use Rattle.job_steps.specs.Steps.{Port, JobsState, first_state, foreground_target, IsSent, IsAllowed, after_event}
use Rattle.job_steps.specs.Steps.{Leads, IsJobsRun}
use Rattle.job_laws.specs.Sending.{state_after, IsOfPort, IsPortSignalSent}
use Rattle.job_laws.proofs.Due.{DueOf, IsBy, event_due}
use Rattle.job_laws.proofs.ReadLaws.{reached}

-- each event makes such due, whoever's hangup it is
any_by : (event : JobEvent) → IsBy (λ c. Unit {0}) event
any_by (own c step answer) = tt
any_by (passed c step answer) = tt
any_by (passed_down c handle) = tt
any_by (sent signal target) = tt

all_due : (port : Port) (s : JobsState) (log : JobLog)
    → DueOf (λ c. Unit {0}) s.due
    → DueOf (λ c. Unit {0}) (state_after port s log).due
all_due port s [] h = h
all_due port s (l ∷ log) h =
    all_due port (after_event port s l.at l.event) log
    (event_due (λ c. Unit {0}) port s l.at l.event (any_by l.event) h)

-- ---- a signal of the port

not_due : (signal : JobSignal) (target : Target) (e : JobEvent) (es : List JobEvent)
    → sent signal target ≡ e
    → DueOf (λ c. Unit {0}) (e ∷ es)
    → IsOfPort signal
    → ⊥
not_due signal target e es is none of_port =
    (subst (λ (x : JobEvent). DueOf (λ c. Unit {0}) (x ∷ es)) (sym is) none).0 of_port

raised_goes : (port : Port) (s : JobsState) (at : ℕ) (signal : JobSignal) (target : Target) (due : List JobEvent)
    → DueOf (λ c. Unit {0}) due
    → IsOfPort signal
    → IsSent port s at signal target due
    → target ≡ foreground_target s.now.jobs
raised_goes port s at signal target [] none of_port h = h.goes_to
raised_goes port s at signal target (e ∷ es) none of_port h = absurd (not_due signal target e es h.0 none of_port)

pub goes_to_foreground : (port : Port) (log : JobLog) (jobs : JobState) (target : Target)
    → IsJobsRun port log
    → IsPortSignalSent port log jobs target
    → target ≡ foreground_target jobs
goes_to_foreground port log jobs target run h =
    let s = first_state port in
    let u = state_after port s h.before in
    let parted : Leads port s (h.before ++ h.event ∷ h.after) run.last =
    subst (λ (ls : JobLog). Leads port s ls run.last) h.parts run.leads in
    let at = reached port s run.last h.before h.after h.event parted in
    let is : IsSent port u h.event.at h.signal target u.due =
    subst (λ (e : JobEvent). IsAllowed port u h.event.at e) h.is_sent at.allowed in
    raised_goes port u h.event.at h.signal target u.due (all_due port s h.before tt) h.of_port is
    ∙ ap (λ (j : JobState). foreground_target j) h.stood
