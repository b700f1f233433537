-- A read from the background is stopped, or refused.
use Rattle.std.proofs.Common.{◌≡◌, ◌≤◌, ◌<◌, inl, inr, ℕ, ◌-◌, ◌==◌, ◌&&◌, Bool, true, false, List, []}
use Rattle.std.proofs.Common.{◌∷◌, ◌++◌, Option, None, Some, length, if◌then◌else◌, refl, sym, ap, ◌∙◌, subst, arith}
use Rattle.std.proofs.Common.{cond, get_or}
use Rattle.std.specs.Prelude.{nat_le, nat_lt, position, slice_get, unwrap_or}
use Rattle.std.specs.List.{position_or_len}
use Rattle.std.proofs.lemmas.Bool.{eq-eqb, le-leb, cases_lt, false≢true}
use Rattle.std.proofs.lemmas.Bool.Decides.{nat_tests}
use Rattle.std.proofs.lemmas.List.Sums.{fails_before_first}
use Rattle.std.proofs.lemmas.Option.{get_or_from_slice_get, slice_get_within, same_Some}
use Rattle.tty_modes.specs.Settings.{has_flag}
use Rattle.tty_modes.specs.declared.places.TheConstants.{TOSTOP}
use Rattle.tty_calls.specs.declared.journals.Who.{Who}
use Rattle.tty_terminal.specs.Runs.{is_of_call}
use Rattle.tty_calls.specs.Plain.{reads, PlainAnswer, PlainEntry, is_caller}
use Rattle.tty_terminal.specs.Terminals.{Terminal, handle_at}
use Rattle.tty_terminal.specs.Outcomes.{may_read}
use Rattle.job_control.specs.Control.{JobState, in_background, judged}
use Rattle.job_control.specs.declared.answers.JobAnswer.{JobAnswer}
use Rattle.job_control.specs.declared.processes.JobAct.TheVariants.{Read}
use Rattle.job_control.specs.declared.processes.JobSignal.TheVariants.{Ttin}
use Rattle.job_control.specs.declared.processes.Judged.TheVariants.{Pass, Eio, Stop}
use Rattle.passed_calls.specs.declared.logs.Logged.{Logged}
use Rattle.passed_calls.specs.Journals.{terminal_at, IsAnswerBy}
use Rattle.passed_calls.specs.Logs.{logged_on}
use Rattle.passed_calls.specs.Scripts.{plain}
use Rattle.job_text.specs.Events.{JobEvent, own, passed, passed_down, sent, JobLog}
use Rattle.job_text.specs.Sessions.{JobCall}
use Rattle.job_steps.specs.Derived.{job_call_at}
use Rattle.job_steps.specs.Steps.{Port, JobsState, first_state, jobs_before, proc_of, next_call, after_own, after_event}
use Rattle.job_steps.specs.Steps.{OwnAnswer, WentToPort, is_usable, is_of_step, first_place, IsAllowed, IsPassed, Leads}
use Rattle.job_steps.specs.Steps.{IsJobsRun}
use Rattle.job_steps.proofs.Moments.{now_before, after_passed_now, event_behind}
use Rattle.job_laws.specs.Sending.{state_after, logged_by, jobs_at, IsReadPassed}

-- ---- an event of a log

-- what is known where an event stands
pub record Reached (port : Port) (u : JobsState) (l : Logged JobEvent) : Type 0 where
  pub low : u.now.at ≤ l.at
  pub within : l.at ≤ length port.journal.entries
  pub allowed : IsAllowed port u l.at l.event

pub reached : (port : Port) (s last : JobsState) (before after : JobLog) (l : Logged JobEvent)
    → Leads port s (before ++ l ∷ after) last
    → Reached port (state_after port s before) l
reached port s last [] after l h = record { low = h.0; within = h.1; allowed = h.2 }
reached port s last (x ∷ before) after l h =
    reached port (after_event port s x.at x.event) last before after l h.3

-- ---- job control at an entry

own_now : (t : Terminal) (p c : ℕ) (s : JobsState) (at : ℕ) (call : Option JobCall) (answer : JobAnswer)
    → OwnAnswer s.now.jobs t p c call answer
    → (after_own t p c s at call).now.at ≡ at
own_now t p c s at None answer h = absurd h
own_now t p c s at (Some call) answer h = refl

-- job control stands from the event on
pub at_now : (port : Port) (s : JobsState) (at : ℕ) (event : JobEvent)
    → IsAllowed port s at event
    → (after_event port s at event).now.at ≡ at
at_now port s at (own c step answer) h =
    own_now (terminal_at port.journal at) (proc_of port c) c s at (next_call port s c) answer h.answers
at_now port s at (passed c step answer) h = (after_passed_now s at (next_call port s c) answer).0
at_now port s at (passed_down c handle) h = refl
at_now port s at (sent signal target) h = refl

-- later events say nothing of it
still_before : (port : Port) (s last : JobsState) (before after : JobLog) (l : Logged JobEvent) (place : ℕ)
    → Leads port s (before ++ l ∷ after) last
    → place < s.now.at
    → jobs_before port (state_after port s before) place ≡ jobs_before port s place
still_before port s last [] after l place h lt = refl
still_before port s last (x ∷ before) after l place h lt =
    let low = h.0 in
    let now = at_now port s x.at x.event h.2 in
    still_before port (after_event port s x.at x.event) last before after l place h.3 (omega (arith, lt, low, now))
    ∙ event_behind port s x.at place x.event (omega (arith, lt, low))

logged_if : (b : Bool) (n : ℕ) (l : Logged JobEvent) (log : JobLog)
    → nat_le l.at n ≡ b
    → logged_by n (l ∷ log) ≡ (if b then l ∷ logged_by n log else [])
logged_if b n l log is = ap (λ (x : Bool). if x then l ∷ logged_by n log else []) is

leb_not : (a b : ℕ) → b < a → nat_le a b ≡ false
leb_not a b lt = grind (arith, nat_tests)

jobs_were : (port : Port) (s last : JobsState) (before after : JobLog) (l : Logged JobEvent) (place : ℕ)
    → Leads port s (before ++ l ∷ after) last
    → s.now.at ≤ place
    → place < l.at
    → jobs_before port (state_after port s before) place
    ≡ (state_after port s (logged_by place (before ++ l ∷ after))).now.jobs
jobs_were port s last [] after l place h le lt =
    now_before port s place le
    ∙ sym (ap (λ (ls : JobLog). (state_after port s ls).now.jobs)
    (logged_if false place l after (leb_not l.at place lt)))
jobs_were port s last (x ∷ before) after l place h le lt = elim (cases_lt place x.at) [
  | inl early ↦
      let now = at_now port s x.at x.event h.2 in
      still_before port (after_event port s x.at x.event) last before after l place h.3 (omega (arith, early, now))
      ∙ (event_behind port s x.at place x.event early
      ∙ (now_before port s place le
      ∙ sym (ap (λ (ls : JobLog). (state_after port s ls).now.jobs)
      (logged_if false place x (before ++ l ∷ after) (leb_not x.at place early)))))
  | inr late ↦
      let now = at_now port s x.at x.event h.2 in
      jobs_were port (after_event port s x.at x.event) last before after l place h.3 (omega (arith, late, now)) lt
      ∙ sym (ap (λ (ls : JobLog). (state_after port s ls).now.jobs)
      (logged_if true place x (before ++ l ∷ after) (le-leb x.at place late)))
]

-- ---- the first entry of a call

lt_test : (a b : ℕ) → a < b → nat_lt a b ≡ true
lt_test a b lt = grind (arith, nat_tests)

first_below : {X : Type 0} (f : X → Bool) (xs : List X) (i : ℕ) (x : X)
    → slice_get xs i ≡ Some x
    → f x ≡ true
    → unwrap_or (position f xs) (length xs) ≤ i
first_below f xs i x is has = elim (cases_lt i (position_or_len f xs)) [
  | inl lt ↦
      let here : f (get_or xs i x) ≡ true = ap f (get_or_from_slice_get xs i x x is) ∙ has in
      absurd (false≢true (sym (fails_before_first f xs i x lt) ∙ here))
  | inr le ↦
      let within = slice_get_within xs i x is in
      let first : unwrap_or (position f xs) (length xs) ≡ position_or_len f xs =
      ap (λ (b : Bool). unwrap_or (cond b (Some (position_or_len f xs)) None) (length xs))
      (lt_test (position_or_len f xs) (length xs) (omega (arith, le, within))) in
      omega (arith, first, le)
]

of_its_step : (c : ℕ) (answer : PlainAnswer) (e : PlainEntry)
    → IsAnswerBy c answer e
    → is_of_step c e.step e ≡ true
of_its_step c answer e h =
    let event : is_of_call e.event ≡ true = ap is_of_call h.1.1 in
    let who : is_caller e.who c ≡ true = ap (λ (w : Who). is_caller w c) h.0 ∙ eq-eqb c c refl in
    let step : (e.step == e.step) ≡ true = eq-eqb e.step e.step refl in
    (λ i. event i && who i && step i)

-- ---- what the check says of a read

passes_in_front : (b ttin : Bool)
    → (if b then (if ttin then Eio else Stop Ttin) else Pass) ≡ Pass
    → b ≡ false
passes_in_front false ttin h = refl
passes_in_front true true h = absurd (cc)
passes_in_front true false h = absurd (cc)

read_passes : (jobs : JobState) (p : ℕ) (usable tostop : Bool)
    → usable ≡ true
    → (if usable then judged jobs p Read tostop else Pass) ≡ Pass
    → in_background jobs p ≡ false
read_passes jobs p usable tostop is h =
    passes_in_front (in_background jobs p) _
    (sym (ap (λ (b : Bool). if b then judged jobs p Read tostop else Pass) is) ∙ h)

-- ---- a read that was passed

-- what the step says of it, at an entry that is the one before the event
read_in_front : (port : Port) (log : JobLog) (last : JobsState) (c entries : ℕ)
    → Leads port (first_state port) (logged_on port.number log) last
    → IsReadPassed port log c entries
    → in_background (jobs_at port log entries) (proc_of port c) ≡ false
read_in_front port log last c entries leads h =
    let s = first_state port in
    let u = state_after port s h.before in
    let parted : Leads port s (h.before ++ h.event ∷ h.after) last =
    subst (λ (ls : JobLog). Leads port s ls last) h.parts leads in
    let at = reached port s last h.before h.after h.event parted in
    let is : IsPassed port u h.event.at c h.step h.answer =
    subst (λ (e : JobEvent). IsAllowed port u h.event.at e) h.is_passed at.allowed in
    let entry : is.entry.entry ≡ h.entry = same_Some is.entry.entry h.entry (sym is.entry.stands ∙ h.answered) in
    let place : first_place port.journal c is.entry.entry.step ≡ entries =
    ap (λ (e : PlainEntry). first_place port.journal c e.step) entry ∙ h.began in
    let some = is.entry.some in
    let below = first_below (is_of_step c is.entry.entry.step) port.journal.entries (h.event.at - 1) is.entry.entry
    is.entry.stands (of_its_step c h.answer is.entry.entry is.entry.is_answer) in
    let early : entries < h.event.at = omega (arith, some, below, place) in
    let call : next_call port u c ≡ Some (plain (reads h.handle h.count)) =
    ap (λ (n : ℕ). job_call_at port.number port.session c n) (sym is.next) ∙ h.call in
    let goes : WentToPort port u entries c (Some (plain (reads h.handle h.count))) =
    subst (λ (o : Option JobCall). WentToPort port u entries c o) call
    (subst (λ (n : ℕ). WentToPort port u n c (next_call port u c)) place is.goes_on) in
    let t = terminal_at port.journal entries in
    let in_front = read_passes (jobs_before port u entries) (proc_of port c) (is_usable may_read (handle_at t h.handle))
    (has_flag t.modes TOSTOP) h.usable goes in
    let were = jobs_were port s last h.before h.after h.event entries parted (omega arith) early in
    let same = ap (λ (ls : JobLog). (state_after port s (logged_by entries ls)).now.jobs) h.parts in
    ap (λ (jobs : JobState). in_background jobs (proc_of port c)) (same ∙ sym were) ∙ in_front

pub no_read : (port : Port) (log : JobLog) (c entries : ℕ)
    → IsJobsRun port log
    → IsReadPassed port log c entries
    → in_background (jobs_at port log entries) (proc_of port c) ≡ false
no_read port log c entries run h = read_in_front port log run.last c entries run.leads h
