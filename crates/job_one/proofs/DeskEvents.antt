-- The desk of a port, event by event and entry by entry.
use Rattle.std.proofs.Common.{◌≡◌, ◌≤◌, ◌<◌, inl, inr, ℕ, ◌+◌, Bool, true, false, List, [], ◌∷◌, ◌++◌, IsTrue}
use Rattle.std.proofs.Common.{Option, Some, length, length-append, refl, sym, ap, ◌∙◌, subst, arith, get_or-set_other}
use Rattle.std.specs.Prelude.{slice_get, slice_index_or, slice_set}
use Rattle.std.proofs.lemmas.Bool.{cases_eq, false≢true}
use Rattle.tty_base.specs.declared.counters.Signal.{Signal}
use Rattle.tty_calls.specs.declared.sessions.Script.{Script}
use Rattle.tty_calls.specs.Plain.{PlainCall, opens, closes, reads, writes, gets_modes, sets_modes, gets_disc}
use Rattle.tty_calls.specs.Plain.{sets_disc, flushes, steers, counts_input, counts_output, excludes, admits}
use Rattle.tty_calls.specs.Plain.{drains, gets_counts, hangs_up, sends_packet, takes_packet, PlainAnswer, done}
use Rattle.tty_calls.specs.Plain.{count_is, got, number_is, modes_are, counts_are, refused, idle, PlainEntry}
use Rattle.tty_terminal.specs.Terminals.{caller_at, has_begun}
use Rattle.port_core.specs.Ports.{PortValue, IsPort, call_in}
use Rattle.legal_runs.specs.Order.{is_of_consoles}
use Rattle.play_base.specs.Roles.{Scene}
use Rattle.one_thread.specs.Turns.{role_numbers, IsTurn}
use Rattle.play_base.specs.declared.roles.Role.{Role}
use Rattle.one_thread.specs.declared.after_line.Stand.{Stand}
use Rattle.one_thread.specs.declared.after_line.Turn.TheVariants as turn
use Rattle.order_laws.specs.Agreed.{PlaysEach}
use Rattle.job_control.specs.Control.{JobState}
use Rattle.job_control.specs.declared.answers.JobAnswer.{JobAnswer}
use Rattle.job_control.specs.declared.answers.Target.{Target}
use Rattle.job_control.specs.declared.processes.JobSignal.{JobSignal}
use Rattle.job_control.specs.declared.processes.Judged.TheVariants.{Pass}
use Rattle.passed_calls.specs.declared.logs.Logged.{Logged}
use Rattle.passed_calls.specs.Journals.{Journal}
use Rattle.passed_calls.specs.Scripts.{plain}
use Rattle.job_text.specs.Events.{JobEvent, own, passed, passed_down, sent, JobLog}
use Rattle.job_text.specs.Sessions.{JobCall, JobsSession}
use Rattle.job_steps.specs.Derived.{IsStepIn}
use Rattle.job_steps.proofs.Moments.{after_passed_now}
use Rattle.job_steps.specs.Steps.{JobsState, next_of, next_call, with_jobs, answered_for}
use Rattle.job_steps.specs.Steps.{after_own, after_passed, after_event, outcome_of, is_own}
use Rattle.job_steps.specs.Steps.{is_of_step, judged_call, job_signal, foreground_target}
use Rattle.order_laws.specs.Later.{IsLater, ComesBy, WasAnswered}
use Rattle.job_one.specs.Later.{port_with, HasLogged, HasGoneOn}
use Rattle.job_one.specs.Ordered.{HasOrdered}
use Rattle.order_laws.specs.Begun.{HadBegun}
use Rattle.job_one.specs.Desk.{proc_in, call_after, signals_of, IsLoggedAt, ComeAtOnce, IsDeskAt, jobs_passed}
use Rattle.job_one.specs.Desk.{due_passed}
use Rattle.job_one.proofs.Logging.{log_stays, logs_own, logs_passed, logs_due, logs_down}
use Rattle.job_one.proofs.Logging.{logs_raised, own_comes, due_comes, down_comes, raised_comes}
use Rattle.job_one.proofs.Gone.{gone_begins, gone_stays, gone_behind}
use Rattle.job_one.proofs.Ordering.{ordered_stays, ordered_sent, ordered_down, ordered_own, ordered_passed}

-- an entry that begins no call
stays_at : (first : Scene) (session : JobsSession) (log : JobLog) (v w : PortValue) (part : List PlainEntry)
    (u : JobsState)
    → ComesBy v w part
    → ((c : ℕ) → HadBegun v w c)
    → IsLoggedAt first session log v u
    → IsLoggedAt first session log w u
stays_at first session log v w part u by had h = record {
  logged = log_stays first.port session log v w part u by h.logged;
  ordered = ordered_stays first session log v w part by h.ordered;
  gone_on = λ c begun.
      let was = had c begun in
      subst (λ (n : ℕ). HasGoneOn first.port session w u c n) (sym was.1)
      (gone_stays first.port session v w part u c (caller_at v.terminal c).next by (h.gone_on c was.0));
}

-- ---- what is due

come_at_once : (due : List JobEvent) (n : ℕ) → ComeAtOnce due n n
come_at_once [] n = tt
come_at_once (e ∷ due) n = refl

pub desk_sends : (first : Scene) (session : JobsSession) (log : JobLog) (v : PortValue) (jobs : JobState)
    (next : List ℕ) (signals : ℕ) (signal : JobSignal) (target : Target) (rest : List JobEvent)
    → IsDeskAt first session log v jobs next signals (sent signal target ∷ rest)
    → IsDeskAt first session
    (log ++ record { port = first.port; at = length v.journal; event = sent signal target } ∷ [])
    v jobs next signals rest
desk_sends first session log v jobs next signals signal target rest h =
    let u = h.state in
    let n = length v.journal in
    let then : JobsState = record (with_jobs u n u.now.jobs) { signals = u.signals; due = rest } in
    record {
      state = then;
      at = record {
        logged = logs_due first.port session log v u signal target rest h.at.logged h.due_are h.at_once;
        ordered = ordered_sent first session log v u signal target h.at.logged h.at.ordered;
        gone_on = λ c begun. gone_behind first.port session v u then (sent signal target) c
            (caller_at v.terminal c).next (due_comes first.port session v u signal target rest h.due_are) refl
            (h.at.gone_on c begun);
      };
      jobs_are = h.jobs_are;
      next_are = h.next_are;
      signals_are = h.signals_are;
      due_are = refl;
      at_once = come_at_once rest n;
    }

pub desk_hangs_up : (first : Scene) (session : JobsSession) (log : JobLog) (old v : PortValue) (e : PlainEntry)
    (jobs : JobState) (next : List ℕ) (signals : ℕ) (c step handle : ℕ) (rest : List JobEvent)
    → ComesBy old v (e ∷ [])
    → ((x : ℕ) → HadBegun old v x)
    → IsDeskAt first session log old jobs next signals (passed_down c handle ∷ rest)
    → call_in v.kept c step ≡ Some (hangs_up handle)
    → WasAnswered v c step done
    → IsDeskAt first session
    (log ++ record { port = first.port; at = length v.journal; event = passed_down c handle } ∷ [])
    v jobs next signals rest
desk_hangs_up first session log old v e jobs next signals c step handle rest by had h kept was =
    let u = h.state in
    let n = length v.journal in
    let then : JobsState = record (with_jobs u n u.now.jobs) { due = rest } in
    let stayed : IsLoggedAt first session log v u = stays_at first session log old v (e ∷ []) u by had h.at in
    let since = h.at_once in
    let count = length-append old.journal (e ∷ []) in
    let added = ap (λ (es : List PlainEntry). length es) by.added in
    let now : n ≡ u.now.at + 1 = omega (arith, since, count, added) in
    record {
      state = then;
      at = record {
        logged = logs_down first.port session log v u c step handle rest stayed.logged h.due_are now kept was;
        ordered = ordered_down first session log v u c handle stayed.logged stayed.ordered;
        gone_on = λ d begun. gone_behind first.port session v u then (passed_down c handle) d
            (caller_at v.terminal d).next (down_comes first.port session v u c handle rest h.due_are) refl
            (stayed.gone_on d begun);
      };
      jobs_are = h.jobs_are;
      next_are = h.next_are;
      signals_are = h.signals_are;
      due_are = refl;
      at_once = come_at_once rest n;
    }

-- ---- a signal that a flush has raised

pub desk_raises : (first : Scene) (session : JobsSession) (log : JobLog) (old v : PortValue) (e : PlainEntry)
    (jobs : JobState) (next : List ℕ) (signals : ℕ) (signal : Signal)
    → IsPort old
    → IsPort v
    → ComesBy old v (e ∷ [])
    → IsDeskAt first session log v jobs next signals []
    → length (signals_of old.terminal) ≤ signals
    → slice_get (signals_of v.terminal) signals ≡ Some signal
    → IsDeskAt first session
    (log
    ++ record { port = first.port; at = length v.journal; event = sent (job_signal signal) (foreground_target jobs) }
    ∷ []) v jobs next (signals + 1) []
desk_raises first session log old v e jobs next signals signal was port by h fresh is =
    let u = h.state in
    let n = length v.journal in
    let target : Target = foreground_target u.now.jobs in
    let then : JobsState = record (with_jobs u n u.now.jobs) { signals = u.signals + 1; due = [] } in
    let few : length (signals_of old.terminal) ≤ u.signals = omega (arith, fresh, h.signals_are) in
    let there : slice_get (signals_of v.terminal) u.signals ≡ Some signal =
    ap (slice_get (signals_of v.terminal)) h.signals_are ∙ is in
    let made : IsDeskAt first session
    (log ++ record { port = first.port; at = n; event = sent (job_signal signal) target } ∷ []) v jobs next
    (signals + 1) [] = record {
      state = then;
      at = record {
        logged = logs_raised first.port session log old v e u signal was port by h.at.logged h.due_are few there;
        ordered = ordered_sent first session log v u (job_signal signal) target h.at.logged h.at.ordered;
        gone_on = λ c begun. gone_behind first.port session v u then (sent (job_signal signal) target) c
            (caller_at v.terminal c).next (raised_comes first.port session v u (job_signal signal) target h.due_are)
            refl (h.at.gone_on c begun);
      };
      jobs_are = h.jobs_are;
      next_are = h.next_are;
      signals_are = ap (λ (i : ℕ). i + 1) h.signals_are;
      due_are = refl;
      at_once = tt;
    } in
    subst (λ (state : JobState). IsDeskAt first session
    (log ++ record { port = first.port; at = n; event = sent (job_signal signal) (foreground_target state) } ∷ []) v
    jobs next (signals + 1) []) h.jobs_are made

-- ---- a call that is answered without the port

-- the next step of another caller
next_elsewhere : (next : List ℕ) (c d n : ℕ)
    → (d ≡ c → ⊥)
    → slice_index_or (slice_set next c n) d 0 ≡ slice_index_or next d 0
next_elsewhere next c d n other = get_or-set_other next c d n 0 other

pub desk_answers : (first : Scene) (session : JobsSession) (log : JobLog) (scripts : Scene → List Script)
    (roles : List Role) (start v : PortValue) (ticks : ℕ) (stand : Stand) (place : ℕ) (r : Role) (jobs : JobState)
    (next : List ℕ) (signals : ℕ) (call : JobCall) (d : Journal)
    → PlaysEach first scripts roles start v ticks stand
    → IsTurn (is_of_consoles first.session) v (role_numbers roles) stand.going (turn.Call place)
    → slice_get roles place ≡ Some r
    → IsPort v
    → IsDeskAt first session log v jobs next signals []
    → length (signals_of v.terminal) ≤ signals
    → has_begun (caller_at v.terminal r.number) ≡ false
    → call_after session first.port next r.number ≡ Some call
    → IsStepIn first.port session v.terminal.phase r.number (slice_index_or next r.number 0)
    → IsTrue (is_own jobs v.terminal (proc_in session first.port r.number) call)
    → IsDeskAt first session
    (log
    ++ record {
      port = first.port;
      at = length v.journal;
      event = own r.number (slice_index_or next r.number 0)
          (outcome_of jobs v.terminal (proc_in session first.port r.number) r.number call).answer;
    } ∷ []) v (outcome_of jobs v.terminal (proc_in session first.port r.number) r.number call).left
    (slice_set next r.number (slice_index_or next r.number 0 + 1)) signals
    (outcome_of jobs v.terminal (proc_in session first.port r.number) r.number call).due
desk_answers first session log scripts roles start v ticks stand place r jobs
    next signals call d each whose is port h few rest has in_phase its =
    let u = h.state in
    let n = length v.journal in
    let c = r.number in
    let p = first.port in
    let proc : ℕ = proc_in session p c in
    let then : JobsState = answered_for (after_own v.terminal proc c u n (Some call)) c in
    let now_has : next_call (port_with p session d) u c ≡ Some call =
    ap (λ (ns : List ℕ). call_after session p ns c) h.next_are ∙ has in
    let now_its : IsTrue (is_own u.now.jobs v.terminal proc call) =
    subst (λ (state : JobState). IsTrue (is_own state v.terminal proc call)) (sym h.jobs_are) its in
    let now_in_phase : IsStepIn p session v.terminal.phase c (next_of u c) =
    subst (λ (ns : List ℕ). IsStepIn p session v.terminal.phase c (slice_index_or ns c 0)) (sym h.next_are) in_phase in
    let answer : JobAnswer = (outcome_of u.now.jobs v.terminal proc c call).answer in
    let sent_on : length (signals_of v.terminal) ≤ u.signals = omega (arith, few, h.signals_are) in
    let made : IsDeskAt first session (log ++ record { port = p; at = n; event = own c (next_of u c) answer } ∷ []) v
    (outcome_of u.now.jobs v.terminal proc c call).left (slice_set u.next c (next_of u c + 1))
    signals (outcome_of u.now.jobs v.terminal proc c call).due = record {
      state = then;
      at = record {
        logged = logs_own p session log v u d c call answer port h.at.logged h.due_are now_has now_in_phase rest now_its
            refl;
        ordered = ordered_own first session log scripts roles start v ticks stand place r u (next_of u c)
            answer each whose is port h.at.logged h.at.ordered sent_on;
        gone_on = λ x begun.
            let other : x ≡ c → ⊥ = λ same.
            false≢true (sym rest ∙ (ap (λ (y : ℕ). has_begun (caller_at v.terminal y)) (sym same) ∙ begun)) in
            gone_behind p session v u then (own c (next_of u c) answer) x (caller_at v.terminal x).next
            (own_comes p session v u d c call answer port now_has) (next_elsewhere u.next c x (next_of u c + 1) other)
            (h.at.gone_on x begun);
      };
      jobs_are = refl;
      next_are = refl;
      signals_are = h.signals_are;
      due_are = refl;
      at_once = come_at_once (outcome_of u.now.jobs v.terminal proc c call).due n;
    } in
    let by_jobs = subst (λ (state : JobState). IsDeskAt first session
    (log ++ record { port = p; at = n; event = own c (next_of u c) (outcome_of state v.terminal proc c call).answer }
    ∷ []) v (outcome_of state v.terminal proc c call).left (slice_set u.next c (next_of u c + 1))
    signals (outcome_of state v.terminal proc c call).due) h.jobs_are made in
    subst (λ (ns : List ℕ). IsDeskAt first session
    (log
    ++ record {
      port = p;
      at = n;
      event = own c (slice_index_or ns c 0) (outcome_of jobs v.terminal proc c call).answer;
    } ∷ []) v (outcome_of jobs v.terminal proc c call).left (slice_set ns c (slice_index_or ns c 0 + 1))
    signals (outcome_of jobs v.terminal proc c call).due) h.next_are by_jobs

-- ---- the port makes an entry

-- the call that a caller has begun, or begins with it, went on to the port
begins_here : (first : Scene) (session : JobsSession) (log : JobLog) (v w : PortValue) (e : PlainEntry) (c : ℕ)
    (jobs : JobState) (next : List ℕ) (signals : ℕ) (due : List JobEvent) (call : PlainCall) (d : Journal)
    → IsPort v
    → ComesBy v w (e ∷ [])
    → (h : IsDeskAt first session log v jobs next signals due)
    → is_of_step c (caller_at v.terminal c).next e ≡ true
    → call_after session first.port next c ≡ Some (plain call)
    → (has_begun (caller_at v.terminal c) ≡ false
    → judged_call jobs v.terminal (proc_in session first.port c) call ≡ Pass)
    → HasGoneOn first.port session w h.state c (caller_at v.terminal c).next
begins_here first session log v w e c jobs next signals due call d port by h of_step has passes =
    by_case (has_begun (caller_at v.terminal c)) refl
  where
    by_case : (b : Bool)
        → has_begun (caller_at v.terminal c) ≡ b
        → HasGoneOn first.port session w h.state c (caller_at v.terminal c).next
    by_case true begun =
        gone_stays first.port session v w (e ∷ []) h.state c (caller_at v.terminal c).next by (h.at.gone_on c begun)
    by_case false rest =
        gone_begins first.port session log v w e [] h.state d c call port by h.at.logged
        (ap (λ (ns : List ℕ). call_after session first.port ns c) h.next_are ∙ has)
        (ap (λ (state : JobState). judged_call state v.terminal (proc_in session first.port c) call) h.jobs_are
        ∙ passes rest) rest of_step

pub desk_stays : (first : Scene) (session : JobsSession) (log : JobLog) (v w : PortValue) (part : List PlainEntry)
    (jobs : JobState) (next : List ℕ) (signals : ℕ)
    → ComesBy v w part
    → ((c : ℕ) → HadBegun v w c)
    → IsDeskAt first session log v jobs next signals []
    → IsDeskAt first session log w jobs next signals []
desk_stays first session log v w part jobs next signals by had h = record {
  state = h.state;
  at = stays_at first session log v w part h.state by had h.at;
  jobs_are = h.jobs_are;
  next_are = h.next_are;
  signals_are = h.signals_are;
  due_are = h.due_are;
  at_once = tt;
}

-- an entry of a call that is not answered by it
pub desk_begins : (first : Scene) (session : JobsSession) (log : JobLog) (v w : PortValue) (e : PlainEntry) (c : ℕ)
    (jobs : JobState) (next : List ℕ) (signals : ℕ) (call : PlainCall) (d : Journal)
    → IsPort v
    → ComesBy v w (e ∷ [])
    → ((x : ℕ) → (x ≡ c → ⊥) → HadBegun v w x)
    → (caller_at w.terminal c).next ≡ (caller_at v.terminal c).next
    → is_of_step c (caller_at v.terminal c).next e ≡ true
    → call_after session first.port next c ≡ Some (plain call)
    → (has_begun (caller_at v.terminal c) ≡ false
    → judged_call jobs v.terminal (proc_in session first.port c) call ≡ Pass)
    → IsDeskAt first session log v jobs next signals []
    → IsDeskAt first session log w jobs next signals []
desk_begins first session log v w e c jobs next signals call d port by had same of_step has passes h = record {
  state = h.state;
  at = record {
    logged = log_stays first.port session log v w (e ∷ []) h.state by h.at.logged;
    ordered = ordered_stays first session log v w (e ∷ []) by h.at.ordered;
    gone_on = λ x begun. elim (cases_eq x c) [
      | inl own_one ↦
          subst (λ (y : ℕ). HasGoneOn first.port session w h.state y (caller_at w.terminal y).next) (sym own_one)
          (subst (λ (n : ℕ). HasGoneOn first.port session w h.state c n) (sym same)
          (begins_here first session log v w e c jobs next signals [] call d port by h of_step has passes))
      | inr other ↦
          let was = had x other begun in
          subst (λ (n : ℕ). HasGoneOn first.port session w h.state x n) (sym was.1)
          (gone_stays first.port session v w (e ∷ []) h.state x (caller_at v.terminal x).next by (h.at.gone_on x was.0))
    ];
  };
  jobs_are = h.jobs_are;
  next_are = h.next_are;
  signals_are = h.signals_are;
  due_are = h.due_are;
  at_once = tt;
}

-- ---- the port's answer

-- what an answer makes of the state
record IsAfterAnswer (s then : JobsState) (call : PlainCall) (answer : PlainAnswer) : Type 0 where
  jobs : then.now.jobs ≡ jobs_passed s.now.jobs call answer
  next : then.next ≡ s.next
  signals : then.signals ≡ s.signals
  due : then.due ≡ due_passed s.now.jobs call answer

after_answer : (s : JobsState) (at : ℕ) (call : PlainCall) (answer : PlainAnswer)
    → s.due ≡ []
    → IsAfterAnswer s (after_passed s at (Some (plain call)) answer) call answer
after_answer s at (opens h access nonblock) answer none =
    record { jobs = refl; next = refl; signals = refl; due = none }
after_answer s at (closes h) answer none = record { jobs = refl; next = refl; signals = refl; due = none }
after_answer s at (reads h n) answer none = record { jobs = refl; next = refl; signals = refl; due = none }
after_answer s at (writes h bytes) answer none = record { jobs = refl; next = refl; signals = refl; due = none }
after_answer s at (gets_modes h) answer none = record { jobs = refl; next = refl; signals = refl; due = none }
after_answer s at (sets_modes h when words) answer none =
    record { jobs = refl; next = refl; signals = refl; due = none }
after_answer s at (gets_disc h) answer none = record { jobs = refl; next = refl; signals = refl; due = none }
after_answer s at (sets_disc h number) answer none = record { jobs = refl; next = refl; signals = refl; due = none }
after_answer s at (flushes h queue) answer none = record { jobs = refl; next = refl; signals = refl; due = none }
after_answer s at (steers h act) answer none = record { jobs = refl; next = refl; signals = refl; due = none }
after_answer s at (counts_input h) answer none = record { jobs = refl; next = refl; signals = refl; due = none }
after_answer s at (counts_output h) answer none = record { jobs = refl; next = refl; signals = refl; due = none }
after_answer s at (excludes h) answer none = record { jobs = refl; next = refl; signals = refl; due = none }
after_answer s at (admits h) answer none = record { jobs = refl; next = refl; signals = refl; due = none }
after_answer s at (drains h) answer none = record { jobs = refl; next = refl; signals = refl; due = none }
after_answer s at (gets_counts h) answer none = record { jobs = refl; next = refl; signals = refl; due = none }
after_answer s at (sends_packet h bytes) answer none = record { jobs = refl; next = refl; signals = refl; due = none }
after_answer s at (takes_packet h) answer none = record { jobs = refl; next = refl; signals = refl; due = none }
after_answer s at (hangs_up h) done none = record { jobs = refl; next = refl; signals = refl; due = refl }
after_answer s at (hangs_up h) (count_is taken) none = record { jobs = refl; next = refl; signals = refl; due = none }
after_answer s at (hangs_up h) (got bytes) none = record { jobs = refl; next = refl; signals = refl; due = none }
after_answer s at (hangs_up h) (number_is n) none = record { jobs = refl; next = refl; signals = refl; due = none }
after_answer s at (hangs_up h) (modes_are modes) none = record { jobs = refl; next = refl; signals = refl; due = none }
after_answer s at (hangs_up h) (counts_are counts) none =
    record { jobs = refl; next = refl; signals = refl; due = none }
after_answer s at (hangs_up h) (refused errno) none = record { jobs = refl; next = refl; signals = refl; due = none }
after_answer s at (hangs_up h) idle none = record { jobs = refl; next = refl; signals = refl; due = none }

pub desk_passes : (first : Scene) (session : JobsSession) (log : JobLog) (old v : PortValue) (e : PlainEntry) (c : ℕ)
    (jobs : JobState) (next : List ℕ) (signals : ℕ) (call : PlainCall) (answer : PlainAnswer) (d : Journal)
    → IsPort old
    → IsPort v
    → ComesBy old v (e ∷ [])
    → ((x : ℕ) → (x ≡ c → ⊥) → HadBegun old v x)
    → has_begun (caller_at v.terminal c) ≡ false
    → is_of_step c (caller_at old.terminal c).next e ≡ true
    → WasAnswered v c (caller_at old.terminal c).next answer
    → call_after session first.port next c ≡ Some (plain call)
    → IsStepIn first.port session v.terminal.phase c (slice_index_or next c 0)
    → call_in v.kept c (caller_at old.terminal c).next ≡ Some call
    → (has_begun (caller_at old.terminal c) ≡ false
    → judged_call jobs old.terminal (proc_in session first.port c) call ≡ Pass)
    → IsDeskAt first session log old jobs next signals []
    → length (signals_of old.terminal) ≤ signals
    → IsDeskAt first session
    (log ++ record { port = first.port; at = length v.journal; event = passed c (slice_index_or next c 0) answer } ∷ [])
    v (jobs_passed jobs call answer) (slice_set next c (slice_index_or next c 0 + 1)) signals
    (due_passed jobs call answer)
desk_passes first session log old v e c jobs next signals call answer
    d was_port port by had rest of_step was has in_phase kept passes h few =
    let u = h.state in
    let p = first.port in
    let n = length v.journal in
    let here : next_call (port_with p session d) u c ≡ Some (plain call) =
    ap (λ (ns : List ℕ). call_after session p ns c) h.next_are ∙ has in
    let gone = begins_here first session log old v e c jobs next signals [] call d was_port by h of_step has passes in
    let now_in_phase : IsStepIn p session v.terminal.phase c (next_of u c) =
    subst (λ (ns : List ℕ). IsStepIn p session v.terminal.phase c (slice_index_or ns c 0)) (sym h.next_are) in_phase in
    let logged_now : HasLogged p session log v u = log_stays p session log old v (e ∷ []) u by h.at.logged in
    let ordered_now : HasOrdered first session log v = ordered_stays first session log old v (e ∷ []) by h.at.ordered in
    let was_at = h.at.logged.at in
    let count = length-append old.journal (e ∷ []) in
    let added = ap (λ (es : List PlainEntry). length es) by.added in
    let behind : u.now.at < n = omega (arith, was_at, count, added) in
    let after : JobsState = after_passed u n (Some (plain call)) answer in
    let then : JobsState = answered_for after c in
    let is = after_answer u n call answer h.due_are in
    let entry : Logged JobEvent = record { port = p; at = n; event = passed c (next_of u c) answer } in
    let sent_on : length (signals_of old.terminal) ≤ u.signals = omega (arith, few, h.signals_are) in
    let comes : (j : Journal)
    → IsLater v j
    → after_event (port_with p session j) u n (passed c (next_of u c) answer) ≡ then = λ j later.
    ap (λ (o : Option JobCall). answered_for (after_passed u n o answer) c) here in
    let next_then : then.next ≡ slice_set u.next c (next_of u c + 1) =
    ap (λ (ns : List ℕ). slice_set ns c (slice_index_or ns c 0 + 1)) is.next in
    let made : IsDeskAt first session (log ++ entry ∷ []) v (jobs_passed u.now.jobs call answer)
    (slice_set u.next c (next_of u c + 1)) signals (due_passed u.now.jobs call answer) = record {
      state = then;
      at = record {
        logged = subst (λ (o : Option JobCall).
            HasLogged p session (log ++ entry ∷ []) v (answered_for (after_passed u n o answer) c)) here
            (logs_passed p session log v u d c (caller_at old.terminal c).next call answer port logged_now h.due_are
            here
            now_in_phase kept behind was gone);
        ordered =
            ordered_passed first session log old v e u c (next_of u c) answer was_port by logged_now ordered_now
            sent_on;
        gone_on = λ x begun.
            let other : x ≡ c → ⊥ = λ same.
            false≢true (sym rest ∙ (ap (λ (y : ℕ). has_begun (caller_at v.terminal y)) (sym same) ∙ begun)) in
            let before = had x other begun in
            let stayed =
            gone_stays p session old v (e ∷ []) u x (caller_at old.terminal x).next by (h.at.gone_on x before.0) in
            let step_same : next_of then x ≡ next_of u x =
            ap (λ (ns : List ℕ). slice_index_or ns x 0) next_then ∙ next_elsewhere u.next c x (next_of u c + 1) other in
            gone_behind p session v u then (passed c (next_of u c) answer)
            x (caller_at v.terminal x).next comes step_same
            (subst (λ (m : ℕ). HasGoneOn p session v u x m) (sym before.1) stayed);
      };
      jobs_are = is.jobs;
      next_are = next_then;
      signals_are = is.signals ∙ h.signals_are;
      due_are = is.due;
      at_once = subst (λ (m : ℕ). ComeAtOnce (due_passed u.now.jobs call answer) m n)
          (sym (after_passed_now u n (Some (plain call)) answer).0)
          (come_at_once (due_passed u.now.jobs call answer) n);
    } in
    let by_jobs = subst (λ (state : JobState). IsDeskAt first session (log ++ entry ∷ []) v
    (jobs_passed state call answer) (slice_set u.next c (next_of u c + 1)) signals (due_passed state call answer))
    h.jobs_are made in
    subst (λ (ns : List ℕ). IsDeskAt first session
    (log ++ record { port = p; at = n; event = passed c (slice_index_or ns c 0) answer } ∷ []) v
    (jobs_passed jobs call answer) (slice_set ns c (slice_index_or ns c 0 + 1)) signals (due_passed jobs call answer))
    h.next_are by_jobs
