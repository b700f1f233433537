-- A player of a session of processes, turn by turn.
use Rattle.std.proofs.Common.{◌≡◌, ◌≤◌, ◌<◌, ◌⊎◌, inl, inr, ℕ, ◌+◌, Bool, true, false}
use Rattle.std.proofs.Common.{List, [], ◌∷◌, ◌++◌, IsTrue, Option, Some, length}
use Rattle.std.proofs.Common.{refl, sym, ap, ◌∙◌, subst, arith, append-nil}
use Rattle.std.specs.Prelude.{All, slice_get, slice_index_or, slice_set}
use Rattle.std.proofs.lemmas.Bool.{cases_eq, false≢true}
use Rattle.std.proofs.lemmas.List.Elements.{All-append, All-cons, All-nil}
use Rattle.tty_base.specs.declared.counters.Signal.{Signal}
use Rattle.tty_calls.specs.declared.sessions.Script.{Script}
use Rattle.tty_calls.specs.declared.journals.Who.{Who}
use Rattle.tty_calls.specs.Limits.{IsCallWithin}
use Rattle.tty_calls.specs.Plain.{PlainCall, hangs_up, PlainAnswer, done, PlainEntry, is_caller}
use Rattle.tty_terminal.specs.Terminals.{caller_at}
use Rattle.tty_terminal.specs.Runs.{is_of_call}
use Rattle.passed_calls.specs.Derived.{Passing, BlockPhase, by_caller}
use Rattle.passed_calls.specs.Journals.{Journal}
use Rattle.passed_calls.specs.Scripts.{plain}
use Rattle.port_core.specs.Attempts.{PlainTried, done_by, took_part, must_wait, Attempts}
use Rattle.port_core.specs.Ports.{PortValue, IsPort, end_entry}
use Rattle.legal_runs.specs.Order.{is_of_consoles}
use Rattle.play_base.specs.Roles.{Scene}
use Rattle.play_base.specs.Scenes.{HasAnyOrder, HasOneOrder}
use Rattle.one_thread.specs.Turns.{role_numbers, who_of, IsTurn, PlaysOnIn, TakesTurn}
use Rattle.one_thread.specs.Acts.{AddsEntry, PlaysTurn, TriesCall, PlaysCall, EndsCalls, PlaysLast}
use Rattle.play_base.specs.declared.roles.Role.{Role}
use Rattle.one_thread.specs.declared.after_line.Stand.{Stand}
use Rattle.one_thread.specs.declared.after_line.Turn.{Turn}
use Rattle.one_thread.specs.declared.after_line.Turn.TheVariants as turn
use Rattle.job_control.specs.declared.answers.Target.{Target}
use Rattle.job_control.specs.declared.processes.JobSignal.{JobSignal}
use Rattle.job_control.specs.declared.processes.Judged.TheVariants.{Pass}
use Rattle.job_text.specs.Events.{JobEvent, own, passed, passed_down, sent, JobLog}
use Rattle.job_text.specs.Sessions.{JobCall, JobsSession}
use Rattle.job_steps.specs.Derived.{block_phases, IsStepIn, job_call_at, plain_call, passings_on}
use Rattle.job_steps.specs.Steps.{outcome_of, is_own, judged_call, job_signal, foreground_target}
use Rattle.order_laws.specs.Passed.{begin_of, IsOfBlocks}
use Rattle.passed_calls.specs.Within.{AreBlocksWithin}
use Rattle.order_laws.specs.Witness.{scene_on, IsCalling}
use Rattle.order_laws.specs.Later.{ComesBy}
use Rattle.job_one.specs.Latest.{latest_on}
use Rattle.order_laws.specs.Begun.{HadBegun}
use Rattle.job_one.specs.Desk.{proc_in, call_after, signals_of, IsDeskAt, jobs_passed, due_passed}
use Rattle.order_laws.specs.Begun.{begun_at}
use Rattle.job_one.specs.Playing.{DeskValue, step_at, next_passing, passings_with}
use Rattle.order_laws.specs.Begun.{begun_with}
use Rattle.job_one.specs.Playing.{hangup_of, hangup_with, AreLoggedBefore, IsPlayingJobs}
use Rattle.order_laws.proofs.InOrders.{same_entry}
use Rattle.order_laws.proofs.Witnessed.{in_turn, in_call, in_last, turn_on, call_on, last_on, can_take}
use Rattle.order_laws.proofs.BegunBefore.{begun_same, begun_still, begun_elsewhere, begun_by_none}
use Rattle.order_laws.proofs.Attempted.{makes_as, attempts_as, begins, other_is}
use Rattle.job_one.proofs.Begun.{of_step_is}
use Rattle.order_laws.proofs.Attempted.{begins_by_wait, begins_by_part, begun_now, was_answered, ended_now}
use Rattle.order_laws.proofs.Steps.{tail, tail_same, tail_none, tail_one}
use Rattle.job_one.proofs.Mine.{logged_more, by_own, by_other}
use Rattle.order_laws.proofs.Steps.{step_own, step_other, step_rises, before_more}
use Rattle.order_laws.proofs.Callings.{comes, kept_grows, begun_elsewhere_too, begun_here, passes_then, rests_at}
use Rattle.order_laws.proofs.Callings.{begun_then, plays_as, more_is_next, next_begins, next_continues}
use Rattle.job_one.proofs.DeskEvents.{desk_sends, desk_hangs_up, desk_raises}
use Rattle.job_one.proofs.DeskEvents.{desk_answers, desk_stays, desk_begins, desk_passes}

module _ (first : Scene) (session : JobsSession) (scripts : Scene → List Script) (roles : List Role)
    (start : PortValue) where
  abbrev p : ℕ
  p = first.port

  abbrev phases : List BlockPhase
  phases = block_phases session

  abbrev logged : JobLog → ℕ → List Passing
  logged log c = by_caller c (passings_on session log p)

  -- ---- a flush, a tick, or the end of the clock

  -- where nothing is due the desk stays
  idle_stays : (log : JobLog) (old new : PortValue) (d : DeskValue) (part : List PlainEntry)
      → d.due ≡ []
      → ComesBy old new part
      → ((c : ℕ) → HadBegun old new c)
      → IsDeskAt first session log old d.jobs d.next d.signals d.due
      → IsDeskAt first session log new d.jobs d.next d.signals d.due
  idle_stays log old new d part idle by had h =
      subst (λ (es : List JobEvent). IsDeskAt first session log new d.jobs d.next d.signals es) (sym idle)
      (desk_stays first session log old new part d.jobs d.next d.signals by had
      (subst (λ (es : List JobEvent). IsDeskAt first session log old d.jobs d.next d.signals es) idle h))

  pub turn_goes_on : (log : JobLog) (old new : PortValue) (d : DeskValue) (ticks : ℕ) (was now : Stand) (next : Turn)
      → IsPlayingJobs first session scripts roles start log old d ticks was
      → d.due ≡ []
      → IsTurn (is_of_consoles first.session) old (role_numbers roles) was.going next
      → ((c : ℕ) → is_caller (who_of (role_numbers roles) next) c ≡ false)
      → PlaysTurn roles old new was now next
      → AddsEntry old new
      → IsPlayingJobs first session scripts roles start log new d ticks now
  turn_goes_on log old new d ticks was now next h idle is none plays adds =
      let mine = passings_with session log p d (begun_at old) in
      let s = scene_on p h.playing.has.session in
      let at = in_turn first phases scripts roles start mine old ticks was next h.playing is in
      let takes : TakesTurn s (scripts s) roles old new was now next = plays.each at in
      let on = takes.on in
      let who = takes.who in
      let other : (c : ℕ) → is_caller on.adds.entry.who c ≡ false = λ c. ap (λ (w : Who). is_caller w c) who ∙ none c in
      let by : ComesBy old new (on.adds.entry ∷ []) =
      comes s old new (on.adds.entry ∷ []) at.plays.of_scene on.plays.of_scene on.adds.added
      (kept_grows old new adds.kept) in
      record {
        playing = plays_as HasOneOrder first phases scripts roles start ticks
            mine (passings_with session log p d (begun_at new)) new now
            (λ c. ap (λ (b : Bool). by_caller c (passings_on session log p) ++ tail b (next_passing session p d c))
            (sym (begun_same s old new on.adds c (other c))))
            (turn_on first phases scripts roles start mine old new ticks was now next h.playing is none plays adds);
        desk = idle_stays log old new d (on.adds.entry ∷ []) idle by
            (λ c. begun_elsewhere s old new on.adds c (other c)) h.desk;
        logged_before = h.logged_before;
      }

  -- ---- what is sent

  -- by an event that passes nothing down, beside which each next step stays
  logged_same : (log : JobLog) (v : PortValue) (d late : DeskValue) (ticks : ℕ) (stand : Stand) (event : JobEvent)
      → passings_on session (log ++ record { port = p; at = length v.journal; event = event } ∷ []) p
      ≡ passings_on session log p
      → late.next ≡ d.next
      → IsPlayingJobs first session scripts roles start log v d ticks stand
      → IsDeskAt first session (log ++ record { port = p; at = length v.journal; event = event } ∷ [])
      v late.jobs late.next late.signals late.due
      → IsPlayingJobs first session scripts roles start
      (log ++ record { port = p; at = length v.journal; event = event } ∷ []) v late ticks stand
  logged_same log v d late ticks stand event same next h desk =
      let more = log ++ record { port = p; at = length v.journal; event = event } ∷ [] in
      record {
        playing = plays_as HasOneOrder first phases scripts roles start ticks
            (passings_with session log p d (begun_at v)) (passings_with session more p late (begun_at v)) v stand
            (λ c. λ i.
            by_caller c (sym same i)
            ++ tail (begun_at v c) (record {
              caller = c;
              step = slice_index_or (sym next i) c 0;
              calls = plain_call (call_after session p (sym next i) c);
            })) h.playing;
        desk = desk;
        logged_before = λ c. subst (λ (ns : List ℕ). AreLoggedBefore session more p c (slice_index_or ns c 0))
            (sym next)
            (subst (λ (ms : List Passing). All (λ m. m.step < step_at d c) (by_caller c ms)) (sym same)
            (h.logged_before c));
      }

  pub due_goes_on : (log : JobLog) (v : PortValue) (d : DeskValue) (ticks : ℕ) (stand : Stand) (signal : JobSignal)
      (target : Target) (rest : List JobEvent)
      → IsPlayingJobs first session scripts roles start log v d ticks stand
      → d.due ≡ sent signal target ∷ rest
      → IsPlayingJobs first session scripts roles start
      (log ++ record { port = p; at = length v.journal; event = sent signal target } ∷ []) v (record d { due = rest })
      ticks stand
  due_goes_on log v d ticks stand signal target rest h is =
      logged_same log v d (record d { due = rest }) ticks stand (sent signal target)
      (logged_more session log p (length v.journal) (sent signal target) refl) refl h
      (desk_sends first session log v d.jobs d.next d.signals signal target rest
      (subst (λ (es : List JobEvent). IsDeskAt first session log v d.jobs d.next d.signals es) is h.desk))

  pub signal_goes_on : (log : JobLog) (old v : PortValue) (e : PlainEntry) (d : DeskValue) (ticks : ℕ) (stand : Stand)
      (signal : Signal)
      → IsPort old
      → IsPort v
      → ComesBy old v (e ∷ [])
      → IsPlayingJobs first session scripts roles start log v d ticks stand
      → d.due ≡ []
      → length (signals_of old.terminal) ≤ d.signals
      → slice_get (signals_of v.terminal) d.signals ≡ Some signal
      → IsPlayingJobs first session scripts roles start
      (log ++ record { port = p; at = length v.journal; event = sent (job_signal signal) (foreground_target d.jobs) }
      ∷ []) v (record d { signals = d.signals + 1; due = [] }) ticks stand
  signal_goes_on log old v e d ticks stand signal was port by h none fresh is =
      logged_same log v d (record d { signals = d.signals + 1; due = [] }) ticks stand
      (sent (job_signal signal) (foreground_target d.jobs))
      (logged_more session log p (length v.journal) (sent (job_signal signal) (foreground_target d.jobs)) refl) refl h
      (desk_raises first session log old v e d.jobs d.next d.signals signal was port by
      (subst (λ (es : List JobEvent). IsDeskAt first session log v d.jobs d.next d.signals es) none h.desk) fresh is)

  -- ---- a call that is answered without the port

  pub own_goes_on : (log : JobLog) (v : PortValue) (d : DeskValue) (ticks : ℕ) (stand : Stand) (place : ℕ) (r : Role)
      (call : JobCall) (j : Journal)
      → IsPlayingJobs first session scripts roles start log v d ticks stand
      → IsTurn (is_of_consoles first.session) v (role_numbers roles) stand.going (turn.Call place)
      → slice_get roles place ≡ Some r
      → IsPort v
      → d.due ≡ []
      → length (signals_of v.terminal) ≤ d.signals
      → begun_at v r.number ≡ false
      → r.number < length d.next
      → call_after session p d.next r.number ≡ Some call
      → IsStepIn p session v.terminal.phase r.number (step_at d r.number)
      → IsTrue (is_own d.jobs v.terminal (proc_in session p r.number) call)
      → IsPlayingJobs first session scripts roles start
      (log
      ++ record {
        port = p;
        at = length v.journal;
        event = own r.number (step_at d r.number)
            (outcome_of d.jobs v.terminal (proc_in session p r.number) r.number call).answer;
      } ∷ []) v
      (record {
        jobs = (outcome_of d.jobs v.terminal (proc_in session p r.number) r.number call).left;
        next = slice_set d.next r.number (step_at d r.number + 1);
        signals = d.signals;
        due = (outcome_of d.jobs v.terminal (proc_in session p r.number) r.number call).due;
      }) ticks stand
  own_goes_on log v d ticks stand place r call j h is at port none few rest known has in_phase its =
      let c = r.number in
      let out = outcome_of d.jobs v.terminal (proc_in session p c) c call in
      let event : JobEvent = own c (step_at d c) out.answer in
      let more = log ++ record { port = p; at = length v.journal; event = event } ∷ [] in
      let late : DeskValue =
      record { jobs = out.left; next = slice_set d.next c (step_at d c + 1); signals = d.signals; due = out.due } in
      let same = logged_more session log p (length v.journal) event refl in
      let steps : (x : ℕ) → begun_at v x ≡ true → next_passing session p d x ≡ next_passing session p late x =
      λ x begun.
      let other : x ≡ c → ⊥ = λ e. false≢true (sym rest ∙ (ap (begun_at v) (sym e) ∙ begun)) in
      ap (λ (n : ℕ). record { caller = x; step = n; calls = plain_call (job_call_at p session x n) })
      (sym (step_other d.next c x (step_at d c + 1) other)) in
      record {
        playing = plays_as HasOneOrder first phases scripts roles start ticks
            (passings_with session log p d (begun_at v)) (passings_with session more p late (begun_at v)) v stand
            (λ x. (λ i. by_caller x (sym same i) ++ tail (begun_at v x) (next_passing session p d x))
            ∙ ap (λ (ms : List Passing). by_caller x (passings_on session more p) ++ ms)
            (tail_same (begun_at v x) (next_passing session p d x) (next_passing session p late x) (steps x)))
            h.playing;
        desk = desk_answers first session log scripts roles start v ticks stand place
            r d.jobs d.next d.signals call j h.playing.each is at port
            (subst (λ (es : List JobEvent). IsDeskAt first session log v d.jobs d.next d.signals es) none h.desk)
            few rest has in_phase its;
        logged_before = λ x. before_more (by_caller x (passings_on session more p)) (step_at d x) (step_at late x)
            (step_rises d.next c x known)
            (subst (λ (ms : List Passing). All (λ m. m.step < step_at d x) (by_caller x ms)) (sym same)
            (h.logged_before x));
      }

  -- ---- a call that is passed down

  abbrev with_call : JobLog → DeskValue → PortValue → ℕ → ℕ → List Passing
  with_call log d v c = passings_with session log p d (begun_with v c)

  one_call : (o : Option JobCall) (call : PlainCall) → o ≡ Some (plain call) → plain_call o ≡ call ∷ []
  one_call o call is = ap plain_call is

  -- a new one
  pub call_begins : (log : JobLog) (v : PortValue) (d : DeskValue) (ticks : ℕ) (stand : Stand) (place : ℕ) (r : Role)
      (call : PlainCall)
      → IsPlayingJobs first session scripts roles start log v d ticks stand
      → IsTurn (is_of_consoles first.session) v (role_numbers roles) stand.going (turn.Call place)
      → slice_get roles place ≡ Some r
      → begun_at v r.number ≡ false
      → IsOfBlocks p phases first.session
      → AreBlocksWithin first.session.ports first.session.flips phases
      → IsCallWithin call
      → call_after session p d.next r.number ≡ Some (plain call)
      → begin_of p phases v.terminal.phase r.number ≤ step_at d r.number
      → step_at d r.number < begin_of p phases (v.terminal.phase + 1) r.number
      → IsCalling first phases scripts roles start (with_call log d v r.number) v ticks stand place call
  call_begins log v d ticks stand place r call h is at rest blocks limits good has low high =
      next_begins HasOneOrder first phases scripts roles start ticks (logged log) (next_passing session p d) v stand
      place r call
      h.playing (can_take first roles v stand (turn.Call place) is) at rest blocks limits refl
      (one_call (call_after session p d.next r.number) call has) good (h.logged_before r.number) low high

  -- .. or the one that it has begun
  pub call_continues : (log : JobLog) (v : PortValue) (d : DeskValue) (ticks : ℕ) (stand : Stand) (place : ℕ) (r : Role)
      (call : PlainCall)
      → IsPlayingJobs first session scripts roles start log v d ticks stand
      → slice_get roles place ≡ Some r
      → begun_at v r.number ≡ true
      → call_after session p d.next r.number ≡ Some (plain call)
      → IsCalling first phases scripts roles start (with_call log d v r.number) v ticks stand place call
  call_continues log v d ticks stand place r call h at begun has =
      next_continues HasOneOrder first phases scripts roles start ticks (logged log) (next_passing session p d) v stand
      place r call
      h.playing at begun (one_call (call_after session p d.next r.number) call has)

  -- an attempt that is not answered: the call has begun
  pub call_waits : (log : JobLog) (old new : PortValue) (d : DeskValue) (ticks : ℕ) (was now : Stand) (place : ℕ)
      (r : Role) (call : PlainCall) (tried : PlainTried) (j : Journal)
      → IsPlayingJobs first session scripts roles start log old d ticks was
      → d.due ≡ []
      → IsCalling first phases scripts roles start (with_call log d old r.number) old ticks was place call
      → IsTurn (is_of_consoles first.session) old (role_numbers roles) was.going (turn.Call place)
      → slice_get roles place ≡ Some r
      → IsPort old
      → call_after session p d.next r.number ≡ Some (plain call)
      → (begun_at old r.number ≡ false → judged_call d.jobs old.terminal (proc_in session p r.number) call ≡ Pass)
      → (tried ≡ must_wait) ⊎ (tried ≡ took_part)
      → TriesCall roles old new place call tried
      → PlaysCall roles old new was now place call
      → IsPlayingJobs first session scripts roles start log new d ticks now
  call_waits log old new d ticks was now place r call tried j h idle calling is at port has passes waits tries plays =
      let c = r.number in
      let more = with_call log d old c in
      let s = scene_on p calling.has.session in
      let in_it = in_call first phases scripts roles start more old ticks was place call calling is in
      let on : PlaysOnIn HasAnyOrder s (scripts s) roles old new was now = (plays.each in_it).on in
      let makes = makes_as roles old new place r call at tried tries in
      let attempts = attempts_as roles old new place r call at tried tries in
      let by : ComesBy old new (on.adds.entry ∷ []) =
      comes s old new (on.adds.entry ∷ []) in_it.in_turn.plays.of_scene on.plays.of_scene on.adds.added makes.grows in
      let begins_it : begins on.adds.entry.event ≡ true = elim waits [
        | inl wait ↦ begins_by_wait old new c call makes s on.adds
            (subst (λ (t : PlainTried). Attempts old new c (caller_at old.terminal c).next call t) wait attempts)
        | inr part ↦ begins_by_part old new c call makes s on.adds
            (subst (λ (t : PlainTried). Attempts old new c (caller_at old.terminal c).next call t) part attempts)
      ] in
      let begun = begun_now old new c call makes s on.adds begins_it in
      let same : (x : ℕ) → more x ≡ passings_with session log p d (begun_at new) x =
      begun_then s old new on.adds (logged log) (next_passing session p d) c begun.0
      (λ x other. other_is old new c call makes s on.adds x other) in
      record {
        playing = plays_as HasOneOrder first phases scripts roles start ticks
            more (passings_with session log p d (begun_at new)) new now same
            (call_on first phases scripts roles start more old
            new ticks was now place call tried calling is tries plays);
        desk = subst (λ (es : List JobEvent). IsDeskAt first session log new d.jobs d.next d.signals es) (sym idle)
            (desk_begins first session log old new on.adds.entry c d.jobs d.next d.signals call j port by
            (λ x other. begun_elsewhere s old new on.adds x (other_is old new c call makes s on.adds x other)) begun.1
            (of_step_is old new c call makes s on.adds) has passes
            (subst (λ (es : List JobEvent). IsDeskAt first session log old d.jobs d.next d.signals es) idle h.desk));
        logged_before = h.logged_before;
      }

  -- .. and one that is
  pub call_answered : (log : JobLog) (old new : PortValue) (d : DeskValue) (ticks : ℕ) (was now : Stand) (place : ℕ)
      (r : Role) (call : PlainCall) (answer : PlainAnswer) (j : Journal)
      → IsPlayingJobs first session scripts roles start log old d ticks was
      → IsCalling first phases scripts roles start (with_call log d old r.number) old ticks was place call
      → IsTurn (is_of_consoles first.session) old (role_numbers roles) was.going (turn.Call place)
      → slice_get roles place ≡ Some r
      → IsPort old
      → IsPort new
      → d.due ≡ []
      → length (signals_of old.terminal) ≤ d.signals
      → r.number < length d.next
      → call_after session p d.next r.number ≡ Some (plain call)
      → IsStepIn p session start.terminal.phase r.number (step_at d r.number)
      → (begun_at old r.number ≡ false → judged_call d.jobs old.terminal (proc_in session p r.number) call ≡ Pass)
      → TriesCall roles old new place call (done_by answer)
      → PlaysCall roles old new was now place call
      → IsPlayingJobs first session scripts roles start
      (log ++ record { port = p; at = length new.journal; event = passed r.number (step_at d r.number) answer } ∷ [])
      new
      (record {
        jobs = jobs_passed d.jobs call answer;
        next = slice_set d.next r.number (step_at d r.number + 1);
        signals = d.signals;
        due = due_passed d.jobs call answer;
      }) ticks now
  call_answered log old new d ticks was now place r call answer
      j h calling is at port now_port none few known has in_phase passes tries plays =
      let c = r.number in
      let tried = done_by answer in
      let more = with_call log d old c in
      let m = next_passing session p d c in
      let ms = by_caller c (passings_on session log p) in
      let event : JobEvent = passed c (step_at d c) answer in
      let later = log ++ record { port = p; at = length new.journal; event = event } ∷ [] in
      let late : DeskValue = record {
        jobs = jobs_passed d.jobs call answer;
        next = slice_set d.next c (step_at d c + 1);
        signals = d.signals;
        due = due_passed d.jobs call answer;
      } in
      let s = scene_on p calling.has.session in
      let in_it = in_call first phases scripts roles start more old ticks was place call calling is in
      let on : PlaysOnIn HasAnyOrder s (scripts s) roles old new was now = (plays.each in_it).on in
      let makes = makes_as roles old new place r call at tried tries in
      let attempts = attempts_as roles old new place r call at tried tries in
      let by : ComesBy old new (on.adds.entry ∷ []) =
      comes s old new (on.adds.entry ∷ []) in_it.in_turn.plays.of_scene on.plays.of_scene on.adds.added makes.grows in
      let rest : begun_at new c ≡ false = ended_now old new c call makes s on.adds answer attempts in
      let own_then : by_caller c (passings_on session later p) ≡ ms ++ m ∷ [] =
      by_own session log p (length new.journal) c event m refl refl in
      let other_then : (x : ℕ)
      → (x ≡ c → ⊥)
      → by_caller x (passings_on session later p) ≡ by_caller x (passings_on session log p) =
      λ x other. by_other session log p (length new.journal) x event m refl (λ e. other (sym e)) in
      let elsewhere : (x : ℕ) → (x ≡ c → ⊥) → more x ≡ passings_with session later p late (begun_at new) x =
      λ x other.
      ap (λ (b : Bool). by_caller x (passings_on session log p) ++ tail b (next_passing session p d x))
      (begun_elsewhere_too old c x other
      ∙ sym (begun_same s old new on.adds x (other_is old new c call makes s on.adds x other)))
      ∙ ((λ i.
      sym (other_then x other) i
      ++ tail (begun_at new x) (record {
        caller = x;
        step = sym (step_other d.next c x (step_at d c + 1) other) i;
        calls = plain_call (job_call_at p session x (sym (step_other d.next c x (step_at d c + 1) other) i));
      }))) in
      let here : more c ≡ passings_with session later p late (begun_at new) c =
      ap (λ (t : List Passing). ms ++ t) (tail_one (begun_with old c c) m (begun_here old c))
      ∙ sym
      (ap (λ (t : List Passing). by_caller c (passings_on session later p) ++ t)
      (tail_none (begun_at new c) (next_passing session p late c) rest)
      ∙ (append-nil (by_caller c (passings_on session later p)) ∙ own_then)) in
      let on_new = call_on first phases scripts roles start more old new
      ticks was now place call tried calling is tries plays in
      let phase : new.terminal.phase ≡ start.terminal.phase = (on_new.each.each (scene_on p on_new.has.session)
      on_new.has.like on_new.has.agrees).phase in
      let here_in_phase : IsStepIn p session new.terminal.phase c (step_at d c) =
      subst (λ (k : ℕ). IsStepIn p session k c (step_at d c)) (sym phase) in_phase in
      record {
        playing = plays_as HasOneOrder first phases scripts roles start ticks
            more (passings_with session later p late (begun_at new)) new now
            (λ x. elim (cases_eq x c) [
              | inl own_one ↦
                  subst (λ (y : ℕ). more y ≡ passings_with session later p late (begun_at new) y) (sym own_one) here
              | inr other ↦ elsewhere x other
            ]) on_new;
        desk = desk_passes first session log old new on.adds.entry c d.jobs d.next d.signals call answer j port
            now_port by
            (λ x other. begun_elsewhere s old new on.adds x (other_is old new c call makes s on.adds x other)) rest
            (of_step_is old new c call makes s on.adds)
            (was_answered old new c call makes s on.adds answer attempts) has here_in_phase makes.kept passes
            (subst (λ (es : List JobEvent). IsDeskAt first session log old d.jobs d.next d.signals es) none h.desk) few;
        logged_before = λ x. elim (cases_eq x c) [
          | inl own_one ↦ subst (λ (y : ℕ). AreLoggedBefore session later p y (step_at late y)) (sym own_one)
              (subst (λ (n : ℕ). All (λ m. m.step < n) (by_caller c (passings_on session later p)))
              (sym (step_own d.next c (step_at d c + 1) known))
              (subst (λ (xs : List Passing). All (λ m. m.step < step_at d c + 1) xs) (sym own_then)
              (All-append (λ (x : Passing). x.step < step_at d c + 1) ms (m ∷ [])
              (before_more ms (step_at d c) (step_at d c + 1) (omega arith) (h.logged_before c))
              (All-cons (λ (x : Passing). x.step < step_at d c + 1) m [] (omega arith)
              (All-nil (λ (x : Passing). x.step < step_at d c + 1))))))
          | inr other ↦ subst (λ (n : ℕ). All (λ m. m.step < n) (by_caller x (passings_on session later p)))
              (sym (step_other d.next c x (step_at d c + 1) other))
              (subst (λ (xs : List Passing). All (λ m. m.step < step_at d x) xs) (sym (other_then x other))
              (h.logged_before x))
        ];
      }

  -- ---- the end of a caller's calls

  pub last_goes_on : (log : JobLog) (old new : PortValue) (d : DeskValue) (ticks : ℕ) (was now : Stand) (place : ℕ)
      (r : Role)
      → IsPlayingJobs first session scripts roles start log old d ticks was
      → d.due ≡ []
      → IsTurn (is_of_consoles first.session) old (role_numbers roles) was.going (turn.Call place)
      → slice_get roles place ≡ Some r
      → begun_at old r.number ≡ false
      → EndsCalls roles old new place
      → PlaysLast roles old new was now place
      → IsPlayingJobs first session scripts roles start log new d ticks now
  last_goes_on log old new d ticks was now place r h idle is at rest ends plays =
      let mine = passings_with session log p d (begun_at old) in
      let s = scene_on p h.playing.has.session in
      let in_it = in_last first phases scripts roles start mine old ticks was place r h.playing is at rest in
      let on : PlaysOnIn HasAnyOrder s (scripts s) roles old new was now = (plays.each in_it).on in
      let added : new.journal ≡ old.journal ++ end_entry old ends.role.number ∷ [] =
      ap (λ (v : PortValue). v.journal) ends.appends.appended in
      let entry : end_entry old ends.role.number ≡ on.adds.entry =
      same_entry old.journal (end_entry old ends.role.number) on.adds.entry (sym added ∙ on.adds.added) in
      let none : is_of_call on.adds.entry.event ≡ false = sym (ap (λ (e : PlainEntry). is_of_call e.event) entry) in
      let kept : new.kept ≡ old.kept = ap (λ (v : PortValue). v.kept) ends.appends.appended in
      let by : ComesBy old new (on.adds.entry ∷ []) =
      comes s old new (on.adds.entry ∷ []) in_it.in_turn.plays.of_scene on.plays.of_scene on.adds.added
      (kept_grows old new kept) in
      record {
        playing = plays_as HasOneOrder first phases scripts roles start ticks
            mine (passings_with session log p d (begun_at new)) new now
            (λ c. ap (λ (b : Bool). by_caller c (passings_on session log p) ++ tail b (next_passing session p d c))
            (sym (begun_still s old new on.adds c none)))
            (last_on first phases scripts roles start mine old
            new ticks was now place r h.playing is at rest ends plays);
        desk = idle_stays log old new d (on.adds.entry ∷ []) idle by
            (λ c. begun_by_none s old new on.adds c none) h.desk;
        logged_before = h.logged_before;
      }

  -- ---- the end of a process that leads the session

  abbrev with_hangup : JobLog → DeskValue → PortValue → (c h : ℕ) → ℕ → List Passing
  with_hangup log d v c h = hangup_with session log p d v c h

  pub hangup_begins : (log : JobLog) (v : PortValue) (d : DeskValue) (ticks : ℕ) (stand : Stand) (place : ℕ) (r : Role)
      (handle : ℕ)
      → IsPlayingJobs first session scripts roles start log v d ticks stand
      → IsTurn (is_of_consoles first.session) v (role_numbers roles) stand.going (turn.Call place)
      → slice_get roles place ≡ Some r
      → begun_at v r.number ≡ false
      → IsOfBlocks p phases first.session
      → AreBlocksWithin first.session.ports first.session.flips phases
      → IsCallWithin (hangs_up handle)
      → AreLoggedBefore session log p r.number (latest_on log p)
      → begin_of p phases v.terminal.phase r.number ≤ latest_on log p
      → latest_on log p < begin_of p phases (v.terminal.phase + 1) r.number
      → IsCalling first phases scripts roles start (with_hangup log d v r.number handle) v ticks stand place
      (hangs_up handle)
  hangup_begins log v d ticks stand place r handle h is at rest blocks limits good before low high =
      let c = r.number in
      let mine = passings_with session log p d (begun_at v) in
      let m = hangup_of log p c handle in
      more_is_next HasOneOrder first phases scripts roles start ticks mine (with_hangup log d v c handle) m v stand
      place r
      (hangs_up handle) h.playing (can_take first roles v stand (turn.Call place) is) at rest blocks limits
      (passes_then mine c m) refl refl good
      (subst (λ (xs : List Passing). All (λ x. x.step < m.step) xs)
      (sym (rests_at (logged log) (next_passing session p d) v c rest)) before) low high

  pub hangup_goes_on : (log : JobLog) (old new : PortValue) (d : DeskValue) (ticks : ℕ) (was now : Stand) (place : ℕ)
      (r : Role) (handle : ℕ)
      → IsPlayingJobs first session scripts roles start log old d ticks was
      → IsCalling first phases scripts roles start (with_hangup log d old r.number handle) old ticks was place
      (hangs_up handle)
      → IsTurn (is_of_consoles first.session) old (role_numbers roles) was.going (turn.Call place)
      → slice_get roles place ≡ Some r
      → begun_at old r.number ≡ false
      → d.due ≡ passed_down r.number handle ∷ []
      → latest_on log p < step_at d r.number
      → TriesCall roles old new place (hangs_up handle) (done_by done)
      → PlaysCall roles old new was now place (hangs_up handle)
      → IsPlayingJobs first session scripts roles start
      (log ++ record { port = p; at = length new.journal; event = passed_down r.number handle } ∷ []) new
      (record d { due = [] }) ticks now
  hangup_goes_on log old new d ticks was now place r handle h calling is at idle is_due below tries plays =
      let c = r.number in
      let call = hangs_up handle in
      let tried = done_by done in
      let mine = passings_with session log p d (begun_at old) in
      let more = with_hangup log d old c handle in
      let m = hangup_of log p c handle in
      let ms = by_caller c (passings_on session log p) in
      let event : JobEvent = passed_down c handle in
      let later = log ++ record { port = p; at = length new.journal; event = event } ∷ [] in
      let late : DeskValue = record d { due = [] } in
      let s = scene_on p calling.has.session in
      let in_it = in_call first phases scripts roles start more old ticks was place call calling is in
      let on : PlaysOnIn HasAnyOrder s (scripts s) roles old new was now = (plays.each in_it).on in
      let makes = makes_as roles old new place r call at tried tries in
      let attempts = attempts_as roles old new place r call at tried tries in
      let by : ComesBy old new (on.adds.entry ∷ []) =
      comes s old new (on.adds.entry ∷ []) in_it.in_turn.plays.of_scene on.plays.of_scene on.adds.added makes.grows in
      let rest : begun_at new c ≡ false = ended_now old new c call makes s on.adds done attempts in
      let own_then : by_caller c (passings_on session later p) ≡ ms ++ m ∷ [] =
      by_own session log p (length new.journal) c event m refl refl in
      let other_then : (x : ℕ)
      → (x ≡ c → ⊥)
      → by_caller x (passings_on session later p) ≡ by_caller x (passings_on session log p) =
      λ x other. by_other session log p (length new.journal) x event m refl (λ e. other (sym e)) in
      let elsewhere : (x : ℕ) → (x ≡ c → ⊥) → more x ≡ passings_with session later p late (begun_at new) x =
      λ x other.
      (passes_then mine c m).others x other
      ∙ (ap (λ (b : Bool). by_caller x (passings_on session log p) ++ tail b (next_passing session p d x))
      (sym (begun_same s old new on.adds x (other_is old new c call makes s on.adds x other)))
      ∙ ap (λ (xs : List Passing). xs ++ tail (begun_at new x) (next_passing session p d x)) (sym (other_then x other)))
      in
      let here : more c ≡ passings_with session later p late (begun_at new) c =
      (passes_then mine c m).own ∙ (ap (λ (xs : List Passing). xs ++ m ∷ [])
      (rests_at (logged log) (next_passing session p d) old c idle)
      ∙ (sym own_then ∙ sym (rests_at (logged later) (next_passing session p late) new c rest))) in
      let had : (x : ℕ) → HadBegun old new x =
      λ x. elim (cases_eq x c) [
        | inl own_one ↦ λ begun. absurd (false≢true (sym rest ∙ (ap (begun_at new) (sym own_one) ∙ begun)))
        | inr other ↦ begun_elsewhere s old new on.adds x (other_is old new c call makes s on.adds x other)
      ] in
      record {
        playing = plays_as HasOneOrder first phases scripts roles start ticks
            more (passings_with session later p late (begun_at new)) new now
            (λ x. elim (cases_eq x c) [
              | inl own_one ↦
                  subst (λ (y : ℕ). more y ≡ passings_with session later p late (begun_at new) y) (sym own_one) here
              | inr other ↦ elsewhere x other
            ]) (call_on first phases scripts roles start more old
            new ticks was now place call tried calling is tries plays);
        desk = desk_hangs_up first session log old new on.adds.entry d.jobs d.next d.signals c
            (caller_at old.terminal c).next handle [] by had
            (subst (λ (es : List JobEvent). IsDeskAt first session log old d.jobs d.next d.signals es) is_due h.desk)
            makes.kept
            (was_answered old new c call makes s on.adds done attempts);
        logged_before = λ x. elim (cases_eq x c) [
          | inl own_one ↦ subst (λ (y : ℕ). AreLoggedBefore session later p y (step_at late y)) (sym own_one)
              (subst (λ (xs : List Passing). All (λ m. m.step < step_at d c) xs) (sym own_then)
              (All-append (λ (x : Passing). x.step < step_at d c) ms (m ∷ []) (h.logged_before c)
              (All-cons (λ (x : Passing). x.step < step_at d c) m [] below
              (All-nil (λ (x : Passing). x.step < step_at d c)))))
          | inr other ↦ subst (λ (xs : List Passing). All (λ m. m.step < step_at d x) xs) (sym (other_then x other))
              (h.logged_before x)
        ];
      }
