-- A call of a caller's turn that is for the port.
use Rattle.std.proofs.Common.{◌≡◌, ◌≤◌, ◌<◌, ◌⊎◌, ℕ, ◌-◌, ◌^◌, Bool, true, false, List, [], ◌∷◌, ◌++◌, Option, None}
use Rattle.std.proofs.Common.{Some, length, get_or, if◌then◌else◌, refl, sym, ap, ◌∙◌, subst, arith, length-append}
use Rattle.std.specs.Prelude.{slice_index_or}
use Rattle.std.proofs.lemmas.Bool.{false≢true}
use Rattle.std.proofs.lemmas.Option.{get_or_from_slice_get}
use Rattle.tty_base.specs.declared.counters.Signal.{Signal}
use Rattle.tty_calls.specs.Plain.{PlainCall, opens, closes, reads, writes, gets_modes, sets_modes, gets_disc, sets_disc}
use Rattle.tty_calls.specs.Plain.{flushes, steers, counts_input, counts_output, excludes, admits, drains, gets_counts}
use Rattle.tty_calls.specs.Plain.{hangs_up, sends_packet, takes_packet, PlainAnswer, done, count_is, got, number_is}
use Rattle.tty_calls.specs.Plain.{modes_are, counts_are, refused, idle, PlainEvent, answered, parted, waited, flushed}
use Rattle.tty_calls.specs.Plain.{ticked, line_ended, clock_ended, caller_ended, phase_ended, hung_up, PlainEntry}
use Rattle.tty_terminal.specs.Terminals.{opening}
use Rattle.tty_terminal.specs.Runs.{is_flush, is_of_call}
use Rattle.passed_calls.specs.Journals.{Journal}
use Rattle.port_core.specs.Attempts.{PlainTried, done_by, took_part, must_wait}
use Rattle.port_core.specs.Ports.{PortValue, IsPort, IsOpen}
use Rattle.play_base.specs.Scenes.{HasAnyOrder}
use Rattle.one_thread.specs.Turns.{PlaysOnIn}
use Rattle.one_thread.specs.Acts.{InCall, TriesCall, PlaysCall}
use Rattle.play_base.specs.declared.roles.Role.{Role}
use Rattle.one_thread.specs.declared.after_line.Stand.{Stand}
use Rattle.one_thread.specs.declared.after_line.Turn.TheVariants as turn
use Rattle.job_control.specs.Control.{JobState, let_go, leader_of}
use Rattle.job_control.specs.declared.answers.Target.TheVariants as towards
use Rattle.job_control.specs.declared.processes.JobSignal.TheVariants.{Hup, Cont}
use Rattle.job_steps.specs.Derived.{block_phases}
use Rattle.job_text.specs.Events.{JobEvent, passed, sent, JobLog}
use Rattle.job_steps.specs.Steps.{told_leader}
use Rattle.job_one.specs.Desk.{signals_of, jobs_passed, due_passed}
use Rattle.job_one.specs.Events.{DeskState, noted, told_at, leader_told, is_hangup_done}
use Rattle.job_one.specs.Events.{answered_by_port, answered as answered_in}
use Rattle.job_one.specs.Between.{value_at}
use Rattle.order_laws.specs.Begun.{begun_with}
use Rattle.job_one.specs.Playing.{DeskValue, passings_with, IsPlayingJobs}
use Rattle.job_one.specs.Frames.{Frame, IsAtTurn, IsNextTurn, IsForPort}
use Rattle.order_laws.specs.Begun.{WereOver}
use Rattle.order_laws.specs.Left.{HasGone}
use Rattle.job_one.specs.Taken.{Advances, TakesCall}
use Rattle.order_laws.proofs.Witnessed.{in_call}
use Rattle.order_laws.proofs.Attempted.{call_is}
use Rattle.order_laws.proofs.Overs.{over_call}
use Rattle.job_one.proofs.Phasing.{signals_stay}
use Rattle.job_one.proofs.Begins.{step_in_phase}
use Rattle.job_one.proofs.Turning.{due_goes_on, call_waits, call_answered}

-- what an answer makes of job control and of what is due, as the desk makes it
record IsAnswered (jobs : JobState) (call : PlainCall) (answer : PlainAnswer) : Type 0 where
  jobs_are : jobs_passed jobs call answer ≡ (if is_hangup_done call answer then let_go jobs else jobs)
  due_are : due_passed jobs call answer ≡ (if is_hangup_done call answer then told_leader (leader_of jobs) else [])

is_answered : (jobs : JobState) (call : PlainCall) (answer : PlainAnswer) → IsAnswered jobs call answer
is_answered jobs (opens h access nonblock) answer = record { jobs_are = refl; due_are = refl }
is_answered jobs (closes h) answer = record { jobs_are = refl; due_are = refl }
is_answered jobs (reads h n) answer = record { jobs_are = refl; due_are = refl }
is_answered jobs (writes h bytes) answer = record { jobs_are = refl; due_are = refl }
is_answered jobs (gets_modes h) answer = record { jobs_are = refl; due_are = refl }
is_answered jobs (sets_modes h when words) answer = record { jobs_are = refl; due_are = refl }
is_answered jobs (gets_disc h) answer = record { jobs_are = refl; due_are = refl }
is_answered jobs (sets_disc h number) answer = record { jobs_are = refl; due_are = refl }
is_answered jobs (flushes h queue) answer = record { jobs_are = refl; due_are = refl }
is_answered jobs (steers h act) answer = record { jobs_are = refl; due_are = refl }
is_answered jobs (counts_input h) answer = record { jobs_are = refl; due_are = refl }
is_answered jobs (counts_output h) answer = record { jobs_are = refl; due_are = refl }
is_answered jobs (excludes h) answer = record { jobs_are = refl; due_are = refl }
is_answered jobs (admits h) answer = record { jobs_are = refl; due_are = refl }
is_answered jobs (drains h) answer = record { jobs_are = refl; due_are = refl }
is_answered jobs (gets_counts h) answer = record { jobs_are = refl; due_are = refl }
is_answered jobs (sends_packet h bytes) answer = record { jobs_are = refl; due_are = refl }
is_answered jobs (takes_packet h) answer = record { jobs_are = refl; due_are = refl }
is_answered jobs (hangs_up h) done = record { jobs_are = refl; due_are = refl }
is_answered jobs (hangs_up h) (count_is taken) = record { jobs_are = refl; due_are = refl }
is_answered jobs (hangs_up h) (got bytes) = record { jobs_are = refl; due_are = refl }
is_answered jobs (hangs_up h) (number_is n) = record { jobs_are = refl; due_are = refl }
is_answered jobs (hangs_up h) (modes_are modes) = record { jobs_are = refl; due_are = refl }
is_answered jobs (hangs_up h) (counts_are counts) = record { jobs_are = refl; due_are = refl }
is_answered jobs (hangs_up h) (refused errno) = record { jobs_are = refl; due_are = refl }
is_answered jobs (hangs_up h) idle = record { jobs_are = refl; due_are = refl }

-- any journal names the session's calls
nothing : Journal
nothing = record { entries = []; calls = λ c step. None; opening = opening 0 0 }

-- an entry of a call is no flush
pub call_no_flush : (event : PlainEvent) → is_of_call event ≡ true → is_flush event ≡ false
call_no_flush (answered a dropped) e = refl
call_no_flush (parted n) e = refl
call_no_flush waited e = refl
call_no_flush (flushed chars) e = absurd (false≢true e)
call_no_flush ticked e = absurd (false≢true e)
call_no_flush (line_ended n) e = absurd (false≢true e)
call_no_flush clock_ended e = absurd (false≢true e)
call_no_flush caller_ended e = absurd (false≢true e)
call_no_flush phase_ended e = absurd (false≢true e)
call_no_flush (hung_up dropped) e = absurd (false≢true e)

module _ (f : Frame) (roles : List Role) where
  -- the player with this log, and these events due
  abbrev Plays : PortValue → Stand → JobLog → DeskValue → Type 0
  Plays v now log d = IsPlayingJobs f.first f.session f.scripts roles f.start log v d f.ticks now

  pub in_call_at : (v : PortValue) (d : DeskState) (stand : Stand) (place : ℕ) (call : PlainCall)
      → IsForPort f roles v d stand place call
      → IsNextTurn f roles v stand (turn.Call place)
      → InCall roles v stand place call
  in_call_at v d stand place call h is =
      in_call f.first (block_phases f.session) f.scripts roles f.start
      (passings_with f.session d.log f.first.port (value_at d) (begun_with v h.role.number))
      v f.ticks stand place call h.calling is

  at_role : (v : PortValue) (d : DeskState) (stand : Stand) (place : ℕ) (call : PlainCall) (r : Role)
      → (h : IsForPort f roles v d stand place call)
      → get_or roles place r ≡ h.role
  at_role v d stand place call r h = get_or_from_slice_get roles place h.role r h.at_place

  pub known_at : (v : PortValue) (d : DeskState) (stand : Stand) (place : ℕ) (call : PlainCall) (r : Role)
      → IsForPort f roles v d stand place call
      → (get_or roles place r).number < length d.next
  known_at v d stand place call r h =
      subst (λ (x : Role). x.number < length d.next) (sym (at_role v d stand place call r h)) h.known

  pub few_at : (v : PortValue) (d : DeskState) (stand : Stand) (place : ℕ) (call : PlainCall) (r : Role)
      → IsForPort f roles v d stand place call
      → slice_index_or d.next (get_or roles place r).number 0 < 2 ^ 32 - 1
  few_at v d stand place call r h =
      subst (λ (x : Role). slice_index_or d.next x.number 0 < 2 ^ 32 - 1) (sym (at_role v d stand place call r h)) h.few

  still_at : (old new : PortValue) (d : DeskState) (was now : Stand) (place : ℕ) (call : PlainCall) (tried : PlainTried)
      → IsForPort f roles old d was place call
      → IsNextTurn f roles old was (turn.Call place)
      → IsPort old
      → IsPort new
      → TriesCall roles old new place call tried
      → PlaysCall roles old new was now place call
      → signals_of new.terminal ≡ signals_of old.terminal
  still_at old new d was now place call tried h is port later tries plays =
      let at = in_call_at old d was place call h is in
      let on : PlaysOnIn HasAnyOrder at.in_turn.scene at.in_turn.scripts roles old new was now = (plays.each at).on in
      let m = tries.makes in
      signals_stay old new m.entry port later
      (record {
        added = m.added;
        grows = m.grows;
        counts = on.plays.of_scene.counts ∙ sym at.in_turn.plays.of_scene.counts;
        capacity = on.plays.of_scene.capacity ∙ sym at.in_turn.plays.of_scene.capacity;
      }) (call_no_flush m.entry.event m.of_call)

  -- where the call is not answered
  pub waits_at : (old new : PortValue) (d : DeskState) (was now : Stand) (place : ℕ) (call : PlainCall)
      (tried : PlainTried)
      → IsAtTurn f roles old d was
      → (h : IsForPort f roles old d was place call)
      → IsNextTurn f roles old was (turn.Call place)
      → IsPort old
      → IsPort new
      → (tried ≡ must_wait) ⊎ (tried ≡ took_part)
      → TriesCall roles old new place call tried
      → PlaysCall roles old new was now place call
      → IsAtTurn f roles new d now
  waits_at old new d was now place call tried at h is port later waits tries plays = record {
    number = at.number;
    playing = call_waits f.first f.session f.scripts roles f.start d.log old new (value_at d) f.ticks was now place
        h.role call tried nothing at.playing refl h.calling is h.at_place port h.has h.goes_on waits tries plays;
    all_sent = subst (λ (ss : List Signal). length ss ≤ d.sent)
        (sym (still_at old new d was now place call tried h is port later tries plays)) at.all_sent;
  }

  -- the leader is told, where there is one
  told_by : (v : PortValue) (now : Stand) (x : DeskState) (leader : Option ℕ)
      → f.first.port ≡ x.number
      → Plays v now x.log (record { jobs = x.jobs; next = x.next; signals = x.sent; due = told_leader leader })
      → Plays v now (told_at x (length v.journal) leader).log (value_at (told_at x (length v.journal) leader))
  told_by v now x None number h = h
  told_by v now x (Some leader) number h =
      let n = length v.journal in
      let one = due_goes_on f.first f.session f.scripts roles f.start x.log v
      (record { jobs = x.jobs; next = x.next; signals = x.sent; due = told_leader (Some leader) }) f.ticks now Hup
      (towards.Process leader) (sent Cont (towards.Process leader) ∷ []) h refl in
      let one_at : Plays v now (noted x n (sent Hup (towards.Process leader))).log
      (record { jobs = x.jobs; next = x.next; signals = x.sent; due = sent Cont (towards.Process leader) ∷ [] }) =
      subst (λ (p : ℕ). Plays v now
      (x.log ++ record { port = p; at = n; event = sent Hup (towards.Process leader) } ∷ [])
      (record { jobs = x.jobs; next = x.next; signals = x.sent; due = sent Cont (towards.Process leader) ∷ [] }))
      number one in
      let two = due_goes_on f.first f.session f.scripts roles f.start
      (noted x n (sent Hup (towards.Process leader))).log v
      (record { jobs = x.jobs; next = x.next; signals = x.sent; due = sent Cont (towards.Process leader) ∷ [] }) f.ticks
      now Cont (towards.Process leader) [] one_at refl in
      subst (λ (p : ℕ). Plays v now
      ((noted x n (sent Hup (towards.Process leader))).log
      ++ record { port = p; at = n; event = sent Cont (towards.Process leader) } ∷ [])
      (value_at x)) number two

  -- the same at a desk with or without a leader
  told_number : (x : DeskState) (at : ℕ) (leader : Option ℕ) → (told_at x at leader).number ≡ x.number
  told_number x at None = refl
  told_number x at (Some leader) = refl

  told_sent : (x : DeskState) (at : ℕ) (leader : Option ℕ) → (told_at x at leader).sent ≡ x.sent
  told_sent x at None = refl
  told_sent x at (Some leader) = refl

  -- by the answer, with what it makes due
  settles : (v : PortValue) (now : Stand) (d x : DeskState) (hung_up : Bool)
      → f.first.port ≡ x.number
      → x.jobs ≡ d.jobs
      → length (signals_of v.terminal) ≤ x.sent
      → Plays v now x.log
      (record {
        jobs = if hung_up then let_go d.jobs else d.jobs;
        next = x.next;
        signals = x.sent;
        due = if hung_up then told_leader (leader_of d.jobs) else [];
      })
      → IsAtTurn f roles v (if hung_up then leader_told x (length v.journal) else x) now
  settles v now d x true number same few h =
      let y : DeskState = record x { jobs = let_go x.jobs } in
      let n = length v.journal in
      let begins = subst (λ (jobs : JobState). Plays v now x.log
      (record { jobs = let_go jobs; next = x.next; signals = x.sent; due = told_leader (leader_of jobs) }))
      (sym same) h in
      record {
        number = number ∙ sym (told_number y n (leader_of x.jobs));
        playing = told_by v now y (leader_of x.jobs) number begins;
        all_sent = omega (arith, few, told_sent y n (leader_of x.jobs));
      }
  settles v now d x false number same few h = record {
    number = number;
    playing = subst
        (λ (jobs : JobState). Plays v now x.log (record { jobs = jobs; next = x.next; signals = x.sent; due = [] }))
        (sym same) h;
    all_sent = few;
  }

  pub answered_at : (old new : PortValue) (d x : DeskState) (was now : Stand) (place : ℕ) (call : PlainCall)
      (answer : PlainAnswer) (r : Role)
      → IsAtTurn f roles old d was
      → (h : IsForPort f roles old d was place call)
      → IsNextTurn f roles old was (turn.Call place)
      → IsPort old
      → IsPort new
      → TriesCall roles old new place call (done_by answer)
      → PlaysCall roles old new was now place call
      → x ≡ answered_in d (length new.journal) (get_or roles place r).number call answer
      → IsAtTurn f roles new x now
  answered_at old new d x was now place call answer r at h is port later tries plays said =
      let c = h.role.number in
      let n = length new.journal in
      let y : DeskState = answered_by_port d n c answer in
      let are = is_answered d.jobs call answer in
      let on = call_answered f.first f.session f.scripts roles f.start d.log old new (value_at d) f.ticks was now place
      h.role call answer nothing at.playing h.calling is h.at_place
      port later refl at.all_sent h.known h.has
      (step_in_phase f.first.port f.session f.start.terminal.phase c (slice_index_or d.next c 0) h.from h.to)
      h.goes_on tries plays in
      let on_desk : Plays new now y.log
      (record {
        jobs = jobs_passed d.jobs call answer;
        next = y.next;
        signals = d.sent;
        due = due_passed d.jobs call answer;
      }) =
      subst (λ (p : ℕ). Plays new now
      (d.log ++ record { port = p; at = n; event = passed c (slice_index_or d.next c 0) answer } ∷ [])
      (record {
        jobs = jobs_passed d.jobs call answer;
        next = y.next;
        signals = d.sent;
        due = due_passed d.jobs call answer;
      })) at.number on in
      let by_test = subst (λ (jobs : JobState). Plays new now y.log
      (record { jobs = jobs; next = y.next; signals = d.sent; due = due_passed d.jobs call answer }))
      are.jobs_are on_desk in
      let by_due = subst (λ (es : List JobEvent). Plays new now y.log
      (record {
        jobs = if is_hangup_done call answer then let_go d.jobs else d.jobs;
        next = y.next;
        signals = d.sent;
        due = es;
      })) are.due_are by_test in
      let is_x : x ≡ answered_in d n c call answer =
      said ∙ ap (λ (q : Role). answered_in d n q.number call answer) (at_role old d was place call r h) in
      subst (λ (z : DeskState). IsAtTurn f roles new z now) (sym is_x)
      (settles new now d y (is_hangup_done call answer) at.number refl
      (subst (λ (ss : List Signal). length ss ≤ d.sent)
      (sym (still_at old new d was now place call (done_by answer) h is port later tries plays)) at.all_sent) by_due)

  -- ---- what the attempt leaves

  gone_at : (old new : PortValue) (d : DeskState) (was : Stand) (place : ℕ) (call : PlainCall) (tried : PlainTried)
      → IsForPort f roles old d was place call
      → IsNextTurn f roles old was (turn.Call place)
      → IsOpen old
      → TriesCall roles old new place call tried
      → HasGone false old new
  gone_at old new d was place call tried h is room tries =
      let at = in_call_at old d was place call h is in
      let m = tries.makes in (
        omega (arith, room.0, at.in_turn.plays.of_scene.limit),
        ap (λ (es : List PlainEntry). length es) m.added ∙ length-append old.journal (m.entry ∷ []),
      )

  over_at : (old new : PortValue) (d : DeskState) (was now : Stand) (place : ℕ) (call : PlainCall) (tried : PlainTried)
      → IsForPort f roles old d was place call
      → IsNextTurn f roles old was (turn.Call place)
      → TriesCall roles old new place call tried
      → PlaysCall roles old new was now place call
      → (c : ℕ)
      → WereOver old new c
  over_at old new d was now place call tried h is tries plays c =
      let at = in_call_at old d was place call h is in
      let on : PlaysOnIn HasAnyOrder at.in_turn.scene at.in_turn.scripts roles old new was now = (plays.each at).on in
      over_call at.in_turn.scene old new on.adds c
      (call_is old new tries.role.number call tries.makes at.in_turn.scene on.adds)

  told_advances : (d x : DeskState) (at c : ℕ) (leader : Option ℕ)
      → Advances true c d x
      → Advances true c d (told_at x at leader)
  told_advances d x at c None h = h
  told_advances d x at c (Some leader) h = record { callers = h.callers; procs = h.procs; next = h.next }

  answered_advances : (d : DeskState) (at c : ℕ) (answer : PlainAnswer) (hung_up : Bool)
      → Advances true c d
      (if hung_up then leader_told (answered_by_port d at c answer) at else answered_by_port d at c answer)
  answered_advances d at c answer true =
      let y : DeskState = answered_by_port d at c answer in
      told_advances d (record y { jobs = let_go y.jobs }) at c (leader_of y.jobs)
      (record { callers = refl; procs = refl; next = refl })
  answered_advances d at c answer false = record { callers = refl; procs = refl; next = refl }

  pub takes_waiting : (old new : PortValue) (d : DeskState) (was now : Stand) (place : ℕ) (call : PlainCall)
      (tried : PlainTried)
      → IsAtTurn f roles old d was
      → (h : IsForPort f roles old d was place call)
      → IsNextTurn f roles old was (turn.Call place)
      → IsPort old
      → IsPort new
      → IsOpen old
      → (tried ≡ must_wait) ⊎ (tried ≡ took_part)
      → TriesCall roles old new place call tried
      → PlaysCall roles old new was now place call
      → TakesCall f roles place old new d d (record { answered = false; stand = now })
  takes_waiting old new d was now place call tried at h is port later room waits tries plays = record {
    at = waits_at old new d was now place call tried at h is port later waits tries plays;
    desk = λ r r_at. record { callers = refl; procs = refl; next = refl };
    over = over_at old new d was now place call tried h is tries plays;
    gone = gone_at old new d was place call tried h is room tries;
  }

  pub takes_answered : (old new : PortValue) (d x : DeskState) (was now : Stand) (place : ℕ) (call : PlainCall)
      (answer : PlainAnswer) (r : Role)
      → IsAtTurn f roles old d was
      → (h : IsForPort f roles old d was place call)
      → IsNextTurn f roles old was (turn.Call place)
      → IsPort old
      → IsPort new
      → IsOpen old
      → TriesCall roles old new place call (done_by answer)
      → PlaysCall roles old new was now place call
      → x ≡ answered_in d (length new.journal) (get_or roles place r).number call answer
      → TakesCall f roles place old new d x (record { answered = true; stand = now })
  takes_answered old new d x was now place call answer r at h is port later room tries plays said =
      let gone = gone_at old new d was place call (done_by answer) h is room tries in
      record {
        at = answered_at old new d x was now place call answer r at h is port later tries plays said;
        desk = λ q q_at.
            subst (λ (z : DeskState). Advances true q.number d z) (sym (said
            ∙ ap (λ (z : Role). answered_in d (length new.journal) z.number call answer)
            (get_or_from_slice_get roles place q r q_at)))
            (answered_advances d (length new.journal) q.number answer (is_hangup_done call answer));
        over = over_at old new d was now place call (done_by answer) h is tries plays;
        gone = omega (arith, gone.1);
      }
