-- The hangup for a process that has ended.
use Rattle.std.proofs.Common.{◌≡◌, ◌≤◌, ◌<◌, ℕ, ◌+◌, true, false, List, [], ◌∷◌, ◌++◌}
use Rattle.std.proofs.Common.{Option, None, Some, length, map, get_or}
use Rattle.std.proofs.Common.{refl, sym, ap, ◌∙◌, subst, arith, length-append}
use Rattle.std.specs.Prelude.{All, position, slice_get, slice_index_or}
use Rattle.std.specs.Option.{option_to_list}
use Rattle.std.proofs.lemmas.Option.{get_or_from_slice_get, same_Some}
use Rattle.std.proofs.lemmas.List.Quantifiers.{position-Some}
use Rattle.tty_base.specs.Sizes.{MOST_HANDLES}
use Rattle.tty_base.specs.declared.counters.Signal.{Signal}
use Rattle.tty_calls.specs.Plain.{hangs_up, done, PlainEntry}
use Rattle.handle_table.specs.Handles.{is_live}
use Rattle.port_core.specs.Attempts.{PlainTried, done_by}
use Rattle.port_core.specs.Ports.{PortValue, IsPort, IsOpen}
use Rattle.one_thread.specs.Acts.{InCall, TriesCall, PlaysCall}
use Rattle.play_base.specs.Scenes.{HasAnyOrder}
use Rattle.one_thread.specs.Turns.{PlaysOnIn}
use Rattle.play_base.specs.declared.roles.Role.{Role}
use Rattle.one_thread.specs.declared.after_line.Stand.{Stand}
use Rattle.one_thread.specs.declared.after_line.Turn.TheVariants as turn
use Rattle.job_control.specs.declared.answers.JobAnswer.{JobAnswer}
use Rattle.job_control.specs.Control.{JobState}
use Rattle.passed_calls.specs.Derived.{Passing, by_caller}
use Rattle.job_text.specs.Events.{JobEvent, own, passed, passed_down, sent}
use Rattle.job_text.specs.Sessions.{JobCall, JobsSession}
use Rattle.job_text.specs.declared.calls.OwnCall.{OwnCall}
use Rattle.passed_calls.specs.Scripts.{further}
use Rattle.job_steps.specs.Steps.{ControlOutcome as Came, outcome_of as comes_to}
use Rattle.job_steps.specs.Derived.{block_phases, passings_on}
use Rattle.job_one.specs.declared.controls.Due.{Due}
use Rattle.job_one.specs.declared.controls.Due.TheVariants as due
use Rattle.job_one.specs.Controls.{due_events, hangup_due}
use Rattle.order_laws.specs.Passed.{begin_of}
use Rattle.job_one.specs.Latest.{latest_on}
use Rattle.job_one.specs.Desk.{proc_in, signals_of}
use Rattle.job_one.specs.Events.{DeskState, noted, all_noted, AreSignals, answered_own, own_outcome, controlled}
use Rattle.job_one.specs.Between.{value_at}
use Rattle.order_laws.specs.Begun.{begun_at}
use Rattle.job_one.specs.Playing.{AreLoggedBefore, hangup_with, IsPlayingJobs}
use Rattle.job_one.specs.Frames.{Frame, IsOwing, IsAtTurn, IsNextTurn, IsHangingUp}
use Rattle.job_one.specs.AfterLine.{IsFrameWithin}
use Rattle.job_one.specs.Taken.{Advances, IsNextOf, TakesCall, TakesNoCall}
use Rattle.order_laws.proofs.Attempted.{attempts_as, call_is, makes_as}
use Rattle.job_one.proofs.Following.{latest_is}
use Rattle.live_handles.proofs.HandleNumbers.{are_numbers}
use Rattle.order_laws.proofs.Steps.{step_own}
use Rattle.job_one.proofs.Mine.{logged_more}
use Rattle.job_one.proofs.NextCalls.{phase_is, own_call_of, rests_own}
use Rattle.job_one.proofs.OwnTurns.{all_as, procs_same, own_owing, own_advances, takes_own}
use Rattle.order_laws.proofs.Overs.{over_call}
use Rattle.job_one.proofs.Phasing.{signals_stay}
use Rattle.job_one.proofs.CallTurns.{call_no_flush}
use Rattle.job_one.proofs.Turning.{hangup_begins, hangup_goes_on}
use Rattle.order_laws.proofs.Witnessed.{in_call}
use Rattle.order_laws.proofs.Hangups.{is_done}

-- ---- what is due is signals, and a hangup behind them

abbrev pub hangups : (c : ℕ) → Option ℕ → List JobEvent
hangups c handle = map (passed_down c) (option_to_list handle)

pub due_parts : (d : Due) (c : ℕ) (least : Option ℕ)
    → due_events d c least ≡ due_events d c None ++ hangups c (hangup_due d least)
due_parts due.Nothing c least = refl
due_parts (due.Signal signal target) c least = refl
due_parts (due.Left target) c least = refl
due_parts (due.Ended target) c least = refl

pub signals_due : (d : Due) (c : ℕ) → AreSignals (due_events d c None)
signals_due due.Nothing c = tt
signals_due (due.Signal signal target) c = tt
signals_due (due.Left target) c = tt
signals_due (due.Ended target) c = tt

least_is : (d : Due) (least : Option ℕ) (h : ℕ) → hangup_due d least ≡ Some h → least ≡ Some h
least_is due.Nothing least h e = absurd (cc)
least_is (due.Signal signal target) least h e = absurd (cc)
least_is (due.Left target) least h e = absurd (cc)
least_is (due.Ended target) least h e = e

-- ---- the log behind its end

-- signals tell nothing of steps
latest_sent : (x : DeskState) (at : ℕ) (es : List JobEvent)
    → AreSignals es
    → latest_on (all_noted x at es).log x.number ≡ latest_on x.log x.number
latest_sent x at [] are = refl
latest_sent x at (own c step answer ∷ es) are = absurd are
latest_sent x at (passed c step answer ∷ es) are = absurd are
latest_sent x at (passed_down c h ∷ es) are = absurd are
latest_sent x at (sent signal target ∷ es) are =
    latest_sent (noted x at (sent signal target)) at es are ∙ latest_is x.log x.number at (sent signal target)

passings_sent : (session : JobsSession) (x : DeskState) (at : ℕ) (es : List JobEvent)
    → AreSignals es
    → passings_on session (all_noted x at es).log x.number ≡ passings_on session x.log x.number
passings_sent session x at [] are = refl
passings_sent session x at (own c step answer ∷ es) are = absurd are
passings_sent session x at (passed c step answer ∷ es) are = absurd are
passings_sent session x at (passed_down c h ∷ es) are = absurd are
passings_sent session x at (sent signal target ∷ es) are =
    passings_sent session (noted x at (sent signal target)) at es are
    ∙ logged_more session x.log x.number at (sent signal target) refl

module _ (d x : DeskState) (at c : ℕ) (answer : JobAnswer) (left : JobState) (es : List JobEvent) (are : AreSignals es)
    (said : x ≡ all_noted (record (answered_own d at c answer) { jobs = left }) at es) where
  abbrev step : ℕ
  step = slice_index_or d.next c 0

  abbrev y : DeskState
  y = record (answered_own d at c answer) { jobs = left }

  pub latest_own : (p : ℕ) → p ≡ d.number → latest_on x.log p ≡ step
  latest_own p number =
      ap (λ (q : ℕ). latest_on x.log q) number ∙ (ap (λ (z : DeskState). latest_on z.log d.number) said
      ∙ (latest_sent y at es are ∙ latest_is d.log d.number at (own c step answer)))

  pub passings_own : (session : JobsSession) (p : ℕ)
      → p ≡ d.number
      → passings_on session x.log p ≡ passings_on session d.log p
  passings_own session p number =
      ap (λ (q : ℕ). passings_on session x.log q) number
      ∙ (ap (λ (z : DeskState). passings_on session z.log d.number) said
      ∙ (passings_sent session y at es are
      ∙ (logged_more session d.log d.number at (own c step answer) refl
      ∙ ap (λ (q : ℕ). passings_on session d.log q) (sym number))))

  pub step_behind : c < length d.next → slice_index_or x.next c 0 ≡ step + 1
  step_behind known =
      ap (λ (z : DeskState). slice_index_or z.next c 0) (said ∙ all_as y at es) ∙ step_own d.next c (step + 1) known

-- ---- the turn

module _ (f : Frame) (roles : List Role) where
  abbrev p : ℕ
  p = f.first.port

  pub hanging_up : (v : PortValue) (d x : DeskState) (stand : Stand) (place handle at : ℕ) (answer : JobAnswer)
      (left : JobState) (signals : Due) (job_call : JobCall)
      → IsFrameWithin f
      → IsAtTurn f roles v d stand
      → IsNextTurn f roles v stand (turn.Call place)
      → IsPort v
      → (h : IsNextOf f roles d place job_call)
      → begun_at v h.role.number ≡ false
      → hangup_due signals (position is_live v.terminal.handles) ≡ Some handle
      → x
      ≡ all_noted (record (answered_own d at h.role.number answer) { jobs = left }) at
      (due_events signals h.role.number None)
      → IsOwing f roles v x stand (passed_down h.role.number handle ∷ [])
      → IsHangingUp f roles v x stand place handle
  hanging_up v d x stand place handle at answer left signals job_call frame was is port h rest hangs said owing =
      let c = h.role.number in
      let es = due_events signals c None in
      let are = signals_due signals c in
      let k = f.start.terminal.phase in
      let phase = phase_is f roles v d stand [] was in
      let latest : latest_on x.log p ≡ slice_index_or d.next c 0 =
      latest_own d x at c answer left es are said p was.number in
      let passings : passings_on f.session x.log p ≡ passings_on f.session d.log p =
      passings_own d x at c answer left es are said f.session p was.number in
      let next : slice_index_or x.next c 0 ≡ slice_index_or d.next c 0 + 1 =
      step_behind d x at c answer left es are said h.known in
      let found = position-Some is_live v.terminal.handles handle None
      (least_is signals (position is_live v.terminal.handles) handle hangs) in
      let few : handle < MOST_HANDLES = subst (λ (n : ℕ). handle < n) (are_numbers v port) found.0 in
      let before : AreLoggedBefore f.session x.log p c (latest_on x.log p) =
      subst (λ (n : ℕ). AreLoggedBefore f.session x.log p c n) (sym latest)
      (subst (λ (ms : List Passing). All (λ m. m.step < slice_index_or d.next c 0) (by_caller c ms)) (sym passings)
      (was.playing.logged_before c)) in
      record {
        role = h.role;
        at_place = h.at_place;
        owing = owing;
        rests = rest;
        live = found.1;
        few = few;
        latest = omega (arith, latest, next);
        calling = hangup_begins f.first f.session f.scripts roles f.start x.log v
            (record (value_at x) { due = passed_down c handle ∷ [] }) f.ticks stand place h.role handle owing.playing
            is h.at_place rest frame.of_blocks frame.blocks
            (record { handle = few; bytes = omega arith }) before
            (subst (λ (j : ℕ). begin_of p (block_phases f.session) j c ≤ latest_on x.log p) (sym phase)
            (omega (arith, h.from, latest)))
            (subst (λ (j : ℕ). latest_on x.log p < begin_of p (block_phases f.session) (j + 1) c) (sym phase)
            (omega (arith, h.to, latest)));
      }

  pub in_hangup : (v : PortValue) (d : DeskState) (stand : Stand) (place handle : ℕ)
      → IsHangingUp f roles v d stand place handle
      → IsNextTurn f roles v stand (turn.Call place)
      → InCall roles v stand place (hangs_up handle)
  in_hangup v d stand place handle h is =
      in_call f.first (block_phases f.session) f.scripts roles f.start
      (hangup_with f.session d.log p (value_at d) v h.role.number handle) v f.ticks stand place (hangs_up handle)
      h.calling is

  pub takes_hangup : (old new : PortValue) (d x : DeskState) (was now : Stand) (place handle : ℕ) (tried : PlainTried)
      (r : Role) → (h : IsHangingUp f roles old d was place handle)
      → IsNextTurn f roles old was (turn.Call place)
      → IsPort old
      → IsPort new
      → IsOpen old
      → TriesCall roles old new place (hangs_up handle) tried
      → PlaysCall roles old new was now place (hangs_up handle)
      → x ≡ noted d (length new.journal) (passed_down (get_or roles place r).number handle)
      → TakesNoCall f roles old new d x now
  takes_hangup old new d x was now place handle tried r h is port later room tries plays said =
      let c = h.role.number in
      let n = length new.journal in
      let call = hangs_up handle in
      let makes = makes_as roles old new place h.role call h.at_place tried tries in
      let done_is : tried ≡ done_by done =
      is_done old new c handle h.rests h.live makes tried
      (attempts_as roles old new place h.role call h.at_place tried tries) in
      let tries_done : TriesCall roles old new place call (done_by done) =
      subst (λ (t : PlainTried). TriesCall roles old new place call t) done_is tries in
      let in_it = in_hangup old d was place handle h is in
      let on : PlaysOnIn HasAnyOrder in_it.in_turn.scene in_it.in_turn.scripts roles old new was now =
      (plays.each in_it).on in
      let going = hangup_goes_on f.first f.session f.scripts roles f.start d.log old new
      (record (value_at d) { due = passed_down c handle ∷ [] }) f.ticks was now place h.role handle h.owing.playing
      h.calling is h.at_place h.rests refl h.latest tries_done plays in
      let y : DeskState = noted d n (passed_down c handle) in
      let y_is : x ≡ y =
      said
      ∙ ap (λ (q : Role). noted d n (passed_down q.number handle))
      (get_or_from_slice_get roles place h.role r h.at_place) in
      let still : signals_of new.terminal ≡ signals_of old.terminal =
      signals_stay old new makes.entry port later
      (record {
        added = makes.added;
        grows = makes.grows;
        counts = on.plays.of_scene.counts ∙ sym in_it.in_turn.plays.of_scene.counts;
        capacity = on.plays.of_scene.capacity ∙ sym in_it.in_turn.plays.of_scene.capacity;
      }) (call_no_flush makes.entry.event makes.of_call) in
      let at_y : IsAtTurn f roles new y now = record {
        number = h.owing.number;
        playing = subst (λ (q : ℕ). IsPlayingJobs f.first f.session f.scripts roles f.start
            (d.log ++ record { port = q; at = n; event = passed_down c handle } ∷ []) new (value_at y) f.ticks now)
            h.owing.number going;
        all_sent = subst (λ (ss : List Signal). length ss ≤ d.sent) (sym still) h.owing.all_sent;
      } in
      record {
        at = subst (λ (z : DeskState). IsAtTurn f roles new z now) (sym y_is) at_y;
        desk = subst (λ (z : DeskState). Advances false 0 d z) (sym y_is)
            (record { callers = refl; procs = refl; next = refl });
        over = λ q.
            over_call in_it.in_turn.scene old new on.adds q (call_is old new c call makes in_it.in_turn.scene on.adds);
        gone = (
          omega (arith, room.0, in_it.in_turn.plays.of_scene.limit),
          ap (λ (es : List PlainEntry). length es) makes.added ∙ length-append old.journal (makes.entry ∷ []),
        );
      }

  -- behind the call that its process ended by
  pub takes_exit : (old new : PortValue) (d y x : DeskState) (now : Stand) (place : ℕ) (r : Role)
      → slice_get roles place ≡ Some r
      → Advances true r.number d y
      → TakesNoCall f roles old new y x now
      → TakesCall f roles place old new d x (record { answered = true; stand = now })
  takes_exit old new d y x now place r is advances h = record {
    at = h.at;
    desk = λ q q_at.
        let a = subst (λ (z : Role). Advances true z.number d y) (same_Some r q (sym is ∙ q_at)) advances in
        record { callers = h.desk.callers ∙ a.callers; procs = h.desk.procs ∙ a.procs; next = h.desk.next ∙ a.next };
    over = h.over;
    gone = omega (arith, h.gone.1);
  }

  -- ---- a call of job control at the desk

  -- it was answered, and its signals were sent: a hangup may be due
  pub record IsControlled (v : PortValue) (d x : DeskState) (stand : Stand) (c : ℕ) (signals : Due) : Type 0 where
    pub answer : JobAnswer
    pub left : JobState
    pub said : x
        ≡ all_noted (record (answered_own d (length v.journal) c answer) { jobs = left }) (length v.journal)
        (due_events signals c None)
    pub owing : IsOwing f roles v x stand (hangups c (hangup_due signals (position is_live v.terminal.handles)))
    pub advances : Advances true c d x

  pub is_controlled : (v : PortValue) (d x : DeskState) (stand : Stand) (place : ℕ) (own_call : OwnCall) (r : Role)
      (signals : Due)
      → IsAtTurn f roles v d stand
      → IsNextTurn f roles v stand (turn.Call place)
      → IsPort v
      → (h : IsNextOf f roles d place (further own_call))
      → due_events signals (get_or roles place r).number (position is_live v.terminal.handles)
      ≡ (own_outcome d v (get_or roles place r).number own_call).due
      → x
      ≡ controlled d v (get_or roles place r).number (own_outcome d v (get_or roles place r).number own_call)
      (due_events signals (get_or roles place r).number None)
      → IsControlled v d x stand h.role.number signals
  is_controlled v d x stand place own_call r signals at is port h due_by said =
      let c = h.role.number in
      let n = length v.journal in
      let role : get_or roles place r ≡ h.role = get_or_from_slice_get roles place h.role r h.at_place in
      let its = own_call_of f roles v d stand place own_call at h in
      let out = comes_to d.jobs v.terminal (proc_in f.session p c) c (further own_call) in
      let es = due_events signals c None in
      let least = position is_live v.terminal.handles in
      let out_is : own_outcome d v c own_call ≡ out =
      ap (λ (q : ℕ). comes_to d.jobs v.terminal q c (further own_call)) h.proc in
      let due_here : due_events signals c least ≡ (own_outcome d v c own_call).due =
      subst (λ (z : Role). due_events signals z.number least ≡ (own_outcome d v z.number own_call).due) role due_by in
      let due_is : out.due ≡ es ++ hangups c (hangup_due signals least) =
      sym (ap (λ (o : Came). o.due) out_is) ∙ (sym due_here ∙ due_parts signals c least) in
      let said_is : x ≡ all_noted (record (answered_own d n c out.answer) { jobs = out.left }) n es =
      said
      ∙ (ap
      (λ (z : Role). controlled d v z.number (own_outcome d v z.number own_call) (due_events signals z.number None))
      role
      ∙ ap (λ (o : Came). controlled d v c o es) out_is) in
      record {
        answer = out.answer;
        left = out.left;
        said = said_is;
        owing = own_owing f roles v d x stand place (further own_call) es (hangups c (hangup_due signals least)) at is
            port its (signals_due signals c) due_is said_is;
        advances = own_advances f roles d x n c out.answer out.left es
            (procs_same d.jobs v.terminal (proc_in f.session p c) c (further own_call)) said_is;
      }

  pub takes_controlled : (v : PortValue) (d x : DeskState) (stand : Stand) (place : ℕ) (job_call : JobCall)
      (signals : Due) → (h : IsNextOf f roles d place job_call)
      → IsControlled v d x stand h.role.number signals
      → hangup_due signals (position is_live v.terminal.handles) ≡ None
      → TakesCall f roles place v v d x (record { answered = true; stand = stand })
  takes_controlled v d x stand place job_call signals h done_so none =
      takes_own f roles v d x stand place h.role h.at_place
      (subst (λ (o : Option ℕ). IsOwing f roles v x stand (hangups h.role.number o)) none done_so.owing)
      done_so.advances

  pub hangs_controlled : (v : PortValue) (d x : DeskState) (stand : Stand) (place handle : ℕ) (own_call : OwnCall)
      (signals : Due)
      → IsFrameWithin f
      → IsAtTurn f roles v d stand
      → IsNextTurn f roles v stand (turn.Call place)
      → IsPort v
      → (h : IsNextOf f roles d place (further own_call))
      → IsControlled v d x stand h.role.number signals
      → hangup_due signals (position is_live v.terminal.handles) ≡ Some handle
      → IsHangingUp f roles v x stand place handle
  hangs_controlled v d x stand place handle own_call signals frame at is port h done_so hangs =
      hanging_up v d x stand place handle (length v.journal) done_so.answer done_so.left signals (further own_call)
      frame at is port h (rests_own f roles v d stand h.role.number own_call at h.has) hangs done_so.said
      (subst (λ (o : Option ℕ). IsOwing f roles v x stand (hangups h.role.number o)) hangs done_so.owing)

  pub takes_hung_up : (old new : PortValue) (d y x : DeskState) (was now : Stand) (place : ℕ) (job_call : JobCall)
      (signals : Due) → (h : IsNextOf f roles d place job_call)
      → IsControlled old d y was h.role.number signals
      → TakesNoCall f roles old new y x now
      → TakesCall f roles place old new d x (record { answered = true; stand = now })
  takes_hung_up old new d y x was now place job_call signals h done_so t =
      takes_exit old new d y x now place h.role h.at_place done_so.advances t
