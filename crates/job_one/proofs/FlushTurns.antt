-- The turns of a phase of processes, with what is sent on behind a flush.
use Rattle.std.proofs.Common.{◌≡◌, ◌≤◌, ℕ, false, List, [], ◌∷◌, ◌++◌, Option, length}
use Rattle.std.proofs.Common.{refl, sym, ap, ◌∙◌, subst, arith, length-append}
use Rattle.tty_base.specs.declared.counters.Signal.{Signal}
use Rattle.tty_calls.specs.declared.answers.Denied.{Denied}
use Rattle.tty_calls.specs.declared.answers.Denied.TheVariants.{NoMemory, Full}
use Rattle.tty_calls.specs.declared.journals.Who.{Who}
use Rattle.tty_calls.specs.declared.journals.Who.TheVariants.{Caller, Flusher, Line, Clock, Session}
use Rattle.tty_calls.specs.Plain.{PlainCall, PlainEvent, answered, parted, waited, flushed, ticked, line_ended}
use Rattle.tty_calls.specs.Plain.{clock_ended, caller_ended, phase_ended, hung_up, PlainEntry, is_caller}
use Rattle.tty_calls.specs.Sessions.{call_at, counts_on}
use Rattle.tty_terminal.specs.Terminals.{Terminal}
use Rattle.tty_terminal.specs.Steps.{Allowed, IsAllowed}
use Rattle.tty_terminal.specs.Runs.{is_flush}
use Rattle.port_core.specs.Ports.{PortValue, IsPort, IsOpen, Denies}
use Rattle.play_base.specs.Scenes.{HasAnyOrder}
use Rattle.one_thread.specs.Turns.{role_numbers, who_of, PlaysOnIn}
use Rattle.one_thread.specs.Acts.{AddsEntry, InTurn, PlaysTurn}
use Rattle.play_base.specs.declared.roles.Role.{Role}
use Rattle.one_thread.specs.declared.after_line.Stand.{Stand}
use Rattle.one_thread.specs.declared.after_line.Turn.{Turn}
use Rattle.one_thread.specs.declared.after_line.Turn.TheVariants as turn
use Rattle.job_control.specs.Control.{JobState}
use Rattle.job_steps.specs.Derived.{block_phases}
use Rattle.job_text.specs.Events.{JobEvent, sent}
use Rattle.job_steps.specs.Steps.{job_signal, foreground_target}
use Rattle.order_laws.specs.Later.{ComesBy}
use Rattle.job_one.specs.Events.{DeskState, sent_on, new_sent_on}
use Rattle.job_one.specs.Between.{value_at}
use Rattle.order_laws.specs.Begun.{begun_at}
use Rattle.job_one.specs.Playing.{passings_with, IsPlayingJobs}
use Rattle.job_one.specs.Frames.{Frame, IsOwing, IsAtTurn, IsNextTurn}
use Rattle.job_one.specs.AfterLine.{FillsTurns, StopsTurns}
use Rattle.order_laws.specs.Begun.{WereOver}
use Rattle.order_laws.specs.Left.{HasGone}
use Rattle.job_one.specs.Taken.{TakesNoCall}
use Rattle.order_laws.proofs.InOrders.{same_entry}
use Rattle.order_laws.proofs.Witnessed.{in_turn}
use Rattle.order_laws.proofs.Overs.{over_other}
use Rattle.job_one.proofs.Along.{same_kept}
use Rattle.job_one.proofs.Phasing.{signals_stay}
use Rattle.job_one.proofs.Sending.{all_sent, sent_up, same_desk}
use Rattle.job_one.proofs.Turning.{turn_goes_on, signal_goes_on}

abbrev is_clock : Who → Type 0
is_clock (Caller c) = ⊥
is_clock Flusher = ⊥
is_clock Line = ⊥
is_clock Clock = Unit {0}
is_clock Session = ⊥

module _ (f : Frame) (roles : List Role) where
  pub in_turn_at : (v : PortValue) (d : DeskState) (stand : Stand) (next : Turn)
      → IsAtTurn f roles v d stand
      → IsNextTurn f roles v stand next
      → InTurn roles v stand next
  in_turn_at v d stand next h is =
      in_turn f.first (block_phases f.session) f.scripts roles f.start
      (passings_with f.session d.log f.first.port (value_at d) (begun_at v)) v f.ticks stand next h.playing.playing is

  -- a port that has gone on by an entry without a call
  comes_at : (old new : PortValue) (d : DeskState) (was now : Stand) (next : Turn)
      → IsAtTurn f roles old d was
      → IsNextTurn f roles old was next
      → PlaysTurn roles old new was now next
      → (adds : AddsEntry old new)
      → ComesBy old new (adds.entry ∷ [])
  comes_at old new d was now next h is plays adds =
      let at = in_turn_at old d was next h is in
      let on : PlaysOnIn HasAnyOrder at.scene at.scripts roles old new was now = (plays.each at).on in
      record {
        added = adds.added;
        grows = same_kept old new adds.kept;
        counts = on.plays.of_scene.counts ∙ sym at.plays.of_scene.counts;
        capacity = on.plays.of_scene.capacity ∙ sym at.plays.of_scene.capacity;
      }

  -- the port of the desk, and the player behind the signals so far
  record Goes (v : PortValue) (now : Stand) (x : DeskState) : Type 0 where
    number : f.first.port ≡ x.number
    playing : IsPlayingJobs f.first f.session f.scripts roles f.start x.log v (value_at x) f.ticks now

  pub flush_at : (old new : PortValue) (d x : DeskState) (was now : Stand)
      → IsAtTurn f roles old d was
      → IsNextTurn f roles old was turn.Flush
      → PlaysTurn roles old new was now turn.Flush
      → AddsEntry old new
      → IsPort old
      → IsPort new
      → x ≡ new_sent_on new d
      → IsAtTurn f roles new x now
  flush_at old new d x was now h is plays adds port later sends =
      let on = turn_goes_on f.first f.session f.scripts roles f.start d.log old new (value_at d) f.ticks was now
      turn.Flush h.playing refl is (λ c. refl) plays adds in
      let by = comes_at old new d was now turn.Flush h is plays adds in
      let goes : Goes new now (new_sent_on new d) =
      all_sent (Goes new now) new d
      (λ s y low is_next g. record {
        number = g.number;
        playing = subst (λ (p : ℕ). IsPlayingJobs f.first f.session f.scripts roles f.start
            (y.log
            ++ record { port = p; at = length new.journal; event = sent (job_signal s) (foreground_target y.jobs) }
            ∷ []) new (value_at (sent_on new s y)) f.ticks now) g.number
            (signal_goes_on f.first f.session f.scripts roles f.start y.log old new adds.entry (value_at y) f.ticks now
            s port later by g.playing refl (omega (arith, h.all_sent, low)) is_next);
      })
      (record { number = h.number; playing = on }) in
      subst (λ (y : DeskState). IsAtTurn f roles new y now) (sym sends)
      (record { number = goes.number; playing = goes.playing; all_sent = sent_up new d })

  -- ---- what a turn of nobody's call leaves

  turn_gone : (old new : PortValue) (d : DeskState) (was : Stand) (next : Turn)
      → IsAtTurn f roles old d was
      → IsNextTurn f roles old was next
      → IsOpen old
      → AddsEntry old new
      → HasGone false old new
  turn_gone old new d was next h is room adds =
      let at = in_turn_at old d was next h is in (
        omega (arith, room.0, at.plays.of_scene.limit),
        ap (λ (es : List PlainEntry). length es) adds.added ∙ length-append old.journal (adds.entry ∷ []),
      )

  turn_over : (old new : PortValue) (d : DeskState) (was now : Stand) (next : Turn)
      → ((c : ℕ) → is_caller (who_of (role_numbers roles) next) c ≡ false)
      → IsAtTurn f roles old d was
      → IsNextTurn f roles old was next
      → PlaysTurn roles old new was now next
      → (c : ℕ)
      → WereOver old new c
  turn_over old new d was now next none h is plays c =
      let at = in_turn_at old d was next h is in
      let on : PlaysOnIn HasAnyOrder at.scene at.scripts roles old new was now = (plays.each at).on in
      let who = (plays.each at).who in
      over_other at.scene old new on.adds c (ap (λ (w : Who). is_caller w c) who ∙ none c)

  pub takes_flush : (old new : PortValue) (d x : DeskState) (was now : Stand)
      → IsAtTurn f roles old d was
      → IsNextTurn f roles old was turn.Flush
      → PlaysTurn roles old new was now turn.Flush
      → AddsEntry old new
      → IsPort old
      → IsPort new
      → IsOpen old
      → x ≡ new_sent_on new d
      → TakesNoCall f roles old new d x now
  takes_flush old new d x was now h is plays adds port later room sends = record {
    at = flush_at old new d x was now h is plays adds port later sends;
    desk =
        let same = same_desk new d in
        record {
          callers = ap (λ (y : DeskState). y.callers) sends ∙ same.callers;
          procs = ap (λ (y : DeskState). y.jobs.procs) sends ∙ ap (λ (jobs : JobState). jobs.procs) same.jobs;
          next = ap (λ (y : DeskState). y.next) sends ∙ same.next;
        };
    over = turn_over old new d was now turn.Flush (λ c. refl) h is plays;
    gone = turn_gone old new d was turn.Flush h is room adds;
  }

  -- the clock raises no signal
  clock_none : (calls : ℕ → ℕ → Option PlainCall) (counts : List ℕ) (t : Terminal) (e : PlainEntry)
      → Allowed calls counts t e
      → e.who ≡ Clock
      → is_flush e.event ≡ false
  clock_none calls counts t e allowed who = event_none e.event allowed.1
    where
      no_flusher : e.who ≡ Flusher → ⊥
      no_flusher same = subst is_clock (sym who ∙ same) tt

      event_none : (event : PlainEvent) → IsAllowed calls counts t e.who e.step e.part event → is_flush event ≡ false
      event_none (answered a dropped) h = refl
      event_none (parted n) h = refl
      event_none waited h = refl
      event_none (flushed chars) h = absurd (no_flusher h.0)
      event_none ticked h = refl
      event_none (line_ended n) h = refl
      event_none clock_ended h = refl
      event_none caller_ended h = refl
      event_none phase_ended h = refl
      event_none (hung_up dropped) h = refl

  pub takes_pass : (old new : PortValue) (d : DeskState) (was now : Stand)
      → IsAtTurn f roles old d was
      → IsNextTurn f roles old was turn.Pass
      → PlaysTurn roles old new was now turn.Pass
      → AddsEntry old new
      → IsPort old
      → IsPort new
      → IsOpen old
      → TakesNoCall f roles old new d d now
  takes_pass old new d was now h is plays adds port later room =
      let at = in_turn_at old d was turn.Pass h is in
      let on : PlaysOnIn HasAnyOrder at.scene at.scripts roles old new was now = (plays.each at).on in
      let by = comes_at old new d was now turn.Pass h is plays adds in
      let who = (plays.each at).who in
      let entry : on.adds.entry ≡ adds.entry =
      same_entry old.journal on.adds.entry adds.entry (sym on.adds.added ∙ adds.added) in
      let none : is_flush adds.entry.event ≡ false =
      ap (λ (e : PlainEntry). is_flush e.event) (sym entry)
      ∙ clock_none (call_at at.scene.port at.scene.session) (counts_on at.scene.port at.scene.session)
      old.terminal on.adds.entry on.adds.allowed who in
      record {
        at = record {
          number = h.number;
          playing = turn_goes_on f.first f.session f.scripts roles f.start d.log old new (value_at d) f.ticks was now
              turn.Pass h.playing refl is (λ c. refl) plays adds;
          all_sent = subst (λ (ss : List Signal). length ss ≤ d.sent)
              (sym (signals_stay old new adds.entry port later by none)) h.all_sent;
        };
        desk = record { callers = refl; procs = refl; next = refl };
        over = turn_over old new d was now turn.Pass (λ c. refl) h is plays;
        gone = turn_gone old new d was turn.Pass h is room adds;
      }

  -- ---- a full journal, or want of memory

  pub stops_with : (denied : Denied) (old new : PortValue) (d : DeskState) (stand : Stand) (due : List JobEvent)
      → IsOwing f roles old d stand due
      → Denies denied old new
      → StopsTurns denied f roles new d
  stops_with NoMemory old new d stand due h denies = tt
  stops_with Full old new d stand due h denies =
      subst (λ (v : PortValue). FillsTurns f roles v d) (sym denies.1)
      (record { number = h.number; stand = stand; due = due; playing = h.playing; full = denies.0 })

  pub memory_at : (denied : Denied) (v : PortValue) (d : DeskState) → denied ≡ NoMemory → StopsTurns denied f roles v d
  memory_at denied v d is = subst (λ (y : Denied). StopsTurns y f roles v d) (sym is) tt
