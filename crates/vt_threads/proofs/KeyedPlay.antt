-- A phase of a console as one of the session that it plays once the keys have come.
use Rattle.std.proofs.Common.{◌≡◌, ℕ, ◌+◌, ◌<◌, ◌≤◌, List, [], ◌∷◌, ◌++◌, IsTrue, Some, length}
use Rattle.std.proofs.Common.{map, replicate, reverse, take, refl, sym, subst, ap, ◌∙◌, append_assoc, append-nil}
use Rattle.std.specs.Prelude.{All, None, slice_get, sum}
use Rattle.std.proofs.lemmas.List.Elements.{All-nil, All-cons}
use Rattle.std.proofs.lemmas.List.{reverse-append}
use Rattle.tty_base.specs.Lines.{is_step}
use Rattle.tty_base.specs.declared.lines.LineStep.{LineStep}
use Rattle.tty_base.specs.declared.lines.LineStep.TheVariants.{Idle, Unmask}
use Rattle.tty_base.specs.declared.characters.Flagged.{Flagged}
use Rattle.word_ring.specs.Ends.{PutterState}
use Rattle.uart_line.specs.LineState.{LineState}
use Rattle.uart_line.specs.GoodSteps.{good_steps}
use Rattle.uart_line.specs.Received.{closed_script, is_cut, is_masked, script, waiting_list, window}
use Rattle.uart_line.proofs.Steps.{waiting_list-closed_script}
use Rattle.tty_calls.specs.Limits.{character_count}
use Rattle.tty_calls.specs.Sessions.{PlainSession, counts_on, line_on, ticks_on}
use Rattle.legal_runs.specs.Legal.{phase_at, script_of_first}
use Rattle.port_core.specs.Ports.{PortValue}
use Rattle.play_base.specs.Roles.{Scene, AreFirstSteps, AreRolesOf, role_in}
use Rattle.play_base.specs.Putting.{HasPut}
use Rattle.play_base.specs.declared.roles.Role.{Role}
use Rattle.play_base.specs.declared.stations.Station.{Station}
use Rattle.many_threads.specs.Cast.{seated}
use Rattle.many_threads.specs.Callers.{plain_cast}
use Rattle.many_threads.specs.InPlay.{IsBeforePhase, WerePlayedBefore}
use Rattle.many_threads.specs.PhaseStarts.{CanPlayPhase, IsCast}
use Rattle.many_threads.specs.PhaseEnds.{PhaseComes}
use Rattle.many_threads.specs.declared.shared_phase.PhaseWork.{PhaseWork}
use Rattle.many_threads.specs.declared.shared_phase.PhaseEnd.{PhaseEnd}
use Rattle.many_threads.proofs.Onward.{can_play_on, stands_next}
use Rattle.many_threads.proofs.Seated.{cast_is}
use Rattle.vt_consoles.specs.declared.entries.VtEntry.{VtEntry}
use Rattle.vt_text.specs.Sessions.{PlainVtPhase, PlainVtSession}
use Rattle.vt_account.specs.Keyed.{IsWithinKeys, all_keys, consoles_in, key_line, keyed, keys_to}
use Rattle.vt_account.proofs.Limits.{few_characters, keyed_within}
use Rattle.vt_keyboard.specs.Keying.{CanBegin}
use Rattle.vt_threads.specs.Halves.{IsDrained, with_steps}
use Rattle.vt_threads.proofs.KeyedPhases.{keyed_line}
use Rattle.vt_threads.proofs.SameCallers.{keyed_differs, same_counts, same_first_steps}
use Rattle.vt_threads.proofs.SameCallers.{same_roles, same_ticks, same_length}

good_keys : (keys : List ℕ) → All (λ step. IsTrue (is_step step)) (good_steps keys)
good_keys [] = All-nil (λ (step : LineStep). IsTrue (is_step step))
good_keys (key ∷ keys) = All-cons (λ (step : LineStep). IsTrue (is_step step)) _ (good_steps keys) refl (good_keys keys)

good_line : (keys : List ℕ) → All (λ step. IsTrue (is_step step)) (key_line keys)
good_line keys = All-cons (λ (step : LineStep). IsTrue (is_step step)) _ (good_steps keys) refl (good_keys keys)

module _ (session : PlainVtSession) (within : IsWithinKeys session) (p : ℕ) (known : p < session.calls.ports) (k : ℕ)
    (phase : PlainVtPhase) (at : slice_get session.phases k ≡ Some phase) (below : k < length session.calls.phases)
    (entries part more : List VtEntry) (went : List ℕ) (goes : consoles_in part ≡ went)
    (each : length went ≡ length phase.keys)
    (before_keys : length (consoles_in entries) ≡ length (all_keys (take k session.phases))) where
  abbrev all : List VtEntry
  all = entries ++ (part ++ more)

  abbrev s : Scene
  s = record { port = p; session = keyed session all }

  -- the phase's work on the console, once its keys have come
  pub can_play_keyed : (callers : ℕ) (station : Station) (work : PhaseWork) (roles : List Role)
      → work.phase ≡ station.port.terminal.phase
      → IsBeforePhase s k station work.run
      → work.ticks ≡ ticks_on p (phase_at session.calls k)
      → callers ≡ sum (counts_on p session.calls)
      → AreRolesOf (record { port = p; session = session.calls }) k (map (role_in work.scripts.now) roles)
      → work.cast.now ≡ seated roles (replicate callers None)
      → CanPlayPhase s station (with_steps (key_line (keys_to p phase.keys went)) work)
  can_play_keyed callers station work roles number before ticks count are cast =
      let differ = keyed_differs session all within.whole in
      let counts : callers ≡ sum (counts_on p (keyed session all)) =
      count ∙ ap sum (sym (same_counts (keyed session all) session.calls differ p)) in
      let plain : IsCast s k callers (plain_cast work.scripts.now work.cast.now) =
      cast_is s k work.scripts.now roles work.cast.now callers counts
      (same_roles (keyed session all) session.calls differ p k (map (role_in work.scripts.now) roles) are) cast in
      can_play_on s k callers station (with_steps (key_line (keys_to p phase.keys went)) work) number
      (keyed_within session all within)
      (subst (λ (n : ℕ). k < n) (sym (same_length (keyed session all) session.calls differ)) below) before
      (sym (keyed_line session p k phase entries part more went _ within.whole known at goes each before_keys))
      (good_line (keys_to p phase.keys went))
      (ticks ∙ sym (same_ticks (keyed session all) session.calls differ p k)) counts plain

-- what a phase comes to is the beginning of the next one
pub keyed_next : (session : PlainVtSession) (p k : ℕ) (entries : List VtEntry) (station new left : Station) (run : ℕ)
    (end : PhaseEnd)
    → IsWithinKeys session
    → k < length session.calls.phases
    → left.port ≡ new.port
    → left.putter ≡ new.putter
    → left.line ≡ new.line
    → IsBeforePhase (record { port = p; session = keyed session entries }) k station run
    → PhaseComes (record { port = p; session = keyed session entries }) k station new end
    → AreFirstSteps (record { port = p; session = session.calls }) (k + 1) left.steps.items
    → WerePlayedBefore (record { port = p; session = keyed session entries }) (k + 1) left end
keyed_next session p k entries station new left run end within below port putter line before comes steps =
    let differ = keyed_differs session entries within.whole in
    stands_next (record { port = p; session = keyed session entries }) k station new left run end port putter line
    (subst (λ (n : ℕ). k < n) (sym (same_length (keyed session entries) session.calls differ)) below) before comes
    (same_first_steps (keyed session entries) session.calls differ p (k + 1) left.steps.items steps)

-- no more characters come on a console than there are keys
pub few_come : (session : PlainVtSession) (entries : List VtEntry) (p : ℕ)
    → IsWithinKeys session
    → character_count p (keyed session entries).phases ≤ length (all_keys session.phases)
few_come session entries p within =
    few_characters p session.calls.ports (consoles_in entries) session.phases session.calls.phases within.whole

-- ---- the line at the beginning of a phase

rests_closed : (before steps : List LineStep) → IsDrained (before ++ closed_script steps)
unfolding is_masked
rests_closed before steps = record {
  unmasked = ap is_masked (ap reverse (sym (append_assoc before steps (Unmask ∷ Idle 4 ∷ [])))
      ∙ reverse-append (before ++ steps) (Unmask ∷ Idle 4 ∷ []));
  none_waits = waiting_list-closed_script before steps;
}

rests_more : (before : List LineStep) (lines : List (List LineStep))
    → IsDrained before
    → IsDrained (before ++ script lines)
unfolding script
rests_more before [] h = subst IsDrained (sym (append-nil before)) h
rests_more before (steps ∷ lines) h = subst IsDrained (append_assoc before (closed_script steps) (script lines))
    (rests_more (before ++ closed_script steps) lines (rests_closed before steps))

rests_none : IsDrained []
unfolding is_cut is_masked waiting_list window
rests_none = record { unmasked = refl; none_waits = refl }

pub rests_between : (p : ℕ) (x : PlainSession) (k : ℕ) → IsDrained (script_of_first p x k)
rests_between p x k = rests_more [] (map (line_on p) (take k x.phases)) rests_none

-- a line that has done the phases before one can begin its keys
pub can_begin : (v : PortValue) (putter : PutterState Flagged) (line : LineState) (steps : List LineStep)
    → IsDrained steps
    → HasPut v putter line steps
    → line.report.arrived ≤ line.most
    → CanBegin line putter
can_begin v putter line steps rest put within = record {
  unmasked = put.done.stands.masked ∙ rest.unmasked;
  none_waits = put.done.stands.window ∙ ap length rest.none_waits;
  done = (steps, put.done);
  within = within;
  put = put.room;
}
