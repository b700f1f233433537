-- Consoles from one phase to the next, also those whose journals are full.
use Rattle.std.proofs.Common.{◌≡◌, ℕ, ◌+◌, ◌<◌, ◌≤◌, List, [], ◌++◌, Some, length}
use Rattle.std.proofs.Common.{take, sym, subst, ap, ◌∙◌, append-nil}
use Rattle.std.specs.Prelude.{slice_get}
use Rattle.tty_base.specs.declared.lines.LineStep.{LineStep}
use Rattle.tty_base.specs.declared.characters.Flagged.{Flagged}
use Rattle.word_ring.specs.Ends.{PutterState}
use Rattle.uart_line.specs.LineState.{LineState}
use Rattle.uart_line.specs.Received.{closed_script}
use Rattle.tty_calls.specs.Limits.{character_count}
use Rattle.tty_calls.specs.Sessions.{line_on}
use Rattle.legal_runs.specs.Legal.{phase_at, script_of_first}
use Rattle.legal_runs.specs.Short.{after_phases}
use Rattle.legal_runs.proofs.LineLemmas.{first_more}
use Rattle.port_core.specs.Ports.{PortValue}
use Rattle.play_base.specs.Roles.{Scene, AreFirstSteps}
use Rattle.play_base.specs.Putting.{HasPut}
use Rattle.play_base.specs.Phases.{HasFewTicks, IsFullRun, IsPortOf}
use Rattle.play_base.specs.declared.stations.Station.{Station}
use Rattle.play_base.proofs.ReceivedLemmas.{script_whole}
use Rattle.many_threads.specs.InPlay.{IsBeforePhase}
use Rattle.many_threads.specs.PhaseEnds.{PhaseComes}
use Rattle.many_threads.specs.declared.shared_phase.PhaseEnd.{PhaseEnd}
use Rattle.many_threads.specs.declared.shared_phase.PhaseEnd.TheVariants.{Over, Full}
use Rattle.many_threads.proofs.LineAccount.{has_put_runs}
use Rattle.vt_consoles.specs.declared.entries.VtEntry.{VtEntry}
use Rattle.vt_text.specs.Sessions.{PlainVtPhase, PlainVtSession}
use Rattle.vt_account.specs.Keyed.{IsWithinKeys, all_keys, consoles_in, key_line, keyed, keys_to}
use Rattle.vt_keyboard.specs.Keying.{DoesSteps}
use Rattle.vt_threads.specs.Between.{ConsoleStands, IsFullBefore}
use Rattle.vt_keyboard.proofs.LineEnd.{runs_of}
use Rattle.vt_threads.proofs.KeyedPhases.{keyed_line}
use Rattle.vt_threads.proofs.KeyedPlay.{keyed_next}
use Rattle.vt_threads.proofs.SameCallers.{keyed_differs, same_length}

-- what a line did more it has put more
put_more : (v : PortValue) (putter now : PutterState Flagged) (line played : LineState) (before steps : List LineStep)
    → HasPut v putter line before
    → DoesSteps (closed_script steps) line played putter now
    → HasPut v now played (before ++ closed_script steps)
put_more v putter now line played before steps put does =
    has_put_runs v putter now line played before steps put (runs_of steps line played putter now does)

-- a full journal stays as it is, and the line does its keys
pub full_next : (session : PlainVtSession) (p k : ℕ) (phase : PlainVtPhase) (entries part more : List VtEntry)
    (went : List ℕ) (station left : Station)
    → IsWithinKeys session
    → p < session.calls.ports
    → slice_get session.phases k ≡ Some phase
    → k < length session.calls.phases
    → consoles_in part ≡ went
    → length went ≡ length phase.keys
    → length (consoles_in entries) ≡ length (all_keys (take k session.phases))
    → left.port ≡ station.port
    → DoesSteps (closed_script (key_line (keys_to p phase.keys went))) station.line left.line station.putter left.putter
    → IsFullBefore (record { port = p; session = keyed session (entries ++ (part ++ more)) }) k station
    → IsFullBefore (record { port = p; session = keyed session (entries ++ (part ++ more)) }) (k + 1) left
full_next session p k phase entries part more went station
    left within known at below goes each before_keys port does h =
    let x = keyed session (entries ++ (part ++ more)) in
    let s : Scene = record { port = p; session = x } in
    let mine = key_line (keys_to p phase.keys went) in
    let on : line_on p (phase_at x k) ≡ mine =
    keyed_line session p k phase entries part more went _ within.whole known at goes each before_keys in
    let inside : k < length x.phases =
    subst (λ (n : ℕ). k < n)
    (sym (same_length x session.calls (keyed_differs session (entries ++ (part ++ more)) within.whole))) below in
    let script : script_of_first p x (k + 1) ≡ script_of_first p x k ++ closed_script mine =
    first_more p x k inside ∙ ap (λ (steps : List LineStep). script_of_first p x k ++ closed_script steps) on in
    let put : HasPut station.port left.putter left.line (script_of_first p x (k + 1)) =
    subst (HasPut station.port left.putter left.line) (sym script)
    (put_more station.port station.putter left.putter station.line left.line (script_of_first p x k)
    mine h.has_put does) in
    record {
      port_of = subst (IsPortOf s) (sym port) h.port_of;
      full = ap (λ (v : PortValue). length v.journal) port ∙ h.full;
      ticks = subst (λ (v : PortValue). HasFewTicks s v.journal) (sym port) h.ticks;
      last = subst (λ (v : PortValue). after_phases (length x.phases) v.journal ≡ []) (sym port) h.last;
      has_put = subst (λ (v : PortValue). HasPut v left.putter left.line (script_of_first p x (k + 1))) (sym port) put;
      most = subst (λ (n : ℕ). character_count p x.phases ≤ n) (sym does.most) h.most;
    }

-- what a phase comes to stands before the next
pub stands_after : (session : PlainVtSession) (p k : ℕ) (entries : List VtEntry) (station new left : Station) (run : ℕ)
    (end : PhaseEnd)
    → IsWithinKeys session
    → k < length session.calls.phases
    → left.port ≡ new.port
    → left.putter ≡ new.putter
    → left.line ≡ new.line
    → IsBeforePhase (record { port = p; session = keyed session entries }) k station run
    → PhaseComes (record { port = p; session = keyed session entries }) k station new end
    → AreFirstSteps (record { port = p; session = session.calls }) (k + 1) left.steps.items
    → ConsoleStands (record { port = p; session = keyed session entries }) (k + 1) left end
stands_after session p k entries station new left run (Over next) within below port putter line before comes steps =
    keyed_next session p k entries station new left run (Over next) within below port putter line before comes steps
stands_after session p k entries station new left run Full within below port putter line before comes steps =
    let s : Scene = record { port = p; session = keyed session entries } in
    let full : IsPortOf s left.port × IsFullRun s left.port left.putter left.line =
    keyed_next session p k entries station new left run Full within below port putter line before comes steps in
    record {
      port_of = full.0;
      full = full.1.full;
      ticks = full.1.ticks;
      last = full.1.last;
      has_put = subst
          (λ (v : PortValue). HasPut v left.putter left.line (script_of_first p (keyed session entries) (k + 1)))
          (sym port)
          (subst
          (λ (e : PutterState Flagged). HasPut new.port e left.line (script_of_first p (keyed session entries) (k + 1)))
          (sym putter)
          (subst (λ (l : LineState). HasPut new.port new.putter l (script_of_first p (keyed session entries) (k + 1)))
          (sym line) comes.has_put));
      most = subst (λ (l : LineState). character_count p (keyed session entries).phases ≤ l.most) (sym line)
          (subst (λ (n : ℕ). character_count p (keyed session entries).phases ≤ n) (sym comes.most)
          before.at_phase.most);
    }

-- at the end of a session a full journal is a run as far as it went
pub full_at_end : (s : Scene) (station : Station)
    → IsFullBefore s (length s.session.phases) station
    → IsPortOf s station.port × IsFullRun s station.port station.putter station.line
full_at_end s station h = (
  h.port_of,
  record {
    full = h.full;
    ticks = h.ticks;
    last = h.last;
    done = script_of_first s.port s.session (length s.session.phases);
    left = [];
    script_is =
        sym (script_whole s.port s.session)
        ∙ sym (append-nil (script_of_first s.port s.session (length s.session.phases)));
    has_put = h.has_put;
  },
)
