-- What the threads of a phase find of a console that was parted for it.
use Rattle.std.proofs.Common.{◌≡◌, ℕ, ◌+◌, ◌<◌, ◌≤◌, List, [], ◌++◌, false, Option}
use Rattle.std.proofs.Common.{Some, length, take, refl, sym, subst, ap, ◌∙◌, arith}
use Rattle.std.specs.Prelude.{slice_get}
use Rattle.tty_base.specs.declared.characters.Flagged.{Flagged}
use Rattle.word_ring.specs.Ends.{PutterState}
use Rattle.uart_line.specs.LineState.{LineState}
use Rattle.tty_calls.specs.Sessions.{ticks_on}
use Rattle.legal_runs.specs.Legal.{phase_at}
use Rattle.play_base.specs.Roles.{Scene}
use Rattle.play_base.specs.Casting.{scripts_at}
use Rattle.play_base.specs.declared.stations.Station.{Station}
use Rattle.tty_port.specs.Calls.{PortSeat}
use Rattle.tty_port.specs.Seen.{marks_at}
use Rattle.tty_port.specs.Shared.{IsHere, name_of_port}
use Rattle.port_cell.specs.Knowledge.{list_seen}
use Rattle.tty_port.specs.declared.shared.SharedPort.{SharedPort}
use Rattle.many_threads.specs.Crew.{CanRun, crew_in}
use Rattle.many_threads.specs.Needs.{CanPlayClock}
use Rattle.many_threads.specs.InPlay.{IsBeforePhase}
use Rattle.many_threads.specs.PhaseStarts.{CanPlayPhase}
use Rattle.many_threads.specs.PhaseEnds.{IsShared}
use Rattle.many_threads.specs.declared.shared_phase.PhaseEnd.{PhaseEnd}
use Rattle.many_threads.specs.declared.shared_phase.PhaseEnd.TheVariants.{Over, Full}
use Rattle.many_threads.specs.declared.shared_phase.PhaseWork.{PhaseWork}
use Rattle.many_threads.proofs.PhaseStart.{can_play_met, can_run}
use Rattle.vt_consoles.specs.declared.entries.VtEntry.{VtEntry}
use Rattle.vt_text.specs.declared.sessions.VtSession.{VtSession}
use Rattle.vt_text.specs.Sessions.{PlainVtPhase, PlainVtSession, vt_session_of}
use Rattle.vt_account.specs.Keyed.{IsWithinKeys, all_keys, consoles_in, key_line, keyed, keys_to}
use Rattle.vt_threads.specs.Between.{ConsoleStands, IsConsoleBefore}
use Rattle.vt_keyboard.specs.Consoles.{CanEndConsole, CanEndIf, CanEndLine}
use Rattle.vt_threads.specs.Halves.{with_steps}
use Rattle.vt_keyboard.specs.Keying.{CanBegin}
use Rattle.vt_threads.specs.Parting.{IsParted, IsPartedFull, IsPartedShared, PartedAs}
use Rattle.vt_keyboard.specs.declared.console_ends.KeySeats.{KeySeats}
use Rattle.vt_threads.specs.declared.consoles.Console.{Console}
use Rattle.vt_threads.specs.declared.parting.OwnSeats.{OwnSeats}
use Rattle.vt_threads.specs.declared.parting.Parted.{Parted}
use Rattle.vt_threads.proofs.KeyRoom.{all_go, all_to, begins_keyed, keys_fit}
use Rattle.vt_threads.proofs.KeyedPlay.{can_play_keyed}
use Rattle.vt_threads.proofs.Seating.{seated_count}
use Rattle.vt_play.specs.Stages.{CanOwn, CanPlayOwn}

-- its line can take so many keys, it can end, and its own threads can play
pub record IsReadyPart (session : VtSession) (k n : ℕ) (q : Parted) : Type 0 where
  pub own : CanOwn q.port q.own (scripts_at session.calls k) q.rest.casting.cast.items
  pub begins : CanBegin q.line q.end
  pub room : q.line.report.arrived + n ≤ q.line.most
  pub ends : CanEndIf q.port q.seats q.end

module _ (session : VtSession) (within : IsWithinKeys (vt_session_of session)) (p : ℕ)
    (known : p < (vt_session_of session).calls.ports) (k : ℕ) (below : k < length (vt_session_of session).calls.phases)
    (phase : PlainVtPhase) (at : slice_get (vt_session_of session).phases k ≡ Some phase) (entries : List VtEntry)
    (before_keys : length (consoles_in entries) ≡ length (all_keys (take k (vt_session_of session).phases)))
    (c : Console) (before : IsConsoleBefore (vt_session_of session) p k entries c) (q : Parted)
    (parted : IsParted session.calls p k c q) where
  abbrev vt : PlainVtSession
  vt = vt_session_of session

  abbrev old : Station
  old = c.station

  abbrev ticks : ℕ
  ticks = ticks_on p (phase_at vt.calls k)

  fits : old.line.report.arrived + length phase.keys ≤ old.line.most
  fits = keys_fit vt p k phase entries old c.end within known at below before_keys before.stands

  rests : CanBegin old.line old.putter
  rests = let fit = fits in begins_keyed vt p k entries old c.end before.stands (omega (arith, fit))

  -- ---- where its port is shared

  module _ (run : ℕ) (end_was : c.end ≡ Over run) (sh : IsPartedShared old c.callers ticks run q) where
    -- a scene in which all keys go to this console
    abbrev part : List VtEntry
    part = all_to p phase.keys

    abbrev scene : Scene
    scene = record { port = p; session = keyed vt (entries ++ (part ++ [])) }

    abbrev work : PhaseWork
    work = record {
      phase = old.port.terminal.phase;
      run = run;
      steps = record { ref_ptr = (0, 0); now = record { items = [] } };
      ticks = ticks;
      cast = record { ref_ptr = (0, 0); now = q.rest.casting.cast.items };
      scripts = record { ref_ptr = (0, 0); now = scripts_at session.calls k };
    }

    abbrev keyed_work : PhaseWork
    keyed_work = with_steps (key_line (keys_to p phase.keys (consoles_in part))) work

    stands : IsBeforePhase scene k old run
    stands = subst (λ (end : PhaseEnd). ConsoleStands scene k old end) end_was (before.stands (part ++ []))

    can : CanPlayPhase scene old keyed_work
    can = can_play_keyed vt within p known k phase at below entries part [] (consoles_in part) refl
        (all_go p phase.keys) before_keys c.callers old work q.rest.casting.roles.items refl stands refl before.callers
        parted.roles_are parted.cast_is

    callers_count : length q.rest.casting.cast.items ≡ c.callers
    callers_count = ap length parted.cast_is ∙ seated_count q.rest.casting.roles.items c.callers

    abbrev met : Station
    met = record { port = sh.shut.met; putter = q.end; line = old.line; steps = old.steps }

    runs : CanRun sh.shared (crew_in sh.dealt old.line q.end keyed_work)
    runs = can_run scene sh.shared met keyed_work sh.dealt
        (can_play_met scene old sh.shut.met q.end keyed_work sh.shut.met_is sh.shut.meets can)
        (subst (λ (n : ℕ). IsShared n sh.shut.met sh.shared sh.dealt) (sym callers_count) sh.shut.shared)

    plays_own : CanPlayOwn sh.shared (record { flusher = sh.dealt.flusher; run = run; callers = sh.dealt.callers })
        (scripts_at session.calls k) q.rest.casting.cast.items
    plays_own = record {
      flusher = runs.flusher;
      seats = runs.callers.seats;
      count = runs.callers.count;
      roles = runs.callers.cast;
    }

    ends_line : CanEndLine sh.shared sh.keys q.end
    ends_line = record {
      here = subst (λ (s : PortSeat). IsHere sh.shared ((name_of_port sh.shared).callers + 1) s) (sym sh.line_seat)
          runs.line.here;
      not_over =
          subst (λ (s : PortSeat). (marks_at (list_seen s)).line_over ≡ false) (sym sh.line_seat) runs.line.not_over;
      ring = runs.line.ring;
      sent =
          subst (λ (s : PortSeat). (marks_at (list_seen s)).sent ≤ length q.end.sent) (sym sh.line_seat) runs.line.sent;
    }

    ends_console : CanEndConsole sh.shared sh.keys q.end
    ends_console = record {
      line = ends_line;
      clock = subst (λ (s : PortSeat). CanPlayClock sh.shared s) (sym sh.clock_seat) runs.clock;
    }

    begins_met : CanBegin old.line q.end
    begins_met =
        let b = rests in
        record {
          unmasked = b.unmasked;
          none_waits = b.none_waits;
          done = b.done;
          within = b.within;
          put = runs.line.put;
        }

    ready_shared : IsReadyPart session k (length phase.keys) q
    ready_shared = record {
      own = subst
          (λ (port : Option SharedPort). CanOwn port q.own (scripts_at session.calls k) q.rest.casting.cast.items)
          (sym sh.port_is)
          (subst (λ (own : Option OwnSeats).
          CanOwn (Some sh.shared) own (scripts_at session.calls k) q.rest.casting.cast.items)
          (sym sh.own_are) plays_own);
      begins = subst (λ (l : LineState). CanBegin l q.end) (sym sh.shut.line_is) begins_met;
      room = subst (λ (l : LineState). l.report.arrived + length phase.keys ≤ l.most) (sym sh.shut.line_is) fits;
      ends = subst (λ (port : Option SharedPort). CanEndIf port q.seats q.end) (sym sh.port_is)
          (subst (λ (seats : Option KeySeats). CanEndIf (Some sh.shared) seats q.end) (sym sh.seats_are) ends_console);
    }

  -- ---- where its journal is full

  ready_full : IsPartedFull old q → IsReadyPart session k (length phase.keys) q
  ready_full sh = record {
    own = subst (λ (port : Option SharedPort). CanOwn port q.own (scripts_at session.calls k) q.rest.casting.cast.items)
        (sym sh.port_is) tt;
    begins = subst (λ (l : LineState). CanBegin l q.end) (sym sh.line_is)
        (subst (λ (e : PutterState Flagged). CanBegin old.line e) (sym sh.end_is) rests);
    room = subst (λ (l : LineState). l.report.arrived + length phase.keys ≤ l.most) (sym sh.line_is) fits;
    ends = subst (λ (port : Option SharedPort). CanEndIf port q.seats q.end) (sym sh.port_is) tt;
  }

  ready_by : (end : PhaseEnd)
      → c.end ≡ end
      → PartedAs old c.callers ticks end q
      → IsReadyPart session k (length phase.keys) q
  ready_by (Over run) is sh = ready_shared run is sh
  ready_by Full is sh = ready_full sh

  pub is_ready : IsReadyPart session k (length phase.keys) q
  is_ready = ready_by c.end refl parted.stands
