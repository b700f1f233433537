-- What the threads of a phase need at its beginning.
use Rattle.std.specs.Prelude.{sum, slice_get}
use Rattle.std.proofs.Common.{◌≡◌, ℕ, suc, ◌+◌, ◌<◌, ◌≤◌, List, [], ◌∷◌, false, Option, Some}
use Rattle.std.proofs.Common.{None, length, refl, sym, ◌∙◌, ap, subst, arith, zero-add}
use Rattle.tty_base.specs.Sizes.{MOST_CALLER_SEATS}
use Rattle.tty_base.specs.declared.characters.Flagged.{Flagged}
use Rattle.tty_base.specs.declared.lines.LineStep.{LineStep}
use Rattle.tty_base.specs.Lines.{arrival_count}
use Rattle.word_ring.specs.Ends.{PutterState}
use Rattle.uart_line.specs.LineState.{LineState}
use Rattle.tty_calls.specs.Sessions.{line_on, counts_on}
use Rattle.tty_calls.specs.Limits.{IsWithinLimits}
use Rattle.tty_terminal.specs.Terminals.{caller_at}
use Rattle.tty_terminal.specs.Standing.{Standing, standing_of}
use Rattle.tty_terminal.specs.Marks.{Marks, marks_of}
use Rattle.legal_runs.specs.Legal.{phase_at, first_step, script_of_first}
use Rattle.port_core.specs.Flips.{MeetsTaker, after_meeting}
use Rattle.port_core.specs.Ports.{PortValue}
use Rattle.play_base.specs.Roles.{Scene, PlainRole, IsRoleOf}
use Rattle.play_base.proofs.Meetings.{has_put_met, has_put_at, sent_met}
use Rattle.play_base.proofs.ReceivedLemmas.{arrivals_fit}
use Rattle.play_base.proofs.RoleLemmas.{few_scripts, sum_counts}
use Rattle.play_base.specs.declared.stations.Station.{Station}
use Rattle.port_cell.specs.declared.kept.Stamped.{Stamped}
use Rattle.tty_port.specs.Inside.{Name, EntryWithCall}
use Rattle.tty_port.specs.Seen.{standing_at, marks_at, next_run, run_after, IsBetweenCalls}
use Rattle.tty_port.specs.Shared.{name_of_port, opening_history}
use Rattle.tty_port.specs.declared.shared.SharedPort.{SharedPort}
use Rattle.tty_port.proofs.Histories.{port_stands, port_marks}
use Rattle.many_threads.specs.declared.seats.Seats.{Seats}
use Rattle.many_threads.specs.declared.shared_phase.PhaseWork.{PhaseWork}
use Rattle.many_threads.specs.Callers.{plain_cast, CanPlay, CanPlayAll, IsPlayable}
use Rattle.many_threads.specs.Crew.{CanRun, crew_in}
use Rattle.many_threads.specs.PhaseStarts.{IsOfSession, IsAtPhase, IsCast, CanPlayPhase}
use Rattle.many_threads.specs.PhaseEnds.{IsShared}
use Rattle.many_threads.proofs.CrewLemmas.{cast_length}
use Rattle.legal_runs.proofs.NameLemmas.{first_next}
use Rattle.legal_runs.proofs.ScriptLemmas.{first_few}

-- ---- both ends meet before the phase

pub phase_met : (s : Scene) (k : ℕ) (v : PortValue) (putter now : PutterState Flagged) (line : LineState) (run : ℕ)
    → IsAtPhase s k v putter line run
    → MeetsTaker v.flip putter now
    → IsAtPhase s k (record v { flip = after_meeting v.flip putter }) now line run
phase_met s k v putter now line run h meets = record {
  of_session = (let o = h.of_session in
      record { counts = o.counts; capacity = o.capacity; limit = o.limit; calls = o.calls; in_phases = o.in_phases });
  phase = h.phase;
  line_over = h.line_over;
  clock_over = h.clock_over;
  callers = h.callers;
  next_run = h.next_run;
  sent = h.sent ∙ ap length (sym (sent_met v.flip putter now meets));
  has_put = has_put_at v (record v { flip = after_meeting v.flip putter }) now line _ refl refl
      (has_put_met v putter now line _ h.has_put meets);
  most = h.most;
}

-- the work is still that of the phase
pub can_play_met : (s : Scene) (old : Station) (met : PortValue) (now : PutterState Flagged) (work : PhaseWork)
    → met ≡ record old.port { flip = after_meeting old.port.flip old.putter }
    → MeetsTaker old.port.flip old.putter now
    → CanPlayPhase s old work
    → CanPlayPhase s (record { port = met; putter = now; line = old.line; steps = old.steps }) work
can_play_met s old met now work is meets can = record {
  limits = can.limits;
  within = can.within;
  at_phase = subst (λ (x : PortValue). IsAtPhase s work.phase x now old.line work.run) (sym is)
      (phase_met s work.phase old.port old.putter now old.line work.run can.at_phase meets);
  steps = can.steps;
  good = can.good;
  ticks = can.ticks;
  roles = subst (λ (x : PortValue). IsCast s work.phase (sum x.counts) (plain_cast work.scripts.now work.cast.now))
      (sym is) can.roles;
}

-- ---- seats

pub few_callers : (s : Scene) (v : PortValue) → IsWithinLimits s.session → IsOfSession s v
    → sum v.counts ≤ MOST_CALLER_SEATS
few_callers s v limits of_session =
    omega (arith, few_scripts s.port s.session limits, sum_counts s.port s.session, ap sum of_session.counts)

pub few_in_cast : (s : Scene) (old : Station) (work : PhaseWork) → CanPlayPhase s old work
    → length work.cast.now ≤ MOST_CALLER_SEATS
few_in_cast s old work can =
    let few = few_callers s old.port can.limits can.at_phase.of_session in
    let size = cast_length work.scripts.now work.cast.now in
    let count = can.roles.count in
    omega (arith, few, size, count)

-- ---- what was known when the port was shared

module _ (s : Scene) (k m : ℕ) (v : PortValue) (p : SharedPort) (seats : Seats) (putter : PutterState Flagged)
    (line : LineState) (run : ℕ) (start : IsAtPhase s k v putter line run) (shared : IsShared m v p seats) where
  marks_opening : marks_at (opening_history p) ≡ marks_of v.terminal
  marks_opening = ap marks_at shared.opening ∙ sym (port_marks m v shared.port)

  pub line_opens : (marks_at (opening_history p)).line_over ≡ false
  line_opens = ap (λ (n : Marks). n.line_over) marks_opening ∙ start.line_over

  pub clock_opens : (marks_at (opening_history p)).clock_over ≡ false
  clock_opens = ap (λ (n : Marks). n.clock_over) marks_opening ∙ start.clock_over

  pub sent_opens : (marks_at (opening_history p)).sent ≤ length putter.sent
  sent_opens = omega (arith, ap (λ (n : Marks). n.sent) marks_opening, start.sent)

  pub run_opens : run ≡ next_run (opening_history p)
  run_opens = start.next_run ∙ ap (λ (n : Marks). run_after n.latest) (sym marks_opening)

  pub ring_opens : putter.ring ≡ (name_of_port p).ring
  ring_opens = start.has_put.ring ∙ ap (λ (n : Name). n.ring) (sym shared.name)

  pub room_opens : (steps : List LineStep)
      → k < length s.session.phases
      → steps ≡ line_on s.port (phase_at s.session k)
      → line.report.arrived + arrival_count steps ≤ line.most
  room_opens steps within is =
      let fit = arrivals_fit s.port s.session k within in
      let count = ap arrival_count is in
      let arrived = start.has_put.done.arrived in
      let most = start.most in
      omega (arith, fit, count, arrived, most)

  between_opens : (c first : ℕ) → first ≡ first_step s.port s.session k c → IsBetweenCalls c first (opening_history p)
  between_opens c first is =
      let stands : standing_at c (opening_history p) ≡ standing_of (caller_at v.terminal c) =
      ap (standing_at c) shared.opening ∙ sym (port_stands m v shared.port c) in
      record {
        next = ap (λ (q : Standing). q.next) stands ∙ ((start.callers c).next_is ∙ sym is);
        not_over = ap (λ (q : Standing). q.over) stands ∙ (start.callers c).not_over;
        not_begun = ap (λ (q : Standing). q.begun) stands ∙ (start.callers c).not_begun;
      }

  playable : (c : ℕ) (r : PlainRole)
      → IsWithinLimits s.session
      → k < length s.session.phases
      → IsRoleOf s k r
      → r.number ≡ c
      → IsPlayable p c r
  playable c r limits within role number =
      let next = first_next s.port s.session k r.number within in
      let few = first_few s.port s.session (k + 1) r.number limits in
      let first = role.first in
      let count = role.count in
      let counts : sum (name_of_port p).counts ≡ sum (counts_on s.port s.session) =
      ap (λ (n : Name). sum n.counts) shared.name ∙ ap sum start.of_session.counts in
      record {
        number = number;
        known = omega (arith, role.known, number, counts);
        within = role.within;
        few = omega arith;
        between = between_opens c r.first (first ∙ ap (first_step s.port s.session k) number);
      }

  can_play_from : (n : ℕ) (rs : List (Option PlainRole))
      → IsWithinLimits s.session
      → k < length s.session.phases
      → ((i : ℕ) (r : PlainRole) → slice_get rs i ≡ Some (Some r) → IsRoleOf s k r × (r.number ≡ n + i))
      → CanPlayAll p n rs
  can_play_from n [] limits within roles = tt
  can_play_from n (r ∷ rs) limits within roles = (
    either r (λ q is. roles 0 q (ap (λ (o : Option PlainRole). Some o) is)),
    can_play_from (n + 1) rs limits within (λ i q at.
        let role = roles (suc i) q at in (role.0, role.1 ∙ (let e : n + suc i ≡ n + 1 + i = omega arith in e))),
  )
    where
      either : (o : Option PlainRole)
          → ((q : PlainRole) → o ≡ Some q → IsRoleOf s k q × (q.number ≡ n + 0))
          → CanPlay p n o
      either None h = tt
      either (Some q) h =
          let role = h q refl in playable n q limits within role.0 (role.1 ∙ (let e : n + 0 ≡ n = omega arith in e))

  pub can_play : (callers : ℕ) (rs : List (Option PlainRole))
      → IsWithinLimits s.session
      → k < length s.session.phases
      → IsCast s k callers rs
      → CanPlayAll p 0 rs
  can_play callers rs limits within are =
      can_play_from 0 rs limits within (λ i r at. let role = are.roles i r at in (role.0, role.1 ∙ sym (zero-add i)))

-- ---- all of a crew

pub can_run : (s : Scene) (p : SharedPort) (old : Station) (work : PhaseWork) (dealt : Seats)
    → CanPlayPhase s old work
    → IsShared (length work.cast.now) old.port p dealt
    → CanRun p (crew_in dealt old.line old.putter work)
can_run s p old work dealt can shared =
    let k = work.phase in
    let m = length work.cast.now in
    let v : PortValue = old.port in
    let at = can.at_phase in
    let fresh = shared.dealt in
    let number : (name_of_port p).callers ≡ m = ap (λ (n : Name). n.callers) shared.name in
    record {
      line = record {
        here = fresh.line.here;
        not_over =
            ap (λ (l : List (Stamped EntryWithCall)). (marks_at l).line_over) fresh.line.seen
            ∙ line_opens s k m v p dealt old.putter old.line work.run at shared;
        ring = ring_opens s k m v p dealt old.putter old.line work.run at shared;
        sent = subst (λ (l : List (Stamped EntryWithCall)). (marks_at l).sent ≤ length old.putter.sent)
            (sym fresh.line.seen) (sent_opens s k m v p dealt old.putter old.line work.run at shared);
        done = (script_of_first s.port s.session k, at.has_put.done);
        good = can.good;
        room =
            room_opens s k m v p dealt old.putter old.line work.run at shared work.steps.now.items can.within can.steps;
        put = at.has_put.room;
      };
      clock = record {
        here = fresh.clock.here;
        not_over =
            ap (λ (l : List (Stamped EntryWithCall)). (marks_at l).clock_over) fresh.clock.seen
            ∙ clock_opens s k m v p dealt old.putter old.line work.run at shared;
      };
      flusher = record {
        here = fresh.flusher.here;
        next = run_opens s k m v p dealt old.putter old.line work.run at shared ∙ ap next_run (sym fresh.flusher.seen);
      };
      callers = record {
        seats = fresh.callers;
        count = fresh.count ∙ number;
        cast = can_play s k m v p dealt old.putter old.line work.run at shared (sum v.counts)
            (plain_cast work.scripts.now work.cast.now) can.limits can.within can.roles;
      };
    }
