-- The account of a phase: from what comes of its threads, and the port that is whole again after them.
use Rattle.std.specs.Prelude.{sum}
use Rattle.std.specs.List.{All}
use Rattle.std.proofs.Common.{◌≡◌, ◌⊎◌, inl, inr, ℕ, zero, suc, ◌+◌, ◌<◌, ◌≤◌, List, [], ◌∷◌}
use Rattle.std.proofs.Common.{◌++◌, Bool, true, false, ◌&&◌, Option, Some, length, refl, sym, ◌∙◌}
use Rattle.std.proofs.Common.{ap, subst, arith, zero-add, append-nil, append_assoc, length-append}
use Rattle.std.specs.Prelude.{slice_get, nat_le, count_by}
use Rattle.std.proofs.lemmas.Bool.{false≢true}
use Rattle.std.proofs.lemmas.Grind.{flat_map-append}
use Rattle.std.proofs.lemmas.List.{append_cancel_left, length-map}
use Rattle.tty_base.specs.declared.characters.Flagged.{Flagged}
use Rattle.tty_base.specs.declared.lines.LineStep.{LineStep}
use Rattle.tty_base.specs.declared.lines.Overrun.{Overrun}
use Rattle.word_ring.specs.Ends.{PutterState}
use Rattle.uart_line.specs.LineState.{LineState}
use Rattle.uart_line.specs.Received.{received_list, closed_script}
use Rattle.uart_line.specs.Offered.{kept_list}
use Rattle.uart_line.proofs.OfferedLemmas.{HandsOver-kept}
use Rattle.tty_calls.specs.Plain.{PlainCall, line_ended, PlainEntry}
use Rattle.tty_calls.specs.Sessions.{line_on, ticks_on, scripts_on, scripts_over, names_of, call_at, counts_on}
use Rattle.tty_terminal.specs.Terminals.{Terminal, opening, caller_at, has_begun, is_over}
use Rattle.tty_terminal.specs.Steps.{callers_in, nothing_to_flush, may_end}
use Rattle.tty_terminal.specs.Runs.{Leads, IsRun, chars_of}
use Rattle.tty_terminal.specs.Standing.{standing_of}
use Rattle.tty_terminal.specs.Marks.{Marks, marks_of}
use Rattle.tty_terminal.proofs.Runs.{run_callers}
use Rattle.legal_runs.specs.Legal.{phase_at, name_at, has_script, first_step, steps_in, script_of_first, session_events}
use Rattle.legal_runs.specs.Legal.{session_events_in, received_before, AreInPhases}
use Rattle.legal_runs.specs.Phases.{HasPlayed, CompletesPhase}
use Rattle.legal_runs.proofs.CallerLemmas.{PlaysAt, plays_first, callers_complete, three_true}
use Rattle.port_core.specs.Flips.{MeetsTaker}
use Rattle.port_core.specs.Ports.{PortValue}
use Rattle.play_base.specs.Roles.{Scene, PlainRole}
use Rattle.play_base.specs.Putting.{HasPut, KnowsTaken}
use Rattle.play_base.specs.declared.stations.Station.{Station}
use Rattle.play_base.proofs.JournalLemmas.{leads_both, none_ends}
use Rattle.play_base.proofs.Refusals.{All_front}
use Rattle.play_base.proofs.Meetings.{has_put_met, has_put_at}
use Rattle.play_base.proofs.NameLemmas.{few_names}
use Rattle.play_base.proofs.PhaseLemmas.{phase_stays}
use Rattle.play_base.proofs.ReceivedLemmas.{kept_later}
use Rattle.play_base.proofs.RoleLemmas.{sum_counts}
use Rattle.port_cell.specs.declared.kept.Stamped.{Stamped}
use Rattle.port_cell.specs.Entries.{Keeps, Begins}
use Rattle.port_cell.specs.Knowledge.{list_seen}
use Rattle.port_cell.specs.Seats.{EachSeat}
use Rattle.tty_port.specs.Inside.{Name, EntryWithCall}
use Rattle.tty_port.specs.Histories.{history_in, name_in}
use Rattle.tty_port.specs.Seen.{entries_in, marks_at, chars_at, led_to, next_run, terminal_at, run_after}
use Rattle.tty_port.specs.Placed.{ArePlaced, HaveCalls, IsHistoryOf}
use Rattle.tty_port.specs.Calls.{PortSeat}
use Rattle.tty_port.specs.Lines.{MeetsFlip}
use Rattle.tty_port.specs.Shared.{IsHere, HasAllOf, name_of_port, opening_history}
use Rattle.tty_port.specs.declared.shared.SharedPort.{SharedPort}
use Rattle.tty_port.proofs.Histories.{entries_append, is_history, port_marks}
use Rattle.tty_port.proofs.Keeping.{placed_right}
use Rattle.many_threads.specs.declared.crew.Crew.{Crew}
use Rattle.many_threads.specs.declared.seats.Seats.{Seats}
use Rattle.many_threads.specs.declared.shared_phase.PhaseWork.{PhaseWork}
use Rattle.many_threads.specs.declared.shared_phase.PhaseBack.{PhaseBack}
use Rattle.many_threads.specs.declared.shared_phase.PhaseEnd.{PhaseEnd}
use Rattle.many_threads.specs.declared.shared_phase.PhaseEnd.TheVariants.{Over, Full}
use Rattle.many_threads.specs.Parts as parts
use Rattle.many_threads.specs.Parts.{StopsClock, PlaysClock, RunsLine, PlaysLine, PlaysFlusher}
use Rattle.many_threads.specs.Callers.{EachCaller, IsBack, SomeSawFull}
use Rattle.many_threads.specs.Crew.{cast_of, crew_in, seats_of}
use Rattle.many_threads.specs.Seats.{AreDealt}
use Rattle.many_threads.specs.PhaseStarts.{IsAtPhase, IsCast, CanPlayPhase, StopsPhase}
use Rattle.many_threads.specs.PhaseEnds.{all_seats, IsShared, IsClosed, PartsArePlayed, AreStopped}
use Rattle.many_threads.specs.PhaseEnds.{Tells, ThreadsCome, PlaysThreads, ThreadsLeave}
use Rattle.many_threads.proofs.CrewLemmas.{cast_length}
use Rattle.many_threads.proofs.PartLemmas.{placed_left, flusher_begins}
use Rattle.many_threads.proofs.ClosingLemmas.{line_is_over, clock_is_over, clock_stops}
use Rattle.many_threads.proofs.AccountLemmas.{IsIn, AllInRoles, made_of_role}
use Rattle.many_threads.proofs.LineAccount.{has_put_runs, HasSeen, overruns_seen}
use Rattle.many_threads.proofs.PortAccount.{IsPartOf, leads_split, part_of, have, run_v}
use Rattle.many_threads.proofs.LineEnds.{none_of_line, line_parts, chars_before}
use Rattle.many_threads.proofs.IdleLemmas.{led_as_run, have_left, IsIdle, none_follow, in_phases_left}
use Rattle.many_threads.proofs.IdleLemmas.{in_phases_right, plays_on, RestsAt, rests_on, at_rest, rested}
use Rattle.legal_runs.proofs.LineLemmas.{first_more}
use Rattle.legal_runs.proofs.Truths.{nothing_first, nothing_rest}

-- ---- seats

each_seat_left : (P : PortSeat → Type 0) (xs ys : List PortSeat) → EachSeat P (xs ++ ys) → EachSeat P xs
each_seat_left P [] ys h = tt
each_seat_left P (x ∷ xs) ys h = (h.0, each_seat_left P xs ys h.1)

each_seat_right : (P : PortSeat → Type 0) (xs ys : List PortSeat) → EachSeat P (xs ++ ys) → EachSeat P ys
each_seat_right P [] ys h = h
each_seat_right P (x ∷ xs) ys h = each_seat_right P xs ys h.1

in_roles_from : (p : SharedPort) (n : ℕ) (rs : List (Option PlainRole)) (ss : List PortSeat)
    (ys rest : List (Stamped EntryWithCall))
    → EachCaller (IsBack p) n rs ss
    → EachSeat (HasAllOf ys) ss
    → ys ≡ opening_history p ++ rest
    → (i : ℕ) (r : Option PlainRole)
    → slice_get rs i ≡ Some r
    → parts.Each (λ (x : Stamped EntryWithCall). x.seat ≡ n + i → IsIn r (n + i) x) rest
in_roles_from p n [] ss ys rest back all whole i r at = absurd (cc)
in_roles_from p n (q ∷ rs) [] ys rest back all whole i r at = absurd back
in_roles_from p n (q ∷ rs) (s ∷ ss) ys rest back all whole zero r at =
    let same : r ≡ q = cc in
    let number : n ≡ n + 0 = omega arith in
    subst (λ (o : Option PlainRole). parts.Each (λ (x : Stamped EntryWithCall). x.seat ≡ n + 0 → IsIn o (n + 0) x) rest)
    (sym same)
    (subst (λ (k : ℕ). parts.Each (λ (x : Stamped EntryWithCall). x.seat ≡ k → IsIn q k x) rest) number
    (made_of_role p n q s ys rest back.0.here back.0.made all.0 whole))
in_roles_from p n (q ∷ rs) (s ∷ ss) ys rest back all whole (suc i) r at =
    let number : n + 1 + i ≡ n + suc i = omega arith in
    subst (λ (k : ℕ). parts.Each (λ (x : Stamped EntryWithCall). x.seat ≡ k → IsIn r k x) rest) number
    (in_roles_from p (n + 1) rs ss ys rest back.1 all.1 whole i r at)

in_roles : (p : SharedPort) (rs : List (Option PlainRole)) (ss : List PortSeat) (ys rest : List (Stamped EntryWithCall))
    → EachCaller (IsBack p) 0 rs ss
    → EachSeat (HasAllOf ys) ss
    → ys ≡ opening_history p ++ rest
    → AllInRoles rs rest
in_roles p rs ss ys rest back all whole c r at =
    subst (λ (k : ℕ). parts.Each (λ (x : Stamped EntryWithCall). x.seat ≡ k → IsIn r k x) rest) (zero-add c)
    (in_roles_from p 0 rs ss ys rest back all whole c r at)

-- no seat has seen more than there is
saw_full : (name : Name) (ss : List PortSeat) (ys : List (Stamped EntryWithCall))
    → SomeSawFull name ss
    → EachSeat (HasAllOf ys) ss
    → name.limit ≤ length ys
saw_full name [] ys h all = absurd h
saw_full name (s ∷ ss) ys (inl h) all =
    let k = all.0.begins in
    omega (arith, h, ap length k.1, length-append (list_seen s) k.0)
saw_full name (s ∷ ss) ys (inr h) all = saw_full name ss ys h all.1

-- ---- small facts

last_true : (a b c d : Bool) → (a && (b && (c && d))) ≡ true → d ≡ true
last_true true true true d h = h
last_true true true false d h = absurd (false≢true h)
last_true true false c d h = absurd (false≢true h)
last_true false b c d h = absurd (false≢true h)

is_played : (b : Bool) (first count next : ℕ) (over : Bool) → b ≡ true → HasPlayed b first count next over → over ≡ true
is_played true first count next over is h = h.1
is_played false first count next over is h = absurd (false≢true is)

-- the putter met the end that takes out, of which these were taken
put_meets : (v : PortValue) (met now : PutterState Flagged) (played : LineState) (steps : List LineStep)
    (taken : List Flagged)
    → HasPut v met played steps
    → MeetsFlip taken met now
    → HasPut v now played steps
put_meets v met now played steps taken put meets =
    let u : PortValue = record v { flip = record v.flip { taken = taken } } in
    let m : MeetsTaker u.flip met now = record {
      putter = meets.putter;
      begins = meets.begins;
      heads = meets.heads;
      rise = meets.rise;
      rises = meets.rises;
    } in
    has_put_at u v now played steps refl refl
    (has_put_met u met now played steps (has_put_at v u met played steps refl refl put) m)

heads_meet : (met now : PutterState Flagged) (taken : List Flagged)
    → MeetsFlip taken met now
    → All (λ h. h ≤ length taken) met.heads
heads_meet met now taken meets =
    let heads : now.heads ≡ met.heads ++ length taken ∷ [] = ap (λ (p : PutterState Flagged). p.heads) meets.putter in
    All_front (λ h. h ≤ length taken) met.heads (length taken ∷ [])
    (subst (All (λ h. h ≤ length taken)) heads meets.heads)

sent_meets : (met now : PutterState Flagged) (taken : List Flagged) → MeetsFlip taken met now → now.sent ≡ met.sent
sent_meets met now taken meets = ap (λ (p : PutterState Flagged). p.sent) meets.putter

-- ---- a phase

module _ (s : Scene) (p : SharedPort) (crew : Crew) (rest : PortSeat) (v w : PortValue) (back : PhaseBack)
    (within : v.terminal.phase < length s.session.phases)
    (start : IsAtPhase s v.terminal.phase v crew.line.receiver.putter crew.line.receiver.line crew.flusher.run)
    (knows : KnowsTaken (length v.flip.taken) crew.line.receiver.putter.heads)
    (script : crew.line.steps.now.items ≡ line_on s.port (phase_at s.session v.terminal.phase))
    (asked : crew.clock.ticks ≡ ticks_on s.port (phase_at s.session v.terminal.phase))
    (shared : IsShared (name_of_port p).callers v p (seats_of crew rest))
    (all : (name_of_port p).callers ≡ sum v.counts)
    (are : IsCast s v.terminal.phase (name_of_port p).callers (cast_of crew.callers)) (come : ThreadsCome p crew back)
    (closed : IsClosed p back.seats w) where
  abbrev rs : List (Option PlainRole)
  rs = cast_of crew.callers

  abbrev steps : List LineStep
  steps = crew.line.steps.now.items

  abbrev ticks : ℕ
  ticks = crew.clock.ticks

  abbrev line : LineState
  line = crew.line.receiver.line

  abbrev putter : PutterState Flagged
  putter = crew.line.receiver.putter

  abbrev m : ℕ
  m = (name_of_port p).callers

  abbrev k : ℕ
  k = v.terminal.phase

  abbrev xs : List (Stamped EntryWithCall)
  xs = history_in m v

  abbrev ys : List (Stamped EntryWithCall)
  ys = history_in m w

  abbrev calls : ℕ → ℕ → Option PlainCall
  calls = call_at s.port s.session

  abbrev counts : List ℕ
  counts = counts_on s.port s.session

  abbrev before : List LineStep
  before = script_of_first s.port s.session k

  four : EachSeat (HasAllOf ys) (back.seats.flusher ∷ back.seats.line ∷ back.seats.clock ∷ back.seats.session ∷ [])
  four = each_seat_right (HasAllOf ys) back.seats.callers.items
      (back.seats.flusher ∷ back.seats.line ∷ back.seats.clock ∷ back.seats.session ∷ []) closed.all

  kept_of : (n : ℕ) (seat : PortSeat) → IsHere p n seat → HasAllOf ys seat → Keeps n (list_seen seat) ys
  kept_of n seat here h = subst (λ (i : ℕ). Keeps i (list_seen seat) ys) here.number h.begins

  session : Keeps (m + 3) xs ys
  session =
      subst (λ (zs : List (Stamped EntryWithCall)). Keeps (m + 3) zs ys) (come.session ∙ shared.opening)
      (kept_of (m + 3) back.seats.session come.seats.session four.1.1.1.0)

  placed : ArePlaced m (sum w.counts) ys
  placed = closed.history.placed

  name : name_in m w ≡ name_in m v
  name = closed.name ∙ shared.name

  was : IsHistoryOf m v xs
  was = is_history m v shared.port

  story : AllInRoles rs session.0
  story =
      in_roles p rs back.seats.callers.items ys session.0 come.callers
      (each_seat_left (HasAllOf ys) back.seats.callers.items
      (back.seats.flusher ∷ back.seats.line ∷ back.seats.clock ∷ back.seats.session ∷ []) closed.all)
      (session.1 ∙ ap (λ (zs : List (Stamped EntryWithCall)). zs ++ session.0) (sym shared.opening))

  part : IsPartOf s v w (entries_in session.0)
  part = part_of s m rs v w start.of_session shared.port closed.port name all was closed.history session are story

  has_calls : HaveCalls calls ys
  has_calls = have s m rs v w start.of_session shared.port closed.port name all was closed.history session are story

  run_to_v : IsRun calls counts v.flip.capacity v.journal v.terminal
  run_to_v = run_v s m rs v w start.of_session shared.port closed.port name all was closed.history session are story

  ring : w.flip.ring ≡ v.flip.ring
  ring = ap (λ (n : Name). n.ring) name

  capacity : w.flip.capacity ≡ v.flip.capacity
  capacity = ap (λ (n : Name). n.capacity) name

  marks_w : marks_of w.terminal ≡ marks_at ys
  marks_w = port_marks m w closed.port

  marks_v : marks_of v.terminal ≡ marks_at xs
  marks_v = port_marks m v shared.port

  clock_keeps : Keeps (m + 2) (list_seen back.seats.clock) ys
  clock_keeps = kept_of (m + 2) back.seats.clock come.seats.clock four.1.1.0

  line_keeps : Keeps (m + 1) (list_seen back.seats.line) ys
  line_keeps = kept_of (m + 1) back.seats.line come.seats.line four.1.0

  flusher_keeps : Keeps m (list_seen back.seats.flusher) ys
  flusher_keeps = kept_of m back.seats.flusher come.seats.flusher four.0

  -- the clock's and the line's stories begin with the history that was there
  from_start : (P : List (Stamped EntryWithCall) → Type 0) → P (opening_history p) → P xs
  from_start P h = subst P shared.opening h

  next_script : script_of_first s.port s.session (k + 1) ≡ before ++ closed_script steps
  next_script =
      first_more s.port s.session k within ∙ ap (λ (l : List LineStep). before ++ closed_script l) (sym script)

  -- ---- what the line put

  put_at : (now : PutterState Flagged) (played : LineState)
      → HasPut v now played (before ++ closed_script steps)
      → HasPut w now played (script_of_first s.port s.session (k + 1))
  put_at now played h = subst (HasPut w now played) (sym next_script)
      (has_put_at v w now played (before ++ closed_script steps) ring capacity h)

  put_runs : (met : PutterState Flagged) (played : LineState)
      → RunsLine steps line played putter met
      → HasPut v met played (before ++ closed_script steps)
  put_runs met played runs = has_put_runs v putter met line played before steps start.has_put runs

  put_plays : (now : PutterState Flagged) (played : LineState) (zs : List (Stamped EntryWithCall))
      → PlaysLine (m + 1) steps line played putter now zs back.seats.line
      → HasPut v now played (before ++ closed_script steps)
  put_plays now played zs h = put_meets v h.met now played (before ++ closed_script steps) (chars_at h.before)
      (put_runs h.met played h.runs) h.ends.meets

  -- ---- a full journal

  journal_length : length w.journal ≡ length ys
  journal_length = ap length (sym closed.history.entries) ∙ length-map ys (λ (x : Stamped EntryWithCall). x.what.entry)

  stops_ticks : PlaysClock (m + 2) ticks (opening_history p) back.seats.clock
      ⊎ StopsClock (m + 2) ticks (opening_history p) back.seats.clock
      → w.terminal.tick ≤ v.terminal.tick + ticks_on s.port (phase_at s.session k)
  stops_ticks (inl h) =
      let over = clock_is_over m (sum w.counts) ticks xs ys back.seats.clock placed session clock_keeps
      (from_start (λ zs. PlaysClock (m + 2) ticks zs back.seats.clock) h) in
      omega (arith, over.1, ap (λ (n : Marks). n.tick) marks_w, ap (λ (n : Marks). n.tick) marks_v, asked)
  stops_ticks (inr h) =
      let few = clock_stops m (sum w.counts) ticks xs ys back.seats.clock placed clock_keeps
      (from_start (λ zs. StopsClock (m + 2) ticks zs back.seats.clock) h) in
      omega (arith, few, ap (λ (n : Marks). n.tick) marks_w, ap (λ (n : Marks). n.tick) marks_v, asked)

  stops_put : PlaysLine (m + 1) steps line back.line putter back.putter (opening_history p) back.seats.line
      ⊎ RunsLine steps line back.line putter back.putter
      → HasPut v back.putter back.line (before ++ closed_script steps) × (back.line.most ≡ line.most)
  stops_put (inl h) = (put_plays back.putter back.line (opening_history p) h, h.runs.most)
  stops_put (inr h) = (put_runs back.putter back.line h, h.most)

  pub phase_stops : AreStopped p crew back → StopsPhase s k v w back.putter line back.line
  phase_stops h =
      let put = stops_put h.line_runs in
      let least = saw_full (name_of_port p) (all_seats back.seats) ys h.full closed.all in
      let limit = ap (λ (n : Name). n.limit) closed.name in
      record {
        of_session = part.of_session;
        part = entries_in session.0;
        added = part.added;
        leads = part.leads;
        inside = part.inside;
        ticks = stops_ticks h.clock;
        full = omega (arith, least, limit, part.of_session.limit, closed.port.few, journal_length);
        ring = ring;
        capacity = capacity;
        has_put = put_at back.putter back.line put.0;
        most = put.1;
      }

  -- ---- the phase may end

  module _ (next : ℕ) (played : PartsArePlayed p crew back next) where
    abbrev zs : List (Stamped EntryWithCall)
    zs = list_seen back.seats.flusher

    flusher : PlaysFlusher (name_of_port p) crew.flusher.run crew.flusher.seat next back.seats.flusher
    flusher = played.flusher

    flusher_from : Begins xs zs
    flusher_from =
        subst (λ (l : List (Stamped EntryWithCall)). Begins l zs) (shared.dealt.flusher.seen ∙ shared.opening)
        (flusher_begins (name_of_port p) crew.flusher.run crew.flusher.seat (flusher.last ∷ flusher.runs)
        next back.seats.flusher flusher.flushes)

    -- what was made before the flusher's last look, and after it
    abbrev seen : List (Stamped EntryWithCall)
    seen = flusher_from.0

    abbrev later : List (Stamped EntryWithCall)
    later = flusher_keeps.0

    both : session.0 ≡ seen ++ later
    both = append_cancel_left xs session.0 (seen ++ later)
        (sym session.1
        ∙ (flusher_keeps.1
        ∙ (ap (λ (l : List (Stamped EntryWithCall)). l ++ later) flusher_from.1 ∙ append_assoc xs seen later)))

    entries_both : entries_in session.0 ≡ entries_in seen ++ entries_in later
    entries_both = ap entries_in both ∙ entries_append seen later

    inside_both : session_events_in (entries_in seen) ++ session_events_in (entries_in later) ≡ []
    inside_both =
        sym (flat_map-append (λ (e : PlainEntry). session_events e.event) (entries_in seen) (entries_in later))
        ∙ (ap session_events_in (sym entries_both) ∙ part.inside)

    split : (t : Terminal)
        × Leads calls counts v.terminal (entries_in seen) t
        × Leads calls counts t (entries_in later) w.terminal
    split = leads_split calls counts v.terminal (entries_in seen) (entries_in later) w.terminal
        (subst (λ (es : List PlainEntry). Leads calls counts v.terminal es w.terminal) entries_both part.leads)

    -- the terminal at the flusher's last look
    abbrev t : Terminal
    t = split.0

    run_to_t : IsRun calls counts v.flip.capacity (v.journal ++ entries_in seen) t
    run_to_t = leads_both calls counts (opening (sum counts) v.flip.capacity) v.journal v.terminal (entries_in seen)
        t run_to_v split.1

    entries_zs : entries_in zs ≡ v.journal ++ entries_in seen
    entries_zs =
        ap entries_in flusher_from.1
        ∙ (entries_append xs seen ∙ ap (λ (es : List PlainEntry). es ++ entries_in seen) was.entries)

    at_look : terminal_at (name_of_port p) zs ≡ t
    at_look =
        ap (λ (n : Name). terminal_at n zs) shared.name
        ∙ (ap (λ (cs : List ℕ). led_to (opening (sum cs) v.flip.capacity) zs) start.of_session.counts
        ∙ led_as_run calls counts (opening (sum counts) v.flip.capacity) zs t
        (have_left calls zs later (subst (HaveCalls calls) flusher_keeps.1 has_calls))
        (subst (λ (es : List PlainEntry). IsRun calls counts v.flip.capacity es t) (sym entries_zs) run_to_t))

    may_t : may_end counts t ≡ true
    may_t =
        subst (λ (u : Terminal). may_end counts u ≡ true) at_look
        (subst (λ (cs : List ℕ). may_end cs (terminal_at (name_of_port p) zs) ≡ true)
        (ap (λ (n : Name). n.counts) shared.name ∙ start.of_session.counts) flusher.ended)

    phase_t : t.phase ≡ k
    phase_t =
        let stays = phase_stays calls counts v.terminal (entries_in seen) t split.1 in
        let none = none_ends (entries_in seen)
        (nothing_first (session_events_in (entries_in seen)) (session_events_in (entries_in later)) inside_both) in
        omega (arith, stays, none)

    phase_both : AreInPhases s.port s.session k (entries_in seen ++ entries_in later)
    phase_both = subst (AreInPhases s.port s.session k) entries_both part.in_phase

    plays_t : (c : ℕ) → PlaysAt s.port s.session k t c
    plays_t c =
        plays_on s.port s.session k v.terminal (entries_in seen) t c split.1
        (in_phases_left s.port s.session k (entries_in seen) (entries_in later) phase_both)
        (nothing_first (session_events_in (entries_in seen)) (session_events_in (entries_in later)) inside_both)
        (plays_first _ _ _ _ _ (start.callers c).next_is (start.callers c).not_over)

    many_t : length (names_of (scripts_over s.port s.session.phases)) ≤ length t.callers
    many_t = omega (
      arith,
      few_names (scripts_over s.port s.session.phases),
      sum_counts s.port s.session,
      run_callers calls counts v.flip.capacity (v.journal ++ entries_in seen) t run_to_t,
    )

    complete_t : (c : ℕ)
        → HasPlayed (has_script (scripts_on s.port (phase_at s.session k)) (name_at s.port s.session c))
        (first_step s.port s.session k c) (steps_in s.port s.session k c) (caller_at t c).next (caller_at t c).over
    complete_t = callers_complete s.port s.session k t within phase_t many_t plays_t may_t

    idle_t : IsIdle s.port s.session k t
    idle_t =
        let three = three_true t.line_over t.clock_over
        (nat_le (callers_in counts t.phase) (count_by is_over t.callers)) (nothing_to_flush t) may_t in
        record {
          line = three.0;
          clock = three.1;
          callers = λ c is. is_played _ _ _ _ _ is (complete_t c);
          nothing = last_true t.line_over t.clock_over (nat_le (callers_in counts t.phase) (count_by is_over t.callers))
              (nothing_to_flush t) may_t;
        }

    none_later : later ≡ []
    none_later =
        none_follow s.port s.session k t later w.terminal idle_t split.2
        (in_phases_right s.port s.session k (entries_in seen) (entries_in later)
        (nothing_first (session_events_in (entries_in seen)) (session_events_in (entries_in later)) inside_both)
        phase_both)
        (nothing_rest (session_events_in (entries_in seen)) (session_events_in (entries_in later)) inside_both)

    -- so the flusher's last look was at the port as it is now
    same : w.terminal ≡ t
    same =
        subst (λ (l : List (Stamped EntryWithCall)). Leads calls counts t (entries_in l) w.terminal) none_later split.2

    whole_seen : ys ≡ zs
    whole_seen = flusher_keeps.1 ∙ (ap (λ (l : List (Stamped EntryWithCall)). zs ++ l) none_later ∙ append-nil zs)

    may_w : may_end w.counts w.terminal ≡ true
    may_w =
        subst (λ (u : Terminal). may_end w.counts u ≡ true) (sym same)
        (subst (λ (cs : List ℕ). may_end cs t ≡ true) (sym part.of_session.counts) may_t)

    complete : (c : ℕ)
        → HasPlayed (has_script (scripts_on s.port (phase_at s.session k)) (name_at s.port s.session c))
        (first_step s.port s.session k c) (steps_in s.port s.session k c)
        (caller_at w.terminal c).next (caller_at w.terminal c).over
    complete c = subst (λ (u : Terminal). HasPlayed
        (has_script (scripts_on s.port (phase_at s.session k)) (name_at s.port s.session c))
        (first_step s.port s.session k c) (steps_in s.port s.session k c) (caller_at u c).next (caller_at u c).over)
        (sym same) (complete_t c)

    rests : (c : ℕ) → has_begun (caller_at w.terminal c) ≡ false
    rests c =
        let b = has_script (scripts_on s.port (phase_at s.session k)) (name_at s.port s.session c) in
        let now : RestsAt s.port s.session k w.terminal c =
        rests_on s.port s.session k v.terminal (entries_in session.0) w.terminal c part.leads part.in_phase part.inside
        (at_rest b (standing_of (caller_at v.terminal c)) (start.callers c).not_begun) in
        rested b (standing_of (caller_at w.terminal c)) now (λ is. is_played b _ _ _ _ is (complete c))

    -- ---- the line

    h : PlaysLine (m + 1) steps line back.line putter back.putter xs back.seats.line
    h = from_start (λ l. PlaysLine (m + 1) steps line back.line putter back.putter l back.seats.line) played.line_plays

    abbrev front : List PlainEntry
    front = entries_in h.found.0

    abbrev rear : List PlainEntry
    rear = entries_in line_keeps.0

    three_parts : session.0 ≡ h.found.0 ++ h.last ∷ line_keeps.0
    three_parts =
        line_parts m (m + 3) steps line back.line putter back.putter xs ys back.seats.line session h line_keeps

    entries_parts : entries_in session.0 ≡ front ++ h.last.what.entry ∷ rear
    entries_parts = ap entries_in three_parts ∙ entries_append h.found.0 (h.last ∷ line_keeps.0)

    sent_now : back.putter.sent ≡ h.met.sent
    sent_now = sent_meets h.met back.putter (chars_at h.before) h.ends.meets

    line_over : ((marks_at ys).line_over ≡ true) × ((marks_at ys).sent ≡ length h.met.sent)
    line_over = line_is_over m (sum w.counts) steps line back.line putter back.putter
        xs ys back.seats.line placed session line_keeps h

    clock_over : ((marks_at ys).clock_over ≡ true) × ((marks_at ys).tick ≡ (marks_at xs).tick + ticks)
    clock_over = clock_is_over m (sum w.counts) ticks xs ys back.seats.clock placed session clock_keeps
        (from_start (λ l. PlaysClock (m + 2) ticks l back.seats.clock) played.clock)

    sent_w : w.terminal.sent ≡ length back.putter.sent
    sent_w = ap (λ (n : Marks). n.sent) marks_w ∙ (line_over.1 ∙ ap length (sym sent_now))

    put_w : HasPut w back.putter back.line (script_of_first s.port s.session (k + 1))
    put_w = put_at back.putter back.line (put_plays back.putter back.line xs h)

    placed_front : ArePlaced m (sum w.counts) h.found.0
    placed_front =
        placed_left m (sum w.counts) h.found.0 (h.last ∷ line_keeps.0)
        (subst (ArePlaced m (sum w.counts)) three_parts
        (placed_right m (sum w.counts) xs session.0 (subst (ArePlaced m (sum w.counts)) session.1 placed)))

    completes : (more : List Overrun)
        → All (λ o. received_before s.port s.session (k + 1) ≤ o.at) more
        → CompletesPhase s.port s.session (back.line.report.overruns.items ++ more) k v.terminal w.terminal
    completes more past =
        let list : List Flagged = received_list (script_of_first s.port s.session (k + 1)) in
        let kept : back.putter.sent ≡ kept_list list back.line.report.overruns.items =
        HandsOver-kept w.flip.capacity list back.putter.sent back.putter.heads
        back.line.report.overruns.items put_w.hands_over in
        let also : kept_list list (back.line.report.overruns.items ++ more)
        ≡ kept_list list back.line.report.overruns.items = kept_later list back.line.report.overruns.items more past in
        record {
          line = ap (λ (n : Marks). n.line_over) marks_w ∙ line_over.0;
          sent = sent_w ∙ ap (λ (cs : List Flagged). length cs) (kept ∙ sym also);
          clock = ap (λ (n : Marks). n.clock_over) marks_w ∙ clock_over.0;
          tick =
              ap (λ (n : Marks). n.tick) marks_w
              ∙ (clock_over.1
              ∙ (ap (λ (n : Marks). n.tick + ticks) (sym marks_v) ∙ ap (λ (n : ℕ). v.terminal.tick + n) asked));
          first = λ c. (start.callers c).next_is;
          callers = complete;
        }

    most_seen : chars_at h.before ≡ chars_of (v.journal ++ front)
    most_seen = chars_before (m + 1) xs h.before v.journal h.found was.entries

    saw : HasSeen s k (length (chars_of v.journal)) (length (chars_of (v.journal ++ front))) line back.line
    saw =
        overruns_seen s k (length (chars_of v.journal)) (length (chars_of (v.journal ++ front)))
        v putter h.met line back.line before steps refl
        (ap (λ (l : List LineStep). length (received_list l)) (sym next_script)) start.has_put h.runs
        (subst (λ (n : ℕ). KnowsTaken n putter.heads) (ap length (sym shared.port.chars)) knows) knows.rise
        (subst (λ (cs : List Flagged). All (λ n. n ≤ length cs) h.met.heads) most_seen
        (heads_meet h.met back.putter (chars_at h.before) h.ends.meets))

    pub phase_plays : PlaysThreads s k v w back.putter line back.line next
    phase_plays = record {
      of_session = part.of_session;
      front = front;
      line_end = h.last.what.entry;
      back = rear;
      added = part.added ∙ ap (λ (es : List PlainEntry). v.journal ++ es) entries_parts;
      leads = subst (λ (es : List PlainEntry). Leads calls counts v.terminal es w.terminal) entries_parts part.leads;
      inside = ap session_events_in (sym entries_parts) ∙ part.inside;
      may = may_w;
      phase = ap (λ (u : Terminal). u.phase) same ∙ phase_t;
      at_rest = rests;
      next_run =
          flusher.numbered ∙ (ap next_run (sym whole_seen) ∙ ap (λ (n : Marks). run_after n.latest) (sym marks_w));
      none = none_of_line m (sum w.counts) h.found.0 placed_front h.found.2;
      ends_line = h.ends.entry.happened ∙ ap (λ (cs : List Flagged). line_ended (length cs)) (sym sent_now);
      sent = sent_w;
      overruns = saw.overruns;
      more_overruns = saw.more_overruns;
      completes = completes;
      seen = saw.seen;
      ring = ring;
      capacity = capacity;
      has_put = put_w;
      most = h.runs.most;
    }

-- the seats that were dealt out are those of the crew
pub dealt_to : (p : SharedPort) (dealt : Seats) (given : LineState) (met : PutterState Flagged) (work : PhaseWork)
    → AreDealt p dealt
    → AreDealt p (seats_of (crew_in dealt given met work) dealt.session)
dealt_to p dealt given met work h = record {
  callers = h.callers;
  count = h.count;
  flusher = h.flusher;
  line = h.line;
  clock = h.clock;
  session = h.session;
}

module _ (s : Scene) (p : SharedPort) (old : Station) (work : PhaseWork) (dealt : Seats) (w : PortValue)
    (back : PhaseBack) (can : CanPlayPhase s old work)
    (knows : KnowsTaken (length old.port.flip.taken) old.putter.heads)
    (shared : IsShared (length work.cast.now) old.port p dealt)
    (come : ThreadsCome p (crew_in dealt old.line old.putter work) back) (closed : IsClosed p back.seats w) where
  abbrev left : Station
  left = record { port = w; putter = back.putter; line = back.line; steps = old.steps }

  abbrev crew : Crew
  crew = crew_in dealt old.line old.putter work

  abbrev n : ℕ
  n = old.port.terminal.phase

  phase : work.phase ≡ n
  phase = sym can.at_phase.phase

  number : length work.cast.now ≡ (name_of_port p).callers
  number = sym (ap (λ (x : Name). x.callers) shared.name)

  all : (name_of_port p).callers ≡ sum old.port.counts
  all = sym number ∙ (sym (cast_length work.scripts.now work.cast.now) ∙ can.roles.count)

  is_shared : IsShared (name_of_port p).callers old.port p (seats_of crew dealt.session)
  is_shared =
      let h = subst (λ (i : ℕ). IsShared i old.port p dealt) number shared in
      record {
        name = h.name;
        opening = h.opening;
        port = h.port;
        dealt = dealt_to p dealt old.line old.putter work h.dealt;
      }

  are : IsCast s n (name_of_port p).callers (cast_of crew.callers)
  are = subst (λ (i : ℕ). IsCast s i (name_of_port p).callers (cast_of crew.callers)) phase
      (subst (λ (i : ℕ). IsCast s work.phase i (cast_of crew.callers)) (sym all) can.roles)

  within : n < length s.session.phases
  within = subst (λ (i : ℕ). i < length s.session.phases) phase can.within

  at_phase : IsAtPhase s n old.port old.putter old.line work.run
  at_phase = subst (λ (i : ℕ). IsAtPhase s i old.port old.putter old.line work.run) phase can.at_phase

  script : work.steps.now.items ≡ line_on s.port (phase_at s.session n)
  script = subst (λ (i : ℕ). work.steps.now.items ≡ line_on s.port (phase_at s.session i)) phase can.steps

  asked : work.ticks ≡ ticks_on s.port (phase_at s.session n)
  asked = subst (λ (i : ℕ). work.ticks ≡ ticks_on s.port (phase_at s.session i)) phase can.ticks

  leave_here : (end : PhaseEnd) → Tells p crew back end → ThreadsLeave s n old left end
  leave_here (Over next) h = phase_plays s p crew dealt.session old.port w back within at_phase
      knows script asked is_shared all are come closed next h
  leave_here Full h = phase_stops s p crew dealt.session old.port w back within
      at_phase knows script asked is_shared all are come closed h

  pub threads_leave : ThreadsLeave s work.phase old left back.end
  threads_leave = subst (λ (i : ℕ). ThreadsLeave s i old left back.end) (sym phase) (leave_here back.end come.told)
