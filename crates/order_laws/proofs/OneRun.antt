-- Two runs of a session in the order of one thread are the same.
use Rattle.std.proofs.Common.{◌≡◌, inl, inr, ℕ, suc, ◌+◌, ◌-◌, List, [], ◌∷◌, ◌++◌, Bool}
use Rattle.std.proofs.Common.{true, false, if◌then◌else◌, Option, None, Some, length, map}
use Rattle.std.proofs.Common.{take, drop, refl, sym, ◌∙◌, ap, subst, arith, zero-add}
use Rattle.std.proofs.lemmas.List.{append_cancel_left, drop-take}
use Rattle.std.proofs.lemmas.List.Concat.{flat_map-append}
use Rattle.std.proofs.lemmas.Bool.{eqb-true, false≢true, lt-leb}
use Rattle.std.proofs.lemmas.Option.{same_Some}
use Rattle.tty_base.specs.declared.characters.Flagged.{Flagged}
use Rattle.tty_base.specs.declared.lines.LineStep.{LineStep}
use Rattle.tty_base.specs.declared.lines.Overrun.{Overrun}
use Rattle.tty_base.specs.Lines.{arrival_count}
use Rattle.tty_calls.specs.declared.journals.PortRun.{PortRun}
use Rattle.tty_calls.specs.declared.journals.Who.{Who}
use Rattle.tty_calls.specs.declared.journals.Who.TheVariants.{Caller, Flusher, Line, Clock, Session}
use Rattle.tty_calls.specs.Plain.{PlainCall, PlainEvent, answered, parted, waited, flushed, ticked, line_ended}
use Rattle.tty_calls.specs.Plain.{clock_ended, caller_ended, phase_ended, hung_up, PlainEntry, chars_in}
use Rattle.tty_calls.specs.Sessions.{PlainPhase, PlainSession, ticks_on, call_at, counts_on}
use Rattle.uart_line.specs.Received.{received_list, lost_count, script}
use Rattle.uart_line.specs.Offered.{kept_list}
use Rattle.tty_terminal.specs.Terminals.{Terminal, caller_at}
use Rattle.tty_terminal.specs.Steps.{IsAllowed, after}
use Rattle.tty_terminal.specs.Runs.{Leads, chars_of, phase_after, is_of_call, AgreesAt}
use Rattle.tty_terminal.proofs.Agreeing.{leads_agrees}
use Rattle.tty_terminal.proofs.StepLaws.{sent_of, step_does}
use Rattle.legal_runs.proofs.PhaseLemmas.{phase-after}
use Rattle.legal_runs.specs.Legal.{phase_at, ClockMark, clock_ends, clock_marks, clock_marks_in, line_ends}
use Rattle.legal_runs.specs.Legal.{line_ends_in, session_events, session_events_in, ticks_of}
use Rattle.legal_runs.specs.Legal.{script_on}
use Rattle.legal_runs.specs.Legal.{first_step, steps_in, IsInPhase, IsFinishedFrom, IsLegal}
use Rattle.legal_runs.proofs.Truths.{nothing_first, nothing_rest}
use Rattle.legal_runs.specs.Order.{Place, first_place, next_place, turn, cuts_flushed}
use Rattle.legal_runs.specs.Order.{AreInTurn, IsInOneOrder}
use Rattle.legal_runs.proofs.Places.{phase_from}
use Rattle.order_laws.specs.Lost.{taken_before_line_end, overruns_before, IsSameRun}
use Rattle.order_laws.specs.Growth.{HasShape}
use Rattle.order_laws.proofs.Growing.{place_same}
use Rattle.order_laws.proofs.Shapes.{phases_same, at_phase}
use Rattle.order_laws.proofs.TheEntry.{line_event}
use Rattle.order_laws.proofs.Losing.{either_side}
use Rattle.order_laws.proofs.Losing.{all_lost, loses_of}
use Rattle.order_laws.proofs.NextEntry.{KeepsOrder, keeps_order, coming_call, same_entry, hang_of, hangs, IsRest}
use Rattle.order_laws.proofs.NextEntry.{may_come, nothing_more}
use Rattle.order_laws.proofs.OneLine.{one_if, lines_over, all_lines, over_after, over-after, MayStand, may_stand}
use Rattle.order_laws.proofs.OneLine.{IsLeft, left_more}
use Rattle.order_laws.proofs.BothLines.{Whole, TakenAlike, IsAlike, send_alike, ended_number, line_ends_only, ends_line}
use Rattle.order_laws.proofs.BothLines.{script_same, whole_as, ends_as, alike_by_end}

-- ---- one entry of two runs

fronts_of : (sent taken : ℕ) (xs ys : List Flagged)
    → take sent xs ≡ take sent ys
    → take (sent - taken) (drop taken xs) ≡ take (sent - taken) (drop taken ys)
fronts_of sent taken xs ys h = elim (either_side sent taken) [
  | inl below ↦ (let none : sent - taken ≡ 0 = omega (arith, below) in
      ap (λ (m : ℕ). take m (drop taken xs)) none ∙ ap (λ (m : ℕ). take m (drop taken ys)) (sym none))
  | inr above ↦
      let whole : taken + (sent - taken) ≡ sent = omega (arith, above) in
      sym (drop-take taken (sent - taken) xs)
      ∙ (ap (λ (m : ℕ). drop taken (take m xs)) whole
      ∙ (ap (λ (cs : List Flagged). drop taken cs) h
      ∙ (ap (λ (m : ℕ). drop taken (take m ys)) (sym whole) ∙ drop-take taken (sent - taken) ys)))
]

alike_sent : (xs ys : List Flagged) (event : PlainEvent) (sent : ℕ)
    → take sent xs ≡ take sent ys
    → ((n : ℕ) → event ≡ line_ended n → take n xs ≡ take n ys)
    → take (sent_of event sent) xs ≡ take (sent_of event sent) ys
alike_sent xs ys (answered a dropped) sent h at_end = h
alike_sent xs ys (parted n) sent h at_end = h
alike_sent xs ys waited sent h at_end = h
alike_sent xs ys (flushed chars) sent h at_end = h
alike_sent xs ys ticked sent h at_end = h
alike_sent xs ys (line_ended n) sent h at_end = at_end n refl
alike_sent xs ys clock_ended sent h at_end = h
alike_sent xs ys caller_ended sent h at_end = h
alike_sent xs ys phase_ended sent h at_end = h
alike_sent xs ys (hung_up dropped) sent h at_end = h

alike_taken : (journal other : List PlainEntry) (event : PlainEvent) (k : ℕ) (over : Bool)
    → MayStand event over
    → TakenAlike journal other (k + one_if over)
    → ((n : ℕ) → event ≡ line_ended n → TakenAlike journal other (suc k))
    → TakenAlike journal other (phase_after event k + one_if (over_after event over))
alike_taken journal other (answered a dropped) k over may h at_end = h
alike_taken journal other (parted n) k over may h at_end = h
alike_taken journal other waited k over may h at_end = h
alike_taken journal other (flushed chars) k over may h at_end = h
alike_taken journal other ticked k over may h at_end = h
alike_taken journal other (line_ended n) k over may h at_end = λ i lt. at_end n refl i (omega (arith, lt))
alike_taken journal other clock_ended k over may h at_end = h
alike_taken journal other caller_ended k over may h at_end = h
alike_taken journal other phase_ended k over may h at_end = λ i lt.
    (let one = ap one_if may in h i (omega (arith, lt, one)))
alike_taken journal other (hung_up dropped) k over may h at_end = h

-- What two sessions of one shape have in common where their runs stand at one place: whose turn it is, and what comes
-- of a caller whose it is; and so at the next place.
pub record StayAlike (p : ℕ) (session later : PlainSession)
    (Are : Place → List PlainEntry → List PlainEntry → Type 0) : Type 0 where
  pub same_who : (s : Place) (e e' : PlainEntry) (es es' : List PlainEntry)
      → Are s (e ∷ es) (e' ∷ es')
      → IsRest p session s (e ∷ es)
      → IsRest p later s (e' ∷ es')
      → e.who ≡ e'.who
  pub coming : (s : Place) (e e' : PlainEntry) (es es' : List PlainEntry) (c : ℕ)
      → Are s (e ∷ es) (e' ∷ es')
      → IsRest p session s (e ∷ es)
      → IsRest p later s (e' ∷ es')
      → e.who ≡ Caller c
      → e'.who ≡ Caller c
      → coming_call p session s c ≡ coming_call p later s c
  pub on : (s : Place) (e : PlainEntry) (es es' : List PlainEntry)
      → Are s (e ∷ es) (e ∷ es')
      → IsRest p session s (e ∷ es)
      → IsRest p later s (e ∷ es')
      → AgreesAt (call_at p session) (call_at p later) e.who e.step e.event
      → next_place (call_at p later) s e ≡ next_place (call_at p session) s e
      → Are (next_place (call_at p session) s e) es es'

-- the same is left of both, and at its end they are alike
pub record SameRest (Are : Place → List PlainEntry → List PlainEntry → Type 0) (es es' : List PlainEntry) : Type 0 where
  pub same : es ≡ es'
  pub at_end : Place
  pub are : Are at_end [] []

-- the call of an entry is that which comes
some_call : (ended : Bool) (f : Bool) (x y : Option PlainCall)
    → ended ≡ false
    → f ≡ false
    → (if ended then None else Some x) ≡ (if f then None else Some y)
    → x ≡ y
some_call true f x y e k same = absurd (cc)
some_call false true x y e k same = absurd (cc)
some_call false false x y e k same = same_Some x y same

agrees_at : (p : ℕ) (session later : PlainSession) (s : Place) (who : Who) (step part : ℕ) (event : PlainEvent)
    → IsAllowed (call_at p session) (counts_on p session) s.terminal who step part event
    → IsInPhase p session s.terminal.phase who step event
    → IsInPhase p later s.terminal.phase who step event
    → ((c : ℕ) → who ≡ Caller c → coming_call p session s c ≡ coming_call p later s c)
    → AgreesAt (call_at p session) (call_at p later) who step event
agrees_at p session later s (Caller d) step part event h phase phase' coming c of_call own =
    let same : d ≡ c = eqb-true d c own in
    let at : step ≡ (caller_at s.terminal d).next = call_step event h of_call in
    let low = (phase.1 of_call).1 in
    let low' = (phase'.1 of_call).1 in
    let ended = lt-leb (first_step p session s.terminal.phase d + steps_in p session s.terminal.phase d)
    (caller_at s.terminal d).next (omega (arith, low, at)) in
    let ended' = lt-leb (first_step p later s.terminal.phase d + steps_in p later s.terminal.phase d)
    (caller_at s.terminal d).next (omega (arith, low', at)) in
    let calls = some_call _ _ (call_at p session d (caller_at s.terminal d).next)
    (call_at p later d (caller_at s.terminal d).next) ended ended' (coming d refl) in
    subst (λ (x : ℕ). call_at p later x step ≡ call_at p session x step) same
    (subst (λ (n : ℕ). call_at p later d n ≡ call_at p session d n) (sym at) (sym calls))
  where
    call_step : (event : PlainEvent)
        → IsAllowed (call_at p session) (counts_on p session) s.terminal (Caller d) step part event
        → is_of_call event ≡ true
        → step ≡ (caller_at s.terminal d).next
    call_step (answered a dropped) h is = h.next.at_step
    call_step (parted n) h is = h.next.at_step
    call_step waited h is = h.next.at_step
    call_step (flushed chars) h is = absurd (false≢true is)
    call_step ticked h is = absurd (false≢true is)
    call_step (line_ended n) h is = absurd (false≢true is)
    call_step clock_ended h is = absurd (false≢true is)
    call_step caller_ended h is = absurd (false≢true is)
    call_step phase_ended h is = absurd (false≢true is)
    call_step (hung_up dropped) h is = absurd (false≢true is)
agrees_at p session later s Flusher step part event h phase phase' coming c of_call own = absurd (false≢true own)
agrees_at p session later s Line step part event h phase phase' coming c of_call own = absurd (false≢true own)
agrees_at p session later s Clock step part event h phase phase' coming c of_call own = absurd (false≢true own)
agrees_at p session later s Session step part event h phase phase' coming c of_call own = absurd (false≢true own)

module _ (p : ℕ) (session later : PlainSession) (journal other : List PlainEntry) (lost lost' : List Overrun)
    (shape : HasShape p session later) (whole : Whole p session journal lost) (whole' : Whole p session other lost')
    (Are : Place → List PlainEntry → List PlainEntry → Type 0) (stay : StayAlike p session later Are) where
  end_of : (s : Place) (e e' : PlainEntry) (es es' : List PlainEntry) (n n' : ℕ)
      → IsLeft p session journal lost s (e ∷ es)
      → IsLeft p later other lost' s (e' ∷ es')
      → TakenAlike journal other (lines_over s.terminal)
      → e.event ≡ line_ended n
      → e'.event ≡ line_ended n'
      → (n ≡ n')
      × (take n (chars_of journal) ≡ take n (chars_of other))
      × TakenAlike journal other (suc s.terminal.phase)
  end_of s e e' es es' n n' h h' taken is is' =
      let ends = ends_line p session journal lost s e es n h is in
      let ends' = ends_as p session later other lost' s n' shape (ends_line p later other lost' s e' es' n' h' is') in
      let alike = alike_by_end p session journal other lost lost' s n n' taken ends ends' in
      let sends = send_alike p session journal other lost lost' s.terminal.phase whole whole' ends.within alike in (
        ends.number ∙ (sends.number ∙ sym ends'.number),
        ap (λ (m : ℕ). take m (chars_of journal)) ends.number
            ∙ (sends.chars ∙ ap (λ (m : ℕ). take m (chars_of other)) (sym ends.number)),
        alike,
      )

  -- what comes of the caller who makes the next entry
  coming_alike : (s : Place) (e e' : PlainEntry) (es es' : List PlainEntry)
      → IsLeft p session journal lost s (e ∷ es)
      → IsLeft p later other lost' s (e' ∷ es')
      → Are s (e ∷ es) (e' ∷ es')
      → (c : ℕ)
      → e.who ≡ Caller c
      → coming_call p session s c ≡ coming_call p later s c
  coming_alike s e e' es es' h h' are c who =
      let same = stay.same_who s e e' es es' are h.rest h'.rest in
      stay.coming s e e' es es' c are h.rest h'.rest who (sym same ∙ who)

  entry_alike : (s : Place) (e e' : PlainEntry) (es es' : List PlainEntry)
      → IsLeft p session journal lost s (e ∷ es)
      → IsLeft p later other lost' s (e' ∷ es')
      → IsAlike p session journal other s (e ∷ es) (e' ∷ es')
      → Are s (e ∷ es) (e' ∷ es')
      → e ≡ e'
  entry_alike s e e' es es' h h' alike are =
      let t = s.terminal in
      let m = t.sent - t.taken in
      let may = may_come p session s e es h.rest in
      let may' = may_come p later s e' es' h'.rest in
      let same = stay.same_who s e e' es es' are h.rest h'.rest in
      let fronts : take m (chars_in e.event ++ chars_of es) ≡ take m (chars_in e'.event ++ chars_of es') =
      ap (λ (cs : List Flagged). take m cs) (sym h.chars)
      ∙ (fronts_of t.sent t.taken (chars_of journal) (chars_of other) alike.sent
      ∙ ap (λ (cs : List Flagged). take m cs) h'.chars) in
      let who : e'.who ≡ e.who = sym same in
      let lines : e.who ≡ Line
      → line_event (line_ends e.event ++ line_ends_in es) ≡ line_event (line_ends e'.event ++ line_ends_in es') =
      (λ is.
      let ended =
      line_ends_only (call_at p session) (counts_on p session) t e.who e.step e.part e.event may.allowed.1 is in
      let ended' = line_ends_only (call_at p later) (counts_on p later) t e'.who e'.step e'.part e'.event
      may'.allowed.1 (who ∙ is) in
      let number =
      (end_of s e e' es es' (ended_number e.event) (ended_number e'.event) h h' alike.taken ended ended').0 in
      ap (λ (x : PlainEvent). line_event (line_ends x ++ line_ends_in es)) ended
      ∙ (ap (λ (n : ℕ). line_ended n) number
      ∙ ap (λ (x : PlainEvent). line_event (line_ends x ++ line_ends_in es')) (sym ended'))) in
      same_entry p session later s e e' (chars_of es) (chars_of es') (line_ends_in es) (line_ends_in es')
      (clock_marks_in es) (clock_marks_in es') shape same (coming_alike s e e' es es' h h' are) may may' fronts lines
      alike.marks

  alike_more : (s : Place) (e : PlainEntry) (es es' : List PlainEntry)
      → IsLeft p session journal lost s (e ∷ es)
      → IsLeft p later other lost' s (e ∷ es')
      → IsAlike p session journal other s (e ∷ es) (e ∷ es')
      → IsAlike p session journal other (next_place (call_at p session) s e) es es'
  alike_more s e es es' h h' alike =
      let calls = call_at p session in
      let counts = counts_on p session in
      let t = s.terminal in
      let u = after calls t e in
      let allowed = h.rest.leads.0 in
      let does = step_does calls counts t e allowed in
      let phase = phase-after calls counts t e allowed in
      let over = over-after calls counts t e allowed in
      let may = may_stand calls counts t e.who e.step e.part e.event allowed.1 in
      let lines : phase_after e.event t.phase + one_if (over_after e.event t.line_over) ≡ lines_over u =
      (λ i. sym phase i + one_if (sym over i)) in
      let sent = alike_sent (chars_of journal) (chars_of other) e.event t.sent alike.sent
      (λ n is. (end_of s e e es es' n n h h' alike.taken is is).1) in
      let taken = alike_taken journal other e.event t.phase t.line_over may alike.taken
      (λ n is. (end_of s e e es es' n n h h' alike.taken is is).2) in
      let hanging = alike.hangups in
      record {
        sent = subst (λ (n : ℕ). take n (chars_of journal) ≡ take n (chars_of other)) (sym does.sent) sent;
        taken = subst (λ (k : ℕ). TakenAlike journal other k) lines taken;
        marks = append_cancel_left (clock_marks e.event) (clock_marks_in es) (clock_marks_in es') alike.marks;
        hangups = omega (arith, hanging);
      }

  -- the call of the next entry is the same in both, and so is the next place
  agrees_here : (s : Place) (e : PlainEntry) (es es' : List PlainEntry)
      → IsLeft p session journal lost s (e ∷ es)
      → IsLeft p later other lost' s (e ∷ es')
      → Are s (e ∷ es) (e ∷ es')
      → AgreesAt (call_at p session) (call_at p later) e.who e.step e.event
  agrees_here s e es es' h h' are = agrees_at p session later s e.who e.step e.part e.event h.rest.leads.0.1
      h.rest.phases.0 h'.rest.phases.0 (coming_alike s e e es es' h h' are)

  next_alike : (s : Place) (e : PlainEntry) (es : List PlainEntry)
      → IsLeft p session journal lost s (e ∷ es)
      → AgreesAt (call_at p session) (call_at p later) e.who e.step e.event
      → next_place (call_at p later) s e ≡ next_place (call_at p session) s e
  next_alike s e es h agrees =
      let f = call_at p session in
      let led = leads_agrees f (call_at p later) (counts_on p session) s.terminal (e ∷ []) (after f s.terminal e)
      (agrees, tt) (h.rest.leads.0, refl) in
      λ i. record {
        terminal = sym led.1 i;
        before = Some e;
        cuts = cuts_flushed s.terminal e.event s.cuts;
      }

  one_rest : (s : Place) (es es' : List PlainEntry)
      → IsLeft p session journal lost s es
      → IsLeft p later other lost' s es'
      → IsAlike p session journal other s es es'
      → Are s es es'
      → SameRest Are es es'
  one_rest s [] [] h h' alike are = record { same = refl; at_end = s; are = are }
  one_rest s [] (e ∷ es) h h' alike are =
      absurd (nothing_more p later s e es (h.rest.ends ∙ sym (phases_same p session later shape)) h'.rest
      (sym alike.hangups))
  one_rest s (e ∷ es) [] h h' alike are =
      absurd (nothing_more p session s e es (h'.rest.ends ∙ phases_same p session later shape) h.rest alike.hangups)
  one_rest s (e ∷ es) (e' ∷ es') h h' alike are =
      let is : e ≡ e' = entry_alike s e e' es es' h h' alike are in
      let other_left : IsLeft p later other lost' s (e ∷ es') =
      subst (λ (x : PlainEntry). IsLeft p later other lost' s (x ∷ es')) (sym is) h' in
      let same : IsAlike p session journal other s (e ∷ es) (e ∷ es') =
      subst (λ (x : PlainEntry). IsAlike p session journal other s (e ∷ es) (x ∷ es')) (sym is) alike in
      let are_now : Are s (e ∷ es) (e ∷ es') = subst (λ (x : PlainEntry). Are s (e ∷ es) (x ∷ es')) (sym is) are in
      let agrees = agrees_here s e es es' h other_left are_now in
      let next = next_alike s e es h agrees in
      let rest = one_rest (next_place (call_at p session) s e) es es' (left_more p session journal lost s e es h)
      (subst (λ (x : Place). IsLeft p later other lost' x es') next (left_more p later other lost' s e es' other_left))
      (alike_more s e es es' h other_left same)
      (stay.on s e es es' are_now h.rest other_left.rest agrees next) in
      record { same = λ i. is i ∷ rest.same i; at_end = rest.at_end; are = rest.are }

-- ---- what a finished journal comes to

abbrev all_marks : ℕ → PlainSession → ℕ → List PlainPhase → List ClockMark
all_marks p session k [] = []
all_marks p session k (phase ∷ phases) =
    (ticks_of (ticks_on p (phase_at session k)) ++ clock_ends ∷ []) ++ all_marks p session (k + 1) phases

pub record Comes (p : ℕ) (session : PlainSession) (overruns : List Overrun) (k : ℕ) (phases : List PlainPhase)
    (journal : List PlainEntry) : Type 0 where
  pub lines : line_ends_in journal ≡ all_lines p session overruns k phases
  pub marks : clock_marks_in journal ≡ all_marks p session k phases
  pub hangups : hangs journal ≡ 1
  pub ends : (m : ℕ) → phase_from m journal ≡ m + length phases

quiet_event : (event : PlainEvent)
    → session_events event ≡ []
    → (hang_of event ≡ 0) × ((m : ℕ) → phase_after event m ≡ m)
quiet_event (answered a dropped) e = (refl, λ m. refl)
quiet_event (parted n) e = (refl, λ m. refl)
quiet_event waited e = (refl, λ m. refl)
quiet_event (flushed chars) e = (refl, λ m. refl)
quiet_event ticked e = (refl, λ m. refl)
quiet_event (line_ended n) e = (refl, λ m. refl)
quiet_event clock_ended e = (refl, λ m. refl)
quiet_event caller_ended e = (refl, λ m. refl)
quiet_event phase_ended e = absurd (cc)
quiet_event (hung_up dropped) e = absurd (cc)

quiet_part : (part rest : List PlainEntry)
    → session_events_in part ≡ []
    → (hangs (part ++ rest) ≡ hangs rest) × ((m : ℕ) → phase_from m (part ++ rest) ≡ phase_from m rest)
quiet_part [] rest e = (refl, λ m. refl)
quiet_part (x ∷ part) rest e =
    let here = quiet_event x.event (nothing_first (session_events x.event) (session_events_in part) e) in
    let later = quiet_part part rest (nothing_rest (session_events x.event) (session_events_in part) e) in
    let none = here.0 in
    let same = later.0 in
    let sum_is : hang_of x.event + hangs (part ++ rest) ≡ hangs rest = omega arith in
    (sum_is, λ m. ap (λ (k : ℕ). phase_from k (part ++ rest)) (here.1 m) ∙ later.1 m)

pub comes_to : (p : ℕ) (session : PlainSession) (overruns : List Overrun) (k : ℕ) (phases : List PlainPhase)
    (journal : List PlainEntry)
    → IsFinishedFrom p session overruns k phases journal
    → Comes p session overruns k phases journal
comes_to p session overruns k [] journal h =
    record {
      lines =
          ap (λ (j : List PlainEntry). line_ends_in j) h.alone ∙ ap (λ (x : PlainEvent). line_ends x ++ []) h.is_hangup;
      marks =
          ap (λ (j : List PlainEntry). clock_marks_in j) h.alone
          ∙ ap (λ (x : PlainEvent). clock_marks x ++ []) h.is_hangup;
      hangups = ap (λ (j : List PlainEntry). hangs j) h.alone ∙ ap (λ (x : PlainEvent). hang_of x + 0) h.is_hangup;
      ends = λ m.
          let same : phase_from m journal ≡ m =
          ap (λ (j : List PlainEntry). phase_from m j) h.alone ∙ ap (λ (x : PlainEvent). phase_after x m) h.is_hangup in
          omega arith;
    }
comes_to p session overruns k (phase ∷ phases) journal h =
    let rest = comes_to p session overruns (k + 1) phases h.rest h.goes_on in
    let part = quiet_part h.part (h.last ∷ h.rest) h.is_part.inside in
    record {
      lines =
          ap (λ (j : List PlainEntry). line_ends_in j) h.parts
          ∙ (flat_map-append (λ (x : PlainEntry). line_ends x.event) h.part (h.last ∷ h.rest)
          ∙ (λ i. h.is_part.line i ++ (line_ends (h.ends i) ++ rest.lines i)));
      marks =
          ap (λ (j : List PlainEntry). clock_marks_in j) h.parts
          ∙ (flat_map-append (λ (x : PlainEntry). clock_marks x.event) h.part (h.last ∷ h.rest)
          ∙ (λ i. h.is_part.clock i ++ (clock_marks (h.ends i) ++ rest.marks i)));
      hangups = ap (λ (j : List PlainEntry). hangs j) h.parts ∙ (part.0 ∙ (λ i. hang_of (h.ends i) + rest.hangups i));
      ends = λ m.
          let same : phase_from m journal ≡ (m + 1) + length phases =
          ap (λ (j : List PlainEntry). phase_from m j) h.parts
          ∙ (part.1 m ∙ (ap (λ (x : PlainEvent). phase_from (phase_after x m) h.rest) h.ends ∙ rest.ends (m + 1))) in
          omega arith;
    }

-- ---- two runs

whole_of : (p : ℕ) (session : PlainSession) (run : PortRun) (t : Terminal)
    → IsLegal p session run t
    → KeepsOrder p session run.journal.items run.line.overruns.items
    → Whole p session run.journal.items run.line.overruns.items
whole_of p session run t h order = record { loses = loses_of p session run t h order.seen; chars = h.account.chars }

left_of : (p : ℕ) (session : PlainSession) (run : PortRun) (t : Terminal)
    → IsLegal p session run t
    → KeepsOrder p session run.journal.items run.line.overruns.items
    → IsLeft p session run.journal.items run.line.overruns.items (first_place p session) run.journal.items
left_of p session run t h order =
    let comes = comes_to p session run.line.overruns.items 0 session.phases run.journal.items h.account.finished in
    let end : phase_from 0 run.journal.items ≡ length session.phases = (let all = comes.ends 0 in omega arith) in
    record {
      rest = record {
        last = t;
        leads = h.on_the_way.steps;
        turns = order.turns;
        phases = h.on_the_way.in_phases;
        ends = end;
      };
      chars = refl;
      ends = record { left = session.phases; are = comes.lines };
      walks = λ m open_line.
          (let same = ap (λ (k : ℕ). taken_before_line_end k run.journal.items) (zero-add m) in omega (arith, same));
    }

all_ticks : (p : ℕ) (session later : PlainSession) (k : ℕ) (phases : List PlainPhase)
    → map (ticks_on p) later.phases ≡ map (ticks_on p) session.phases
    → all_marks p later k phases ≡ all_marks p session k phases
all_ticks p session later k [] same = refl
all_ticks p session later k (phase ∷ phases) same =
    let here = at_phase (ticks_on p) session later k same in
    λ i. (ticks_of (here i) ++ clock_ends ∷ []) ++ all_ticks p session later (k + 1) phases same i

same_count : (p : ℕ) (session : PlainSession) (k : ℕ) (phases others : List PlainPhase)
    → length phases ≡ length others
    → all_marks p session k phases ≡ all_marks p session k others
same_count p session k [] [] same = refl
same_count p session k [] (y ∷ ys) same = absurd (omega (arith, same))
same_count p session k (x ∷ xs) [] same = absurd (omega (arith, same))
same_count p session k (x ∷ xs) (y ∷ ys) same =
    ap (λ (ms : List ClockMark). (ticks_of (ticks_on p (phase_at session k)) ++ clock_ends ∷ []) ++ ms)
    (same_count p session (k + 1) xs ys (omega (arith, same)))

leads_to_one : (calls : ℕ → ℕ → Option PlainCall) (counts : List ℕ) (s : Terminal) (es : List PlainEntry)
    (t u : Terminal)
    → Leads calls counts s es t
    → Leads calls counts s es u
    → t ≡ u
leads_to_one calls counts s [] t u h k = h ∙ sym k
leads_to_one calls counts s (e ∷ es) t u h k = leads_to_one calls counts (after calls s e) es t u h.1 k.1

-- the runs of two sessions of one shape have the same report, where the sessions stay alike as they go on
pub two_runs : (p : ℕ) (session later : PlainSession) (run other : PortRun) (t u : Terminal)
    (Are : Place → List PlainEntry → List PlainEntry → Type 0)
    → HasShape p session later
    → map (ticks_on p) later.phases ≡ map (ticks_on p) session.phases
    → StayAlike p session later Are
    → IsLegal p session run t
    → IsLegal p later other u
    → KeepsOrder p session run.journal.items run.line.overruns.items
    → KeepsOrder p later other.journal.items other.line.overruns.items
    → Are (first_place p session) run.journal.items other.journal.items
    → IsSameRun run other × SameRest Are run.journal.items other.journal.items
two_runs p session later run other t u Are shape clocks stay h h' order order' are =
    let whole = whole_of p session run t h order in
    let whole' = whole_as p session later other.journal.items other.line.overruns.items shape
    (whole_of p later other u h' order') in
    let comes = comes_to p session run.line.overruns.items 0 session.phases run.journal.items h.account.finished in
    let comes' =
    comes_to p later other.line.overruns.items 0 later.phases other.journal.items h'.account.finished in
    let count = phases_same p session later shape in
    let marks = all_ticks p session later 0 later.phases clocks
    ∙ same_count p session 0 later.phases session.phases count in
    let script = script_same p session later shape in
    let rest =
    one_rest p session later run.journal.items other.journal.items run.line.overruns.items other.line.overruns.items
    shape whole whole' Are stay (first_place p session) run.journal.items other.journal.items
    (left_of p session run t h order)
    (subst (λ (s : Place). IsLeft p later other.journal.items other.line.overruns.items s other.journal.items)
    (sym (place_same p session later shape)) (left_of p later other u h' order'))
    (record {
      sent = refl;
      taken = λ i lt. absurd (omega (arith, lt));
      marks = comes.marks ∙ (sym marks ∙ sym comes'.marks);
      hangups = comes.hangups ∙ sym comes'.hangups;
    }) are in
    let journal : run.journal.items ≡ other.journal.items = rest.same in
    let overruns : run.line.overruns.items ≡ other.line.overruns.items =
    all_lost p session run.journal.items run.line.overruns.items whole.loses
    ∙ (ap (λ (j : List PlainEntry). overruns_before p session j (length session.phases)) journal
    ∙ sym (all_lost p session other.journal.items other.line.overruns.items whole'.loses)) in
    let kept : length (kept_list (received_list (script_on p session)) run.line.overruns.items)
    ≡ length (kept_list (received_list (script_on p later)) other.line.overruns.items) =
    (λ i. length (kept_list (received_list (sym script i)) (overruns i))) in (
      record {
        journal = journal;
        overruns = overruns;
        arrived = h.account.arrived
            ∙ (ap (λ (steps : List LineStep). arrival_count steps) (sym script) ∙ sym h'.account.arrived);
        fifo_lost = h.account.fifo_lost
            ∙ (ap (λ (steps : List LineStep). lost_count steps) (sym script) ∙ sym h'.account.fifo_lost);
        sent = h.account.sent ∙ (kept ∙ sym h'.account.sent);
      },
      rest,
    )

pub one_run : (p : ℕ) (session : PlainSession) (run other : PortRun) (t u : Terminal)
    → IsLegal p session run t
    → IsLegal p session other u
    → IsInOneOrder p session run.journal.items run.line.overruns.items
    → IsInOneOrder p session other.journal.items other.line.overruns.items
    → IsSameRun run other × (t ≡ u)
one_run p session run other t u h h' order order' =
    let same = two_runs p session session run other t u
    (λ s es es'. AreInTurn p session s es × AreInTurn p session s es')
    (record { consoles = refl; flip = refl; lines = refl; names = refl }) refl
    (record {
      same_who = λ s e e' es es' are rest rest'. are.0.0.by_turn ∙ sym are.1.0.by_turn;
      coming = λ s e e' es es' c are rest rest' who who'. refl;
      on = λ s e es es' are rest rest' agrees next. (are.0.1, are.1.1);
    }) h h' (keeps_order p session run.journal.items run.line.overruns.items order)
    (keeps_order p session other.journal.items other.line.overruns.items order') (order.turns, order'.turns) in (
      same.0,
      leads_to_one (call_at p session) (counts_on p session) (first_place p session).terminal
          run.journal.items t u h.on_the_way.steps
          (subst (λ (j : List PlainEntry).
          Leads (call_at p session) (counts_on p session) (first_place p session).terminal j u)
          (sym same.0.journal) h'.on_the_way.steps),
    )
