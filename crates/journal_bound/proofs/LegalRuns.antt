-- A legal run is a run of its session as far as it went.
use Rattle.std.proofs.Common.{◌≡◌, inr, ℕ, zero, suc, ◌+◌, ◌<◌, ◌≤◌, Bool, true, false, ◌&&◌, ◌==◌, if◌then◌else◌}
use Rattle.std.proofs.Common.{List, [], ◌∷◌, ◌++◌, length, refl, sym, ap, subst, ◌∙◌, arith, append-nil}
use Rattle.std.proofs.lemmas.Bool.{eqb-true, ne_eqb}
use Rattle.tty_base.specs.declared.lines.Overrun.{Overrun}
use Rattle.tty_calls.specs.declared.journals.PortRun.{PortRun}
use Rattle.tty_calls.specs.Plain.{PlainEvent, answered, parted, waited, flushed, ticked, line_ended}
use Rattle.tty_calls.specs.Plain.{clock_ended, caller_ended, phase_ended, hung_up, PlainEntry}
use Rattle.tty_calls.specs.Sessions.{PlainPhase, PlainSession, ticks_on}
use Rattle.tty_terminal.specs.Terminals.{Terminal}
use Rattle.tty_terminal.specs.Runs.{chars_of, phase_after}
use Rattle.legal_runs.specs.Legal.{phase_at, is_phase_end, ClockMark, ticks, clock_ends, clock_marks, clock_marks_in}
use Rattle.legal_runs.specs.Legal.{session_events, session_events_in, ticks_of, IsFinishedFrom, HangsUp, IsLegal}
use Rattle.legal_runs.specs.Short.{is_tick, tick_count_in, after_phases, IsCutShort}
use Rattle.journal_bound.proofs.Spent.{bit}
use Rattle.journal_bound.proofs.Ends.{ticks_in}
use Rattle.legal_runs.proofs.EventLemmas.{phase_same}

-- ---- the entries of a part

record IsInside (event : PlainEvent) (others : List PlainEvent) : Type 0 where
  goes_on : is_phase_end event ≡ false
  rest : others ≡ []

inside : (event : PlainEvent) (others : List PlainEvent) → session_events event ++ others ≡ [] → IsInside event others
inside (answered a dropped) others h = record { goes_on = refl; rest = h }
inside (parted n) others h = record { goes_on = refl; rest = h }
inside waited others h = record { goes_on = refl; rest = h }
inside (flushed chars) others h = record { goes_on = refl; rest = h }
inside ticked others h = record { goes_on = refl; rest = h }
inside (line_ended n) others h = record { goes_on = refl; rest = h }
inside clock_ended others h = record { goes_on = refl; rest = h }
inside caller_ended others h = record { goes_on = refl; rest = h }
inside phase_ended others h = absurd (cc)
inside (hung_up dropped) others h = absurd (cc)

-- what stands after the phases stands after those behind a part
after_part : (n : ℕ) (part es : List PlainEntry)
    → session_events_in part ≡ []
    → after_phases (suc n) (part ++ es) ≡ after_phases (suc n) es
after_part n [] es h = refl
after_part n (x ∷ part) es h =
    let here = inside x.event (session_events_in part) h in
    ap (λ (b : Bool). if b then after_phases n (part ++ es) else after_phases (suc n) (part ++ es)) here.goes_on
    ∙ after_part n part es here.rest

-- ---- ticks

abbrev marked : ClockMark → ℕ
marked ticks = 1
marked clock_ends = 0

abbrev marked_in : List ClockMark → ℕ
marked_in [] = 0
marked_in (m ∷ ms) = marked m + marked_in ms

marked_some : (n : ℕ) → marked_in (ticks_of n ++ clock_ends ∷ []) ≡ n
marked_some zero = refl
marked_some (suc n) = omega (arith, marked_some n)

event_marked : (event : PlainEvent) (ms : List ClockMark)
    → marked_in (clock_marks event ++ ms) ≡ bit (is_tick event) + marked_in ms
event_marked (answered a dropped) ms = omega arith
event_marked (parted n) ms = omega arith
event_marked waited ms = omega arith
event_marked (flushed chars) ms = omega arith
event_marked ticked ms = omega arith
event_marked (line_ended n) ms = omega arith
event_marked clock_ended ms = omega arith
event_marked caller_ended ms = omega arith
event_marked phase_ended ms = omega arith
event_marked (hung_up dropped) ms = omega arith

part_marked : (part : List PlainEntry) → marked_in (clock_marks_in part) ≡ ticks_in part
part_marked [] = refl
part_marked (e ∷ part) = omega (arith, event_marked e.event (clock_marks_in part), part_marked part)

-- where this is the phase
abbrev where_so : Bool → ℕ → ℕ
where_so b x = if b then x else 0

abbrev tick_where : Bool → Bool → ℕ
tick_where t b = if t && b then 1 else 0

one_more : (t b : Bool) (x : ℕ) → tick_where t b + where_so b x ≡ where_so b (bit t + x)
one_more true true x = refl
one_more true false x = refl
one_more false true x = refl
one_more false false x = refl

none_there : (b : Bool) → where_so b 0 ≡ 0
none_there true = refl
none_there false = refl

part_ticks : (k j : ℕ) (part es : List PlainEntry)
    → session_events_in part ≡ []
    → tick_count_in k j (part ++ es) ≡ where_so (j == k) (ticks_in part) + tick_count_in k j es
part_ticks k j [] es h = omega (arith, none_there (j == k))
part_ticks k j (x ∷ part) es h =
    let here = inside x.event (session_events_in part) h in
    let phase : tick_count_in k (phase_after x.event j) (part ++ es) ≡ tick_count_in k j (part ++ es) =
    ap (λ (l : ℕ). tick_count_in k l (part ++ es)) (phase_same x.event j here.goes_on) in
    let first : tick_count_in k j (x ∷ (part ++ es))
    ≡ tick_where (is_tick x.event) (j == k) + tick_count_in k (phase_after x.event j) (part ++ es) = refl in
    omega (arith, first, phase, part_ticks k j part es here.rest, one_more (is_tick x.event) (j == k) (ticks_in part))

no_tick : (t b : Bool) → b ≡ false → tick_where t b ≡ 0
no_tick true true h = absurd (cc)
no_tick true false h = refl
no_tick false b h = refl

not_later : (event : PlainEvent) (l : ℕ) → l ≤ phase_after event l
not_later (answered a dropped) l = omega arith
not_later (parted n) l = omega arith
not_later waited l = omega arith
not_later (flushed chars) l = omega arith
not_later ticked l = omega arith
not_later (line_ended n) l = omega arith
not_later clock_ended l = omega arith
not_later caller_ended l = omega arith
not_later phase_ended l = omega arith
not_later (hung_up dropped) l = omega arith

-- no tick stands in a phase that is over
none_before : (es : List PlainEntry) (k l : ℕ) → k < l → tick_count_in k l es ≡ 0
none_before [] k l h = refl
none_before (e ∷ es) k l h =
    let other : (l == k) ≡ false = ne_eqb l k (λ x. absurd (omega (arith, h, x))) in
    let first : tick_count_in k l (e ∷ es)
    ≡ tick_where (is_tick e.event) (l == k) + tick_count_in k (phase_after e.event l) es = refl in
    omega (
      arith,
      first,
      no_tick (is_tick e.event) (l == k) other,
      none_before es k (phase_after e.event l) (omega (arith, h, not_later e.event l)),
    )

-- ---- a finished journal

hangup_ticks : (k j : ℕ) (es : List PlainEntry) → HangsUp es → tick_count_in k j es ≡ 0
hangup_ticks k j es w =
    let whole : tick_count_in k j es ≡ tick_where (is_tick w.entry.event) (j == k) + 0 =
    ap (λ (xs : List PlainEntry). tick_count_in k j xs) w.alone in
    let none : tick_where (is_tick w.entry.event) (j == k) ≡ 0 =
    ap (λ (event : PlainEvent). tick_where (is_tick event) (j == k)) w.is_hangup in
    omega (arith, whole, none)

finished_ticks : (p : ℕ) (session : PlainSession) (overruns : List Overrun) (phases : List PlainPhase) (j : ℕ)
    (es : List PlainEntry)
    → IsFinishedFrom p session overruns j phases es
    → (k : ℕ)
    → tick_count_in k j es ≤ ticks_on p (phase_at session k)
finished_ticks p session overruns [] j es h k = omega (arith, hangup_ticks k j es h)
finished_ticks p session overruns (x ∷ phases) j es h k =
    let whole : tick_count_in k j es ≡ tick_count_in k j (h.part ++ h.last ∷ h.rest) =
    ap (λ (xs : List PlainEntry). tick_count_in k j xs) h.parts in
    let parts = part_ticks k j h.part (h.last ∷ h.rest) h.is_part.inside in
    let end : tick_count_in k j (h.last ∷ h.rest) ≡ 0 + tick_count_in k (j + 1) h.rest =
    ap (λ (event : PlainEvent). tick_where (is_tick event) (j == k) + tick_count_in k (phase_after event j) h.rest)
    h.ends in
    let count : ticks_in h.part ≡ ticks_on p (phase_at session j) =
    sym (part_marked h.part) ∙ ap marked_in h.is_part.clock ∙ marked_some (ticks_on p (phase_at session j)) in
    let most = by_phase p session j k (ticks_in h.part) (tick_count_in k (j + 1) h.rest) count
    (none_before h.rest k (j + 1)) (finished_ticks p session overruns phases (j + 1) h.rest h.goes_on k) (j == k)
    refl in
    omega (arith, whole, parts, end, most)
  where
    by_phase : (p : ℕ) (session : PlainSession) (j k x rest : ℕ)
        → x ≡ ticks_on p (phase_at session j)
        → (k < j + 1 → rest ≡ 0)
        → rest ≤ ticks_on p (phase_at session k)
        → (b : Bool)
        → (j == k) ≡ b
        → where_so b x + rest ≤ ticks_on p (phase_at session k)
    by_phase p session j k x rest count none later true e =
        let same : j ≡ k = eqb-true j k e in
        let here : ticks_on p (phase_at session j) ≡ ticks_on p (phase_at session k) =
        ap (λ (l : ℕ). ticks_on p (phase_at session l)) same in
        let empty = none (omega (arith, same)) in
        omega (arith, count, here, empty)
    by_phase p session j k x rest count none later false e = omega (arith, later)

finished_last : (p : ℕ) (session : PlainSession) (overruns : List Overrun) (phases : List PlainPhase) (j : ℕ)
    (es : List PlainEntry)
    → IsFinishedFrom p session overruns j phases es
    → HangsUp (after_phases (length phases) es)
finished_last p session overruns [] j es h =
    let same : after_phases 0 es ≡ es = none_over es in
    subst HangsUp (sym same) h
  where
    none_over : (xs : List PlainEntry) → after_phases 0 xs ≡ xs
    none_over [] = refl
    none_over (x ∷ xs) = refl
finished_last p session overruns (x ∷ phases) j es h =
    let whole : after_phases (suc (length phases)) es ≡ after_phases (suc (length phases)) (h.last ∷ h.rest) =
    ap (λ (xs : List PlainEntry). after_phases (suc (length phases)) xs) h.parts
    ∙ after_part (length phases) h.part (h.last ∷ h.rest) h.is_part.inside in
    let end : after_phases (suc (length phases)) (h.last ∷ h.rest) ≡ after_phases (length phases) h.rest =
    ap (λ (event : PlainEvent).
    if is_phase_end event then after_phases (length phases) h.rest else after_phases (suc (length phases)) h.rest)
    h.ends in
    subst HangsUp (sym (whole ∙ end)) (finished_last p session overruns phases (j + 1) h.rest h.goes_on)

pub legal_is_short : (p : ℕ) (session : PlainSession) (run : PortRun) (t : Terminal)
    → IsLegal p session run t
    → IsCutShort p session run t
legal_is_short p session run t h =
    record {
      on_the_way = h.on_the_way;
      ticks = finished_ticks p session run.line.overruns.items session.phases 0 run.journal.items h.account.finished;
      last =
          inr (finished_last p session run.line.overruns.items session.phases 0 run.journal.items h.account.finished);
      chars = ([], append-nil (chars_of run.journal.items) ∙ h.account.chars);
    }
