-- What the entries of others leave as it is.
use Rattle.std.proofs.Common.{◌≡◌, ◌≢◌, inl, inr, ℕ, ◌+◌, ◌<◌, List, [], ◌∷◌, ◌++◌}
use Rattle.std.proofs.Common.{Bool, true, false, IsTrue, ◌==◌, if◌then◌else◌, Option}
use Rattle.std.proofs.Common.{refl, sym, ◌∙◌, ap, subst, ne_eqb}
use Rattle.std.proofs.lemmas.Bool.{and_parts, false≢true}
use Rattle.tty_calls.specs.declared.journals.Who.{Who}
use Rattle.tty_calls.specs.declared.journals.Who.TheVariants.{Caller, Flusher, Line, Clock, Session}
use Rattle.tty_calls.specs.Plain.{PlainCall, PlainEvent, answered, parted, waited, flushed, ticked, line_ended}
use Rattle.tty_calls.specs.Plain.{clock_ended, caller_ended, phase_ended, hung_up, PlainEntry, is_caller}
use Rattle.tty_terminal.specs.declared.callers.Piece.{Piece}
use Rattle.tty_terminal.specs.Steps.{follows}
use Rattle.tty_terminal.specs.Runs.{is_flush, RunHas}
use Rattle.tty_terminal.specs.Makers.{IsByItsMaker}
use Rattle.tty_terminal.specs.Standing.{Standing, standing_after, standing_after_own, standing_after_other, standing_in}
use Rattle.tty_terminal.specs.Marks.{Marks, marks_after, marks_in}
use Rattle.port_cell.specs.declared.kept.Stamped.{Stamped}
use Rattle.port_cell.specs.Entries.{Each, Keeps}
use Rattle.tty_port.specs.Inside.{EntryWithCall}
use Rattle.tty_port.specs.Histories.{seat_of}
use Rattle.tty_port.specs.Seen.{entries_in, standing_at, marks_at, IsBetweenCalls}
use Rattle.tty_port.specs.Placed.{ArePlaced}
use Rattle.tty_port.specs.Adding.{IsToldCall, IsUnderWay}
use Rattle.tty_port.specs.Flushing.{GoesOnAt}
use Rattle.tty_port.specs.PhaseEvents.{CanFollow, maker_of, step_of}
use Rattle.tty_port.specs.declared.phase_events.PhaseEvent.{PhaseEvent}
use Rattle.tty_port.specs.declared.phase_events.PhaseEvent.TheVariants.{Tick, ClockEnd, CallerEnd}
use Rattle.tty_port.proofs.Histories.{entries_append, standing_append, marks_append}

pub placed_right : (m n : ℕ) (xs ys : List (Stamped EntryWithCall)) → ArePlaced m n (xs ++ ys) → ArePlaced m n ys
placed_right m n [] ys h = h
placed_right m n (x ∷ xs) ys h = placed_right m n xs ys h.1

-- ---- where a caller stands

pub not_caller : (m c : ℕ) (who : Who) → seat_of m who ≢ c → is_caller who c ≡ false
not_caller m c (Caller d) h = ne_eqb d c h
not_caller m c Flusher h = refl
not_caller m c Line h = refl
not_caller m c Clock h = refl
not_caller m c Session h = refl

other_leaves : (event : PlainEvent) (s : Standing) → s.over ≡ false → standing_after_other event s ≡ s
other_leaves (answered a dropped) s e = refl
other_leaves (parted n) s e = refl
other_leaves waited s e = refl
other_leaves (flushed chars) s e = refl
other_leaves ticked s e = refl
other_leaves (line_ended n) s e = refl
other_leaves clock_ended s e = refl
other_leaves caller_ended s e = refl
other_leaves phase_ended s e = ap (λ (b : Bool). record s { over = b }) (sym e)
other_leaves (hung_up dropped) s e = refl

pub when_false : {A : Type 0} (b : Bool) (x y : A) → b ≡ false → (if b then x else y) ≡ y
when_false true x y e = absurd (false≢true (sym e))
when_false false x y e = refl

entry_leaves : (c : ℕ) (e : PlainEntry) (s : Standing)
    → is_caller e.who c ≡ false
    → s.over ≡ false
    → standing_after c e s ≡ s
entry_leaves c e s other over =
    when_false (is_caller e.who c) (standing_after_own e.event e.generation s) (standing_after_other e.event s) other
    ∙ other_leaves e.event s over

others_leave : (m n c : ℕ) (xs : List (Stamped EntryWithCall)) (s : Standing)
    → ArePlaced m n xs
    → Each (λ k. k ≢ c) xs
    → s.over ≡ false
    → standing_in c (entries_in xs) s ≡ s
others_leave m n c [] s placed others over = refl
others_leave m n c (x ∷ xs) s placed others over =
    let by = not_caller m c x.what.entry.who (λ e. others.0 (placed.0.seat ∙ e)) in
    ap (λ (k : Standing). standing_in c (entries_in xs) k) (entry_leaves c x.what.entry s by over)
    ∙ others_leave m n c xs s placed.1 others.1 over

pub standing_kept : (m n c : ℕ) (xs ys : List (Stamped EntryWithCall))
    → ArePlaced m n ys
    → Keeps c xs ys
    → (standing_at c xs).over ≡ false
    → standing_at c ys ≡ standing_at c xs
standing_kept m n c xs ys placed h over =
    ap (standing_at c) h.1
    ∙ standing_append c xs h.0
    ∙ others_leave m n c h.0 (standing_at c xs) (placed_right m n xs h.0 (subst (ArePlaced m n) h.1 placed)) h.2 over

pub told_more : (c step : ℕ) (call : PlainCall) (xs ys : List (Stamped EntryWithCall))
    → IsToldCall c step call xs
    → IsToldCall c step call (xs ++ ys)
told_more c step call [] ys h = absurd h
told_more c step call (x ∷ xs) ys (inl h) = inl h
told_more c step call (x ∷ xs) ys (inr h) = inr (told_more c step call xs ys h)

pub told_kept : (c k step : ℕ) (call : PlainCall) (xs ys : List (Stamped EntryWithCall))
    → Keeps k xs ys
    → IsToldCall c step call xs
    → IsToldCall c step call ys
told_kept c k step call xs ys h told = subst (IsToldCall c step call) (sym h.1) (told_more c step call xs h.0 told)

pub between_kept : (m n c step : ℕ) (xs ys : List (Stamped EntryWithCall))
    → ArePlaced m n ys
    → Keeps c xs ys
    → IsBetweenCalls c step xs
    → IsBetweenCalls c step ys
between_kept m n c step xs ys placed h b =
    let same = standing_kept m n c xs ys placed h b.not_over in
    record {
      next = ap (λ (s : Standing). s.next) same ∙ b.next;
      not_over = ap (λ (s : Standing). s.over) same ∙ b.not_over;
      not_begun = ap (λ (s : Standing). s.begun) same ∙ b.not_begun;
    }

pub under_way_kept : (m n c step : ℕ) (call : PlainCall) (generation : ℕ) (xs ys : List (Stamped EntryWithCall))
    → ArePlaced m n ys
    → Keeps c xs ys
    → IsUnderWay c step call generation xs
    → IsUnderWay c step call generation ys
under_way_kept m n c step call generation xs ys placed h u =
    let same = standing_kept m n c xs ys placed h u.not_over in
    record {
      next = ap (λ (s : Standing). s.next) same ∙ u.next;
      not_over = ap (λ (s : Standing). s.over) same ∙ u.not_over;
      same = λ begun. told_kept c c step call xs ys h (u.same (sym (ap (λ (s : Standing). s.begun) same) ∙ begun));
      one = λ begun waits parts.
          ap (λ (s : Standing). s.generation) same
          ∙ u.one (sym (ap (λ (s : Standing). s.begun) same) ∙ begun)
          (sym (ap (λ (s : Standing). s.waits) same) ∙ waits) (subst (λ (s : Standing). 0 < s.parts) same parts);
    }

-- ---- line, clock and flush runs

-- an event that is not of this maker
pub by_another : (m k : ℕ) (who maker : Who) → seat_of m maker ≡ k → who ≡ maker → seat_of m who ≢ k → ⊥
by_another m k who maker seat is other = other (ap (seat_of m) is ∙ seat)

flush_leaves : (m n : ℕ) (f : ℕ → ℕ → Option PlainCall) (who : Who) (step part : ℕ) (event : PlainEvent) (k : Marks)
    → IsByItsMaker f n who step event
    → seat_of m who ≢ m
    → (marks_after event step part k).latest ≡ k.latest
flush_leaves m n f who step part (answered a dropped) k by other = refl
flush_leaves m n f who step part (parted i) k by other = refl
flush_leaves m n f who step part waited k by other = refl
flush_leaves m n f who step part (flushed chars) k by other = absurd (by_another m m who Flusher refl by other)
flush_leaves m n f who step part ticked k by other = refl
flush_leaves m n f who step part (line_ended i) k by other = refl
flush_leaves m n f who step part clock_ended k by other = refl
flush_leaves m n f who step part caller_ended k by other = refl
flush_leaves m n f who step part phase_ended k by other = refl
flush_leaves m n f who step part (hung_up dropped) k by other = refl

flushes_leave : (m n : ℕ) (xs : List (Stamped EntryWithCall)) (k : Marks)
    → ArePlaced m n xs
    → Each (λ i. i ≢ m) xs
    → (marks_in (entries_in xs) k).latest ≡ k.latest
flushes_leave m n [] k placed others = refl
flushes_leave m n (x ∷ xs) k placed others =
    flushes_leave m n xs (marks_after x.what.entry.event x.what.entry.step x.what.entry.part k) placed.1 others.1
    ∙ flush_leaves m n (λ (c s : ℕ). x.what.call) x.what.entry.who x.what.entry.step x.what.entry.part
    x.what.entry.event k placed.0.maker (λ e. others.0 (placed.0.seat ∙ e))

pub latest_kept : (m n : ℕ) (xs ys : List (Stamped EntryWithCall))
    → ArePlaced m n ys
    → Keeps m xs ys
    → (marks_at ys).latest ≡ (marks_at xs).latest
latest_kept m n xs ys placed h =
    ap (λ (k : Marks). k.latest) (ap marks_at h.1 ∙ marks_append xs h.0)
    ∙ flushes_leave m n h.0 (marks_at xs) (placed_right m n xs h.0 (subst (ArePlaced m n) h.1 placed)) h.2

not_flush : (m n : ℕ) (f : ℕ → ℕ → Option PlainCall) (who : Who) (step : ℕ) (event : PlainEvent)
    → IsByItsMaker f n who step event
    → seat_of m who ≢ m
    → is_flush event ≡ true
    → ⊥
not_flush m n f who step (answered a dropped) by other e = false≢true e
not_flush m n f who step (parted i) by other e = false≢true e
not_flush m n f who step waited by other e = false≢true e
not_flush m n f who step (flushed chars) by other e = by_another m m who Flusher refl by other
not_flush m n f who step ticked by other e = false≢true e
not_flush m n f who step (line_ended i) by other e = false≢true e
not_flush m n f who step clock_ended by other e = false≢true e
not_flush m n f who step caller_ended by other e = false≢true e
not_flush m n f who step phase_ended by other e = false≢true e
not_flush m n f who step (hung_up dropped) by other e = false≢true e

run_others : (m n run generation : ℕ) (xs : List (Stamped EntryWithCall))
    → ArePlaced m n xs
    → Each (λ i. i ≢ m) xs
    → RunHas run generation (entries_in xs)
run_others m n run generation [] placed others = tt
run_others m n run generation (x ∷ xs) placed others = (
  λ is. absurd (not_flush m n (λ (c s : ℕ). x.what.call) x.what.entry.who x.what.entry.step x.what.entry.event
      placed.0.maker (λ e. others.0 (placed.0.seat ∙ e))
      (and_parts (is_flush x.what.entry.event) (x.what.entry.step == run) is).0),
  run_others m n run generation xs placed.1 others.1,
)

pub run_append : (run generation : ℕ) (es fs : List PlainEntry)
    → RunHas run generation es
    → RunHas run generation fs
    → RunHas run generation (es ++ fs)
run_append run generation [] fs h k = k
run_append run generation (e ∷ es) fs h k = (h.0, run_append run generation es fs h.1 k)

pub goes_on_kept : (m n run part generation : ℕ) (xs ys : List (Stamped EntryWithCall))
    → ArePlaced m n ys
    → Keeps m xs ys
    → GoesOnAt run part generation xs
    → GoesOnAt run part generation ys
goes_on_kept m n run part generation xs ys placed h g =
    let rest = placed_right m n xs h.0 (subst (ArePlaced m n) h.1 placed) in
    let more = λ (lt : 0 < part). run_append run generation (entries_in xs) (entries_in h.0) (g.one lt)
    (run_others m n run generation h.0 rest h.2) in
    record {
      numbered =
          subst (λ (p : Option Piece). IsTrue (follows p run part)) (sym (latest_kept m n xs ys placed h)) g.numbered;
      one = λ lt. subst (λ (zs : List (Stamped EntryWithCall)). RunHas run generation (entries_in zs)) (sym h.1)
          (subst (RunHas run generation) (sym (entries_append xs h.0)) (more lt));
    }

clock_stays : (m n : ℕ) (f : ℕ → ℕ → Option PlainCall) (who : Who) (step part : ℕ) (event : PlainEvent) (k : Marks)
    → IsByItsMaker f n who step event
    → seat_of m who ≢ m + 2
    → k.clock_over ≡ false
    → (marks_after event step part k).clock_over ≡ false
clock_stays m n f who step part (answered a dropped) k by other e = e
clock_stays m n f who step part (parted i) k by other e = e
clock_stays m n f who step part waited k by other e = e
clock_stays m n f who step part (flushed chars) k by other e = e
clock_stays m n f who step part ticked k by other e = e
clock_stays m n f who step part (line_ended i) k by other e = e
clock_stays m n f who step part clock_ended k by other e = absurd (by_another m (m + 2) who Clock refl by other)
clock_stays m n f who step part caller_ended k by other e = e
clock_stays m n f who step part phase_ended k by other e = refl
clock_stays m n f who step part (hung_up dropped) k by other e = e

clocks_stay : (m n : ℕ) (xs : List (Stamped EntryWithCall)) (k : Marks)
    → ArePlaced m n xs
    → Each (λ i. i ≢ m + 2) xs
    → k.clock_over ≡ false
    → (marks_in (entries_in xs) k).clock_over ≡ false
clocks_stay m n [] k placed others e = e
clocks_stay m n (x ∷ xs) k placed others e =
    clocks_stay m n xs (marks_after x.what.entry.event x.what.entry.step x.what.entry.part k) placed.1 others.1
    (clock_stays m n (λ (c s : ℕ). x.what.call) x.what.entry.who x.what.entry.step x.what.entry.part x.what.entry.event
    k placed.0.maker (λ i. others.0 (placed.0.seat ∙ i)) e)

pub clock_kept : (m n : ℕ) (xs ys : List (Stamped EntryWithCall))
    → ArePlaced m n ys
    → Keeps (m + 2) xs ys
    → (marks_at xs).clock_over ≡ false
    → (marks_at ys).clock_over ≡ false
clock_kept m n xs ys placed h e =
    ap (λ (k : Marks). k.clock_over) (ap marks_at h.1 ∙ marks_append xs h.0)
    ∙ clocks_stay m n h.0 (marks_at xs) (placed_right m n xs h.0 (subst (ArePlaced m n) h.1 placed)) h.2 e

-- the line of the phase is not over, and the last one sent so many
record IsOpenLine (sent : ℕ) (k : Marks) : Type 0 where
  not_over : k.line_over ≡ false
  count : k.sent ≡ sent

line_stays : (m n : ℕ) (f : ℕ → ℕ → Option PlainCall) (who : Who) (step part : ℕ) (event : PlainEvent) (sent : ℕ)
    (k : Marks)
    → IsByItsMaker f n who step event
    → seat_of m who ≢ m + 1
    → IsOpenLine sent k
    → IsOpenLine sent (marks_after event step part k)
line_stays m n f who step part (answered a dropped) sent k by other h = h
line_stays m n f who step part (parted i) sent k by other h = h
line_stays m n f who step part waited sent k by other h = h
line_stays m n f who step part (flushed chars) sent k by other h = record { not_over = h.not_over; count = h.count }
line_stays m n f who step part ticked sent k by other h = record { not_over = h.not_over; count = h.count }
line_stays m n f who step part (line_ended i) sent k by other h = absurd (by_another m (m + 1) who Line refl by other)
line_stays m n f who step part clock_ended sent k by other h = record { not_over = h.not_over; count = h.count }
line_stays m n f who step part caller_ended sent k by other h = h
line_stays m n f who step part phase_ended sent k by other h = record { not_over = refl; count = h.count }
line_stays m n f who step part (hung_up dropped) sent k by other h = h

lines_stay : (m n : ℕ) (xs : List (Stamped EntryWithCall)) (sent : ℕ) (k : Marks)
    → ArePlaced m n xs
    → Each (λ i. i ≢ m + 1) xs
    → IsOpenLine sent k
    → IsOpenLine sent (marks_in (entries_in xs) k)
lines_stay m n [] sent k placed others h = h
lines_stay m n (x ∷ xs) sent k placed others h =
    lines_stay m n xs sent (marks_after x.what.entry.event x.what.entry.step x.what.entry.part k) placed.1 others.1
    (line_stays m n (λ (c s : ℕ). x.what.call) x.what.entry.who x.what.entry.step x.what.entry.part x.what.entry.event
    sent k placed.0.maker (λ e. others.0 (placed.0.seat ∙ e)) h)

line_kept : (m n : ℕ) (xs ys : List (Stamped EntryWithCall))
    → ArePlaced m n ys
    → Keeps (m + 1) xs ys
    → (marks_at xs).line_over ≡ false
    → IsOpenLine (marks_at xs).sent (marks_at ys)
line_kept m n xs ys placed h e =
    subst (IsOpenLine (marks_at xs).sent) (sym (ap marks_at h.1 ∙ marks_append xs h.0))
    (lines_stay m n h.0 (marks_at xs).sent (marks_at xs) (placed_right m n xs h.0 (subst (ArePlaced m n) h.1 placed))
    h.2 (record { not_over = e; count = refl }))

pub line_open_kept : (m n : ℕ) (xs ys : List (Stamped EntryWithCall))
    → ArePlaced m n ys
    → Keeps (m + 1) xs ys
    → (marks_at xs).line_over ≡ false
    → (marks_at ys).line_over ≡ false
line_open_kept m n xs ys placed h e = (line_kept m n xs ys placed h e).not_over

pub line_sent_kept : (m n : ℕ) (xs ys : List (Stamped EntryWithCall))
    → ArePlaced m n ys
    → Keeps (m + 1) xs ys
    → (marks_at xs).line_over ≡ false
    → (marks_at ys).sent ≡ (marks_at xs).sent
line_sent_kept m n xs ys placed h e = (line_kept m n xs ys placed h e).count

-- what an event of the phase asks of who makes it, others leave
pub event_kept : (m n count : ℕ) (event : PhaseEvent) (xs ys : List (Stamped EntryWithCall))
    → ArePlaced m n ys
    → Keeps (seat_of m (maker_of event)) xs ys
    → CanFollow count event xs
    → CanFollow count event ys
event_kept m n count Tick xs ys placed h can = clock_kept m n xs ys placed h can
event_kept m n count ClockEnd xs ys placed h can = clock_kept m n xs ys placed h can
event_kept m n count (CallerEnd c) xs ys placed h can =
    let between = between_kept m n c (standing_at c xs).next xs ys placed h can.1 in
    (can.0, record { next = refl; not_over = between.not_over; not_begun = between.not_begun })

pub event_step_kept : (m n count : ℕ) (event : PhaseEvent) (xs ys : List (Stamped EntryWithCall))
    → ArePlaced m n ys
    → Keeps (seat_of m (maker_of event)) xs ys
    → CanFollow count event xs
    → step_of event ys ys ≡ step_of event xs ys
event_step_kept m n count Tick xs ys placed h can = refl
event_step_kept m n count ClockEnd xs ys placed h can = refl
event_step_kept m n count (CallerEnd c) xs ys placed h can =
    (between_kept m n c (standing_at c xs).next xs ys placed h can.1).next
