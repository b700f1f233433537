-- What the entries of others leave as it is within one phase.
use Rattle.std.proofs.Common.{◌≡◌, ◌≢◌, ℕ, ◌+◌, ◌≤◌, List, [], ◌∷◌}
use Rattle.std.proofs.Common.{Option, refl, sym, ◌∙◌, ap, subst, arith}
use Rattle.tty_calls.specs.declared.journals.Who.{Who}
use Rattle.tty_calls.specs.declared.journals.Who.TheVariants.{Line, Clock, Session}
use Rattle.tty_calls.specs.Plain.{PlainCall, PlainEvent, answered, parted, waited, flushed, ticked, line_ended}
use Rattle.tty_calls.specs.Plain.{clock_ended, caller_ended, phase_ended, hung_up, PlainEntry, is_caller}
use Rattle.tty_terminal.specs.Makers.{IsByItsMaker}
use Rattle.tty_terminal.specs.Standing.{Standing, standing_after_own, standing_after_other, standing_in}
use Rattle.tty_terminal.specs.Marks.{Marks, marks_after, marks_in}
use Rattle.port_cell.specs.declared.kept.Stamped.{Stamped}
use Rattle.port_cell.specs.Entries.{Each, Keeps}
use Rattle.tty_port.specs.Inside.{EntryWithCall}
use Rattle.tty_port.specs.Histories.{seat_of}
use Rattle.tty_port.specs.Seen.{entries_in, standing_at, marks_at}
use Rattle.tty_port.specs.Placed.{ArePlaced}
use Rattle.tty_port.proofs.Histories.{standing_append, marks_append}
use Rattle.tty_port.proofs.Keeping.{placed_right, not_caller, when_false, by_another}

-- ---- phases

phase_rises : (event : PlainEvent) (step part : ℕ) (k : Marks) → k.phase ≤ (marks_after event step part k).phase
phase_rises (answered a dropped) step part k = omega arith
phase_rises (parted n) step part k = omega arith
phase_rises waited step part k = omega arith
phase_rises (flushed chars) step part k = omega arith
phase_rises ticked step part k = omega arith
phase_rises (line_ended n) step part k = omega arith
phase_rises clock_ended step part k = omega arith
phase_rises caller_ended step part k = omega arith
phase_rises phase_ended step part k = omega arith
phase_rises (hung_up dropped) step part k = omega arith

phases_rise : (es : List PlainEntry) (k : Marks) → k.phase ≤ (marks_in es k).phase
phases_rise [] k = omega arith
phases_rise (e ∷ es) k =
    omega (arith, phases_rise es (marks_after e.event e.step e.part k), phase_rises e.event e.step e.part k)

-- an entry of a phase that goes on is not its end
phase_goes_on : (event : PlainEvent) (step part : ℕ) (k : Marks) (es : List PlainEntry)
    → (marks_in es (marks_after event step part k)).phase ≡ k.phase
    → (marks_after event step part k).phase ≡ k.phase
phase_goes_on event step part k es e =
    let more = phases_rise es (marks_after event step part k) in let one = phase_rises event step part k in omega arith

session_leaves : (m n : ℕ) (f : ℕ → ℕ → Option PlainCall) (who : Who) (step part : ℕ) (event : PlainEvent) (k : Marks)
    → IsByItsMaker f n who step event
    → seat_of m who ≢ m + 3
    → (marks_after event step part k).phase ≡ k.phase
session_leaves m n f who step part (answered a dropped) k by other = refl
session_leaves m n f who step part (parted i) k by other = refl
session_leaves m n f who step part waited k by other = refl
session_leaves m n f who step part (flushed chars) k by other = refl
session_leaves m n f who step part ticked k by other = refl
session_leaves m n f who step part (line_ended i) k by other = refl
session_leaves m n f who step part clock_ended k by other = refl
session_leaves m n f who step part caller_ended k by other = refl
session_leaves m n f who step part phase_ended k by other = absurd (by_another m (m + 3) who Session refl by other)
session_leaves m n f who step part (hung_up dropped) k by other = refl

sessions_leave : (m n : ℕ) (xs : List (Stamped EntryWithCall)) (k : Marks)
    → ArePlaced m n xs
    → Each (λ i. i ≢ m + 3) xs
    → (marks_in (entries_in xs) k).phase ≡ k.phase
sessions_leave m n [] k placed others = refl
sessions_leave m n (x ∷ xs) k placed others =
    sessions_leave m n xs (marks_after x.what.entry.event x.what.entry.step x.what.entry.part k) placed.1 others.1
    ∙ session_leaves m n (λ (c s : ℕ). x.what.call) x.what.entry.who x.what.entry.step x.what.entry.part
    x.what.entry.event k placed.0.maker (λ e. others.0 (placed.0.seat ∙ e))

pub phase_kept : (m n : ℕ) (xs ys : List (Stamped EntryWithCall))
    → ArePlaced m n ys
    → Keeps (m + 3) xs ys
    → (marks_at ys).phase ≡ (marks_at xs).phase
phase_kept m n xs ys placed h =
    ap (λ (k : Marks). k.phase) (ap marks_at h.1 ∙ marks_append xs h.0)
    ∙ sessions_leave m n h.0 (marks_at xs) (placed_right m n xs h.0 (subst (ArePlaced m n) h.1 placed)) h.2

-- ---- callers

other_leaves : (event : PlainEvent) (step part : ℕ) (s : Standing) (k : Marks)
    → (marks_after event step part k).phase ≡ k.phase
    → standing_after_other event s ≡ s
other_leaves (answered a dropped) step part s k e = refl
other_leaves (parted n) step part s k e = refl
other_leaves waited step part s k e = refl
other_leaves (flushed chars) step part s k e = refl
other_leaves ticked step part s k e = refl
other_leaves (line_ended n) step part s k e = refl
other_leaves clock_ended step part s k e = refl
other_leaves caller_ended step part s k e = refl
other_leaves phase_ended step part s k e = absurd (omega arith)
other_leaves (hung_up dropped) step part s k e = refl

others_leave : (m n c : ℕ) (xs : List (Stamped EntryWithCall)) (s : Standing) (k : Marks)
    → ArePlaced m n xs
    → Each (λ i. i ≢ c) xs
    → (marks_in (entries_in xs) k).phase ≡ k.phase
    → standing_in c (entries_in xs) s ≡ s
others_leave m n c [] s k placed others e = refl
others_leave m n c (x ∷ xs) s k placed others e =
    let event = x.what.entry.event in
    let after = marks_after event x.what.entry.step x.what.entry.part k in
    let same = phase_goes_on event x.what.entry.step x.what.entry.part k (entries_in xs) e in
    let by = not_caller m c x.what.entry.who (λ i. others.0 (placed.0.seat ∙ i)) in
    let stays =
    when_false (is_caller x.what.entry.who c) (standing_after_own event x.what.entry.generation s)
    (standing_after_other event s) by
    ∙ other_leaves event x.what.entry.step x.what.entry.part s k same in
    ap (λ (u : Standing). standing_in c (entries_in xs) u) stays
    ∙ others_leave m n c xs s after placed.1 others.1 (e ∙ sym same)

pub standing_in_phase : (m n c : ℕ) (xs ys : List (Stamped EntryWithCall))
    → ArePlaced m n ys
    → Keeps c xs ys
    → (marks_at ys).phase ≡ (marks_at xs).phase
    → standing_at c ys ≡ standing_at c xs
standing_in_phase m n c xs ys placed h e =
    let at = ap marks_at h.1 ∙ marks_append xs h.0 in
    ap (standing_at c) h.1 ∙ standing_append c xs h.0
    ∙ others_leave m n c h.0 (standing_at c xs) (marks_at xs)
    (placed_right m n xs h.0 (subst (ArePlaced m n) h.1 placed)) h.2 (sym (ap (λ (k : Marks). k.phase) at) ∙ e)

-- ---- line and clock

record SameLine (j k : Marks) : Type 0 where
  line_over : k.line_over ≡ j.line_over
  sent : k.sent ≡ j.sent

line_leaves : (m n : ℕ) (f : ℕ → ℕ → Option PlainCall) (who : Who) (step part : ℕ) (event : PlainEvent) (k : Marks)
    → IsByItsMaker f n who step event
    → seat_of m who ≢ m + 1
    → (marks_after event step part k).phase ≡ k.phase
    → SameLine k (marks_after event step part k)
line_leaves m n f who step part (answered a dropped) k by other e = record { line_over = refl; sent = refl }
line_leaves m n f who step part (parted i) k by other e = record { line_over = refl; sent = refl }
line_leaves m n f who step part waited k by other e = record { line_over = refl; sent = refl }
line_leaves m n f who step part (flushed chars) k by other e = record { line_over = refl; sent = refl }
line_leaves m n f who step part ticked k by other e = record { line_over = refl; sent = refl }
line_leaves m n f who step part (line_ended i) k by other e = absurd (by_another m (m + 1) who Line refl by other)
line_leaves m n f who step part clock_ended k by other e = record { line_over = refl; sent = refl }
line_leaves m n f who step part caller_ended k by other e = record { line_over = refl; sent = refl }
line_leaves m n f who step part phase_ended k by other e = absurd (omega arith)
line_leaves m n f who step part (hung_up dropped) k by other e = record { line_over = refl; sent = refl }

lines_leave : (m n : ℕ) (xs : List (Stamped EntryWithCall)) (k : Marks)
    → ArePlaced m n xs
    → Each (λ i. i ≢ m + 1) xs
    → (marks_in (entries_in xs) k).phase ≡ k.phase
    → SameLine k (marks_in (entries_in xs) k)
lines_leave m n [] k placed others e = record { line_over = refl; sent = refl }
lines_leave m n (x ∷ xs) k placed others e =
    let event = x.what.entry.event in
    let after = marks_after event x.what.entry.step x.what.entry.part k in
    let same = phase_goes_on event x.what.entry.step x.what.entry.part k (entries_in xs) e in
    let one = line_leaves m n (λ (c s : ℕ). x.what.call) x.what.entry.who x.what.entry.step x.what.entry.part event k
    placed.0.maker (λ i. others.0 (placed.0.seat ∙ i)) same in
    let more = lines_leave m n xs after placed.1 others.1 (e ∙ sym same) in
    record { line_over = more.line_over ∙ one.line_over; sent = more.sent ∙ one.sent }

record SameClock (j k : Marks) : Type 0 where
  clock_over : k.clock_over ≡ j.clock_over
  tick : k.tick ≡ j.tick

clock_leaves : (m n : ℕ) (f : ℕ → ℕ → Option PlainCall) (who : Who) (step part : ℕ) (event : PlainEvent) (k : Marks)
    → IsByItsMaker f n who step event
    → seat_of m who ≢ m + 2
    → (marks_after event step part k).phase ≡ k.phase
    → SameClock k (marks_after event step part k)
clock_leaves m n f who step part (answered a dropped) k by other e = record { clock_over = refl; tick = refl }
clock_leaves m n f who step part (parted i) k by other e = record { clock_over = refl; tick = refl }
clock_leaves m n f who step part waited k by other e = record { clock_over = refl; tick = refl }
clock_leaves m n f who step part (flushed chars) k by other e = record { clock_over = refl; tick = refl }
clock_leaves m n f who step part ticked k by other e = absurd (by_another m (m + 2) who Clock refl by other)
clock_leaves m n f who step part (line_ended i) k by other e = record { clock_over = refl; tick = refl }
clock_leaves m n f who step part clock_ended k by other e = absurd (by_another m (m + 2) who Clock refl by other)
clock_leaves m n f who step part caller_ended k by other e = record { clock_over = refl; tick = refl }
clock_leaves m n f who step part phase_ended k by other e = absurd (omega arith)
clock_leaves m n f who step part (hung_up dropped) k by other e = record { clock_over = refl; tick = refl }

clocks_leave : (m n : ℕ) (xs : List (Stamped EntryWithCall)) (k : Marks)
    → ArePlaced m n xs
    → Each (λ i. i ≢ m + 2) xs
    → (marks_in (entries_in xs) k).phase ≡ k.phase
    → SameClock k (marks_in (entries_in xs) k)
clocks_leave m n [] k placed others e = record { clock_over = refl; tick = refl }
clocks_leave m n (x ∷ xs) k placed others e =
    let event = x.what.entry.event in
    let after = marks_after event x.what.entry.step x.what.entry.part k in
    let same = phase_goes_on event x.what.entry.step x.what.entry.part k (entries_in xs) e in
    let one = clock_leaves m n (λ (c s : ℕ). x.what.call) x.what.entry.who x.what.entry.step x.what.entry.part event k
    placed.0.maker (λ i. others.0 (placed.0.seat ∙ i)) same in
    let more = clocks_leave m n xs after placed.1 others.1 (e ∙ sym same) in
    record { clock_over = more.clock_over ∙ one.clock_over; tick = more.tick ∙ one.tick }

line_same : (m n : ℕ) (xs ys : List (Stamped EntryWithCall))
    → ArePlaced m n ys
    → Keeps (m + 1) xs ys
    → (marks_at ys).phase ≡ (marks_at xs).phase
    → SameLine (marks_at xs) (marks_at ys)
line_same m n xs ys placed h e =
    let at = ap marks_at h.1 ∙ marks_append xs h.0 in
    subst (SameLine (marks_at xs)) (sym at)
    (lines_leave m n h.0 (marks_at xs) (placed_right m n xs h.0 (subst (ArePlaced m n) h.1 placed)) h.2
    (sym (ap (λ (k : Marks). k.phase) at) ∙ e))

pub line_in_phase : (m n : ℕ) (xs ys : List (Stamped EntryWithCall))
    → ArePlaced m n ys
    → Keeps (m + 1) xs ys
    → (marks_at ys).phase ≡ (marks_at xs).phase
    → ((marks_at ys).line_over ≡ (marks_at xs).line_over) × ((marks_at ys).sent ≡ (marks_at xs).sent)
line_in_phase m n xs ys placed h e = let same = line_same m n xs ys placed h e in (same.line_over, same.sent)

clock_same : (m n : ℕ) (xs ys : List (Stamped EntryWithCall))
    → ArePlaced m n ys
    → Keeps (m + 2) xs ys
    → (marks_at ys).phase ≡ (marks_at xs).phase
    → SameClock (marks_at xs) (marks_at ys)
clock_same m n xs ys placed h e =
    let at = ap marks_at h.1 ∙ marks_append xs h.0 in
    subst (SameClock (marks_at xs)) (sym at)
    (clocks_leave m n h.0 (marks_at xs) (placed_right m n xs h.0 (subst (ArePlaced m n) h.1 placed)) h.2
    (sym (ap (λ (k : Marks). k.phase) at) ∙ e))

pub clock_in_phase : (m n : ℕ) (xs ys : List (Stamped EntryWithCall))
    → ArePlaced m n ys
    → Keeps (m + 2) xs ys
    → (marks_at ys).phase ≡ (marks_at xs).phase
    → ((marks_at ys).clock_over ≡ (marks_at xs).clock_over) × ((marks_at ys).tick ≡ (marks_at xs).tick)
clock_in_phase m n xs ys placed h e = let same = clock_same m n xs ys placed h e in (same.clock_over, same.tick)
