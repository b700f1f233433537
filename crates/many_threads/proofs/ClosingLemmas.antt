-- What the history of a closed port tells of the threads of the phase.
use Rattle.std.proofs.Common.{◌≡◌, ◌≢◌, ℕ, ◌+◌, ◌≤◌, List, [], ◌∷◌, ◌++◌, true}
use Rattle.std.proofs.Common.{length, sym, ◌∙◌, ap, subst, arith, append_assoc}
use Rattle.std.proofs.lemmas.List.{append_cancel_left}
use Rattle.tty_base.specs.declared.characters.Flagged.{Flagged}
use Rattle.tty_base.specs.declared.lines.LineStep.{LineStep}
use Rattle.word_ring.specs.Ends.{PutterState}
use Rattle.uart_line.specs.LineState.{LineState}
use Rattle.tty_calls.specs.Plain.{PlainEvent, line_ended, clock_ended}
use Rattle.tty_terminal.specs.Marks.{Marks, marks_after}
use Rattle.port_cell.specs.declared.kept.Stamped.{Stamped}
use Rattle.port_cell.specs.Entries as histories
use Rattle.port_cell.specs.Entries.{Keeps, Begins}
use Rattle.port_cell.specs.Knowledge.{list_seen}
use Rattle.port_cell.proofs.Histories.{each_right}
use Rattle.tty_port.specs.Inside.{EntryWithCall}
use Rattle.tty_port.specs.Seen.{marks_at}
use Rattle.tty_port.specs.Placed.{ArePlaced}
use Rattle.tty_port.specs.Calls.{PortSeat}
use Rattle.tty_port.proofs.Histories.{marks_append}
use Rattle.tty_port.proofs.PhaseLaws.{phase_kept, line_in_phase, clock_in_phase}
use Rattle.many_threads.specs.Parts.{StopsClock, PlaysClock, PlaysLine}
use Rattle.many_threads.proofs.PartLemmas.{begins_on, begins_kept, begins_one, placed_left, tick_kept}

-- what a seat has not made since the start it has not made since
pub since : (n : ℕ) (xs zs ys : List (Stamped EntryWithCall))
    → Keeps n xs ys
    → Begins xs zs
    → Begins zs ys
    → Keeps n zs ys
since n xs zs ys h b k =
    let whole : xs ++ h.0 ≡ xs ++ (b.0 ++ k.0) =
    sym h.1 ∙ (k.1 ∙ (ap (λ (l : List (Stamped EntryWithCall)). l ++ k.0) b.1 ∙ append_assoc xs b.0 k.0)) in
    let same : h.0 ≡ b.0 ++ k.0 = append_cancel_left xs h.0 (b.0 ++ k.0) whole in
    (k.0, k.1, each_right (λ (i : ℕ). i ≢ n) b.0 k.0 (subst (histories.Each (λ (i : ℕ). i ≢ n)) same h.2))

pub placed_before : (m n : ℕ) (zs ys : List (Stamped EntryWithCall))
    → ArePlaced m n ys
    → Begins zs ys
    → ArePlaced m n zs
placed_before m n zs ys placed k = placed_left m n zs k.0 (subst (ArePlaced m n) k.1 placed)

-- the phase has not ended since the start
pub same_phase : (m n : ℕ) (xs zs ys : List (Stamped EntryWithCall))
    → ArePlaced m n ys
    → Keeps (m + 3) xs ys
    → Begins xs zs
    → Begins zs ys
    → (marks_at ys).phase ≡ (marks_at zs).phase
same_phase m n xs zs ys placed session b k = phase_kept m n zs ys placed (since (m + 3) xs zs ys session b k)

-- ---- the line

line_marked : (event : PlainEvent) (step part sent : ℕ) (k : Marks)
    → event ≡ line_ended sent
    → ((marks_after event step part k).line_over ≡ true) × ((marks_after event step part k).sent ≡ sent)
line_marked event step part sent k e = (
  ap (λ (x : PlainEvent). (marks_after x step part k).line_over) e,
  ap (λ (x : PlainEvent). (marks_after x step part k).sent) e,
)

pub line_is_over : (m n : ℕ) (steps : List LineStep) (line played : LineState) (putter now : PutterState Flagged)
    (xs ys : List (Stamped EntryWithCall)) (s : PortSeat)
    → ArePlaced m n ys
    → Keeps (m + 3) xs ys
    → Keeps (m + 1) (list_seen s) ys
    → (h : PlaysLine (m + 1) steps line played putter now xs s)
    → ((marks_at ys).line_over ≡ true) × ((marks_at ys).sent ≡ length h.met.sent)
line_is_over m n steps line played putter now xs ys s placed session keeps h =
    let zs = list_seen s in
    let begins =
    begins_on xs h.before zs (begins_kept (m + 1) xs h.before h.found) (begins_one h.before zs h.last h.added) in
    let rest = begins_kept (m + 1) zs ys keeps in
    let e = h.last.what.entry in
    let at : marks_at zs ≡ marks_after e.event e.step e.part (marks_at h.before) =
    ap marks_at h.added ∙ marks_append h.before (h.last ∷ []) in
    let marked = line_marked e.event e.step e.part (length h.met.sent) (marks_at h.before) h.ends.entry.happened in
    let same = line_in_phase m n zs ys placed keeps (same_phase m n xs zs ys placed session begins rest) in (
      same.0 ∙ (ap (λ (k : Marks). k.line_over) at ∙ marked.0),
      same.1 ∙ (ap (λ (k : Marks). k.sent) at ∙ marked.1),
    )

-- ---- the clock

clock_marked : (event : PlainEvent) (step part : ℕ) (k : Marks)
    → event ≡ clock_ended
    → ((marks_after event step part k).clock_over ≡ true) × ((marks_after event step part k).tick ≡ k.tick)
clock_marked event step part k e = (
  ap (λ (x : PlainEvent). (marks_after x step part k).clock_over) e,
  ap (λ (x : PlainEvent). (marks_after x step part k).tick) e,
)

pub clock_is_over : (m n ticks : ℕ) (xs ys : List (Stamped EntryWithCall)) (s : PortSeat)
    → ArePlaced m n ys
    → Keeps (m + 3) xs ys
    → Keeps (m + 2) (list_seen s) ys
    → PlaysClock (m + 2) ticks xs s
    → ((marks_at ys).clock_over ≡ true) × ((marks_at ys).tick ≡ (marks_at xs).tick + ticks)
clock_is_over m n ticks xs ys s placed session keeps h =
    let zs = list_seen s in
    let to_before = begins_on xs h.seen h.before h.begins (begins_kept (m + 2) h.seen h.before h.found) in
    let on = begins_one h.before zs h.last h.added in
    let begins = begins_on xs h.before zs to_before on in
    let rest = begins_kept (m + 2) zs ys keeps in
    let placed_here = placed_before m n h.before ys placed (begins_on h.before zs ys on rest) in
    let e = h.last.what.entry in
    let at : marks_at zs ≡ marks_after e.event e.step e.part (marks_at h.before) =
    ap marks_at h.added ∙ marks_append h.before (h.last ∷ []) in
    let marked = clock_marked e.event e.step e.part (marks_at h.before) h.ends in
    let same = clock_in_phase m n zs ys placed keeps (same_phase m n xs zs ys placed session begins rest) in (
      same.0 ∙ (ap (λ (k : Marks). k.clock_over) at ∙ marked.0),
      same.1
          ∙ (ap (λ (k : Marks). k.tick) at
          ∙ (marked.1 ∙ (tick_kept m n h.seen h.before placed_here h.found ∙ h.ticks))),
    )

pub clock_stops : (m n most : ℕ) (xs ys : List (Stamped EntryWithCall)) (s : PortSeat)
    → ArePlaced m n ys
    → Keeps (m + 2) (list_seen s) ys
    → StopsClock (m + 2) most xs s
    → (marks_at ys).tick ≤ (marks_at xs).tick + most
clock_stops m n most xs ys s placed keeps h =
    let zs = list_seen s in
    let placed_here = placed_before m n zs ys placed (begins_kept (m + 2) zs ys keeps) in
    let more = tick_kept m n h.seen zs placed_here h.found in
    let last = tick_kept m n zs ys placed keeps in
    let ticks = h.ticks in
    let few = h.within in
    omega arith
