-- Where the end of the line stands in the part of a phase.
use Rattle.std.proofs.Common.{◌≡◌, ◌≢◌, ℕ, ◌+◌, List, [], ◌∷◌, ◌++◌, Option, refl, sym, ◌∙◌, ap, append_assoc}
use Rattle.std.proofs.lemmas.List.{append_cancel_left}
use Rattle.tty_base.specs.declared.characters.Flagged.{Flagged}
use Rattle.tty_base.specs.declared.lines.LineStep.{LineStep}
use Rattle.word_ring.specs.Ends.{PutterState}
use Rattle.uart_line.specs.LineState.{LineState}
use Rattle.tty_calls.specs.declared.journals.Who.{Who}
use Rattle.tty_calls.specs.declared.journals.Who.TheVariants.{Line}
use Rattle.tty_calls.specs.Plain.{PlainCall, PlainEvent, answered, parted, waited, flushed, ticked}
use Rattle.tty_calls.specs.Plain.{line_ended, clock_ended, caller_ended, phase_ended, hung_up, PlainEntry}
use Rattle.tty_terminal.specs.Makers.{IsByItsMaker}
use Rattle.tty_terminal.specs.Runs.{chars_of}
use Rattle.legal_runs.specs.Legal.{line_ends, line_ends_in}
use Rattle.port_cell.specs.declared.kept.Stamped.{Stamped}
use Rattle.port_cell.specs.Entries as histories
use Rattle.port_cell.specs.Entries.{Keeps}
use Rattle.port_cell.specs.Knowledge.{list_seen}
use Rattle.tty_port.specs.Inside.{EntryWithCall}
use Rattle.tty_port.specs.Histories.{seat_of}
use Rattle.tty_port.specs.Seen.{entries_in, chars_at}
use Rattle.tty_port.specs.Placed.{ArePlaced}
use Rattle.tty_port.specs.Calls.{PortSeat}
use Rattle.tty_port.proofs.Histories.{entries_append}
use Rattle.tty_port.proofs.Keeping.{by_another}
use Rattle.many_threads.specs.Parts.{PlaysLine}

line_made : (m n : ℕ) (f : ℕ → ℕ → Option PlainCall) (who : Who) (step : ℕ) (event : PlainEvent)
    → IsByItsMaker f n who step event
    → seat_of m who ≢ m + 1
    → line_ends event ≡ []
line_made m n f who step (answered a dropped) by other = refl
line_made m n f who step (parted i) by other = refl
line_made m n f who step waited by other = refl
line_made m n f who step (flushed chars) by other = refl
line_made m n f who step ticked by other = refl
line_made m n f who step (line_ended i) by other = absurd (by_another m (m + 1) who Line refl by other)
line_made m n f who step clock_ended by other = refl
line_made m n f who step caller_ended by other = refl
line_made m n f who step phase_ended by other = refl
line_made m n f who step (hung_up dropped) by other = refl

pub none_of_line : (m n : ℕ) (xs : List (Stamped EntryWithCall))
    → ArePlaced m n xs
    → histories.Each (λ i. i ≢ m + 1) xs
    → line_ends_in (entries_in xs) ≡ []
none_of_line m n [] placed others = refl
none_of_line m n (x ∷ xs) placed others =
    let e = x.what.entry in
    ap (λ (ns : List ℕ). ns ++ line_ends_in (entries_in xs)) (line_made m n (λ (c step : ℕ). x.what.call) e.who e.step
    e.event placed.0.maker (λ i. others.0 (placed.0.seat ∙ i)))
    ∙ none_of_line m n xs placed.1 others.1

-- what was made before the line's end, and after it
pub line_parts : (m n : ℕ) (steps : List LineStep) (line played : LineState) (putter now : PutterState Flagged)
    (xs ys : List (Stamped EntryWithCall)) (s : PortSeat) (whole : Keeps n xs ys)
    (h : PlaysLine (m + 1) steps line played putter now xs s) (k : Keeps (m + 1) (list_seen s) ys)
    → whole.0 ≡ h.found.0 ++ h.last ∷ k.0
line_parts m n steps line played putter now xs ys s whole h k =
    let at : list_seen s ≡ xs ++ (h.found.0 ++ h.last ∷ []) =
    h.added
    ∙ (ap (λ (l : List (Stamped EntryWithCall)). l ++ h.last ∷ []) h.found.1
    ∙ append_assoc xs h.found.0 (h.last ∷ [])) in
    let all : xs ++ whole.0 ≡ xs ++ ((h.found.0 ++ h.last ∷ []) ++ k.0) =
    sym whole.1
    ∙ (k.1 ∙ (ap (λ (l : List (Stamped EntryWithCall)). l ++ k.0) at ∙ append_assoc xs (h.found.0 ++ h.last ∷ []) k.0))
    in
    append_cancel_left xs whole.0 ((h.found.0 ++ h.last ∷ []) ++ k.0) all ∙ append_assoc h.found.0 (h.last ∷ []) k.0

-- the characters that were taken before the line's end
pub chars_before : (n : ℕ) (xs before : List (Stamped EntryWithCall)) (journal : List PlainEntry)
    (found : Keeps n xs before)
    → entries_in xs ≡ journal
    → chars_at before ≡ chars_of (journal ++ entries_in found.0)
chars_before n xs before journal found entries =
    ap chars_at found.1
    ∙ ap chars_of (entries_append xs found.0 ∙ ap (λ (es : List PlainEntry). es ++ entries_in found.0) entries)
