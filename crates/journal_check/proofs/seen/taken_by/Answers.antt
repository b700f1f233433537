use Rattle.std.proofs.Common.{◌≡◌, ℕ, ◌+◌, ◌∷◌, List, length, ap, arith}
use Rattle.tty_base.specs.declared.characters.Flagged.{Flagged}
use Rattle.tty_calls.specs.Plain.{PlainEntry, entry_of, chars_in}
use Rattle.journal_check.specs.Seen.{phase_starts, line_stops}
use Rattle.journal_check.proofs.SeenLemmas.{size_at, starts_more, stops_more}
use Rattle.journal_check.proofs.seen.taken_by.Goals as goal

pub overflow_add-count : goal.overflow_add-count
overflow_add-count c =
    let size = size_at c.args.journal.now.items c.loop-place.place (entry_of c.at-entry.result) c.at-entry.ensures in
    omega (
      arith,
      c.loop-place.invariant.size,
      size,
      ap (λ (cs : List Flagged). length cs) c.chars_of_event.ensures,
      c.requires,
    )

pub loop-place-preserved : goal.loop-place-preserved
loop-place-preserved c =
    let i = c.loop-place.invariant in
    let es : List PlainEntry = c.args.journal.now.items in
    let e : PlainEntry = entry_of c.at-entry.result in
    let n : ℕ = c.loop-place.count in
    let m : ℕ = n + length c.chars_of_event.result.now in
    let counted : m ≡ n + length (chars_in e.event) =
    ap (λ (cs : List Flagged). n + length cs) c.chars_of_event.ensures in
    record {
      starts = starts_more es c.loop-place.place n m e c.loop-place.starts.items c.note_start.new.starts.items
          (0 ∷ phase_starts 0 es) c.at-entry.ensures counted c.in_ok-note_start.ensures i.starts;
      stops = stops_more es c.loop-place.place n m e c.loop-place.stops.items c.note_stop.new.stops.items
          (line_stops 0 es) c.at-entry.ensures counted c.in_ok-note_stop.ensures i.stops;
      size = omega (arith, i.size, size_at es c.loop-place.place e c.at-entry.ensures, counted);
    }
