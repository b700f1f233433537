use Rattle.std.proofs.Common.{◌+◌}
use Rattle.std.proofs.lemmas.Bool.{false≢true}
use Rattle.tty_calls.specs.Plain.{entry_of}
use Rattle.journal_check.proofs.AccountLemmas.{CharsGoOn, chars_next, not_next}
use Rattle.journal_check.proofs.characters.are_chars_of.Goals as goal

pub returns-in-None : goal.returns-in-None
returns-in-None c = (
  λ is. absurd (false≢true is),
  λ whole. absurd (not_next c.args.journal.now.items c.loop-place.place (entry_of c.at-entry.result) c.args.list.now
      c.loop-place.rest.now c.chars_of_event.result.now c.at-entry.ensures c.chars_of_event.ensures
      c.in-None.ensures c.loop-place.invariant.goes_on whole),
)

pub loop-place-preserved : goal.loop-place-preserved
loop-place-preserved c =
    let i = c.loop-place.invariant in
    let next : CharsGoOn c.args.journal.now.items (c.loop-place.place + 1) c.args.list.now c.in-Some.left.now =
    chars_next c.args.journal.now.items c.loop-place.place (entry_of c.at-entry.result) c.args.list.now
    c.loop-place.rest.now c.chars_of_event.result.now c.in-Some.left.now c.at-entry.ensures c.chars_of_event.ensures
    c.in-Some.ensures i.goes_on i.came in
    record { goes_on = next.goes_on; came = next.came }
