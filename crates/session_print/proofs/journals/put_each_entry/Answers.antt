use Rattle.std.proofs.Common.{◌∙◌, arith, string_bytes}
use Rattle.tty_calls.specs.Plain.{entry_of}
use Rattle.session_print.proofs.Entries.{entry_more}
use Rattle.session_print.proofs.journals.put_each_entry.Goals as goal

pub loop-place-preserved : goal.loop-place-preserved
loop-place-preserved c = record {
  so_far =
      entry_more _ (string_bytes c.loop-place.text) (string_bytes c.put_entry.new.text) c.as_str.result.now
      c.args.names.now c.args.journal.now.items c.loop-place.place (entry_of c.at-entry.result)
      c.at-entry.ensures (omega arith) (c.as_str.ensures ∙ c.in_ok-turn_to.ensures.text)
      c.in_ok-put_entry.ensures c.loop-place.invariant.so_far;
  front = c.in_ok-turn_to.ensures.front;
}
