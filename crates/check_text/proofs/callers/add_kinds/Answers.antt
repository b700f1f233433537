use Rattle.tty_calls.specs.Plain.{call_of}
use Rattle.check_text.proofs.Rows.{kind_added}
use Rattle.check_text.proofs.callers.add_kinds.Goals as goal

pub loop-place-preserved : goal.loop-place-preserved
loop-place-preserved c =
    kind_added c.args.row.now.items c.loop-place.row.items c.push.new.self.items c.args.calls.now.items
    c.loop-place.place (call_of c.at.result) c.answer_kind.result c.at.ensures c.answer_kind.ensures
    c.in_ok-push.ensures.items c.loop-place.invariant
