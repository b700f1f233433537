use Rattle.std.proofs.Common.{refl, string_bytes}
use Rattle.tty_calls.specs.Plain.{call_of, answer_lent}
use Rattle.session_print.specs.Printing.{noted_answer}
use Rattle.session_print.proofs.Telling.{stepping_told, stepping_silent}
use Rattle.session_print.proofs.calls.Teller.put_under.Goals as goal
use Rattle.session_print.proofs.calls.Teller.put_under.Goals.{in-Some+in_ok-put_call, in_default}

pub loop-place-preserved : goal.loop-place-preserved
loop-place-preserved c =
    let told = stepping_told c.args.self.now.port (noted_answer c.args.self.now.answers) c.args.name.now
    (string_bytes c.args.text.now) c.args.first.caller c.args.first.step c.args.calls.now.items in
    let silent = stepping_silent c.args.self.now.port (noted_answer c.args.self.now.answers) c.args.name.now
    (string_bytes c.args.text.now) c.args.first.caller c.args.first.step c.args.calls.now.items in
    let text = string_bytes c.loop-place.text in
    let new = string_bytes c.match-get.text in
    let front = string_bytes c.loop-place.head.front in
    let shared = string_bytes c.loop-place.head.shared in
    let front_new = string_bytes c.pass.new.self.front in
    let shared_new = string_bytes c.pass.new.self.shared in
    let at = c.loop-place in
    elim c.match-get.branch [
      | in-Some+in_ok-put_call w ↦ told text new front shared front_new shared_new at.turn.caller at.turn.step at.place
          at.invariant c.pass.ensures.front c.in_ok-pass.ensures.shared (call_of w.at.result)
          (answer_lent w.in-Some.answer) w.at.ensures w.in-Some.ensures (rw w.text-is w.in_ok-put_call.ensures)
      | in_default w ↦ silent text new front shared front_new shared_new at.turn.caller at.turn.step at.place
          at.invariant c.pass.ensures.front c.in_ok-pass.ensures.shared
          (rw (← c.len-place-end.ensures) c.loop-place-test.true) w.in_default.ensures (rw w.text-is refl)
    ]
