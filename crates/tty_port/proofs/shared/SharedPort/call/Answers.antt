use Rattle.std.proofs.lemmas.Bool.{false≢true}
use Rattle.std.proofs.Common.{◌≡◌, ◌+◌, ◌<◌, true, false, Bool, ℕ, refl, sym}
use Rattle.std.proofs.Common.{ap, ◌∙◌, rules, arith, MatchBool, subst, sum}
use Rattle.tty_calls.specs.Plain.{call_of, answer_of, changes}
use Rattle.port_cell.specs.Word.{generation_in, changing_in, users_in}
use Rattle.port_cell.specs.Knowledge.{last_word, step_count}
use Rattle.tty_port.specs.Calls.{waits_in}
use Rattle.tty_port.specs.Placed.{ArePlaced}
use Rattle.tty_port.specs.Shared.{name_of_port}
use Rattle.tty_port.proofs.CallSteps.{found_lone, knows_same, answers_change}
use Rattle.tty_port.proofs.CallSteps.{answered_between, pauses_between, changes_none}
use Rattle.tty_port.proofs.Outcomes.{each_ok, both_err}
use Rattle.tty_port.proofs.shared.SharedPort.call.Goals as goal

found_held : (may : Bool) (word : ℕ)
    → may ≡ false
    → changing_in word ≡ 0
    → MatchBool may (users_in word ≡ 0) (changing_in word ≡ 0)
found_held true word e h = absurd (false≢true (sym e))
found_held false word e h = h

pub returns-then-changes-clause-ok : goal.returns-then-changes-clause-ok
returns-then-changes-clause-ok g c =
    let s = c.args.seat.now in
    let old = c.mark_alone.new.seat in
    let new = c.change.new.seat in
    let call = call_of c.args.call.now in
    let may : changes call ≡ true = search rules in
    let stepped = c.mark_alone.ensures.stepped in
    let word = c.change.ensures.word.word in
    let steps = c.change.ensures.word.steps in
    let knows = knows_same s old c.mark_alone.ensures.turn c.mark_alone.ensures.seat.number in
    each_ok c.change.result _ _
    (λ a h. record {
      answered = answered_between c.args.caller c.args.step call (answer_of a) s old new new knows
          (record { list = refl; own = refl; installs = refl }) refl (omega arith) (omega arith)
          (answers_change c.args.caller c.args.step call (answer_of a) old new h (omega arith));
      stepped = omega arith;
      found = found_lone (changes call) (last_word new) may (ap users_in word ∙ c.mark_alone.ensures.unused);
      at_once = λ e. refl;
    })
    c.change.ensures.ok

pub returns-then-changes-clause-err : goal.returns-then-changes-clause-err
returns-then-changes-clause-err g c =
    let s = c.args.seat.now in
    let old = c.mark_alone.new.seat in
    let new = c.change.new.seat in
    let call = call_of c.args.call.now in
    let stepped = c.mark_alone.ensures.stepped in
    let steps = c.change.ensures.word.steps in
    let knows = knows_same s old c.mark_alone.ensures.turn c.mark_alone.ensures.seat.number in
    both_err c.change.result _ _ _
    (λ none installs. pauses_between c.args.caller c.args.step call s old new new knows
    (record { list = refl; own = refl; installs = refl }) (omega arith) (omega arith)
    (changes_none c.args.caller c.args.step call old new none (omega arith) installs))
    c.change.ensures.err c.change.ensures.none

pub returns-clause-ok : goal.returns-clause-ok
returns-clause-ok g c =
    let s = c.args.seat.now in
    let old = c.hold.new.seat in
    let new = c.go_on-result.new.seat in
    let t = c.release.new.seat in
    let call = call_of c.args.call.now in
    let keeps : changes call ≡ false = search rules in
    let stepped = c.hold.ensures.stepped in
    let last = c.release.ensures.word.steps in
    let first = knows_same s old c.hold.ensures.turn c.hold.ensures.seat.number in
    let left = knows_same new t c.release.ensures.turn c.release.ensures.seat.number in
    let clear : changing_in (last_word t) ≡ 0 =
    ap changing_in c.release.ensures.word.word ∙ c.go_on-result.ensures.found in
    each_ok c.go_on-result.result _ _
    (λ a h. let renewed = h.renewed in
    let more : step_count s + waits_in h.pauses < step_count t = omega arith in
    record {
      answered = answered_between c.args.caller c.args.step call (answer_of a) s old new t first left
          (ap generation_in c.release.ensures.word.word) (omega arith) (omega arith) h;
      stepped = more;
      found = found_held (changes call) (last_word t) keeps clear;
      at_once = λ e. absurd (false≢true (sym keeps ∙ e));
    })
    c.go_on-result.ensures.ok

pub returns-clause-placed : goal.returns-clause-placed
returns-clause-placed g c =
    let name = name_of_port c.args.self.now in
    subst (ArePlaced name.callers (sum name.counts)) (sym c.release.ensures.turn.list) c.go_on-result.ensures.placed
