use Rattle.std.proofs.Common.{◌≡◌, ℕ, rules, ◌+◌, sym, ◌∙◌, subst}
use Rattle.std.proofs.Common.{◌≤◌, length}
use Rattle.tty_port.specs.Lines.{EndsLine}
use Rattle.tty_port.proofs.Keeping.{line_open_kept, line_sent_kept}
use Rattle.port_cell.specs.Knowledge.{list_seen}
use Rattle.tty_port.specs.Histories.{history_of}
use Rattle.tty_port.specs.Shared.{name_of_port}
use Rattle.tty_port.specs.declared.kept_port.KeptPort.{KeptPort}
use Rattle.tty_port.proofs.Turning.{enters_one, found_still}
use Rattle.tty_port.proofs.Outcomes.{on_ok}
use Rattle.tty_port.proofs.shared.SharedPort.line_end.Goals as goal

pub line_end-result-requires-clause-not_over : goal.line_end-result-requires-clause-not_over
line_end-result-requires-clause-not_over g c =
    let name = name_of_port c.args.self.now in
    let n = name.callers + 1 in
    let old = c.args.seat.now in
    let v : KeptPort = c.value.result.now in
    let same : v ≡ c.begin_turn-turn.result.0.value = c.value.ensures.value in
    let at = found_still name n old c.begin_turn-turn.result.0.value v
    c.requires.seat.number same c.begin_turn-turn.ensures.found in
    line_open_kept name.callers _ (list_seen old) (history_of v) at.history.placed at.keeps c.requires.not_over

pub line_end-result-requires-clause-sent : goal.line_end-result-requires-clause-sent
line_end-result-requires-clause-sent g c =
    let name = name_of_port c.args.self.now in
    let n = name.callers + 1 in
    let old = c.args.seat.now in
    let v : KeptPort = c.value.result.now in
    let same : v ≡ c.begin_turn-turn.result.0.value = c.value.ensures.value in
    let at = found_still name n old c.begin_turn-turn.result.0.value v
    c.requires.seat.number same c.begin_turn-turn.ensures.found in
    subst (λ (k : ℕ). k ≤ length c.args.putter.now.sent)
    (sym (line_sent_kept name.callers _ (list_seen old) (history_of v) at.history.placed at.keeps c.requires.not_over))
    c.requires.sent

pub returns-clause-ok : goal.returns-clause-ok
returns-clause-ok g c =
    let name = name_of_port c.args.self.now in
    let n = name.callers + 1 in
    let old = c.args.seat.now in
    let v : KeptPort = c.value.result.now in
    let same : v ≡ c.begin_turn-turn.result.0.value = c.value.ensures.value in
    let at = found_still name n old c.begin_turn-turn.result.0.value v
    c.requires.seat.number same c.begin_turn-turn.ensures.found in
    let w : KeptPort = c.line_end-result.new.self in
    let seen : list_seen c.end_turn.new.seat ≡ history_of w = search rules in
    let now = c.end_turn.ensures.same.number ∙ c.begin_turn-turn.ensures.same.number in
    on_ok c.line_end-result.result _ _
    (enters_one (λ (m : ℕ). EndsLine (m + 1) c.args.putter.now c.line_end-result.new.putter) 1
    (λ m before x is. is.entry.seat) name old c.end_turn.new.seat v w at c.requires.seat.number now seen)
    c.line_end-result.ensures.ok
