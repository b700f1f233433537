use Rattle.std.proofs.Common.{◌≡◌, ℕ, sym, ap, ◌∙◌, subst}
use Rattle.tty_calls.specs.Plain.{call_of}
use Rattle.port_core.specs.Attempts.{tried_of}
use Rattle.port_cell.specs.Entries.{generation_of}
use Rattle.port_cell.specs.Word.{generation_in}
use Rattle.port_cell.specs.Knowledge.{list_seen, user_of, last_word}
use Rattle.tty_port.specs.Histories.{history_of}
use Rattle.tty_port.specs.Adding.{IsUnderWay}
use Rattle.tty_port.specs.Shared.{name_of_port}
use Rattle.tty_port.specs.declared.kept_port.KeptPort.{KeptPort}
use Rattle.tty_port.proofs.Keeping.{under_way_kept}
use Rattle.tty_port.proofs.Turning.{found_still}
use Rattle.tty_port.proofs.CallTurns.{held, turns}
use Rattle.tty_port.proofs.Outcomes.{each_ok}
use Rattle.tty_port.proofs.shared.SharedPort.attempt.Goals as goal

pub attempt-tried-requires-clause-ready : goal.attempt-tried-requires-clause-ready
attempt-tried-requires-clause-ready g c =
    let name = name_of_port c.args.self.now in
    let n = c.args.caller in
    let old = c.args.seat.now in
    let v : KeptPort = c.value.result.now in
    let call = call_of c.args.call.now in
    let same : v ≡ c.begin_turn-turn.result.0.value = c.value.ensures.value in
    let at = found_still name n old c.begin_turn-turn.result.0.value v
    c.requires.seat.number same c.begin_turn-turn.ensures.found in
    let generation =
    held (user_of old) (generation_in (last_word old)) _ c.requires.seat.uses c.begin_turn-turn.ensures.generation
    ∙ ap (λ (x : KeptPort). generation_of (history_of x)) (sym same) in
    subst (λ (k : ℕ). IsUnderWay n c.args.step call k (history_of v)) generation
    (under_way_kept name.callers _ n c.args.step call (generation_in (last_word old)) (list_seen old) (history_of v)
    at.history.placed at.keeps c.requires.ready)

pub returns-clause-tried : goal.returns-clause-tried
returns-clause-tried g c =
    let name = name_of_port c.args.self.now in
    let n = c.args.caller in
    let old = c.args.seat.now in
    let v : KeptPort = c.value.result.now in
    let call = call_of c.args.call.now in
    let same : v ≡ c.begin_turn-turn.result.0.value = c.value.ensures.value in
    let at = found_still name n old c.begin_turn-turn.result.0.value v
    c.requires.seat.number same c.begin_turn-turn.ensures.found in
    let generation =
    held (user_of old) (generation_in (last_word old)) _ c.requires.seat.uses c.begin_turn-turn.ensures.generation
    ∙ ap (λ (x : KeptPort). generation_of (history_of x)) (sym same) in
    let w : KeptPort = c.attempt-tried.new.self in
    let seen : list_seen c.end_turn.new.seat ≡ history_of w = c.end_turn.ensures.list in
    let now = c.end_turn.ensures.same.number ∙ (c.begin_turn-turn.ensures.same.number ∙ c.requires.seat.number) in
    each_ok c.attempt-tried.result _ _
    (λ x h. turns name.callers _ n c.args.step call (generation_in (last_word old)) old c.end_turn.new.seat
    (history_of v) (history_of w)
    (record {
      was = c.requires.seat.number;
      now = now;
      keeps = at.keeps;
      placed = at.history.placed;
      at = sym generation;
      seen = seen;
    })
    c.requires.ready (tried_of x) h)
    c.attempt-tried.ensures.tried
