use Rattle.std.proofs.Common.{◌≡◌, Some, sym, ◌∙◌, ap}
use Rattle.std.specs.Prelude.{slice_get}
use Rattle.std.proofs.lemmas.Option.{slice_get-get_or}
use Rattle.tty_calls.specs.Plain.{event_of}
use Rattle.journal_check.specs.declared.turns.Turn.{Turn}
use Rattle.journal_check.specs.Scripts.{no_turn}
use Rattle.journal_check.proofs.TurnLemmas.{in_phase_by_turn}
use Rattle.journal_check.proofs.turns.is_in_phase.Goals as goal

pub returns-then-turn-phase : goal.returns-then-turn-phase
returns-then-turn-phase c = λ p session are.
    let read = c.in-Some.ensures.lookup in
    let turn : Turn = c.in-Some.turn.now in
    let at : slice_get c.args.turns.now c.in-Caller.caller ≡ Some turn =
    slice_get-get_or c.args.turns.now c.in-Caller.caller no_turn read.3.0
    ∙ ap (λ (t : Turn). Some t) (sym (read.3.1 no_turn)) in
    in_phase_by_turn p session c.args.phase c.in-Caller.caller c.args.turns.now turn c.args.entry.now.who
    c.args.entry.now.step (event_of c.args.entry.now.event) c.is_in_turn.result
    are c.in-Caller.is at c.if-turn-phase.true c.is_in_turn.ensures.calls
    c.is_in_turn.ensures.end c.is_in_turn.ensures.may
