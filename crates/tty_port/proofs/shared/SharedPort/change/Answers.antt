use Rattle.std.proofs.Common.{◌≡◌, ℕ, ◌+◌, ◌==◌, Bool, true, not, if◌then◌else◌, sym, ap, ◌∙◌, subst}
use Rattle.tty_calls.specs.Plain.{call_of, answer_of}
use Rattle.port_core.specs.Attempts.{done_by, Raises}
use Rattle.port_cell.specs.Entries.{generation_of}
use Rattle.port_cell.specs.Word.{generation_in}
use Rattle.port_cell.specs.Knowledge.{list_seen, user_of, last_word, install_count}
use Rattle.tty_port.specs.Histories.{history_of}
use Rattle.tty_port.specs.Seen.{IsBetweenCalls}
use Rattle.tty_port.specs.Adding.{IsAnswerOf, TriesCall}
use Rattle.tty_port.specs.Shared.{name_of_port}
use Rattle.tty_port.specs.declared.kept_port.KeptPort.{KeptPort}
use Rattle.tty_port.proofs.Keeping.{between_kept}
use Rattle.tty_port.proofs.Turning.{found_still, placed_now}
use Rattle.tty_port.proofs.CallTurns.{alone, not_begun, makes, raised_by}
use Rattle.tty_port.proofs.Outcomes.{at_ok}
use Rattle.tty_port.proofs.shared.SharedPort.change.Goals as goal

pub attempt-tried-requires-clause-ready : goal.attempt-tried-requires-clause-ready
attempt-tried-requires-clause-ready g c =
    let name = name_of_port c.args.self.now in
    let n = c.args.caller in
    let old = c.args.seat.now in
    let v : KeptPort = c.value-2.result.now in
    let same : v ≡ c.begin_turn-turn.result.0.value = c.value-2.ensures.value ∙ c.value.ensures.value in
    let at = found_still name n old c.begin_turn-turn.result.0.value v
    c.requires.seat.number same c.begin_turn-turn.ensures.found in
    not_begun n c.args.step (call_of c.args.call.now) _ (history_of v)
    (between_kept name.callers _ n c.args.step (list_seen old) (history_of v)
    at.history.placed at.keeps c.requires.ready)

pub returns-in-Ok-Done-clause-ok : goal.returns-in-Ok-Done-clause-ok
returns-in-Ok-Done-clause-ok g c =
    let name = name_of_port c.args.self.now in
    let n = c.args.caller in
    let old = c.args.seat.now in
    let new = c.settle.new.seat in
    let v : KeptPort = c.value-2.result.now in
    let w : KeptPort = c.attempt-tried.new.self in
    let call = call_of c.args.call.now in
    let a = answer_of c.in-Ok-Done.answer in
    let same : v ≡ c.begin_turn-turn.result.0.value = c.value-2.ensures.value ∙ c.value.ensures.value in
    let at = found_still name n old c.begin_turn-turn.result.0.value v
    c.requires.seat.number same c.begin_turn-turn.ensures.found in
    let word : last_word new ≡ last_word old = c.settle.ensures.word.word ∙ c.begin_turn-turn.ensures.references.word in
    let generation : generation_of (history_of v) ≡ generation_in (last_word new) =
    sym (ap generation_in word
    ∙ alone (user_of old) (generation_in (last_word old)) _ c.requires.seat.uses c.begin_turn-turn.ensures.generation
    ∙ ap (λ (x : KeptPort). generation_of (history_of x)) (sym same)) in
    let seen : list_seen new ≡ history_of w = c.settle.ensures.list ∙ ap history_of c.value-3.ensures.value in
    let now = c.settle.ensures.same.number ∙ (c.begin_turn-turn.ensures.same.number ∙ c.requires.seat.number) in
    let h : TriesCall n c.args.step call (history_of v) (history_of w) (done_by a) =
    at_ok c.attempt-tried.result c.in-Ok-Done.field-0 _ _ c.in-Ok-Done.is
    c.in-Ok-Done.field-0-is c.attempt-tried.ensures.tried in
    let before : c.generation-before.result ≡ generation_of (history_of v) =
    c.generation-before.ensures ∙ ap (λ (x : KeptPort). generation_of (history_of x)) (sym c.value-2.ensures.value) in
    let after : c.generation.result ≡ generation_of (history_of w) =
    c.generation.ensures ∙ ap (λ (x : KeptPort). generation_of (history_of x)) c.value-3.ensures.value in
    let raises : Raises true (generation_of (history_of v)) (generation_of (history_of w)) =
    subst (λ (b : Bool). Raises b (generation_of (history_of v)) (generation_of (history_of w)))
    c.requires.may c.attempt-tried.ensures.generation in
    let raised : Raises true c.generation-before.result c.generation.result =
    subst (λ (k : ℕ). Raises true k c.generation.result) (sym before)
    (subst (λ (k : ℕ). Raises true (generation_of (history_of v)) k) (sym after) raises) in
    let counted : install_count new
    ≡ (if not (c.generation.result == c.generation-before.result) then install_count old + 1 else install_count old) =
    c.settle.ensures.installed
    ∙ ap (λ (k : ℕ). if not (c.generation.result == c.generation-before.result) then k + 1 else k)
    c.begin_turn-turn.ensures.references.installs in
    record {
      made = makes name.callers _ n (generation_in (last_word new)) old new (history_of v) (history_of w)
          (record {
            was = c.requires.seat.number;
            now = now;
            keeps = at.keeps;
            placed = at.history.placed;
            at = generation;
            seen = seen;
          })
          (IsAnswerOf n c.args.step call a) (λ x is. is.1.seat) h.0;
      next = subst (IsBetweenCalls n (c.args.step + 1)) (sym seen) h.1;
      installed = raised_by (c.generation.result) (c.generation-before.result) (install_count old) (install_count new)
          (generation_in (last_word new)) (generation_of (list_seen new)) (before ∙ generation)
          (after ∙ sym (ap generation_of seen)) raised counted;
    }

pub returns-in-Ok-Done-clause-placed : goal.returns-in-Ok-Done-clause-placed
returns-in-Ok-Done-clause-placed g c =
    let name = name_of_port c.args.self.now in
    let n = c.args.caller in
    let old = c.args.seat.now in
    let v : KeptPort = c.value-2.result.now in
    let same : v ≡ c.begin_turn-turn.result.0.value = c.value-2.ensures.value ∙ c.value.ensures.value in
    let at = found_still name n old c.begin_turn-turn.result.0.value v
    c.requires.seat.number same c.begin_turn-turn.ensures.found in
    let w : KeptPort = c.attempt-tried.new.self in
    let seen : list_seen c.settle.new.seat ≡ history_of w =
    c.settle.ensures.list ∙ ap history_of c.value-3.ensures.value in
    placed_now name w c.settle.new.seat (c.attempt-tried.ensures.name ∙ at.named) c.attempt-tried.ensures.history seen

pub returns-in-Err-clause-placed : goal.returns-in-Err-clause-placed
returns-in-Err-clause-placed g c =
    let name = name_of_port c.args.self.now in
    let n = c.args.caller in
    let old = c.args.seat.now in
    let v : KeptPort = c.value-2.result.now in
    let same : v ≡ c.begin_turn-turn.result.0.value = c.value-2.ensures.value ∙ c.value.ensures.value in
    let at = found_still name n old c.begin_turn-turn.result.0.value v
    c.requires.seat.number same c.begin_turn-turn.ensures.found in
    let w : KeptPort = c.attempt-tried.new.self in
    let seen : list_seen c.settle.new.seat ≡ history_of w =
    c.settle.ensures.list ∙ ap history_of c.value-3.ensures.value in
    placed_now name w c.settle.new.seat (c.attempt-tried.ensures.name ∙ at.named) c.attempt-tried.ensures.history seen
