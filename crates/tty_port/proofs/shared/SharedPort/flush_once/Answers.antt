use Rattle.std.proofs.Common.{◌≡◌, ℕ, sym, ap, ◌∙◌, subst}
use Rattle.port_cell.specs.Entries.{generation_of}
use Rattle.port_cell.specs.Word.{generation_in}
use Rattle.port_cell.specs.Knowledge.{list_seen, user_of, last_word}
use Rattle.tty_port.specs.Inside.{Name}
use Rattle.tty_port.specs.Histories.{history_of}
use Rattle.tty_port.specs.Seen.{next_run}
use Rattle.tty_port.specs.Flushing.{GoesOnAt, FlushesPiece}
use Rattle.tty_port.specs.Shared.{name_of_port}
use Rattle.tty_port.specs.declared.kept_port.KeptPort.{KeptPort}
use Rattle.tty_port.proofs.Keeping.{goes_on_kept}
use Rattle.tty_port.proofs.Turning.{found_still}
use Rattle.tty_port.proofs.CallTurns.{held}
use Rattle.tty_port.proofs.FlushSteps.{flush_turns, run_kept}
use Rattle.tty_port.proofs.Outcomes.{each_ok, on_err_only}
use Rattle.tty_port.proofs.shared.SharedPort.flush_once.Goals as goal

pub flush_piece-flushed-requires : goal.flush_piece-flushed-requires
flush_piece-flushed-requires g c =
    let name = name_of_port c.args.self.now in
    let old = c.args.seat.now in
    let v : KeptPort = c.value.result.now in
    let same : v ≡ c.begin_turn-turn.result.0.value = c.value.ensures.value in
    let at = found_still name name.callers old c.begin_turn-turn.result.0.value v
    c.requires.seat.number same c.begin_turn-turn.ensures.found in
    let generation =
    held (user_of old) (generation_in (last_word old)) _ c.requires.seat.uses c.begin_turn-turn.ensures.generation
    ∙ ap (λ (x : KeptPort). generation_of (history_of x)) (sym same) in
    subst (λ (k : ℕ). GoesOnAt c.args.run c.args.part k (history_of v)) generation
    (goes_on_kept name.callers _ c.args.run c.args.part (generation_in (last_word old)) (list_seen old) (history_of v)
    at.history.placed at.keeps c.requires.piece)

pub returns-clause-flushed : goal.returns-clause-flushed
returns-clause-flushed g c =
    let name = name_of_port c.args.self.now in
    let old = c.args.seat.now in
    let v : KeptPort = c.value.result.now in
    let same : v ≡ c.begin_turn-turn.result.0.value = c.value.ensures.value in
    let at = found_still name name.callers old c.begin_turn-turn.result.0.value v
    c.requires.seat.number same c.begin_turn-turn.ensures.found in
    let generation =
    held (user_of old) (generation_in (last_word old)) _ c.requires.seat.uses c.begin_turn-turn.ensures.generation
    ∙ ap (λ (x : KeptPort). generation_of (history_of x)) (sym same) in
    let w : KeptPort = c.flush_piece-flushed.new.self in
    let seen : list_seen c.end_turn.new.seat ≡ history_of w = c.end_turn.ensures.list in
    let now = c.end_turn.ensures.same.number ∙ (c.begin_turn-turn.ensures.same.number ∙ c.requires.seat.number) in
    each_ok c.flush_piece-flushed.result _ _
    (λ x h. flush_turns name _ c.args.run c.args.part (generation_in (last_word old)) old c.end_turn.new.seat
    (history_of v) (history_of w)
    (record {
      was = c.requires.seat.number;
      now = now;
      keeps = at.keeps;
      placed = at.history.placed;
      at = sym generation;
      seen = seen;
    })
    x (subst (λ (k : Name). FlushesPiece k c.args.run c.args.part (history_of v) (history_of w) x) at.named h))
    c.flush_piece-flushed.ensures.flushed

pub returns-clause-next : goal.returns-clause-next
returns-clause-next g c =
    let name = name_of_port c.args.self.now in
    let old = c.args.seat.now in
    let v : KeptPort = c.value.result.now in
    let same : v ≡ c.begin_turn-turn.result.0.value = c.value.ensures.value in
    let at = found_still name name.callers old c.begin_turn-turn.result.0.value v
    c.requires.seat.number same c.begin_turn-turn.ensures.found in
    let w : KeptPort = c.flush_piece-flushed.new.self in
    let seen : list_seen c.end_turn.new.seat ≡ history_of w = c.end_turn.ensures.list in
    on_err_only c.flush_piece-flushed.result _ _
    (λ same.
    ap next_run (seen ∙ same) ∙ run_kept name.callers _ (list_seen old) (history_of v) at.history.placed at.keeps)
    c.flush_piece-flushed.ensures.same
