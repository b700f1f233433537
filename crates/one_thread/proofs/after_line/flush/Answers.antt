use Rattle.std.proofs.Common.{◌∙◌, ◌+◌, sym, subst, arith}
use Rattle.std.proofs.lemmas.Bool.{false≢true}
use Rattle.tty_base.specs.Sizes.{PIECE}
use Rattle.port_core.specs.Flushes.{TakesNone, Takes, Flushes}
use Rattle.port_core.specs.declared.ports.flushing.Flushed.{Flushed}
use Rattle.one_thread.specs.Turns.{role_numbers}
use Rattle.one_thread.specs.declared.after_line.Turn.TheVariants as turn
use Rattle.one_thread.proofs.Possible.{flush_view}
use Rattle.one_thread.proofs.Orders.{plays_turn}
use Rattle.one_thread.proofs.Passing.{flush_more}
use Rattle.one_thread.proofs.Trying.{adds_by}
use Rattle.one_thread.proofs.after_line.flush.Goals as goal

pub flush_piece-requires : goal.flush_piece-requires
flush_piece-requires c = record {
  some = omega arith;
  few = omega arith;
  numbered = c.requires.plays.runs.follows;
  one = c.requires.plays.runs.one;
}

pub unreachable-requires : goal.unreachable-requires
unreachable-requires c =
    let old = c.args.port.now in
    let none : TakesNone old c.flush_piece.new.self =
    subst (λ (f : Flushed). Flushes old c.flush_piece.new.self c.args.stand.run c.args.stand.part PIECE f)
    c.in-Nothing.is c.in_ok-flush_piece.ensures.flushed in
    absurd (false≢true (sym (flush_view old (role_numbers c.args.roles.now) c.args.stand.going c.requires.possible).1
    ∙ none.idle c.requires.plays.line))

pub returns-clause-ok : goal.returns-clause-ok
returns-clause-ok c =
    let old = c.args.port.now in
    let takes : Takes old c.flush_piece.new.self c.args.stand.run c.args.stand.part PIECE c.in-Took.field-0 =
    subst (λ (f : Flushed). Flushes old c.flush_piece.new.self c.args.stand.run c.args.stand.part PIECE f)
    c.in-Took.is c.in_ok-flush_piece.ensures.flushed in
    plays_turn c.args.roles.now old c.flush_piece.new.self c.args.stand
    (record {
      run = c.args.stand.run;
      part = c.args.stand.part + 1;
      ticks = c.args.stand.ticks;
      going = c.args.stand.going;
    }) turn.Flush
    (λ h. flush_more h.scene h.scripts c.args.roles.now old c.flush_piece.new.self c.args.stand c.in-Took.field-0
    h.plays c.known.ensures.port h.possible takes)

pub returns-clause-adds : goal.returns-clause-adds
returns-clause-adds c =
    let old = c.args.port.now in
    let takes : Takes old c.flush_piece.new.self c.args.stand.run c.args.stand.part PIECE c.in-Took.field-0 =
    subst (λ (f : Flushed). Flushes old c.flush_piece.new.self c.args.stand.run c.args.stand.part PIECE f)
    c.in-Took.is c.in_ok-flush_piece.ensures.flushed in
    adds_by old c.flush_piece.new.self _ _ takes.appends
