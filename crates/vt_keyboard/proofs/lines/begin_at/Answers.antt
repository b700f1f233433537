use Rattle.std.specs.Prelude.{slice_index_or}
use Rattle.std.proofs.Common.{subst}
use Rattle.tty_base.specs.declared.characters.Flagged.{Flagged}
use Rattle.uart_line.specs.LineState.{LineState}
use Rattle.word_ring.specs.Ends.{PutterState}
use Rattle.vt_keyboard.specs.Keying.{CanBegin}
use Rattle.vt_keyboard.proofs.lines.begin_at.Goals as goal

pub begin_keys-requires : goal.begin_keys-requires
begin_keys-requires c =
    let l = c.index-lines-p.result in
    let e = c.index-ends-p.result in
    subst (λ (x : LineState). CanBegin x (slice_index_or c.args.ends.now c.args.p e)) c.index-lines-p.is
    (subst (λ (x : PutterState Flagged). CanBegin l x) c.index-ends-p.is
    (c.requires.can l e c.index-lines-p.is c.index-ends-p.is))
