use Rattle.std.proofs.Common.{subst}
use Rattle.std.specs.Prelude.{Option, slice_index_or}
use Rattle.tty_base.specs.declared.characters.Flagged.{Flagged}
use Rattle.word_ring.specs.Ends.{PutterState}
use Rattle.vt_keyboard.specs.declared.console_ends.KeySeats.{KeySeats}
use Rattle.vt_keyboard.specs.Consoles.{CanEndIf}
use Rattle.vt_keyboard.proofs.console_ends.end_console_at.Goals as goal

pub end_shared-requires : goal.end_shared-requires
end_shared-requires g c =
    let port = c.index-ports-p.result in
    let s = c.index-seats-p.result in
    let e = c.index-ends-p.result in
    subst (λ (x : Option KeySeats). CanEndIf port x (slice_index_or c.args.ends.now c.args.p e)) c.index-seats-p.is
    (subst (λ (x : PutterState Flagged). CanEndIf port s x) c.index-ends-p.is
    (c.requires.can port s e c.index-ports-p.is c.index-seats-p.is c.index-ends-p.is))
