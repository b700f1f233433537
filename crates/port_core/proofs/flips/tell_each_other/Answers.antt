use Rattle.std.proofs.Common.{arith, ap, subst, ◌≤◌, length}
use Rattle.std.specs.List.{All}
use Rattle.tty_base.specs.declared.characters.Flagged.{Flagged}
use Rattle.word_ring.specs.Ends.{TakerState, IsOneWithin}
use Rattle.port_core.proofs.Taking.{ends_meet}
use Rattle.port_core.proofs.flips.tell_each_other.Goals as goal

pub returns-clause-meets : goal.returns-clause-meets
returns-clause-meets c =
    let same = c.note.ensures.same in
    let taken = ap (λ s. s.taken) c.note.ensures.note in
    let told = c.meet-2.ensures in
    ends_meet c.args.flip.now c.args.putter.now c.meet.new.self c.note-2.new.self
    _ _ c.meet.ensures.same c.note-2.ensures.same
    c.meet.ensures.rises.0 (omega (arith, taken, c.meet.ensures.rises.1)) c.meet.ensures.rises.2
    c.meet.ensures.within c.note-2.ensures.ordered
    (ap (λ n. n.pushed) c.note-2.ensures.note) (ap (λ n. n.heads) c.note-2.ensures.note)
    (subst (λ (f : TakerState Flagged). IsOneWithin f.taken c.note-2.result.pushed) same told.compared)
    (subst (λ (f : TakerState Flagged). All (λ h. h ≤ length f.taken) c.note-2.result.heads) same told.heads.1)
