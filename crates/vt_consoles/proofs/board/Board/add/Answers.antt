use Rattle.std.proofs.Common.{◌≡◌, ◌<◌, List, [], ◌∷◌, ◌++◌, length, ap, ◌∙◌, arith}
use Rattle.tty_base.specs.Contents.{Contents}
use Rattle.vt_consoles.specs.declared.entries.VtEntry.{VtEntry}
use Rattle.vt_consoles.proofs.RunLemmas.{kept_more}
use Rattle.vt_consoles.proofs.board.Board.add.Goals as goal

pub invariant_of-self-2 : goal.invariant_of-self-2
invariant_of-self-2 c =
    let s = c.self.inside in
    let e : VtEntry = record { seat = c.args.seat; event = c.args.event } in
    let room : length s.entries.items < s.limit = omega (arith, c.self.invariant.0.within, c.len.ensures) in
    let added : c.add.new.self.items ≡ s.entries.items ++ e ∷ [] =
    ap (λ (x : Contents VtEntry). x.items) c.add.ensures
    ∙ ap (λ (l : List VtEntry). l ++ e ∷ []) c.reserve_one.ensures.items in
    kept_more s.consoles s.active s.limit c.args.seat s.entries.items c.add.new.self.items
    c.active_after-self-inside.result c.args.event
    c.args.self.now c.self.invariant c.self.view_is c.requires room added c.active_after-self-inside.ensures
