use Rattle.std.proofs.Common.{◌≡◌, ℕ, ◌+◌, [], ◌∷◌, ◌++◌, rules, sym, ap, ◌∙◌, arith}
use Rattle.port_cell.specs.declared.kept.Stamped.{Stamped}
use Rattle.port_cell.specs.Entries.{generation_of}
use Rattle.port_cell.specs.Knowledge.{list_seen, IsAlone}
use Rattle.port_cell.specs.Views.{lone_part}
use Rattle.port_cell.proofs.Adding.{adds, may_note_next, next_generation}
use Rattle.ring_rows.proofs.cells.raise.Goals as goal

pub note-requires-clause-list : goal.note-requires-clause-list
note-requires-clause-list g c =
    let found = c.turn-turn.result.value.entries.items in
    let now = c.add.new.self.entries.items in
    let s = c.turn-turn.new.seat in
    let seen : list_seen s ≡ found = c.turn-turn.ensures.seen in
    let entry : Stamped ℕ = record { seat = c.args.number; after = c.generation-generation.result + 1; what = 0 } in
    let added : now ≡ found ++ entry ∷ [] = first_of (cc, search rules) in
    adds s found now entry seen added (sym (c.turn-turn.ensures.same.number ∙ c.requires.alone.1))

pub note-requires-clause-generation : goal.note-requires-clause-generation
note-requires-clause-generation g c =
    let found = c.turn-turn.result.value.entries.items in
    let now = c.add.new.self.entries.items in
    let s = c.turn-turn.new.seat in
    let seen : list_seen s ≡ found = c.turn-turn.ensures.seen in
    let entry : Stamped ℕ = record { seat = c.args.number; after = c.generation-generation.result + 1; what = 0 } in
    let added : now ≡ found ++ entry ∷ [] = first_of (cc, search rules) in
    let found_one : c.generation-generation.result ≡ generation_of found = first_of (cc, search rules) in
    let only : IsAlone s = ap lone_part c.turn-turn.ensures.references.user ∙ c.requires.alone.0 in
    may_note_next s found now entry seen added c.turn-turn.ensures.lowered only (ap (λ n. n + 1) found_one)
    (omega arith)

pub install-requires-clause-raised : goal.install-requires-clause-raised
install-requires-clause-raised g c =
    let found = c.turn-turn.result.value.entries.items in
    let now = c.add.new.self.entries.items in
    let s = c.turn-turn.new.seat in
    let seen : list_seen s ≡ found = c.turn-turn.ensures.seen in
    let entry : Stamped ℕ = record { seat = c.args.number; after = c.generation-generation.result + 1; what = 0 } in
    let added : now ≡ found ++ entry ∷ [] = first_of (cc, search rules) in
    let found_one : c.generation-generation.result ≡ generation_of found = first_of (cc, search rules) in
    c.note.ensures.raised
    (next_generation s found now entry seen added c.turn-turn.ensures.lowered (ap (λ n. n + 1) found_one))
