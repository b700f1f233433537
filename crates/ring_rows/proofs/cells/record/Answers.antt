use Rattle.std.proofs.Common.{◌≡◌, ℕ, [], ◌∷◌, ◌++◌, rules, sym, ◌∙◌}
use Rattle.port_cell.specs.declared.kept.Stamped.{Stamped}
use Rattle.port_cell.specs.Entries.{generation_of}
use Rattle.port_cell.specs.Knowledge.{list_seen}
use Rattle.port_cell.proofs.Adding.{adds, same_generation, may_note_same}
use Rattle.ring_rows.proofs.cells.record.Goals as goal

pub note-requires-clause-list : goal.note-requires-clause-list
note-requires-clause-list g c =
    let found = c.turn-turn.result.value.entries.items in
    let now = c.add.new.self.entries.items in
    let s = c.turn-turn.new.seat in
    let seen : list_seen s ≡ found = c.turn-turn.ensures.seen in
    let entry : Stamped ℕ =
    record { seat = c.args.number; after = c.generation-generation.result; what = c.args.what } in
    let added : now ≡ found ++ entry ∷ [] = first_of (cc, search rules) in
    adds s found now entry seen added (sym (c.turn-turn.ensures.same.number ∙ c.requires.1))

pub note-requires-clause-generation : goal.note-requires-clause-generation
note-requires-clause-generation g c =
    let found = c.turn-turn.result.value.entries.items in
    let now = c.add.new.self.entries.items in
    let s = c.turn-turn.new.seat in
    let seen : list_seen s ≡ found = c.turn-turn.ensures.seen in
    let entry : Stamped ℕ =
    record { seat = c.args.number; after = c.generation-generation.result; what = c.args.what } in
    let added : now ≡ found ++ entry ∷ [] = first_of (cc, search rules) in
    let after : entry.after ≡ generation_of found = first_of (cc, search rules) in
    may_note_same s found now entry seen added c.turn-turn.ensures.lowered after

pub give-requires-clause-installed : goal.give-requires-clause-installed
give-requires-clause-installed g c =
    let found = c.turn-turn.result.value.entries.items in
    let now = c.add.new.self.entries.items in
    let s = c.turn-turn.new.seat in
    let seen : list_seen s ≡ found = c.turn-turn.ensures.seen in
    let entry : Stamped ℕ =
    record { seat = c.args.number; after = c.generation-generation.result; what = c.args.what } in
    let added : now ≡ found ++ entry ∷ [] = first_of (cc, search rules) in
    let after : entry.after ≡ generation_of found = first_of (cc, search rules) in
    c.note.ensures.lowered (same_generation s found now entry seen added c.turn-turn.ensures.lowered after)
