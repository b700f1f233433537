use Rattle.std.proofs.Common.{◌≡◌, rules}
use Rattle.port_cell.specs.Knowledge.{list_seen}
use Rattle.vt_consoles.specs.Faults.{IsRefusedCall}
use Rattle.vt_consoles.specs.declared.entries.VtEvent.TheVariants.{Activate}
use Rattle.vt_consoles.specs.Boards.{BoardState}
use Rattle.vt_consoles.specs.Histories.{history_of}
use Rattle.vt_consoles.specs.Shared.{name_of_board}
use Rattle.vt_consoles.proofs.SeatLemmas.{is_turn, name_after, list_after, zero_after, turned}
use Rattle.vt_consoles.proofs.SeatLemmas.{adds_either, named_either, each_made, each_none, each_refused}
use Rattle.vt_consoles.proofs.shared.SharedBoard.activate.Goals as goal

pub end_turn-requires-clause-name : goal.end_turn-requires-clause-name
end_turn-requires-clause-name g c =
    let p = c.args.self.now in
    let n = c.args.number in
    let old = c.args.seat.now in
    let now = c.turn-turn.new.seat in
    let b : BoardState = c.value.result.now in
    let same : b ≡ c.turn-turn.result.value = first_of (cc, search rules) in
    let t = is_turn p n old now c.turn-turn.result.value b c.requires c.turn-turn.ensures.name c.turn-turn.ensures.list
    c.turn-turn.ensures.same.number c.turn-turn.ensures.same.name c.turn-turn.ensures.seen same in
    let w : BoardState = c.activate-result.new.self in
    name_after p n old now b w t
    (named_either c.activate-result.result n (λ _. Activate c.args.n) b
    w c.activate-result.ensures.ok c.activate-result.ensures.err)

pub end_turn-requires-clause-list : goal.end_turn-requires-clause-list
end_turn-requires-clause-list g c =
    let p = c.args.self.now in
    let n = c.args.number in
    let old = c.args.seat.now in
    let now = c.turn-turn.new.seat in
    let b : BoardState = c.value.result.now in
    let same : b ≡ c.turn-turn.result.value = first_of (cc, search rules) in
    let t = is_turn p n old now c.turn-turn.result.value b c.requires c.turn-turn.ensures.name c.turn-turn.ensures.list
    c.turn-turn.ensures.same.number c.turn-turn.ensures.same.name c.turn-turn.ensures.seen same in
    let w : BoardState = c.activate-result.new.self in
    list_after p n old now b w t
    (adds_either c.activate-result.result n (λ _. Activate c.args.n) b
    w c.activate-result.ensures.ok c.activate-result.ensures.err)

pub end_turn-requires-clause-generation : goal.end_turn-requires-clause-generation
end_turn-requires-clause-generation g c =
    let p = c.args.self.now in
    let n = c.args.number in
    let old = c.args.seat.now in
    let now = c.turn-turn.new.seat in
    let b : BoardState = c.value.result.now in
    let same : b ≡ c.turn-turn.result.value = first_of (cc, search rules) in
    let t = is_turn p n old now c.turn-turn.result.value b c.requires c.turn-turn.ensures.name c.turn-turn.ensures.list
    c.turn-turn.ensures.same.number c.turn-turn.ensures.same.name c.turn-turn.ensures.seen same in
    zero_after p n old now b t

pub returns-clause-ok : goal.returns-clause-ok
returns-clause-ok g c =
    let p = c.args.self.now in
    let n = c.args.number in
    let old = c.args.seat.now in
    let now = c.turn-turn.new.seat in
    let b : BoardState = c.value.result.now in
    let same : b ≡ c.turn-turn.result.value = first_of (cc, search rules) in
    let t = is_turn p n old now c.turn-turn.result.value b c.requires c.turn-turn.ensures.name c.turn-turn.ensures.list
    c.turn-turn.ensures.same.number c.turn-turn.ensures.same.name c.turn-turn.ensures.seen same in
    let w : BoardState = c.activate-result.new.self in
    let new = c.end_turn.new.seat in
    let seen : list_seen new ≡ history_of w = first_of (cc, search rules) in
    let done = turned p n old now new b w t c.end_turn.ensures.same.number seen in
    each_made c.activate-result.result (name_of_board p) n (λ _. Activate c.args.n)
    old new b w done c.activate-result.ensures.ok

pub returns-clause-err : goal.returns-clause-err
returns-clause-err g c =
    let p = c.args.self.now in
    let n = c.args.number in
    let old = c.args.seat.now in
    let now = c.turn-turn.new.seat in
    let b : BoardState = c.value.result.now in
    let same : b ≡ c.turn-turn.result.value = first_of (cc, search rules) in
    let t = is_turn p n old now c.turn-turn.result.value b c.requires c.turn-turn.ensures.name c.turn-turn.ensures.list
    c.turn-turn.ensures.same.number c.turn-turn.ensures.same.name c.turn-turn.ensures.seen same in
    let w : BoardState = c.activate-result.new.self in
    let new = c.end_turn.new.seat in
    let seen : list_seen new ≡ history_of w = first_of (cc, search rules) in
    let done = turned p n old now new b w t c.end_turn.ensures.same.number seen in
    each_none c.activate-result.result (name_of_board p) n old new b w done c.activate-result.ensures.err

pub returns-clause-refused : goal.returns-clause-refused
returns-clause-refused g c =
    let p = c.args.self.now in
    let n = c.args.number in
    let old = c.args.seat.now in
    let now = c.turn-turn.new.seat in
    let b : BoardState = c.value.result.now in
    let same : b ≡ c.turn-turn.result.value = first_of (cc, search rules) in
    let t = is_turn p n old now c.turn-turn.result.value b c.requires c.turn-turn.ensures.name c.turn-turn.ensures.list
    c.turn-turn.ensures.same.number c.turn-turn.ensures.same.name c.turn-turn.ensures.seen same in
    let w : BoardState = c.activate-result.new.self in
    let new = c.end_turn.new.seat in
    let seen : list_seen new ≡ history_of w = first_of (cc, search rules) in
    let done = turned p n old now new b w t c.end_turn.ensures.same.number seen in
    each_refused c.activate-result.result (name_of_board p) n old new b w (λ (x : BoardState). IsRefusedCall x c.args.n)
    done c.activate-result.ensures.err c.activate-result.ensures.refused
