use Rattle.std.proofs.Common.{◌≡◌, rules}
use Rattle.port_cell.specs.Knowledge.{list_seen}
use Rattle.vt_consoles.specs.Boards.{IsDenied}
use Rattle.vt_consoles.specs.declared.entries.VtEvent.TheVariants.{State}
use Rattle.vt_consoles.specs.Boards.{BoardState}
use Rattle.vt_consoles.specs.Histories.{history_of}
use Rattle.vt_consoles.specs.Shared.{name_of_board}
use Rattle.vt_consoles.proofs.SeatLemmas.{is_turn, name_after, list_after, zero_after, turned}
use Rattle.vt_consoles.proofs.SeatLemmas.{adds_either, named_either, each_made, each_none, each_refused}
use Rattle.vt_consoles.proofs.shared.SharedBoard.state.Goals as goal

pub end_turn-requires-clause-name : goal.end_turn-requires-clause-name
end_turn-requires-clause-name g c =
    let p = c.args.self.now in
    let n = c.args.number in
    let old = c.args.seat.now in
    let now = c.turn-turn.new.seat in
    let b : BoardState = c.value.result.now in
    let same : b ≡ c.turn-turn.result.value = first_of (cc, search rules) in
    let t = is_turn p n old now c.turn-turn.result.value b c.requires c.turn-turn.ensures.name c.turn-turn.ensures.list
    c.turn-turn.ensures.same.number c.turn-turn.ensures.same.name c.turn-turn.ensures.seen same in
    let w : BoardState = c.state-result.new.self in
    name_after p n old now b w t
    (named_either c.state-result.result n (λ n. State n) b w c.state-result.ensures.ok c.state-result.ensures.err)

pub end_turn-requires-clause-list : goal.end_turn-requires-clause-list
end_turn-requires-clause-list g c =
    let p = c.args.self.now in
    let n = c.args.number in
    let old = c.args.seat.now in
    let now = c.turn-turn.new.seat in
    let b : BoardState = c.value.result.now in
    let same : b ≡ c.turn-turn.result.value = first_of (cc, search rules) in
    let t = is_turn p n old now c.turn-turn.result.value b c.requires c.turn-turn.ensures.name c.turn-turn.ensures.list
    c.turn-turn.ensures.same.number c.turn-turn.ensures.same.name c.turn-turn.ensures.seen same in
    let w : BoardState = c.state-result.new.self in
    list_after p n old now b w t
    (adds_either c.state-result.result n (λ n. State n) b w c.state-result.ensures.ok c.state-result.ensures.err)

pub end_turn-requires-clause-generation : goal.end_turn-requires-clause-generation
end_turn-requires-clause-generation g c =
    let p = c.args.self.now in
    let n = c.args.number in
    let old = c.args.seat.now in
    let now = c.turn-turn.new.seat in
    let b : BoardState = c.value.result.now in
    let same : b ≡ c.turn-turn.result.value = first_of (cc, search rules) in
    let t = is_turn p n old now c.turn-turn.result.value b c.requires c.turn-turn.ensures.name c.turn-turn.ensures.list
    c.turn-turn.ensures.same.number c.turn-turn.ensures.same.name c.turn-turn.ensures.seen same in
    zero_after p n old now b t

pub returns-clause-ok : goal.returns-clause-ok
returns-clause-ok g c =
    let p = c.args.self.now in
    let n = c.args.number in
    let old = c.args.seat.now in
    let now = c.turn-turn.new.seat in
    let b : BoardState = c.value.result.now in
    let same : b ≡ c.turn-turn.result.value = first_of (cc, search rules) in
    let t = is_turn p n old now c.turn-turn.result.value b c.requires c.turn-turn.ensures.name c.turn-turn.ensures.list
    c.turn-turn.ensures.same.number c.turn-turn.ensures.same.name c.turn-turn.ensures.seen same in
    let w : BoardState = c.state-result.new.self in
    let new = c.end_turn.new.seat in
    let seen : list_seen new ≡ history_of w = first_of (cc, search rules) in
    let done = turned p n old now new b w t c.end_turn.ensures.same.number seen in
    each_made c.state-result.result (name_of_board p) n (λ n. State n) old new b w done c.state-result.ensures.ok

pub returns-clause-err : goal.returns-clause-err
returns-clause-err g c =
    let p = c.args.self.now in
    let n = c.args.number in
    let old = c.args.seat.now in
    let now = c.turn-turn.new.seat in
    let b : BoardState = c.value.result.now in
    let same : b ≡ c.turn-turn.result.value = first_of (cc, search rules) in
    let t = is_turn p n old now c.turn-turn.result.value b c.requires c.turn-turn.ensures.name c.turn-turn.ensures.list
    c.turn-turn.ensures.same.number c.turn-turn.ensures.same.name c.turn-turn.ensures.seen same in
    let w : BoardState = c.state-result.new.self in
    let new = c.end_turn.new.seat in
    let seen : list_seen new ≡ history_of w = first_of (cc, search rules) in
    let done = turned p n old now new b w t c.end_turn.ensures.same.number seen in
    each_none c.state-result.result (name_of_board p) n old new b w done c.state-result.ensures.err

pub returns-clause-denied : goal.returns-clause-denied
returns-clause-denied g c =
    let p = c.args.self.now in
    let n = c.args.number in
    let old = c.args.seat.now in
    let now = c.turn-turn.new.seat in
    let b : BoardState = c.value.result.now in
    let same : b ≡ c.turn-turn.result.value = first_of (cc, search rules) in
    let t = is_turn p n old now c.turn-turn.result.value b c.requires c.turn-turn.ensures.name c.turn-turn.ensures.list
    c.turn-turn.ensures.same.number c.turn-turn.ensures.same.name c.turn-turn.ensures.seen same in
    let w : BoardState = c.state-result.new.self in
    let new = c.end_turn.new.seat in
    let seen : list_seen new ≡ history_of w = first_of (cc, search rules) in
    let done = turned p n old now new b w t c.end_turn.ensures.same.number seen in
    each_refused c.state-result.result (name_of_board p) n old new b w IsDenied done
    c.state-result.ensures.err c.state-result.ensures.denied
