use Rattle.std.proofs.Common.{rules, ◌≡◌, ◌++◌, ◌∷◌, [], Some, None, Ok}
use Rattle.port_cell.specs.Knowledge.{list_seen}
use Rattle.many_threads.specs.Comings.{CallerComes}
use Rattle.many_threads.specs.Callers.{plain_cast, CallersCome, TellsFull}
use Rattle.many_threads.proofs.CrewLemmas.{splits, crew_needs, crew_none, crew_more, both_ok, at_back}
use Rattle.threads_play.proofs.callers.+play_callers.Goals as goal

pub play_callers-requires-clause-seats : goal.play_callers-requires-clause-seats
play_callers-requires-clause-seats g t c κs within =
    let p = c.args.site.shared.now in
    let at : c.args.cast.now ≡ c.in-Some.before.now ++ c.in-Some.last.now ∷ [] = first_of (search rules, cc) in
    let h = splits p c.args.scripts.now c.args.cast.now c.in-Some.before.now c.in-Some.last.now c.args.seats.items
    c.pop.new.self.items c.in-Some-pop.seat at c.in-Some-pop.ensures.items
    c.requires.seats c.requires.count c.requires.cast in
    h.others

pub play_callers-requires-clause-cast : goal.play_callers-requires-clause-cast
play_callers-requires-clause-cast g t c κs within =
    let p = c.args.site.shared.now in
    let at : c.args.cast.now ≡ c.in-Some.before.now ++ c.in-Some.last.now ∷ [] = first_of (search rules, cc) in
    let h = splits p c.args.scripts.now c.args.cast.now c.in-Some.before.now c.in-Some.last.now c.args.seats.items
    c.pop.new.self.items c.in-Some-pop.seat at c.in-Some-pop.ensures.items
    c.requires.seats c.requires.count c.requires.cast in
    h.can_others

pub returns-in_default-last : goal.returns-in_default-last
returns-in_default-last g t c =
    let p = c.args.site.shared.now in
    let at : c.args.cast.now ≡ c.in-Some.before.now ++ c.in-Some.last.now ∷ [] = first_of (search rules, cc) in
    let h = splits p c.args.scripts.now c.args.cast.now c.in-Some.before.now c.in-Some.last.now c.args.seats.items
    c.pop.new.self.items c.in-Some-pop.seat at c.in-Some-pop.ensures.items
    c.requires.seats c.requires.count c.requires.cast in
    let none : c.in-Some.last.now ≡ None = first_of (cc, search rules) in
    both_ok c.with_seat.result _ _ _
    (λ now seats full. crew_none p c.args.scripts.now c.args.cast.now c.in-Some.before.now c.in-Some.last.now
    c.pop.new.self.items c.in-Some-pop.seat c.in_ok-others.others now h none c.in_ok-others.ensures seats full)
    c.with_seat.ensures.seats c.with_seat.ensures.full

pub start_caller-requires-clause-can : goal.start_caller-requires-clause-can
start_caller-requires-clause-can g t c κs within =
    let p = c.args.site.shared.now in
    let at : c.args.cast.now ≡ c.in-Some.before.now ++ c.in-Some.last.now ∷ [] = first_of (search rules, cc) in
    let h = splits p c.args.scripts.now c.args.cast.now c.in-Some.before.now c.in-Some.last.now c.args.seats.items
    c.pop.new.self.items c.in-Some-pop.seat at c.in-Some-pop.ensures.items
    c.requires.seats c.requires.count c.requires.cast in
    let some : c.in-Some.last.now ≡ Some c.in-Some-last.role = first_of (cc, search rules) in
    crew_needs p c.args.scripts.now c.args.cast.now c.in-Some.before.now c.in-Some.last.now c.in-Some-last.role
    c.pop.new.self.items c.in-Some-pop.seat c.calls_at-calls.result.now.items h some c.calls_at-calls.ensures

pub play_callers-others-requires-clause-seats : goal.play_callers-others-requires-clause-seats
play_callers-others-requires-clause-seats g t c κs within =
    let p = c.args.site.shared.now in
    let at : c.args.cast.now ≡ c.in-Some.before.now ++ c.in-Some.last.now ∷ [] = first_of (search rules, cc) in
    let h = splits p c.args.scripts.now c.args.cast.now c.in-Some.before.now c.in-Some.last.now c.args.seats.items
    c.pop.new.self.items c.in-Some-pop.seat at c.in-Some-pop.ensures.items
    c.requires.seats c.requires.count c.requires.cast in
    h.others

pub play_callers-others-requires-clause-cast : goal.play_callers-others-requires-clause-cast
play_callers-others-requires-clause-cast g t c κs within =
    let p = c.args.site.shared.now in
    let at : c.args.cast.now ≡ c.in-Some.before.now ++ c.in-Some.last.now ∷ [] = first_of (search rules, cc) in
    let h = splits p c.args.scripts.now c.args.cast.now c.in-Some.before.now c.in-Some.last.now c.args.seats.items
    c.pop.new.self.items c.in-Some-pop.seat at c.in-Some-pop.ensures.items
    c.requires.seats c.requires.count c.requires.cast in
    h.can_others

pub returns : goal.returns
returns g t c =
    let p = c.args.site.shared.now in
    let at : c.args.cast.now ≡ c.in-Some.before.now ++ c.in-Some.last.now ∷ [] = first_of (search rules, cc) in
    let h = splits p c.args.scripts.now c.args.cast.now c.in-Some.before.now c.in-Some.last.now c.args.seats.items
    c.pop.new.self.items c.in-Some-pop.seat at c.in-Some-pop.ensures.items
    c.requires.seats c.requires.count c.requires.cast in
    let some : c.in-Some.last.now ≡ Some c.in-Some-last.role = first_of (cc, search rules) in
    let one = c.in_ok-seat.field-0 in
    let comes : CallerComes p c.in-Some-last.role.number c.in-Some-last.role.first c.calls_at-calls.result.now.items
    (list_seen c.in-Some-pop.seat) one = first_of (search rules, cc) in
    let is : c.play_callers-others.result ≡ Ok c.in_ok-others-2.field-0 = first_of (cc, search rules) in
    let told : TellsFull one.result c.in_ok-full.full = first_of (search rules, cc) in
    let back : CallersCome p (plain_cast c.args.scripts.now c.in-Some.before.now) c.in_ok-others-2.field-0 =
    at_back c.play_callers-others.result c.in_ok-others-2.field-0 _ is c.play_callers-others.ensures in
    both_ok c.with_seat-2.result _ _ _
    (λ now seats full. crew_more p c.args.scripts.now c.args.cast.now c.in-Some.before.now c.in-Some.last.now
    c.in-Some-last.role c.pop.new.self.items c.in-Some-pop.seat c.calls_at-calls.result.now.items
    c.in_ok-others-2.field-0 now one c.in_ok-full.full h some c.calls_at-calls.ensures back comes told seats full)
    c.with_seat-2.ensures.seats c.with_seat-2.ensures.full
