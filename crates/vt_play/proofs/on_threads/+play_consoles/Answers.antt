use Rattle.std.proofs.Common.{rules, ◌≡◌, Ok, Option, length, arith, subst}
use Rattle.std.specs.Prelude.{IfOk}
use Rattle.many_threads.specs.Callers.{plain_cast}
use Rattle.many_threads.proofs.Onward.{at_ok}
use Rattle.vt_threads.specs.Parting.{OwnCame}
use Rattle.vt_threads.specs.declared.parting.OwnSeats.{OwnSeats}
use Rattle.vt_play.specs.Stages.{ThreadsCome}
use Rattle.vt_play.proofs.OwnPlays.{came_there, can_meet, can_others, owns_ok}
use Rattle.vt_play.proofs.on_threads.+play_consoles.Goals as goal

pub start_console-requires-clause-can : goal.start_console-requires-clause-can
start_console-requires-clause-can g t c κs within =
    let others = c.pop.new.self.items in
    let site = c.own_site.result in
    let len = c.len.ensures in
    let number : c.len.result ≡ length others = omega (arith, len) in
    can_meet c.args.stage c.args.owns.items others c.in-Some.own c.in-Some.ensures.items c.len.result number
    site.port.now site.casting.now site.scripts.now c.own_site.ensures.port c.own_site.ensures.casting
    c.own_site.ensures.scripts c.requires.owns

pub play_consoles-others-requires-clause-owns : goal.play_consoles-others-requires-clause-owns
play_consoles-others-requires-clause-owns g t c κs within p own at =
    can_others c.args.stage c.args.owns.items c.pop.new.self.items c.in-Some.own c.in-Some.ensures.items
    c.requires.owns p own at

pub returns : goal.returns
returns g t c =
    let others = c.pop.new.self.items in
    let site = c.own_site.result in
    let len = c.len.ensures in
    let number : c.len.result ≡ length others = omega (arith, len) in
    let one = c.in_ok-one-2.field-0 in
    let is : c.join-one.result ≡ Ok one = first_of (cc, search rules) in
    let kept : IfOk c.join-one.result
    (OwnCame site.port.now c.in-Some.own (plain_cast site.scripts.now site.casting.now.cast.items)) =
    subst (λ (own : Option OwnSeats).
    IfOk c.join-one.result (OwnCame site.port.now own (plain_cast site.scripts.now site.casting.now.cast.items)))
    c.of.ensures
    (subst (λ p. IfOk c.join-one.result
    (OwnCame p.site.port.now p.own.value (plain_cast p.site.scripts.now p.site.casting.now.cast.items)))
    {y = record { site = site; own = c.of.result }} c.in_ok-child.ensures c.join-one.ensures) in
    let came = at_ok c.join-one.result one
    (OwnCame site.port.now c.in-Some.own (plain_cast site.scripts.now site.casting.now.cast.items)) is kept in
    owns_ok c.args.stage c.args.owns.items others c.in-Some.own c.in-Some.ensures.items c.args.hand c.with_own.result
    c.in_ok-one.others one
    (at_ok c.play_consoles-others.result c.in_ok-one.others (ThreadsCome c.args.stage others c.args.hand)
    c.in_ok-one.ensures.made c.play_consoles-others.ensures)
    (came_there c.args.stage c.args.owns.items others c.in-Some.own c.in-Some.ensures.items c.len.result number
    site.port.now site.casting.now site.scripts.now c.own_site.ensures.port c.own_site.ensures.casting
    c.own_site.ensures.scripts one came)
    c.with_own.ensures.owns c.with_own.ensures.board
