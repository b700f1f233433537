use Rattle.std.proofs.Common.{rules, ◌≡◌, ℕ, ◌+◌, ◌++◌, Ok, length, arith, sym, subst}
use Rattle.many_threads.proofs.Onward.{at_ok}
use Rattle.vt_text.specs.Sessions.{vt_session_of}
use Rattle.vt_threads.specs.Between.{IsConsoleBefore}
use Rattle.vt_threads.specs.Parting.{IsPlayed, IsPlayedIn}
use Rattle.vt_play.specs.Parts.{AreConsolesBefore}
use Rattle.vt_play.proofs.Wholes.{consoles_more, count_more, is_less, some_left, whole_some}
use Rattle.vt_play.proofs.whole_consoles.+whole_all.Goals as goal

pub take_back-one-requires : goal.take_back-one-requires
take_back-one-requires t c =
    let some = some_left _ _ c.is_empty.ensures c.if-is_empty.false in
    let s = whole_some c.requires.played.bs c.args.all c.requires.played.back (omega (arith, some)) in
    (s.0, s.1, s.3)

pub whole_console-console-requires-clause-port : goal.whole_console-console-requires-clause-port
whole_console-console-requires-clause-port t c =
    let some = some_left _ _ c.is_empty.ensures c.if-is_empty.false in
    let less = is_less c.args.session.now c.args.k c.args.all c.take_back-one.new.all c.take_back-one.result
    (omega (arith, some)) c.take_back-one.ensures c.requires.played in
    let known = c.requires.known in
    let count = less.count in
    let number = c.len.ensures in
    omega (arith, known, count, number)

pub whole_console-console-requires-clause-played : goal.whole_console-console-requires-clause-played
whole_console-console-requires-clause-played t c =
    let some = some_left _ _ c.is_empty.ensures c.if-is_empty.false in
    let less = is_less c.args.session.now c.args.k c.args.all c.take_back-one.new.all c.take_back-one.result
    (omega (arith, some)) c.take_back-one.ensures c.requires.played in
    let number = c.len.ensures in
    let is : length c.take_back-one.new.all.kept.items ≡ c.len.result = omega (arith, number) in
    subst (λ (n : ℕ). IsPlayed c.args.session.now n c.args.k c.take_back-one.result) is less.last

pub whole_all-consoles-requires : goal.whole_all-consoles-requires
whole_all-consoles-requires t c =
    let some = some_left _ _ c.is_empty.ensures c.if-is_empty.false in
    let less = is_less c.args.session.now c.args.k c.args.all c.take_back-one.new.all c.take_back-one.result
    (omega (arith, some)) c.take_back-one.ensures c.requires.played in
    let count = less.count in
    let known = c.requires.known in (
      first_of (omega (arith, count), search rules),
      (c.requires.within, (c.requires.phase, (omega (arith, count, known), less.others))),
    )

pub returns-clause-count : goal.returns-clause-count
returns-clause-count t c =
    let some = some_left _ _ c.is_empty.ensures c.if-is_empty.false in
    let now = c.take_back-one.new.all in
    let less = is_less c.args.session.now c.args.k c.args.all now c.take_back-one.result
    (omega (arith, some)) c.take_back-one.ensures c.requires.played in
    let consoles = c.in_ok-console.consoles in
    count_more c.push.new.self.items consoles.items c.in_ok-console-2.field-0 (length now.kept.items)
    (length c.args.all.kept.items) c.in_ok-push.ensures.items
    (at_ok c.whole_all-consoles.result consoles (λ v. length v.items ≡ length now.kept.items)
    c.in_ok-console.ensures.made c.whole_all-consoles.ensures.count)
    less.count

pub returns-clause-before : goal.returns-clause-before
returns-clause-before t c entries part played =
    let some = some_left _ _ c.is_empty.ensures c.if-is_empty.false in
    let vt = vt_session_of c.args.session.now in
    let next = c.args.k + 1 in
    let now = c.take_back-one.new.all in
    let less = is_less c.args.session.now c.args.k c.args.all now c.take_back-one.result
    (omega (arith, some)) c.take_back-one.ensures c.requires.played in
    let consoles = c.in_ok-console.consoles in
    let made = c.in_ok-console.ensures.made in
    let console = c.in_ok-console-2.field-0 in
    let is : c.whole_console-console.result ≡ Ok console = first_of (cc, search rules) in
    let number = c.len.ensures in
    let at : length now.kept.items ≡ c.len.result = omega (arith, number) in
    let last : IsPlayedIn c.args.session.now c.len.result c.args.k entries part c.take_back-one.result =
    subst (λ (n : ℕ). IsPlayedIn c.args.session.now n c.args.k entries part c.take_back-one.result) at
    (less.last_so entries part played) in
    consoles_more vt next (entries ++ part) c.push.new.self.items consoles.items console (length now.kept.items)
    c.in_ok-push.ensures.items
    (at_ok c.whole_all-consoles.result consoles (λ v. length v.items ≡ length now.kept.items) made
    c.whole_all-consoles.ensures.count)
    (at_ok c.whole_all-consoles.result consoles (λ v. AreConsolesBefore vt next (entries ++ part) v.items) made
    (c.whole_all-consoles.ensures.before entries part (less.others_so entries part played)))
    (subst (λ (n : ℕ). IsConsoleBefore vt n next (entries ++ part) console) (sym at)
    (at_ok c.whole_console-console.result console (IsConsoleBefore vt c.len.result next (entries ++ part)) is
    (c.whole_console-console.ensures entries part last)))
