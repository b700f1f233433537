use Rattle.std.proofs.Common.{refl, arith, true, ◌≡◌, subst}
use Rattle.tty_base.specs.Sizes.{LAST_HANDLE, MOST_ASKED}
use Rattle.session_text.specs.declared.verbs.Verb.TheVariants.{Call}
use Rattle.session_text.specs.declared.verbs.CallVerb.{CallVerb}
use Rattle.session_text.specs.declared.verbs.CallVerb.TheVariants.{Read, SetDisc}
use Rattle.session_text.specs.Stands.{is_good}
use Rattle.session_text.proofs.Fits.{good_number, second_is_number}
use Rattle.session_text.proofs.calls.call_of.Goals as goal

pub overflow_cast-h : goal.overflow_cast-h
overflow_cast-h c =
    let small = good_number c.args.ports (Call c.args.verb) c.args.arguments.now 0 0 LAST_HANDLE c.requires.good refl in
    omega (arith, small, c.first_number-h.ensures)

pub overflow_cast-result : goal.overflow_cast-result
overflow_cast-result c =
    let words = c.args.arguments.now in
    let good : is_good c.args.ports (Call Read) words ≡ true =
    subst (λ (v : CallVerb). is_good c.args.ports (Call v) words ≡ true) c.in-Read.is c.requires.good in
    let small = good_number c.args.ports (Call Read) words 1 1 MOST_ASKED good refl in
    omega (arith, small, c.second_of.ensures)

pub overflow_cast-result-in-SetDisc : goal.overflow_cast-result-in-SetDisc
overflow_cast-result-in-SetDisc c =
    let words = c.args.arguments.now in
    let good : is_good c.args.ports (Call SetDisc) words ≡ true =
    subst (λ (v : CallVerb). is_good c.args.ports (Call v) words ≡ true) c.in-SetDisc.is c.requires.good in
    let small = good_number c.args.ports (Call SetDisc) words 1 0 4294967295 good refl in
    omega (arith, small, c.second_of-in-SetDisc.ensures)

pub second_of-requires : goal.second_of-requires
second_of-requires c =
    let words = c.args.arguments.now in
    let good : is_good c.args.ports (Call Read) words ≡ true =
    subst (λ (v : CallVerb). is_good c.args.ports (Call v) words ≡ true) c.in-Read.is c.requires.good in
    second_is_number c.args.ports (Call Read) words 1 MOST_ASKED good refl refl

pub second_of-requires-in-SetDisc : goal.second_of-requires-in-SetDisc
second_of-requires-in-SetDisc c =
    let words = c.args.arguments.now in
    let good : is_good c.args.ports (Call SetDisc) words ≡ true =
    subst (λ (v : CallVerb). is_good c.args.ports (Call v) words ≡ true) c.in-SetDisc.is c.requires.good in
    second_is_number c.args.ports (Call SetDisc) words 0 4294967295 good refl refl
