use Rattle.std.proofs.Common.{rules, ◌≡◌, Some, None}
use Rattle.std.proofs.Common.{length, refl, sym, subst, ◌∙◌, arith, ℕ, List}
use Rattle.std.specs.Prelude.{slice_get}
use Rattle.std.specs.Vec.Iter.{into_iter_len}
use Rattle.std.proofs.lemmas.Option.{slice_get_read}
use Rattle.std.proofs.lemmas.Iterator.Adapters.{YieldsList-from_vec}
use Rattle.std.proofs.lemmas.Iterator.Consumers.{YieldsList-turn, YieldsList-end}
use Rattle.vt_text.specs.Sessions.{vt_session_of}
use Rattle.vt_threads.specs.Parting.{IsParted, IsSomeConsoleBefore}
use Rattle.vt_threads.specs.declared.consoles.Console.{Console}
use Rattle.vt_play.specs.Parts.{ArePartedAll}
use Rattle.vt_play.proofs.Columns.{parted_count, parted_more, parted_none}
use Rattle.vt_play.proofs.ConsoleLists.{all_yielded}
use Rattle.vt_play.proofs.parts.part_all.Goals as goal

pub loop-console-init : goal.loop-console-init
loop-console-init c =
    record { parted = parted_none c.args.session.now.calls c.args.k c.no_parts-all.result c.no_parts-all.ensures }

pub part_console-requires-clause-port : goal.part_console-requires-clause-port
part_console-requires-clause-port c =
    let gives = c.into_iter-console-iterator.ensures.into_iter_gives in
    let count : into_iter_len c.into_iter-console-iterator.result ≡ length c.args.consoles.items =
    omega (arith, gives.1) in
    let turn = YieldsList-turn (YieldsList-from_vec c.args.consoles.items gives.0 count) c.loop-console.yielded
    c.loop-console.console-iterator c.loop-console.yielded_by c.next.result c.next.new.self
    c.in-Some.console c.in-Some.is c.next.ensures.steps in
    let below = turn.0 in
    let known = c.requires.known in
    let size = parted_count c.args.session.now.calls c.args.k c.loop-console.yielded
    c.loop-console.all c.loop-console.invariant.parted in
    let number = c.len-number.ensures in
    omega (arith, below, known, size, number)

pub part_console-requires-clause-before : goal.part_console-requires-clause-before
part_console-requires-clause-before c =
    let gives = c.into_iter-console-iterator.ensures.into_iter_gives in
    let count : into_iter_len c.into_iter-console-iterator.result ≡ length c.args.consoles.items =
    omega (arith, gives.1) in
    let turn = YieldsList-turn (YieldsList-from_vec c.args.consoles.items gives.0 count) c.loop-console.yielded
    c.loop-console.console-iterator c.loop-console.yielded_by c.next.result c.next.new.self
    c.in-Some.console c.in-Some.is c.next.ensures.steps in
    let at : slice_get c.args.consoles.items (length c.loop-console.yielded) ≡ Some c.in-Some.console =
    slice_get_read c.args.consoles.items (length c.args.consoles.items) (length c.loop-console.yielded)
    c.in-Some.console refl turn.0 turn.1 in
    let number =
    (c.len-number.ensures ∙ c.loop-console.all.kept.ok.0)
    ∙ parted_count c.args.session.now.calls c.args.k c.loop-console.yielded
    c.loop-console.all c.loop-console.invariant.parted in
    subst (λ (n : ℕ). IsSomeConsoleBefore (vt_session_of c.args.session.now) n c.args.k c.in-Some.console) (sym number)
    (c.requires.before (length c.loop-console.yielded) c.in-Some.console at)

pub loop-console-preserved : goal.loop-console-preserved
loop-console-preserved c =
    let invariant = c.loop-console.invariant in
    let number =
    (c.len-number.ensures ∙ c.loop-console.all.kept.ok.0)
    ∙ parted_count c.args.session.now.calls c.args.k c.loop-console.yielded c.loop-console.all invariant.parted in
    record {
      parted = parted_more c.args.session.now.calls c.args.k c.loop-console.yielded c.in-Some.console
          c.in_ok-parted.parted c.loop-console.all c.add_parts.new.all invariant.parted
          (subst (λ (n : ℕ). IsParted c.args.session.now.calls n c.args.k c.in-Some.console c.in_ok-parted.parted)
          number c.in_ok-parted.ensures)
          (c.in_ok-add_parts.ensures invariant.parted.qs invariant.parted.parts);
    }

pub returns : goal.returns
returns c =
    let gives = c.into_iter-console-iterator.ensures.into_iter_gives in
    let count : into_iter_len c.into_iter-console-iterator.result ≡ length c.args.consoles.items =
    omega (arith, gives.1) in
    let none : c.next.result ≡ None = first_of (search rules, cc) in
    let over = YieldsList-end (YieldsList-from_vec c.args.consoles.items gives.0 count) c.loop-console.yielded
    c.loop-console.console-iterator c.loop-console.yielded_by c.next.result c.next.new.self none c.next.ensures.steps in
    subst (λ (l : List Console). ArePartedAll c.args.session.now.calls c.args.k l c.loop-console.all)
    (all_yielded c.loop-console.yielded c.args.consoles.items over.0) c.loop-console.invariant.parted
