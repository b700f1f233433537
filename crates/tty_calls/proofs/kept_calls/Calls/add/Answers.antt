use Rattle.std.proofs.Common.{ap, ◌∙◌, map, [], ◌∷◌, ◌++◌}
use Rattle.tty_calls.specs.Plain.{call_of}
use Rattle.tty_calls.specs.Kept.{CallList, kept_in}
use Rattle.tty_calls.proofs.Keeping.{one_more}
use Rattle.tty_calls.proofs.kept_calls.Calls.add.Goals as goal

pub returns-clause-ok : goal.returns-clause-ok
returns-clause-ok c =
    let bytes = c.self.inside.bytes.items in
    let words = c.self.inside.words.items in
    ap (λ ks. map (kept_in c.kept_of.new.bytes.items c.kept_of.new.words.items) ks)
    (c.push_reserved.ensures.items ∙ ap (λ ks. ks ++ c.in_ok-kept.kept ∷ []) c.reserve.ensures.items)
    ∙ one_more bytes c.kept_of.new.bytes.items words c.kept_of.new.words.items c.self.inside.kept.items
    c.in_ok-kept.kept (call_of c.args.call.now)
    c.kept_of.ensures.grows.0 c.kept_of.ensures.grows.1 c.self.invariant c.in_ok-kept.ensures.call
    ∙ ap (λ (l : CallList). l.items ++ call_of c.args.call.now ∷ []) c.self.view_is
