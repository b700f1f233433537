use Rattle.std.proofs.Common.{◌≡◌, ◌-◌, ◌<◌, Some, length, get_or, take, ap, ◌∙◌, refl, arith}
use Rattle.std.proofs.lemmas.List.{get_or_read}
use Rattle.tty_modes.specs.Settings.{has_flag}
use Rattle.tty_modes.specs.declared.places.TheConstants.{IUTF8}
use Rattle.n_tty_edit.specs.Line.{erase_size}
use Rattle.n_tty_edit.specs.Width.{width_of}
use Rattle.n_tty_edit.proofs.EraseLemmas.{gone, gone_is}
use Rattle.n_tty_edit.proofs.line.Edit.erase.Goals as goal

pub returns-clause-gone : goal.returns-clause-gone
returns-clause-gone c =
    let line = c.args.self.now in
    let bytes = c.self.inside.bytes.items in
    let modes = c.args.modes.now in
    let kept = c.erase_start-kept.result in
    let size = erase_size (has_flag modes IUTF8) line in
    let view : bytes ≡ line = c.self.view_is in
    let len : c.len.result ≡ length line = omega (arith, ap length view) in
    let some : 0 < size = omega (arith, c.erase_start-kept.ensures) in
    let first : c.index.result.now ≡ get_or line kept 0 =
    get_or_read bytes kept _ (omega (arith, ap length view)) c.index.ensures 0 ∙ ap (λ xs. get_or xs kept 0) view in
    let width : c.width_at.result ≡ width_of modes c.args.start (take kept line) (get_or line kept 0) =
    c.width_at.ensures.width
    ∙ ap (λ xs. width_of modes c.args.start (take kept xs) (get_or xs kept 0)) (c.deref.ensures.value ∙ view) in
    ap (λ n. Some (gone c.index.result.now (n - kept) c.width_at.result)) len
    ∙ gone_is modes c.args.start line size kept refl c.erase_start-kept.ensures
    some c.index.result.now c.width_at.result first width
