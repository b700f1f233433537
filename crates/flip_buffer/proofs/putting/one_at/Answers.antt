use Rattle.std.proofs.Common.{◌≡◌, ℕ, suc, ◌+◌, List, [], ◌∷◌, ◌++◌, take, get_or, sym, ap, ◌∙◌, arith}
use mathlib.Core.List.{map-append}
use Rattle.std.proofs.Math.Seq.{take-suc}
use Rattle.tty_base.specs.declared.characters.Flagged.{Flagged}
use Rattle.flip_buffer.specs.Packed.{with_flag, char_of}
use Rattle.flip_buffer.proofs.putting.one_at.Goals as goal

pub returns : goal.returns
returns c =
    let bytes : List ℕ = c.args.bytes.now in
    let at : ℕ = c.args.at in
    let one : suc at ≡ at + 1 = omega arith in
    let byte : c.from.result ≡ get_or bytes at 0 = c.from.ensures in
    let seen : record { byte = get_or bytes at 0; flag = c.args.flag } ≡ char_of (c.from.result + c.args.mark) =
    sym (ap (λ (n : ℕ). char_of (n + c.args.mark)) byte
    ∙ c.requires.marks.seen (get_or bytes at 0) (omega (arith, c.type_inv.bytes at))) in
    ap (λ (n : ℕ). with_flag c.args.flag (take n bytes)) (sym one)
    ∙ (ap (with_flag c.args.flag) (take-suc bytes at 0 c.requires.within)
    ∙ (map-append (λ byte. record { byte = byte; flag = c.args.flag }) (take at bytes) (get_or bytes at 0 ∷ [])
    ∙ ap (λ (x : Flagged). with_flag c.args.flag (take at bytes) ++ x ∷ []) seen))
