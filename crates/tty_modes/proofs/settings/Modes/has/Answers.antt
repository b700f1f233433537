use Rattle.std.proofs.Common.{◌≡◌, ◌∙◌, ◌≤◌, length, false, nat_lt, ap, sym, arith}
use Rattle.std.proofs.Math.ListN.{get_or-eq_default}
use Rattle.std.proofs.lemmas.Bool.Decides.{nat_tests}
use Rattle.tty_modes.specs.Settings.{has_flag}
use Rattle.tty_modes.specs.Bits.{flags_of}
use Rattle.tty_modes.proofs.FlagBits.{has_bit, length-flags_of}
use Rattle.tty_modes.proofs.settings.Modes.has.Goals as goal

pub returns-then-flag-lt-FLAG_COUNT : goal.returns-then-flag-lt-FLAG_COUNT
returns-then-flag-lt-FLAG_COUNT c =
    c.contains.ensures tt ∙ rw c.bit.ensures (has_bit c.self.inside.bits.0 c.args.flag c.if-flag-lt-FLAG_COUNT.true)
    ∙ ap (λ m. has_flag m c.args.flag) c.self.view_is

pub returns-else-flag-lt-FLAG_COUNT : goal.returns-else-flag-lt-FLAG_COUNT
returns-else-flag-lt-FLAG_COUNT c =
    let long : length (flags_of 29 c.self.inside.bits.0) ≤ c.args.flag =
    omega (arith, length-flags_of 29 c.self.inside.bits.0) in
    let past : has_flag c.args.self.now c.args.flag ≡ false =
    ap (λ m. has_flag m c.args.flag) (sym c.self.view_is)
    ∙ get_or-eq_default (flags_of 29 c.self.inside.bits.0) false long in
    let none : nat_lt c.args.flag 29 ≡ false = grind (arith, nat_tests) in
    none ∙ sym past
