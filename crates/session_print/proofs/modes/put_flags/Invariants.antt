use Rattle.std.proofs.Common.{◌≡◌, ◌++◌, ◌-◌, string_bytes}
use Rattle.session_print.specs.Printing.{flags_text}
use Rattle.session_print.proofs.modes.put_flags.Given as goal

abbrev pub invariant-loop-flag : goal.invariant-loop-flag
invariant-loop-flag l =
    string_bytes l.text ++ flags_text l.modes l.flag (29 - l.flag)
    ≡ string_bytes l.initial.text ++ flags_text l.modes 0 29
