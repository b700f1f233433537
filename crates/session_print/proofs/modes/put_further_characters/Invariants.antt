use Rattle.std.proofs.Common.{◌≡◌, ◌++◌, ◌-◌, string_bytes}
use Rattle.session_print.specs.Printing.{characters_text}
use Rattle.session_print.proofs.modes.put_further_characters.Given as goal

abbrev pub invariant-loop-place : goal.invariant-loop-place
invariant-loop-place l =
    string_bytes l.text ++ characters_text l.modes l.place (15 - l.place)
    ≡ string_bytes l.initial.text ++ characters_text l.modes 1 14
