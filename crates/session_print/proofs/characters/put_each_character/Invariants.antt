use Rattle.std.proofs.Common.{◌≡◌, ◌++◌, flat_map, length, string_bytes}
use Rattle.session_print.specs.Journals.{char_text}
use Rattle.session_print.proofs.characters.put_each_character.Given as goal

abbrev pub invariant-loop-rest : goal.invariant-loop-rest
invariant-loop-rest l =
    string_bytes l.text ++ flat_map char_text l.rest ≡ string_bytes l.initial.text ++ flat_map char_text l.characters

abbrev pub decreases-loop-rest : goal.decreases-loop-rest
decreases-loop-rest l = length l.rest
