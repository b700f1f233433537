-- What becomes of the characters of a flush.
use Rattle.std.specs.Prelude.{◌+◌, Bool, IsTrue, List, [], ◌∷◌}
use Rattle.tty_base.specs.declared.characters.Flagged.{Flagged}
use Rattle.ldisc_switch.specs.Disciplines.{DiscOnPort, accepts_of, after_character_of, after_ixoff_rule_of}
use Rattle.tty_terminal.specs.Terminals.{Terminal}

-- whether the discipline accepts a character
abbrev pub accepts : Terminal → Bool
accepts t = accepts_of t.modes t.disc

abbrev pub with_port : Terminal → DiscOnPort → Terminal
with_port t port = record t { disc = port.disc; output = port.output; tally = port.tally }

-- the terminal after a character, at the tick of now
abbrev pub after_character : Terminal → Flagged → Terminal
after_character t c =
    record (with_port t (after_character_of t.modes t.tick c t.disc t.output t.tally)) { taken = t.taken + 1 }

-- after these, one after the other
abbrev pub after_characters : Terminal → List Flagged → Terminal
after_characters t [] = t
after_characters t (c ∷ cs) = after_characters (after_character t c) cs

-- each of these is accepted in its turn
abbrev pub AcceptsAll : Terminal → List Flagged → Type 0
AcceptsAll t [] = Unit {0}
AcceptsAll t (c ∷ cs) = IsTrue (accepts t) × AcceptsAll (after_character t c) cs

-- the rule for ixoff, with the modes and the discipline of now
abbrev pub after_ixoff : Terminal → Terminal
after_ixoff t = record t { output = after_ixoff_rule_of t.modes t.disc t.output }
