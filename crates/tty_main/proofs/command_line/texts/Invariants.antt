use Rattle.std.proofs.Common.{◌≡◌, map, take, string_bytes}
use Rattle.tty_one.specs.Endings.{texts_of}
use Rattle.tty_main.proofs.command_line.texts.Given as goal

abbrev pub invariant-loop-word : goal.invariant-loop-word
invariant-loop-word l = texts_of l.texts.items ≡ map string_bytes (take l.word-index l.words)
