-- Characters that came with no error.
use Rattle.std.specs.Prelude.{ℕ, List, map}
use Rattle.tty_base.specs.declared.characters.Flag.TheVariants.{Normal}
use Rattle.tty_base.specs.declared.characters.Flagged.{Flagged}

abbrev pub good_character : ℕ → Flagged
good_character b = record { byte = b; flag = Normal }

abbrev pub good_characters : List ℕ → List Flagged
good_characters bytes = map good_character bytes
