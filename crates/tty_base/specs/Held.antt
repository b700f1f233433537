-- Where the characters of a list stand. No public clause cites this module.
use Rattle.std.specs.Prelude.{◌-◌, length, vec_capacity}
use Rattle.tty_base.specs.Contents.{Contents}
use Rattle.tty_base.specs.declared.characters.Flagged.{Flagged}
use Rattle.tty_base.specs.declared.lists.Held.{Held}
use Rattle.tty_base.specs.declared.lists.Held.TheVariants.{Near, Far}

-- the characters, and how many more fit where they stand
abbrev pub contents_of : Held → Contents Flagged
contents_of (Near v) = record { items = v.items; spare = 8 - length v.items }
contents_of (Far v) = record { items = v.items; spare = vec_capacity v - length v.items }
