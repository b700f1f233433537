-- A discipline keeps its kind.
use Rattle.std.proofs.Common.{◌≡◌, List, [], ◌∷◌, refl, ◌∙◌}
use Rattle.ldisc_switch.specs.declared.kinds.Kind.{Kind}
use Rattle.ldisc_switch.specs.declared.kinds.Kind.TheVariants as kind
use Rattle.ldisc_switch.specs.declared.discipline.Disc.{Disc}
use Rattle.ldisc_switch.specs.declared.discipline.Disc.TheVariants as disc
use Rattle.ldisc_switch.specs.Disciplines.{kind_of, fresh_of}
use Rattle.ldisc_switch.specs.Happenings.{Happening, character, read, write, flush, mode_change}
use Rattle.ldisc_switch.specs.Happenings.{ixoff_rule, packet_take, after_one, after_all}

kind_of_after : (state : Disc) (event : Happening) → kind_of (after_one state event) ≡ kind_of state
kind_of_after (disc.Tty tty) (character conditions c) = refl
kind_of_after (disc.Tty tty) (read modes n) = refl
kind_of_after (disc.Tty tty) (write modes output bytes) = refl
kind_of_after (disc.Tty tty) flush = refl
kind_of_after (disc.Tty tty) (mode_change old new) = refl
kind_of_after (disc.Tty tty) ixoff_rule = refl
kind_of_after (disc.Tty tty) packet_take = refl
kind_of_after (disc.Slip slip) (character conditions c) = refl
kind_of_after (disc.Slip slip) (read modes n) = refl
kind_of_after (disc.Slip slip) (write modes output bytes) = refl
kind_of_after (disc.Slip slip) flush = refl
kind_of_after (disc.Slip slip) (mode_change old new) = refl
kind_of_after (disc.Slip slip) ixoff_rule = refl
kind_of_after (disc.Slip slip) packet_take = refl

kind_of_after_all : (state : Disc) (events : List Happening) → kind_of (after_all state events) ≡ kind_of state
kind_of_after_all state [] = refl
kind_of_after_all state (event ∷ events) = kind_of_after_all (after_one state event) events ∙ kind_of_after state event

kind_of_fresh : (kind : Kind) → kind_of (fresh_of kind) ≡ kind
kind_of_fresh kind.Tty = refl
kind_of_fresh kind.Slip = refl

pub kept_kind : (kind : Kind) (events : List Happening) → kind_of (after_all (fresh_of kind) events) ≡ kind
kept_kind kind events = kind_of_after_all (fresh_of kind) events ∙ kind_of_fresh kind
