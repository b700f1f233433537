-- What has happened to N_SLIP is what it has seen.
use Rattle.std.proofs.Common.{◌≡◌, List, [], ◌∷◌, ◌++◌, refl, sym, subst, append_assoc}
use Rattle.std.proofs.lemmas.List.{append-nil}
use Rattle.n_slip.specs.Discipline.{Slip, fresh_slip}
use Rattle.n_slip.specs.History as slip
use Rattle.n_slip.specs.History.{HasSeen}
use Rattle.n_slip.proofs.Happenings.{HasSeen-character, HasSeen-packet_take, HasSeen-flush}
use Rattle.ldisc_switch.specs.declared.discipline.Disc.{Disc}
use Rattle.ldisc_switch.specs.declared.discipline.Disc.TheVariants as disc
use Rattle.ldisc_switch.specs.Happenings.{Happening, character, read, write, flush, mode_change, ixoff_rule}
use Rattle.ldisc_switch.specs.Happenings.{packet_take, after_one, after_all, slip_part, slip_parts}

-- N_SLIP has seen this; of N_TTY nothing is said
abbrev SeenBy : Disc → List slip.Happening → Type 0
SeenBy (disc.Tty tty) seen = Unit {0}
SeenBy (disc.Slip state) seen = HasSeen state seen

nothing_seen : (state : Slip) (seen : List slip.Happening) → HasSeen state seen → HasSeen state (seen ++ [])
nothing_seen state seen h = rw append-nil h

seen_after : (state : Disc) (seen : List slip.Happening) (event : Happening)
    → SeenBy state seen
    → SeenBy (after_one state event) (seen ++ slip_part event)
seen_after (disc.Tty tty) seen (character conditions c) h = tt
seen_after (disc.Tty tty) seen (read modes n) h = tt
seen_after (disc.Tty tty) seen (write modes output bytes) h = tt
seen_after (disc.Tty tty) seen flush h = tt
seen_after (disc.Tty tty) seen (mode_change old new) h = tt
seen_after (disc.Tty tty) seen ixoff_rule h = tt
seen_after (disc.Tty tty) seen packet_take h = tt
seen_after (disc.Slip state) seen (character conditions c) h = HasSeen-character state seen c h
seen_after (disc.Slip state) seen (read modes n) h = nothing_seen state seen h
seen_after (disc.Slip state) seen (write modes output bytes) h = nothing_seen state seen h
seen_after (disc.Slip state) seen flush h = HasSeen-flush state seen h
seen_after (disc.Slip state) seen (mode_change old new) h = nothing_seen state seen h
seen_after (disc.Slip state) seen ixoff_rule h = nothing_seen state seen h
seen_after (disc.Slip state) seen packet_take h = HasSeen-packet_take state seen h

seen_after_all : (state : Disc) (seen : List slip.Happening) (events : List Happening)
    → SeenBy state seen
    → SeenBy (after_all state events) (seen ++ slip_parts events)
seen_after_all state seen [] h = subst (λ (list : List slip.Happening). SeenBy state list) (sym (append-nil seen)) h
seen_after_all state seen (event ∷ events) h =
    subst (λ (list : List slip.Happening). SeenBy (after_all (after_one state event) events) list)
    (append_assoc seen (slip_part event) (slip_parts events))
    (seen_after_all (after_one state event) (seen ++ slip_part event) events (seen_after state seen event h))

pub seen_by_slip : (state : Slip) (events : List Happening)
    → disc.Slip state ≡ after_all (disc.Slip fresh_slip) events
    → HasSeen state (slip_parts events)
seen_by_slip state events h =
    let fresh : HasSeen fresh_slip [] = record { piece = refl; packets = refl } in
    subst (λ (state : Disc). SeenBy state (slip_parts events)) (sym h)
    (seen_after_all (disc.Slip fresh_slip) [] events fresh)
