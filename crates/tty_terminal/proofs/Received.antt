-- Characters that are received one after the other, by the discipline alone.
use Rattle.std.proofs.Common.{◌≡◌, ◌∙◌, ℕ, ◌+◌, List, [], ◌∷◌, length, sym, ap, subst, arith}
use Rattle.tty_base.specs.declared.characters.Flagged.{Flagged}
use Rattle.tty_modes.specs.Settings.{Settings}
use Rattle.flow_control.specs.Output.{Output, without_room}
use Rattle.flow_control.specs.Counting.{without_signal_room}
use Rattle.flow_control.specs.declared.tally.Tally.{Tally}
use Rattle.ldisc_switch.specs.declared.discipline.Disc.{Disc}
use Rattle.ldisc_switch.specs.Disciplines.{DiscOnPort, disc_on_port, disc_without_room}
use Rattle.ldisc_switch.specs.Disciplines.{after_character_of, after_characters_of, AcceptsAllOf}
use Rattle.ldisc_switch.proofs.RunLemmas.{after_characters_of-room}
use Rattle.ldisc_switch.proofs.WithoutRoom.{after_character_of-room}
use Rattle.tty_terminal.specs.Terminals.{Terminal}
use Rattle.tty_terminal.specs.Receiving.{with_port, after_character, after_characters, AcceptsAll}

abbrev pub port_of : Terminal → DiscOnPort
port_of t = disc_on_port t.disc t.output t.tally

abbrev pub with_received : Terminal → DiscOnPort → ℕ → Terminal
with_received t port n = record (with_port t port) { taken = t.taken + n }

received_by_disc : (t : Terminal) (cs : List Flagged)
    → with_received t (after_characters_of t.modes t.tick cs (port_of t)) (length cs) ≡ after_characters t cs
received_by_disc t [] = let none : t.taken + 0 ≡ t.taken = omega arith in ap (λ (n : ℕ). record t { taken = n }) none
received_by_disc t (c ∷ cs) =
    let next : Terminal = after_character t c in
    let taken : t.taken + length (c ∷ cs) ≡ next.taken + length cs = omega arith in
    ap (λ (n : ℕ). record (with_port t (after_characters_of t.modes t.tick (c ∷ cs) (port_of t))) { taken = n }) taken
    ∙ received_by_disc next cs

accepted_by_disc : (t : Terminal) (cs : List Flagged) → AcceptsAllOf t.modes t.tick cs (port_of t) → AcceptsAll t cs
accepted_by_disc t [] all = tt
accepted_by_disc t (c ∷ cs) all = (all.0, accepted_by_disc (after_character t c) cs all.1)

accepted_without_room : (modes : Settings) (now : ℕ) (cs : List Flagged) (port : DiscOnPort)
    → AcceptsAllOf modes now cs port
    → AcceptsAllOf modes now cs (disc_without_room port)
accepted_without_room modes now [] port all = tt
accepted_without_room modes now (c ∷ cs) port all =
    let next : DiscOnPort = after_character_of modes now c port.disc port.output port.tally in (
      all.0,
      subst (AcceptsAllOf modes now cs) (after_character_of-room modes now c port.disc port.output port.tally)
          (accepted_without_room modes now cs next all.1),
    )

-- what the fields hold after a run, without room
pub run_made : (t : Terminal) (cs : List Flagged) (output : Output) (tally : Tally) (d : Disc) (output' : Output)
    (tally' : Tally)
    → t.output ≡ without_room output
    → t.tally ≡ without_signal_room tally
    → disc_on_port d output' tally' ≡ after_characters_of t.modes t.tick cs (disc_on_port t.disc output tally)
    → with_received t (disc_on_port d (without_room output') (without_signal_room tally'))
    (length cs) ≡ after_characters t cs
run_made t cs output tally d output' tally' wire counts is =
    let same : disc_without_room (disc_on_port t.disc output tally) ≡ port_of t = λ i.
    disc_on_port t.disc (sym wire i) (sym counts i) in
    ap (λ (p : DiscOnPort). with_received t p (length cs))
    (ap disc_without_room is
    ∙ after_characters_of-room t.modes t.tick cs (disc_on_port t.disc output tally)
    ∙ ap (after_characters_of t.modes t.tick cs) same)
    ∙ received_by_disc t cs

pub run_accepted : (t : Terminal) (cs : List Flagged) (output : Output) (tally : Tally)
    → t.output ≡ without_room output
    → t.tally ≡ without_signal_room tally
    → AcceptsAllOf t.modes t.tick cs (disc_on_port t.disc output tally)
    → AcceptsAll t cs
run_accepted t cs output tally wire counts all =
    let same : disc_without_room (disc_on_port t.disc output tally) ≡ port_of t = λ i.
    disc_on_port t.disc (sym wire i) (sym counts i) in
    accepted_by_disc t cs
    (subst (AcceptsAllOf t.modes t.tick cs) same
    (accepted_without_room t.modes t.tick cs (disc_on_port t.disc output tally) all))
