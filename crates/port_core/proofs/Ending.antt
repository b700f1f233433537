-- The ends of a line, of a phase and of the session.
use Rattle.std.proofs.Common.{◌≡◌, ℕ, List, Option, ◌++◌, true, false, ◌+◌, ◌<◌, ◌≤◌}
use Rattle.std.proofs.Common.{length, max, refl, sym, ◌∙◌, ap, subst, arith, length-append}
use Rattle.std.proofs.lemmas.Bool.{false≢true}
use Rattle.tty_base.specs.Sizes.{MOST_FLIP}
use Rattle.tty_base.specs.declared.characters.Flagged.{Flagged}
use Rattle.flip_buffer.specs.Drops.{Releases}
use Rattle.word_ring.specs.Ends.{PutterState, TakerState, AreReleased, with_shown}
use Rattle.word_ring.proofs.Beginnings.{begins_length}
use Rattle.tty_calls.specs.declared.journals.Who.TheVariants.{Line, Session}
use Rattle.tty_calls.specs.Plain.{PlainEntry, line_ended, phase_ended}
use Rattle.ldisc_switch.specs.declared.kinds.Kind.TheVariants as kind
use Rattle.ldisc_switch.specs.Disciplines.{column_in, fresh_of}
use Rattle.tty_terminal.specs.Steps.{Allowed, may_end}
use Rattle.port_core.specs.declared.waiting.WaitingCall.{WaitingCall}
use Rattle.port_core.specs.Flips.{after_meeting, MeetsTaker}
use Rattle.port_core.specs.Phases.{EndsLine, HangsUp}
use Rattle.port_core.specs.Ports.{PortValue, call_in, with_entry, phase_entry, hangup_entry}
use Rattle.port_core.specs.Inside.{KeepsCalls}
use Rattle.port_core.proofs.GoingOn.{still, plainly, port_taken, port_capacity, port_within}

-- the line ends with the number that its putter has put
pub line_ends : (v now : PortValue) (slots : List (Option WaitingCall)) (p q : PutterState Flagged)
    (f g : TakerState Flagged) (count : ℕ)
    → KeepsCalls v slots
    → length v.journal < v.limit
    → v.terminal.line_over ≡ false
    → v.terminal.sent ≤ length p.sent
    → f ≡ after_meeting v.flip p
    → MeetsTaker v.flip p q
    → g ≡ with_shown f g.floor
    → length f.taken + count ≡ g.floor
    → count ≤ f.capacity
    → f.floor ≤ g.floor
    → now ≡ record (with_entry v (phase_entry v Line (line_ended (length p.sent)))) { flip = g }
    → KeepsCalls now slots × EndsLine v now p q
line_ends v now slots p q f g count keeps few over sent met meets looked shown most rises now_is =
    let t = v.terminal in
    let e : PlainEntry = phase_entry v Line (line_ended (length p.sent)) in
    let taken : f.taken ≡ v.flip.taken = ap (λ (x : TakerState Flagged). x.taken) met in
    let capacity : f.capacity ≡ v.flip.capacity = ap (λ (x : TakerState Flagged). x.capacity) met in
    let floor : f.floor ≡ max v.flip.floor (length p.sent) = ap (λ (x : TakerState Flagged). x.floor) met in
    let begun = begins_length v.flip.taken p.sent meets.begins in
    let long : length f.taken ≡ length v.flip.taken = ap length taken in
    let here = port_taken v keeps.port in
    let held = port_capacity v keeps.port in
    let high : length p.sent ≤ g.floor = omega arith in
    let allowed : Allowed (call_in v.kept) v.counts t e = (
      refl,
      (
        refl,
        record {
          phase = record { at_step = refl; at_part = refl };
          not_over = over;
          taken = omega arith;
          sent = sent;
          fits = omega arith;
        },
      ),
    ) in
    let now_flip : now.flip ≡ g = ap (λ (w : PortValue). w.flip) now_is in
    let shown_now : g ≡ with_shown v.flip g.floor =
    looked ∙ ap (λ (x : TakerState Flagged). with_shown x g.floor) met in (
      still v now slots g e keeps few allowed (ap (λ (x : TakerState Flagged). x.taken) looked ∙ taken)
          (ap (λ (x : TakerState Flagged). x.capacity) looked ∙ capacity) high refl refl refl refl now_is,
      subst (λ (w : PortValue). EndsLine v w p q) (sym now_is) (record {
        appends = record { allowed = allowed; appended = refl };
        flip = shown_now;
        rises = omega arith;
        counts = high;
        meets = meets;
      }),
    )

-- the phase ends, and both ends meet
pub phase_ends : (v now : PortValue) (slots : List (Option WaitingCall)) (p : PutterState Flagged)
    (f : TakerState Flagged)
    → KeepsCalls v slots
    → length v.journal < v.limit
    → may_end v.counts v.terminal ≡ true
    → f ≡ after_meeting v.flip p
    → now ≡ record (with_entry v (phase_entry v Session phase_ended)) { flip = f }
    → KeepsCalls now slots
phase_ends v now slots p f keeps few may met now_is =
    let e : PlainEntry = phase_entry v Session phase_ended in
    let floor : f.floor ≡ max v.flip.floor (length p.sent) = ap (λ (x : TakerState Flagged). x.floor) met in
    let sent = keeps.port.sent in
    let allowed : Allowed (call_in v.kept) v.counts v.terminal e =
    (refl, (refl, record { phase = record { at_step = refl; at_part = refl }; may = may })) in
    still v now slots f e keeps few allowed (ap (λ (x : TakerState Flagged). x.taken) met)
    (ap (λ (x : TakerState Flagged). x.capacity) met) (omega arith) refl refl refl refl now_is

fresh_column : column_in (fresh_of kind.Tty) ≡ 0
fresh_column = refl

-- the session hangs the port up
pub hangs_up : (v now : PortValue) (slots : List (Option WaitingCall)) (p : PutterState Flagged)
    (f : TakerState Flagged) (dropped : List Flagged)
    → KeepsCalls v slots
    → length v.journal < v.limit
    → v.terminal.phase ≡ length v.counts
    → v.terminal.sent ≡ length p.sent
    → f.taken ≡ v.flip.taken ++ dropped
    → f.taken ≡ p.sent
    → AreReleased v.flip.released p.heads
    → Releases v.flip f
    → f.floor ≡ length p.sent
    → f.ring ≡ v.flip.ring
    → f.capacity ≡ v.flip.capacity
    → f.ended ≡ true
    → now ≡ record (with_entry v (hangup_entry v dropped)) { flip = f }
    → KeepsCalls now slots × HangsUp v now p
hangs_up v now slots p f dropped keeps few at_end sent taken all heads released floor ring capacity ended now_is =
    let t = v.terminal in
    let e : PlainEntry = hangup_entry v dropped in
    let whole : length p.sent ≡ length v.flip.taken + length dropped =
    ap length (sym all ∙ taken) ∙ length-append v.flip.taken dropped in
    let here = port_taken v keeps.port in
    let within = port_within v keeps.port in
    let small = keeps.port.capacity in
    let allowed : Allowed (call_in v.kept) v.counts t e =
    (refl, (refl, record { after = omega (arith, at_end); at_step = refl; at_part = refl; all = omega arith })) in
    let few_dropped : length dropped ≤ MOST_FLIP = omega arith in (
      plainly v now slots f e keeps few allowed taken few_dropped capacity (omega arith) refl
          (λ h. absurd (false≢true h)) (omega (arith, fresh_column)) now_is,
      subst (λ (w : PortValue). HangsUp v w p) (sym now_is) (record {
        dropped = dropped;
        appends = record { allowed = allowed; appended = refl };
        taken = taken;
        all = all;
        heads = heads;
        released = released;
        ring = ring;
        capacity = capacity;
        ended = ended;
      }),
    )
