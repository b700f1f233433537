use Rattle.std.proofs.Common.{◌≡◌, ◌≤◌, false, ℕ, List, [], length, ap, subst, sym, ◌∙◌, arith}
use Rattle.std.specs.Prelude.{sum}
use Rattle.tty_base.specs.Sizes.{MOST_ENTRIES}
use Rattle.tty_base.specs.declared.characters.Flagged.{Flagged}
use Rattle.tty_base.specs.declared.lines.Overrun.{Overrun}
use Rattle.word_ring.specs.Ends.{PutterState, TakerState}
use Rattle.tty_calls.specs.Plain.{PlainEntry}
use Rattle.tty_calls.specs.Limits.{character_count}
use Rattle.tty_calls.specs.Sessions.{session_of, counts_on}
use Rattle.tty_terminal.specs.Terminals.{opening}
use Rattle.legal_runs.specs.Legal.{flip_on}
use Rattle.port_core.specs.Ports.{PortValue}
use Rattle.play_base.specs.Roles.{scene_of, names_in, AreFirstSteps}
use Rattle.play_base.specs.Beginning.{IsAtPhase}
use Rattle.play_base.specs.Phases.{HavePlayedInOrder}
use Rattle.play_base.proofs.PortLemmas.{opened_at, nothing_played, no_first_steps, zeros}
use Rattle.play_base.proofs.ports.open_port.Goals as goal

pub returns : goal.returns
returns c =
    let s = scene_of c.args.number c.args.session.now in
    let putter : PutterState Flagged = c.in_ok-putter.putter in
    let taker : TakerState Flagged = c.in_ok-putter.taker in
    let counts : c.as_slice.result.now ≡ counts_on c.args.number (session_of c.args.session.now) =
    c.as_slice.ensures.value ∙ c.in_ok-counts.ensures in
    let output = ap (λ t. t.capacity) c.in_ok-putter.ensures.output in
    let capacity : taker.capacity ≡ flip_on c.args.number (session_of c.args.session.now) =
    output ∙ c.capacity_on-capacity.ensures.is in
    let most : character_count c.args.number (session_of c.args.session.now).phases ≤ c.in_ok-line.line.most =
    omega (arith, c.in_ok-line.ensures.room, c.room_on.ensures.enough) in
    let at_phase : IsAtPhase s 0
    (record {
      terminal = opening (sum c.as_slice.result.now) taker.capacity;
      journal = [];
      kept = [];
      counts = c.as_slice.result.now;
      limit = MOST_ENTRIES;
      starved = false;
      flip = taker;
    }) putter c.in_ok-line.line 0 =
    opened_at s c.as_slice.result.now taker putter c.in_ok-line.line counts capacity
    (omega (arith, output, c.capacity_on-capacity.ensures.enough))
    (ap (λ p. p.ring) c.in_ok-putter.ensures.input)
    (ap (λ p. p.capacity) c.in_ok-putter.ensures.input ∙ sym (ap (λ t. t.capacity) c.in_ok-putter.ensures.output))
    (ap (λ p. p.sent) c.in_ok-putter.ensures.input) (ap (λ p. p.heads) c.in_ok-putter.ensures.input)
    c.in_ok-line.ensures.done most (omega (arith, c.in_ok-line.ensures.room, c.room_on.ensures.few))
    c.in_ok-line.ensures.none in
    let new : c.in_ok-new.field-0
    ≡ record {
      terminal = opening (sum c.as_slice.result.now) taker.capacity;
      journal = [];
      kept = [];
      counts = c.as_slice.result.now;
      limit = MOST_ENTRIES;
      starved = false;
      flip = taker;
    } = c.in_ok-new.ensures in
    let journal : c.in_ok-new.field-0.journal ≡ [] = ap (λ (v : PortValue). v.journal) new in
    let names : c.len.result ≡ length (names_in s) =
    c.len.ensures ∙ ap (λ (ns : List (List ℕ)). length ns) c.requires.names in
    let items : c.in_ok-steps.steps.items ≡ zeros c.len.result =
    c.in_ok-steps.ensures.items_if_clones_equal (λ y same. same) in
    record {
      at_phase = subst (λ (v : PortValue). IsAtPhase s 0 v putter c.in_ok-line.line 0) (sym new) at_phase;
      steps = subst (AreFirstSteps s 0) (sym items) (no_first_steps s c.len.result names);
      played = subst (λ (es : List PlainEntry). HavePlayedInOrder s 0 es c.in_ok-line.line.report.overruns.items)
          (sym journal)
          (subst (λ (os : List Overrun). HavePlayedInOrder s 0 [] os) (sym c.in_ok-line.ensures.none)
          (nothing_played s));
    }
