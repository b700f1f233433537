use Rattle.std.proofs.Common.{◌≡◌, ◌≤◌, false, ℕ, List, [], length, ap, subst, sym, ◌∙◌, arith}
use Rattle.std.specs.Prelude.{slice_index_or, sum}
use Rattle.std.proofs.lemmas.List.Elements.{All-get_or}
use Rattle.tty_base.specs.Sizes.{LEAST_FLIP, MOST_ENTRIES}
use Rattle.tty_base.specs.declared.characters.Flagged.{Flagged}
use Rattle.tty_base.specs.declared.lines.Overrun.{Overrun}
use Rattle.word_ring.specs.Ends.{PutterState, TakerState}
use Rattle.tty_calls.specs.Limits.{character_count}
use Rattle.tty_calls.specs.Plain.{PlainEntry}
use Rattle.tty_calls.specs.Sessions.{session_of, counts_on}
use Rattle.tty_terminal.specs.Terminals.{opening}
use Rattle.legal_runs.specs.Legal.{flip_on}
use Rattle.port_core.specs.Ports.{PortValue}
use Rattle.play_base.specs.Roles.{Scene, names_in, AreFirstSteps}
use Rattle.play_base.specs.Beginning.{IsAtPhase}
use Rattle.play_base.specs.Phases.{HavePlayedInOrder}
use Rattle.play_base.proofs.PortLemmas.{opened_at, nothing_played, no_first_steps, zeros}
use Rattle.many_threads.proofs.Onward.{opened_before}
use Rattle.vt_threads.proofs.SameCallers.{same_counts, same_names}
use Rattle.vt_threads.proofs.opening.open_console.Goals as goal

pub returns : goal.returns
returns c x differ few_come =
    let p = c.args.number in
    let y = session_of c.args.session.now in
    let s : Scene = record { port = p; session = x } in
    let putter : PutterState Flagged = c.in_ok-putter.putter in
    let taker : TakerState Flagged = c.in_ok-putter.taker in
    let counts : c.as_slice-2.result.now ≡ counts_on p x =
    (c.as_slice-2.ensures.value ∙ c.in_ok-counts.ensures) ∙ sym (same_counts x y differ p) in
    let flips : flip_on p x ≡ flip_on p y = ap (λ (xs : List ℕ). slice_index_or xs p 0) differ.flips in
    let capacity : taker.capacity ≡ flip_on p y =
    ap (λ t. t.capacity) c.in_ok-putter.ensures.output
    ∙ ap (λ (xs : List ℕ). slice_index_or xs p 0) c.as_slice.ensures in
    let ports = c.requires.within.flips in
    let port = c.requires.port in
    let room : LEAST_FLIP ≤ flip_on p y =
    All-get_or (λ n. LEAST_FLIP ≤ n) c.args.session.now.flips.items p 0 (omega (arith, ports, port))
    c.requires.within.some_flip in
    let most : character_count p x.phases ≤ c.in_ok-line.line.most =
    omega (arith, c.in_ok-line.ensures.room, few_come) in
    let at_phase : IsAtPhase s 0
    (record {
      terminal = opening (sum c.as_slice-2.result.now) taker.capacity;
      journal = [];
      kept = [];
      counts = c.as_slice-2.result.now;
      limit = MOST_ENTRIES;
      starved = false;
      flip = taker;
    }) putter c.in_ok-line.line 0 =
    opened_at s c.as_slice-2.result.now taker putter c.in_ok-line.line counts (capacity ∙ sym flips)
    (omega (arith, room, capacity)) (ap (λ p. p.ring) c.in_ok-putter.ensures.input)
    (ap (λ p. p.capacity) c.in_ok-putter.ensures.input ∙ sym (ap (λ t. t.capacity) c.in_ok-putter.ensures.output))
    (ap (λ p. p.sent) c.in_ok-putter.ensures.input) (ap (λ p. p.heads) c.in_ok-putter.ensures.input)
    c.in_ok-line.ensures.done most (omega (arith, c.in_ok-line.ensures.room, c.requires.most))
    c.in_ok-line.ensures.none in
    let new : c.in_ok-new.field-0
    ≡ record {
      terminal = opening (sum c.as_slice-2.result.now) taker.capacity;
      journal = [];
      kept = [];
      counts = c.as_slice-2.result.now;
      limit = MOST_ENTRIES;
      starved = false;
      flip = taker;
    } = c.in_ok-new.ensures in
    let journal : c.in_ok-new.field-0.journal ≡ [] = ap (λ (v : PortValue). v.journal) new in
    let names : c.len.result ≡ length (names_in s) =
    c.len.ensures
    ∙ (ap (λ (ns : List (List ℕ)). length ns) c.requires.names
    ∙ ap (λ (ns : List (List ℕ)). length ns) (sym (same_names x y differ p))) in
    let items : c.in_ok-steps.steps.items ≡ zeros c.len.result =
    c.in_ok-steps.ensures.items_if_clones_equal (λ y same. same) in
    opened_before s _ (record {
      at_phase = subst (λ (v : PortValue). IsAtPhase s 0 v putter c.in_ok-line.line 0) (sym new) at_phase;
      steps = subst (AreFirstSteps s 0) (sym items) (no_first_steps s c.len.result names);
      played = subst (λ (es : List PlainEntry). HavePlayedInOrder s 0 es c.in_ok-line.line.report.overruns.items)
          (sym journal)
          (subst (λ (os : List Overrun). HavePlayedInOrder s 0 [] os) (sym c.in_ok-line.ensures.none)
          (nothing_played s));
    })
