use Rattle.std.proofs.Common.{◌≡◌, ◌≤◌, ℕ, List, [], false, true, length, take}
use Rattle.std.proofs.Common.{rules, ap, sym, subst, ◌∙◌, arith, length-take}
use Rattle.std.proofs.lemmas.List.{take-take}
use Rattle.tty_base.specs.declared.characters.Flagged.{Flagged}
use Rattle.flow_control.specs.declared.tally.Tally.{Tally}
use Rattle.tty_modes.specs.Settings.{has_flag}
use Rattle.flow_control.specs.Output.{Output, is_halted}
use Rattle.flow_control.specs.Counting.{no_counts}
use Rattle.tty_modes.specs.declared.places.TheConstants.{IXOFF}
use Rattle.line_store.specs.Unread.{end_count}
use Rattle.n_tty.specs.States.{NTtyState, OnPort, on_port, FitsModes}
use Rattle.n_tty.specs.Roles.{is_raw}
use Rattle.n_tty.specs.Runs.{after_characters, AcceptsAll}
use Rattle.n_tty.proofs.InRuns.{Fits-all, MayRun, MayType, stored_run, accepts_stored}
use Rattle.n_tty.proofs.InRuns.{joined_run, accepts_joined, typed_run, accepts_typed}
use Rattle.n_tty.proofs.discipline.NTty.receive_run.Goals as goal
use Rattle.n_tty.proofs.discipline.NTty.receive_run.Goals.{After-front_of-chars}

idle_tally : Tally
idle_tally = record { counts = no_counts; signals = record { items = []; spare = 0 } }

-- the first of the first are the first
front : (chars some : List Flagged) (n k : ℕ) → some ≡ take n chars → k ≤ length some → take k some ≡ take k chars
front chars some n k is within =
    ap (take k) is ∙ take-take k n chars (omega (arith, within, ap length is, length-take n chars))

-- the port that a run finds, with any counts
abbrev found : (c : After-front_of-chars) → Tally → OnPort
found c tally = on_port c.args.self.now c.args.wire.now tally

-- the characters of which a run takes some
abbrev offered : (c : After-front_of-chars) → List Flagged
offered c = c.front_of-chars.result.now

free : (c : After-front_of-chars) → has_flag c.args.modes.now IXOFF ≡ false
free c = sym c.has.ensures ∙ c.if-has.false

-- so many of them can be taken in a run
may : (c : After-front_of-chars) (n : ℕ) (tally : Tally)
    → MayRun c.args.modes.now (length (take n (offered c))) (found c tally)
may c n tally =
    record {
      unquoted = sym (ap (λ (t : NTtyState). t.quoted) c.self.view_is) ∙ c.if-self.false;
      quiet = sym c.noted.ensures ∙ c.if-noted.false;
      ends = omega (
        arith,
        c.lines.ensures.lines,
        ap (λ (t : NTtyState). end_count t.items) c.self.view_is,
        c.if-lines-ge-MOST_ENDS.false,
      );
      room = omega (
        arith,
        length-take n (offered c),
        c.unread-unread.ensures.count,
        ap length c.front_of-chars.ensures,
        length-take c.min-2.result c.args.chars.now,
      );
    }

-- what a run leaves and was accepted by, said of all the characters
module _ (c : After-front_of-chars) (n : ℕ) (within : n ≤ length (offered c)) (tty : NTtyState) (output : Output)
    (after : (tally : Tally)
    → on_port tty output tally ≡ after_characters c.args.modes.now c.args.now (take n (offered c)) (found c tally))
    (accepted : (tally : Tally) → AcceptsAll c.args.modes.now c.args.now (take n (offered c)) (found c tally)) where
  same : take n (offered c) ≡ take n c.args.chars.now
  same = front c.args.chars.now (offered c) c.min-2.result n c.front_of-chars.ensures within

  left : (tally : Tally)
      → on_port tty output tally
      ≡ after_characters c.args.modes.now c.args.now (take n c.args.chars.now) (found c tally)
  left tally = after tally ∙ ap (λ cs. after_characters c.args.modes.now c.args.now cs (found c tally)) same

  all_accepted : (tally : Tally) → AcceptsAll c.args.modes.now c.args.now (take n c.args.chars.now) (found c tally)
  all_accepted tally = subst (λ cs. AcceptsAll c.args.modes.now c.args.now cs (found c tally)) same (accepted tally)

  fit : FitsModes c.args.modes.now c.args.self.now → FitsModes c.args.modes.now tty
  fit fits =
      subst (λ (port : OnPort). FitsModes c.args.modes.now port.tty) (sym (after idle_tally))
      (Fits-all c.args.modes.now c.args.now (take n (offered c)) (found c idle_tally) fits)

pub store_run-requires-clause-room : goal.store_run-requires-clause-room
store_run-requires-clause-room c = omega (
  arith,
  c.unread-unread.ensures.count,
  ap length c.front_of-chars.ensures,
  length-take c.min-2.result c.args.chars.now,
)

pub type_run-requires-clause-room : goal.type_run-requires-clause-room
type_run-requires-clause-room c = omega (
  arith,
  c.unread-unread.ensures.count,
  ap length c.front_of-chars.ensures,
  length-take c.min-2.result c.args.chars.now,
)

pub join_run-requires-clause-room : goal.join_run-requires-clause-room
join_run-requires-clause-room c = omega (
  arith,
  c.unread-unread.ensures.count,
  ap length c.front_of-chars.ensures,
  length-take c.min-2.result c.args.chars.now,
)

pub returns-then-is_raw : goal.returns-then-is_raw
returns-then-is_raw c =
    let d = (goal.at.returns-then-is_raw c).After-front_of-chars in
    let n = c.store_run.result in
    let made = c.store_run.ensures in
    let raw : is_raw c.args.modes.now ≡ true = sym c.is_raw.ensures ∙ c.if-is_raw.true in
    let after = λ (tally : Tally). made.after c.args.wire.now tally
    ∙ stored_run c.args.modes.now c.args.now raw (free d) (take n (offered d)) (found d tally) made.good (may d n tally)
    in
    let accepted = λ (tally : Tally). accepts_stored c.args.modes.now c.args.now raw (free d) (take n (offered d))
    (found d tally) made.good (may d n tally) in
    record {
      within = search rules;
      after = left d n made.within c.store_run.new.self c.args.wire.now after accepted;
      accepted = all_accepted d n made.within c.store_run.new.self c.args.wire.now after accepted;
      fits = fit d n made.within c.store_run.new.self c.args.wire.now after accepted c.requires.fitting;
      spent = search rules;
      moved = search rules;
      past = search rules;
    }

pub returns-then-not-halted : goal.returns-then-not-halted
returns-then-not-halted c =
    let d = (goal.at.returns-then-not-halted c).After-front_of-chars in
    let n = c.type_run.result in
    let made = c.type_run.ensures in
    let are = c.are_typed.ensures in
    let typed = c.if-are_typed.true in
    let flows : is_halted c.args.wire.now ≡ false = sym c.halted.ensures.value ∙ c.if-not-halted.true in
    let runs : (tally : Tally) → MayType c.args.modes.now (length (take n (offered d))) (found d tally) =
    λ tally. record { may = may d n tally; flows = flows } in
    let after = λ (tally : Tally). made.after tally
    ∙ typed_run c.args.modes.now c.args.now (are.canonical typed) (are.echoes typed) (are.plain typed) (free d)
    (take n (offered d)) (found d tally) made.typed (runs tally) in
    let accepted = λ (tally : Tally). accepts_typed c.args.modes.now c.args.now (are.canonical typed) (are.echoes typed)
    (are.plain typed) (free d) (take n (offered d))
    (found d tally) made.typed (runs tally) in
    record {
      within = search rules;
      after = left d n made.within c.type_run.new.self c.type_run.new.wire after accepted;
      accepted = all_accepted d n made.within c.type_run.new.self c.type_run.new.wire after accepted;
      fits = fit d n made.within c.type_run.new.self c.type_run.new.wire after accepted c.requires.fitting;
      spent = search rules;
      moved = search rules;
      past = search rules;
    }

pub returns-then-are_joined : goal.returns-then-are_joined
returns-then-are_joined c =
    let d = (goal.at.returns-then-are_joined c).After-front_of-chars in
    let n = c.join_run.result in
    let made = c.join_run.ensures in
    let are = c.are_joined.ensures in
    let join = c.if-are_joined.true in
    let after = λ (tally : Tally). made.after c.args.wire.now tally
    ∙ joined_run c.args.modes.now c.args.now (are.canonical join) (are.silent join) (are.plain join) (free d)
    (take n (offered d)) (found d tally) made.typed (may d n tally) in
    let accepted = λ (tally : Tally). accepts_joined c.args.modes.now c.args.now (are.canonical join) (are.silent join)
    (are.plain join) (free d) (take n (offered d))
    (found d tally) made.typed (may d n tally) in
    record {
      within = search rules;
      after = left d n made.within c.join_run.new.self c.args.wire.now after accepted;
      accepted = all_accepted d n made.within c.join_run.new.self c.args.wire.now after accepted;
      fits = fit d n made.within c.join_run.new.self c.args.wire.now after accepted c.requires.fitting;
      spent = search rules;
      moved = search rules;
      past = search rules;
    }
