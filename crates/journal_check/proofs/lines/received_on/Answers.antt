use Rattle.std.proofs.Common.{◌≡◌, ◌<◌, ◌++◌, ◌∷◌, [], ◌≤◌, List, length, drop, rules, ap, sym, ◌∙◌, arith}
use Rattle.std.proofs.lemmas.List.{length-map}
use Rattle.tty_base.specs.Contents.{Contents}
use Rattle.tty_base.specs.declared.characters.Flagged.{Flagged}
use Rattle.tty_base.specs.declared.lines.Overrun.{Overrun}
use Rattle.tty_calls.specs.Sessions.{session_of, phase_of}
use Rattle.journal_check.specs.Accounts.{kept_from}
use Rattle.journal_check.proofs.ReceiptLemmas.{good_steps, room_left, received_first, received_more, received_all}
use Rattle.journal_check.proofs.lines.received_on.Goals as goal

pub loop-phase-init : goal.loop-phase-init
loop-phase-init c =
    let most = c.in_ok-line.ensures.room ∙ c.in_ok-most.ensures in
    let items = c.reserve.ensures.items ∙ ap (λ (b : Contents Flagged). b.items) c.new-chars.ensures in
    received_first c.args.port (session_of c.args.session.now) c.args.overruns.now c.in_ok-line.line c.reserve.new.self
    _ c.in_ok-line.ensures.done c.in_ok-line.ensures.none most
    (let room : c.in_ok-line.line.most ≤ c.reserve.new.self.spare = search rules in room) items
    (ap (λ (b : Contents Flagged). b.items) c.new-2.ensures) c.new-3.ensures.items c.new-4.ensures.items

pub run_into-requires-clause-good : goal.run_into-requires-clause-good
run_into-requires-clause-good c =
    good_steps c.args.port (session_of c.args.session.now) c.loop-phase.phase c.as_slice.result.now c.requires
    (let lt : c.loop-phase.phase < length (session_of c.args.session.now).phases =
    omega
    (arith, c.loop-phase-test.true, c.len-phase-end.ensures, length-map c.args.session.now.phases.items phase_of) in
    lt)
    (c.as_slice.ensures.value ∙ c.in_ok-steps.ensures)

pub run_into-requires-clause-room : goal.run_into-requires-clause-room
run_into-requires-clause-room c =
    room_left c.args.port (session_of c.args.session.now) c.args.overruns.now c.loop-phase.phase c.loop-phase.line
    c.loop-phase.chars c.loop-phase.received c.loop-phase.next c.as_slice.result.now
    (let lt : c.loop-phase.phase < length (session_of c.args.session.now).phases =
    omega
    (arith, c.loop-phase-test.true, c.len-phase-end.ensures, length-map c.args.session.now.phases.items phase_of) in
    lt)
    (c.as_slice.ensures.value ∙ c.in_ok-steps.ensures) c.loop-phase.invariant

pub loop-phase-preserved : goal.loop-phase-preserved
loop-phase-preserved c =
    let place : c.len-place.result ≡ length c.loop-phase.chars.items = c.len-place.ensures in
    let read : c.as_slice-in-loop-phase.result.now ≡ c.run_into.new.chars.items = c.as_slice-in-loop-phase.ensures in
    let left : c.overruns_from-left.result.now ≡ drop c.loop-phase.next c.args.overruns.now =
    c.overruns_from-left.ensures in
    let keeps = c.in_ok-next.ensures in
    received_more c.args.port (session_of c.args.session.now) c.args.overruns.now c.loop-phase.phase c.loop-phase.line
    c.run_into.new.self c.loop-phase.chars c.run_into.new.chars c.loop-phase.received c.keep_phase.new.received
    c.loop-phase.next c.in_ok-next.field-0 c.as_slice.result.now c.loop-phase.invariant
    (record {
      lt = (let lt : c.loop-phase.phase < length (session_of c.args.session.now).phases =
          omega (
            arith,
            c.loop-phase-test.true,
            c.len-phase-end.ensures,
            length-map c.args.session.now.phases.items phase_of,
          ) in
          lt);
      are = (c.as_slice.ensures.value ∙ c.in_ok-steps.ensures);
      done = c.run_into.ensures.done;
      room = c.run_into.ensures.room;
      arrived = c.run_into.ensures.arrived;
      adds = c.run_into.ensures.adds;
      spare = c.run_into.ensures.spare;
      none = c.run_into.ensures.overruns;
      kept =
          keeps.kept
          ∙ (λ j. c.loop-phase.received.kept.items ++ (kept_from (place j) (drop (place j) (read j)) (left j)).chars);
      within = omega (arith, keeps.within, ap (λ (os : List Overrun). length os) left);
      rest =
          ap (λ (os : List Overrun). drop c.in_ok-next.field-0 os) (sym left)
          ∙ keeps.rest
          ∙ (λ j. (kept_from (place j) (drop (place j) (read j)) (left j)).overruns);
      ends = keeps.ends ∙ ap (λ (cs : List Flagged). c.loop-phase.received.ends.items ++ length cs ∷ []) read;
      sents = keeps.sents;
    })

pub returns : goal.returns
returns c =
    let all : c.loop-phase.phase ≡ length (session_of c.args.session.now).phases =
    omega (
      arith,
      c.loop-phase-test.false,
      c.loop-phase.auto.phase-end,
      c.len-phase-end.ensures,
      length-map c.args.session.now.phases.items phase_of,
    ) in
    received_all c.args.port (session_of c.args.session.now) c.args.overruns.now c.loop-phase.phase c.loop-phase.line
    c.loop-phase.chars c.loop-phase.received _ c.loop-phase.next all c.loop-phase.invariant
    (λ j. record c.loop-phase.received {
      arrived = (c.report.ensures j).arrived;
      fifo_lost = (c.report-2.ensures j).fifo_lost;
    })
