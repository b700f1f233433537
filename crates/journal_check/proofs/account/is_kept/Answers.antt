use Rattle.std.proofs.Common.{◌≡◌, List, length, get_or, sym, ◌∙◌, ap}
use Rattle.std.proofs.lemmas.Bool.{false≢true}
use Rattle.tty_base.specs.declared.characters.Flagged.{Flagged}
use Rattle.tty_calls.specs.declared.journals.PortRun.{PortRun}
use Rattle.tty_calls.specs.Sessions.{PlainSession, session_of, ticks_on}
use Rattle.tty_terminal.specs.Runs.{chars_of}
use Rattle.uart_line.specs.Received.{received_list}
use Rattle.uart_line.specs.Offered.{kept_list}
use Rattle.journal_check.specs.declared.lines.Received.{Received}
use Rattle.legal_runs.specs.Legal.{phase_at, script_on}
use Rattle.journal_check.specs.Finishing.{goes_well}
use Rattle.journal_check.proofs.CheckLemmas.{kept_is, kept_as_found}
use Rattle.journal_check.proofs.account.is_kept.Goals as goal

pub returns-then-run-len : goal.returns-then-run-len
returns-then-run-len c =
    let same = kept_is c.args.port (session_of c.args.session.now) c.args.run.now.line.overruns.items
    c.args.received.now c.requires.received c.requires.shown in (
      λ is. absurd (false≢true is),
      λ kept.
          absurd (c.if-run-len.true (kept.sent ∙ ap (λ (cs : List Flagged). length cs) (sym same) ∙ sym c.len.ensures)),
    )

pub returns-then-not-are_chars_of : goal.returns-then-not-are_chars_of
returns-then-not-are_chars_of c =
    let same = kept_is c.args.port (session_of c.args.session.now) c.args.run.now.line.overruns.items
    c.args.received.now c.requires.received c.requires.shown in (
      λ is. absurd (false≢true is),
      λ kept. absurd (false≢true (sym c.if-not-are_chars_of.true
          ∙ c.are_chars_of.ensures.1 (kept.chars ∙ (sym same ∙ sym c.as_slice.ensures)))),
    )

pub returns : goal.returns
returns c =
    let session : PlainSession = session_of c.args.session.now in
    let run : PortRun = c.args.run.now in
    let r : Received = c.args.received.now in
    let same = kept_is c.args.port session run.line.overruns.items r c.requires.received c.requires.shown in
    let found = kept_as_found c.args.port session run r c.requires.received c.requires.shown c.requires.no_wrong in
    let well : c.goes_well.result
    ≡ goes_well (λ k. get_or r.sents.items k 0) (λ k. ticks_on c.args.port (phase_at session k)) (length session.phases)
    0 0 run.journal.items =
    c.goes_well.ensures
    ∙ (λ i. goes_well (λ k. get_or (c.as_slice-2.ensures.value i) k 0) (λ k. ticks_on c.args.port (phase_at session k))
    (length session.phases) 0 0 run.journal.items) in
    let chars : chars_of run.journal.items
    ≡ kept_list (received_list (script_on c.args.port session)) run.line.overruns.items =
    c.are_chars_of.ensures.0 c.if-not-are_chars_of.false ∙ (c.as_slice.ensures ∙ same) in (
      λ is. record {
        arrived = c.if-run-received.false ∙ c.requires.received.arrived;
        fifo_lost = c.if-run-received-2.false ∙ c.requires.received.fifo_lost;
        sent = c.if-run-len.false ∙ (c.len.ensures ∙ ap (λ (cs : List Flagged). length cs) same);
        chars = chars;
        finished = found.finished (sym well ∙ is);
      },
      λ kept. well ∙ found.well kept.finished,
    )
