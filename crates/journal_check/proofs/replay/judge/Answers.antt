use Rattle.std.proofs.Common.{◌≡◌, ℕ, List, sym, ◌∙◌, ap, subst, arith}
use Rattle.std.proofs.lemmas.Bool.{false≢true}
use Rattle.tty_calls.specs.Plain.{PlainEntry, entry_of}
use Rattle.tty_calls.specs.Sessions.{PlainSession, session_of, call_at, counts_on}
use Rattle.tty_terminal.specs.Terminals.{Terminal}
use Rattle.ldisc_switch.specs.Disciplines.{column_in}
use Rattle.tty_terminal.specs.Steps.{IsAllowed}
use Rattle.legal_runs.specs.Legal.{IsInPhase}
use Rattle.journal_check.specs.Scripts.{AreTurns}
use Rattle.journal_check.specs.declared.replay.Replay.{Replay}
use Rattle.journal_check.proofs.ReplayLemmas.{stays_if_fine, next_idle, next_small, goes_on, tries_true}
use Rattle.journal_check.proofs.replay.judge.Goals as goal

pub returns-then-not-stays : goal.returns-then-not-stays
returns-then-not-stays c = λ before follows fine.
    false≢true (sym c.if-not-stays.true
    ∙ c.stays.ensures.1 (stays_if_fine c.args.port (session_of c.args.session.now) before c.args.replay.now
    (entry_of c.args.entry.now) follows fine))

pub note-requires-clause-idle : goal.note-requires-clause-idle
note-requires-clause-idle c = λ is.
    let session = session_of c.args.session.now in
    let t : Terminal = c.args.replay.now.terminal.terminal in
    let e : PlainEntry = entry_of c.args.entry.now in
    let tries = tries_true _ _ _ c.in_ok-try_entry.field-0 c.in_ok-try_entry.ensures.tries c.if-not-branch.false in
    next_idle c.args.port session (call_at c.args.port session) t c.try_entry.new.terminal.terminal
    c.args.replay.now.turns.items e.who e.step e.part e.event c.requires.turns tries.1 is

pub note-requires-clause-small : goal.note-requires-clause-small
note-requires-clause-small c =
    let session = session_of c.args.session.now in
    let t : Terminal = c.args.replay.now.terminal.terminal in
    let e : PlainEntry = entry_of c.args.entry.now in
    let tries = tries_true _ _ _ c.in_ok-try_entry.field-0 c.in_ok-try_entry.ensures.tries c.if-not-branch.false in
    next_small (call_at c.args.port session) c.as_slice-counts.result.now t c.try_entry.new.terminal.terminal e
    (c.if-entry-generation.false ∙ c.generation.ensures, tries.0) tries.1 c.requires.small.phase

pub returns : goal.returns
returns c = λ before follows.
    let session : PlainSession = session_of c.args.session.now in
    let p : ℕ = c.args.port in
    let t : Terminal = c.args.replay.now.terminal.terminal in
    let e : PlainEntry = entry_of c.args.entry.now in
    let tries = tries_true _ _ _ c.in_ok-try_entry.field-0 c.in_ok-try_entry.ensures.tries c.if-not-branch.false in
    let same = c.in_ok-note.ensures.same in
    let counts : c.as_slice-counts.result.now ≡ counts_on p session =
    c.as_slice-counts.ensures.value ∙ c.requires.counts in
    let turns : AreTurns p session c.phase.result c.as_slice.result.now =
    subst (λ (k : ℕ). AreTurns p session k c.as_slice.result.now) (sym c.phase.ensures)
    (subst (AreTurns p session t.phase) (sym c.as_slice.ensures.value) c.requires.turns) in
    let here = (c.is_in_phase.ensures p session turns).0 c.if-not-is_in_phase.false in
    goes_on p session before c.args.replay.now c.note.new.replay e follows (record {
      generation = c.if-entry-generation.false ∙ c.generation.ensures;
      in_phase = subst (λ (k : ℕ). IsInPhase p session k e.who e.step e.event) c.phase.ensures here;
      stays = c.stays.ensures.0 c.if-not-stays.false;
      allowed = subst (λ (cs : List ℕ). IsAllowed (call_at p session) cs t e.who e.step e.part e.event) counts tries.0;
      terminal = ap (λ (r : Replay). r.terminal.terminal) same ∙ tries.1;
      column =
          omega (arith, ap (λ (r : Replay). column_in r.terminal.terminal.disc) same, c.in_ok-try_entry.ensures.column);
      latest = ap (λ (r : Replay). r.latest) same;
      names = ap (λ (r : Replay). r.names) same;
      counts = ap (λ (r : Replay). r.counts.items) same;
      many = c.in_ok-note.ensures.many;
      begins = λ is. subst (λ (v : Terminal). AreTurns p session v.phase c.note.new.replay.turns.items)
          (sym (ap (λ (r : Replay). r.terminal.terminal) same)) (c.in_ok-note.ensures.begins is);
      same = c.in_ok-note.ensures.stays;
    })
