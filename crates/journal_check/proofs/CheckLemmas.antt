-- The verdict on the runs of a session.
use Rattle.std.proofs.Common.{◌≡◌, inl, inr, ℕ, ◌+◌, ◌<◌, ◌≤◌, Bool, true, IsTrue, List, ◌∷◌}
use Rattle.std.proofs.Common.{Option, None, Some, length, get_or, refl, sym, ◌∙◌, ap, subst, arith}
use Rattle.std.specs.Prelude.{slice_get}
use Rattle.std.proofs.lemmas.Bool.{cases_lt}
use Rattle.std.proofs.lemmas.Option.{slice_get_read, slice_get_within}
use Rattle.tty_base.specs.declared.characters.Flagged.{Flagged}
use Rattle.tty_base.specs.declared.lines.Overrun.{Overrun}
use Rattle.tty_calls.specs.declared.journals.PortRun.{PortRun}
use Rattle.tty_calls.specs.Sessions.{PlainSession, ticks_on}
use Rattle.uart_line.specs.Received.{received_list}
use Rattle.uart_line.specs.Offered.{kept_list, AreShown}
use Rattle.journal_check.specs.declared.lines.Received.{Received}
use Rattle.journal_check.specs.declared.verdicts.Verdict.TheVariants as verdict
use Rattle.journal_check.specs.declared.checking.Finding.TheVariants.{Legal, Account}
use Rattle.legal_runs.specs.Legal.{phase_at, flip_on, script_of_first, script_on, sent_by, AreSeen, IsAccounted}
use Rattle.legal_runs.specs.Legal.{IsLegalOn}
use Rattle.journal_check.specs.Verdicts.{HasNoWrong, IsFirstWrong, HasNoWrongAt, FirstIsWrong, FirstIsNotLegal}
use Rattle.journal_check.specs.Verdicts.{VerdictFits}
use Rattle.journal_check.specs.Receipts.{received_count, IsReceived}
use Rattle.journal_check.specs.Seen.{phase_starts, line_stops, are_between}
use Rattle.journal_check.specs.Findings.{IsAccountKept, Finds, IsFirstAccount, FoundSoFar, first_found}
use Rattle.journal_check.proofs.AccountLemmas.{walk_is}
use Rattle.legal_runs.proofs.LineLemmas.{none_first}
use Rattle.journal_check.proofs.FinishLemmas.{FinishedAsWell, finished_as_well}
use Rattle.journal_check.proofs.SeenLemmas.{starts_enough, stops_enough, seen_as_between, knows_when}
use Rattle.journal_check.proofs.VerdictLemmas.{no_wrong_if_legal, legal_if_accounted}

-- ---- the account

pub kept_is : (p : ℕ) (session : PlainSession) (overruns : List Overrun) (r : Received)
    → IsReceived p session overruns r
    → AreShown (flip_on p session) 0 0 overruns
    → r.kept.items ≡ kept_list (received_list (script_on p session)) overruns
kept_is p session overruns r received shown =
    received.kept ∙ walk_is (flip_on p session) 0 0 0 (received_list (script_on p session)) overruns shown (omega arith)

pub sents_are : (p : ℕ) (session : PlainSession) (overruns : List Overrun) (r : Received)
    → IsReceived p session overruns r
    → AreShown (flip_on p session) 0 0 overruns
    → (k : ℕ)
    → k < length session.phases
    → get_or r.sents.items k 0 ≡ sent_by p session overruns k
sents_are p session overruns r received shown k lt =
    received.sents k lt
    ∙ ap (λ (cs : List Flagged). length cs)
    (walk_is (flip_on p session) 0 0 0 (received_list (script_of_first p session (k + 1))) overruns shown (omega arith))

pub record Keeps (p : ℕ) (session : PlainSession) (run : PortRun) (b : Bool) : Type 0 where
  pub to : IsTrue b → IsAccountKept p session run
  pub of : IsAccountKept p session run → IsTrue b

pub kept_as_found : (p : ℕ) (session : PlainSession) (run : PortRun) (r : Received)
    → IsReceived p session run.line.overruns.items r
    → AreShown (flip_on p session) 0 0 run.line.overruns.items
    → HasNoWrong p session run.journal.items
    → FinishedAsWell p session run.line.overruns.items (λ k. get_or r.sents.items k 0)
    (λ k. ticks_on p (phase_at session k)) run.journal.items
kept_as_found p session run r received shown no_wrong =
    finished_as_well p session run.line.overruns.items (λ k. get_or r.sents.items k 0)
    (λ k. ticks_on p (phase_at session k)) run.journal.items
    (sents_are p session run.line.overruns.items r received shown) (λ k. refl) no_wrong

pub accounted : (p : ℕ) (session : PlainSession) (run : PortRun)
    → AreShown (flip_on p session) 0 0 run.line.overruns.items
    → IsAccountKept p session run
    → AreSeen p session run.journal.items run.line.overruns.items
    → IsAccounted p session run
accounted p session run shown kept seen = record {
  finished = kept.finished;
  chars = kept.chars;
  shown = shown;
  seen = seen;
  arrived = kept.arrived;
  fifo_lost = kept.fifo_lost;
  sent = kept.sent;
}

pub kept_of : (p : ℕ) (session : PlainSession) (run : PortRun) → IsAccounted p session run → IsAccountKept p session run
kept_of p session run h =
    record { arrived = h.arrived; fifo_lost = h.fifo_lost; sent = h.sent; chars = h.chars; finished = h.finished }

nothing_yet : (p : ℕ) (session : PlainSession) → received_count p session 0 ≤ 0
nothing_yet p session = omega (arith, ap (λ (cs : List Flagged). length cs) (none_first p session))

-- what is found of the overruns
pub seen_as_found : (p : ℕ) (session : PlainSession) (run : PortRun) (r : Received) (starts stops : List ℕ)
    → IsReceived p session run.line.overruns.items r
    → AreShown (flip_on p session) 0 0 run.line.overruns.items
    → IsAccountKept p session run
    → starts ≡ 0 ∷ phase_starts 0 run.journal.items
    → stops ≡ line_stops 0 run.journal.items
    → (are_between r.ends.items starts stops 0 run.line.overruns.items ≡ true
    → AreSeen p session run.journal.items run.line.overruns.items)
    × (AreSeen p session run.journal.items run.line.overruns.items
    → are_between r.ends.items starts stops 0 run.line.overruns.items ≡ true)
seen_as_found p session run r starts stops received shown kept starts_is stops_is =
    seen_as_between p session run.journal.items r.ends.items starts stops (flip_on p session)
    0 0 0 run.line.overruns.items
    (knows_when p session run.line.overruns.items run.journal.items r.ends.items starts stops kept.finished
    received.many_ends received.ends starts_is stops_is)
    shown (omega arith) (nothing_yet p session)

pub enough : (p : ℕ) (session : PlainSession) (run : PortRun) (r : Received) (starts stops : List ℕ)
    → IsReceived p session run.line.overruns.items r
    → IsAccountKept p session run
    → starts ≡ 0 ∷ phase_starts 0 run.journal.items
    → stops ≡ line_stops 0 run.journal.items
    → (length r.ends.items ≤ length starts) × (length r.ends.items ≤ length stops)
enough p session run r starts stops received kept starts_is stops_is = (
  omega (
    arith,
    received.many_ends,
    starts_enough p session run.line.overruns.items 0 session.phases run.journal.items 0 kept.finished,
    ap (λ (xs : List ℕ). length xs) starts_is,
  ),
  omega (
    arith,
    received.many_ends,
    stops_enough p session run.line.overruns.items 0 session.phases run.journal.items 0 kept.finished,
    ap (λ (xs : List ℕ). length xs) stops_is,
  ),
)

-- ---- one port

pub finds_legal : (p : ℕ) (session : PlainSession) (run : PortRun)
    → HasNoWrong p session run.journal.items
    → IsAccounted p session run
    → Finds p session run Legal
finds_legal p session run no_wrong h = legal_if_accounted p session run no_wrong h

-- ---- all ports

pub record SoFar (session : PlainSession) (runs : List PortRun) (ports : ℕ) (account : Option ℕ) : Type 0 where
  pub no_wrong : (q : ℕ) → q < ports → HasNoWrongAt session runs q
  pub found : FoundSoFar session runs ports account

one_run : (runs : List PortRun) (p : ℕ) (a b : PortRun) → slice_get runs p ≡ Some a → slice_get runs p ≡ Some b → a ≡ b
one_run runs p a b first second = let same : Some a ≡ Some b = sym first ∙ second in cc

run_at : (runs : List PortRun) (p : ℕ) (run : PortRun)
    → p < length runs
    → run ≡ get_or runs p run
    → slice_get runs p ≡ Some run
run_at runs p run lt is = slice_get_read runs (length runs) p run refl lt is

more_at : (session : PlainSession) (runs : List PortRun) (p : ℕ) (run : PortRun) (P : ℕ → PortRun → Type 0)
    → slice_get runs p ≡ Some run
    → P p run
    → ((q : ℕ) → q < p → (r : PortRun) → slice_get runs q ≡ Some r → P q r)
    → (q : ℕ)
    → q < p + 1
    → (r : PortRun)
    → slice_get runs q ≡ Some r
    → P q r
more_at session runs p run P at here before q lt r is =
    elim (cases_lt q p) [
      | inl less ↦ before q less r is
      | inr most ↦ (let same : q ≡ p = omega (arith, lt, most) in
          let there : slice_get runs p ≡ Some r = ap (slice_get runs) (sym same) ∙ is in
          subst (λ (x : ℕ). P x r) (sym same) (subst (P p) (one_run runs p run r at there) here))
    ]

found_more : (session : PlainSession) (runs : List PortRun) (p : ℕ) (run : PortRun) (account : Option ℕ)
    → slice_get runs p ≡ Some run
    → IsLegalOn p session run
    → FoundSoFar session runs p account
    → FoundSoFar session runs (p + 1) account
found_more session runs p run None at legal found =
    more_at session runs p run (λ q r. IsLegalOn q session r) at legal found
found_more session runs p run (Some q) at legal found = found

pub so_far_legal : (session : PlainSession) (runs : List PortRun) (p : ℕ) (run : PortRun) (account account' : Option ℕ)
    → p < length runs
    → run ≡ get_or runs p run
    → SoFar session runs p account
    → IsLegalOn p session run
    → account' ≡ account
    → SoFar session runs (p + 1) account'
so_far_legal session runs p run account account' lt is h legal same =
    subst (SoFar session runs (p + 1)) (sym same) (record {
      no_wrong = more_at session runs p run (λ q r. HasNoWrong q session r.journal.items) (run_at runs p run lt is)
          (no_wrong_if_legal p session run legal) h.no_wrong;
      found = found_more session runs p run account (run_at runs p run lt is) legal h.found;
    })

found_account : (session : PlainSession) (runs : List PortRun) (p : ℕ) (run : PortRun) (account : Option ℕ)
    → slice_get runs p ≡ Some run
    → (IsLegalOn p session run → ⊥)
    → FoundSoFar session runs p account
    → FoundSoFar session runs (p + 1) (first_found account p)
found_account session runs p run None at not found = record { run = run; is_run = at; before = found; not_legal = not }
found_account session runs p run (Some q) at not found = found

pub so_far_account : (session : PlainSession) (runs : List PortRun) (p : ℕ) (run : PortRun)
    (account account' : Option ℕ)
    → p < length runs
    → run ≡ get_or runs p run
    → SoFar session runs p account
    → Finds p session run Account
    → account' ≡ first_found account p
    → SoFar session runs (p + 1) account'
so_far_account session runs p run account account' lt is h finds same =
    subst (SoFar session runs (p + 1)) (sym same) (record {
      no_wrong = more_at session runs p run (λ q r. HasNoWrong q session r.journal.items) (run_at runs p run lt is)
          finds.0 h.no_wrong;
      found = found_account session runs p run account (run_at runs p run lt is) finds.1 h.found;
    })

pub is_wrong_there : (session : PlainSession) (runs : List PortRun) (p n : ℕ) (run : PortRun) (account : Option ℕ)
    → p < length runs
    → run ≡ get_or runs p run
    → SoFar session runs p account
    → IsFirstWrong p session run.journal.items n
    → FirstIsWrong session runs p n
is_wrong_there session runs p n run account lt is h wrong =
    record { run = run; is_run = run_at runs p run lt is; before = h.no_wrong; wrong = wrong }

past_runs : (runs : List PortRun) (ports q : ℕ) (run : PortRun)
    → length runs ≤ ports
    → slice_get runs q ≡ Some run
    → q < ports
past_runs runs ports q run all is = omega (arith, slice_get_within runs q run is, all)

pub all_legal : (session : PlainSession) (runs : List PortRun) (ports : ℕ) (account : Option ℕ)
    → length runs ≤ ports
    → account ≡ None
    → SoFar session runs ports account
    → VerdictFits session runs verdict.Legal
all_legal session runs ports account all none h =
    let found : FoundSoFar session runs ports None = subst (FoundSoFar session runs ports) none h.found in
    record { each = λ q run is. found q (past_runs runs ports q run all is) run is }

pub not_all_legal : (session : PlainSession) (runs : List PortRun) (ports p : ℕ) (account : Option ℕ)
    → length runs ≤ ports
    → account ≡ Some p
    → SoFar session runs ports account
    → FirstIsNotLegal session runs p
not_all_legal session runs ports p account all is h =
    let found : IsFirstAccount session runs p = subst (FoundSoFar session runs ports) is h.found in
    record {
      run = found.run;
      is_run = found.is_run;
      no_wrong = λ q run at. h.no_wrong q (past_runs runs ports q run all at) run at;
      before = found.before;
      not_legal = found.not_legal;
    }
