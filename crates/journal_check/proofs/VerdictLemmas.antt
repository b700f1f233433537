-- That no two verdicts fit the same runs.
use Rattle.std.proofs.Common.{◌≡◌, ◌<◌, ℕ, List, [], ◌∷◌, ◌++◌, length, Some, refl, sym}
use Rattle.std.proofs.Common.{ap, subst, ◌∙◌, inl, inr, append_assoc, arith, slice_get}
use Rattle.std.proofs.lemmas.List.{append-nil}
use Rattle.std.proofs.lemmas.Bool.{cases_lt}
use Rattle.tty_calls.specs.declared.journals.PortRun.{PortRun}
use Rattle.tty_calls.specs.Plain.{PlainEntry}
use Rattle.tty_calls.specs.Sessions.{PlainSession, call_at}
use Rattle.tty_terminal.specs.Terminals.{Terminal}
use Rattle.tty_terminal.specs.Steps.{after}
use Rattle.legal_runs.specs.Legal.{IsAccounted, IsLegalOn}
use Rattle.journal_check.specs.Verdicts.{IsFine, AreFine, AreFineTo, opening_of, HasNoWrong, IsFirstWrong, FirstIsWrong}
use Rattle.journal_check.specs.Verdicts.{FirstIsNotLegal, VerdictFits}
use Rattle.legal_runs.specs.Ports.{AreLegal}
use Rattle.journal_check.specs.declared.verdicts.Verdict.{Verdict}
use Rattle.journal_check.specs.declared.verdicts.Verdict.TheVariants.{Legal, Wrong, Account}
use Rattle.journal_check.proofs.FineLemmas.{AreFine-from_run, Leads-from_fine}
use Rattle.journal_check.proofs.FineLemmas.{AreInPhases-from_fine, OneGeneration-from_fine}

-- ---- legal runs

pub no_wrong_if_legal : (p : ℕ) (session : PlainSession) (run : PortRun)
    → IsLegalOn p session run
    → HasNoWrong p session run.journal.items
no_wrong_if_legal p session run (t, legal) = (
  t,
  AreFine-from_run p session [] (opening_of p session) run.journal.items t legal.on_the_way.steps
      legal.on_the_way.in_phases legal.on_the_way.one,
)

pub accounted_if_legal : (p : ℕ) (session : PlainSession) (run : PortRun)
    → IsLegalOn p session run
    → IsAccounted p session run
accounted_if_legal p session run (t, legal) = legal.account

pub legal_if_accounted : (p : ℕ) (session : PlainSession) (run : PortRun)
    → HasNoWrong p session run.journal.items
    → IsAccounted p session run
    → IsLegalOn p session run
legal_if_accounted p session run (t, fine) account = (
  t,
  record {
    on_the_way = record {
      steps = Leads-from_fine p session [] (opening_of p session) run.journal.items t fine;
      in_phases = AreInPhases-from_fine p session [] (opening_of p session) run.journal.items t fine;
      one = OneGeneration-from_fine p session [] (opening_of p session) run.journal.items t tt fine;
    };
    account = account;
  },
)

-- ---- the first wrong entry

-- fine entries lead to one terminal
AreFine-unique : (p : ℕ) (session : PlainSession) (before : List PlainEntry) (t : Terminal) (es : List PlainEntry)
    (u v : Terminal)
    → AreFine p session before t es u
    → AreFine p session before t es v
    → u ≡ v
AreFine-unique p session before t [] u v first second = first ∙ sym second
AreFine-unique p session before t (e ∷ es) u v first second =
    AreFine-unique p session (before ++ e ∷ []) (after (call_at p session) t e) es u v first.1 second.1

record IsFineAt (p : ℕ) (session : PlainSession) (before : List PlainEntry) (t : Terminal) (es : List PlainEntry)
    (e : PlainEntry) : Type 0 where
  terminal : Terminal
  fine : AreFine p session before t es terminal
  entry : IsFine p session (before ++ es) terminal e

-- each entry of fine ones is fine after those before it
fine_at : (p : ℕ) (session : PlainSession) (before : List PlainEntry) (t : Terminal) (es : List PlainEntry)
    (e : PlainEntry) (rest : List PlainEntry) (u : Terminal)
    → AreFine p session before t (es ++ e ∷ rest) u
    → IsFineAt p session before t es e
fine_at p session before t [] e rest u fine = record {
  terminal = t;
  fine = refl;
  entry = subst (λ (xs : List PlainEntry). IsFine p session xs t e) (sym (append-nil before)) fine.0;
}
fine_at p session before t (x ∷ es) e rest u fine =
    let at = fine_at p session (before ++ x ∷ []) (after (call_at p session) t x) es e rest u fine.1 in
    record {
      terminal = at.terminal;
      fine = (fine.0, at.fine);
      entry = subst (λ (xs : List PlainEntry). IsFine p session xs at.terminal e) (append_assoc before (x ∷ []) es)
          at.entry;
    }

-- where entries are fine none of them is the first wrong one
never_wrong : (p : ℕ) (session : PlainSession) (journal : List PlainEntry) (n : ℕ) (es rest : List PlainEntry)
    (u : Terminal) (wrong : IsFirstWrong p session journal n)
    → AreFineTo p session es u
    → es ≡ wrong.before ++ wrong.entry ∷ rest
    → ⊥
never_wrong p session journal n es rest u wrong fine parts =
    let whole : AreFineTo p session (wrong.before ++ wrong.entry ∷ rest) u =
    subst (λ (xs : List PlainEntry). AreFineTo p session xs u) parts fine in
    let at = fine_at p session [] (opening_of p session) wrong.before wrong.entry rest u whole in
    let same : at.terminal ≡ wrong.terminal =
    AreFine-unique p session [] (opening_of p session) wrong.before at.terminal wrong.terminal at.fine wrong.fine in
    wrong.wrong (subst (λ (t : Terminal). IsFine p session wrong.before t wrong.entry) same at.entry)

pub no_wrong_not_wrong : (p : ℕ) (session : PlainSession) (journal : List PlainEntry) (n : ℕ)
    → HasNoWrong p session journal
    → IsFirstWrong p session journal n
    → ⊥
no_wrong_not_wrong p session journal n (u, fine) wrong =
    never_wrong p session journal n journal wrong.rest u wrong fine wrong.parts

-- of two places in a list the one further on has the nearer before it
nearer : (xs ys : List PlainEntry) (x y : PlainEntry) (more rest : List PlainEntry)
    → xs ++ x ∷ more ≡ ys ++ y ∷ rest
    → length xs < length ys
    → (between : List PlainEntry) × (ys ≡ xs ++ x ∷ between)
nearer [] [] x y more rest same lt = absurd (omega arith)
nearer [] (z ∷ ys) x y more rest same lt = let head : z ≡ x = cc in (ys, ap (λ (w : PlainEntry). w ∷ ys) head)
nearer (w ∷ xs) [] x y more rest same lt = absurd (omega arith)
nearer (w ∷ xs) (z ∷ ys) x y more rest same lt =
    let head : z ≡ w = cc in
    let tail : xs ++ x ∷ more ≡ ys ++ y ∷ rest = cc in
    let found = nearer xs ys x y more rest tail (omega arith) in
    (found.0, (λ i. head i ∷ found.1 i))

wrong_at_less : (p : ℕ) (session : PlainSession) (journal : List PlainEntry) (n m : ℕ)
    → IsFirstWrong p session journal n
    → IsFirstWrong p session journal m
    → n < m
    → ⊥
wrong_at_less p session journal n m first second less =
    let lt : length first.before < length second.before = omega (arith, first.place, second.place) in
    let found = nearer first.before second.before first.entry second.entry first.rest second.rest
    (sym first.parts ∙ second.parts) lt in
    never_wrong p session journal n second.before found.0 second.terminal first second.fine found.1

wrong_at_one : (p : ℕ) (session : PlainSession) (journal : List PlainEntry) (n m : ℕ)
    → IsFirstWrong p session journal n
    → IsFirstWrong p session journal m
    → n ≡ m
wrong_at_one p session journal n m first second =
    elim (cases_lt n m) [
      | inl less ↦ absurd (wrong_at_less p session journal n m first second less)
      | inr most ↦ elim (cases_lt m n) [
        | inl more ↦ absurd (wrong_at_less p session journal m n second first more)
        | inr least ↦ omega arith
      ]
    ]

-- ---- two verdicts

one_run : (runs : List PortRun) (p : ℕ) (a b : PortRun) → slice_get runs p ≡ Some a → slice_get runs p ≡ Some b → a ≡ b
one_run runs p a b first second = let same : Some a ≡ Some b = sym first ∙ second in cc

wrong_and_wrong : (session : PlainSession) (runs : List PortRun) (p n q m : ℕ)
    → FirstIsWrong session runs p n
    → FirstIsWrong session runs q m
    → p < q
    → ⊥
wrong_and_wrong session runs p n q m first second less =
    no_wrong_not_wrong p session first.run.journal.items n (second.before p less first.run first.is_run) first.wrong

same_wrong : (session : PlainSession) (runs : List PortRun) (p n q m : ℕ)
    → FirstIsWrong session runs p n
    → FirstIsWrong session runs q m
    → p ≡ q
    → Wrong p n ≡ Wrong q m
same_wrong session runs p n q m first second same =
    let run : first.run ≡ second.run =
    one_run runs p first.run second.run first.is_run (ap (slice_get runs) same ∙ second.is_run) in
    let moved : IsFirstWrong p session second.run.journal.items n =
    subst (λ (r : PortRun). IsFirstWrong p session r.journal.items n) run first.wrong in
    let there : IsFirstWrong q session second.run.journal.items n =
    subst (λ (k : ℕ). IsFirstWrong k session second.run.journal.items n) same moved in
    let place : n ≡ m = wrong_at_one q session second.run.journal.items n m there second.wrong in
    (λ i. Wrong (same i) (place i))

legal_not_wrong : (session : PlainSession) (runs : List PortRun) (p n : ℕ)
    → AreLegal session runs
    → FirstIsWrong session runs p n
    → ⊥
legal_not_wrong session runs p n legal wrong =
    no_wrong_not_wrong p session wrong.run.journal.items n
    (no_wrong_if_legal p session wrong.run (legal.each p wrong.run wrong.is_run)) wrong.wrong

account_not_wrong : (session : PlainSession) (runs : List PortRun) (p n q : ℕ)
    → FirstIsWrong session runs p n
    → FirstIsNotLegal session runs q
    → ⊥
account_not_wrong session runs p n q wrong account =
    no_wrong_not_wrong p session wrong.run.journal.items n (account.no_wrong p wrong.run wrong.is_run) wrong.wrong

legal_not_account : (session : PlainSession) (runs : List PortRun) (p : ℕ)
    → AreLegal session runs
    → FirstIsNotLegal session runs p
    → ⊥
legal_not_account session runs p legal account = account.not_legal (legal.each p account.run account.is_run)

account_and_account : (session : PlainSession) (runs : List PortRun) (p q : ℕ)
    → FirstIsNotLegal session runs p
    → FirstIsNotLegal session runs q
    → p < q
    → ⊥
account_and_account session runs p q first second less = first.not_legal (second.before p less first.run first.is_run)

pub one_verdict : (session : PlainSession) (runs : List PortRun) (v w : Verdict)
    → VerdictFits session runs v
    → VerdictFits session runs w
    → v ≡ w
one_verdict session runs Legal Legal first second = refl
one_verdict session runs Legal (Wrong q m) first second = absurd (legal_not_wrong session runs q m first second)
one_verdict session runs Legal (Account q) first second = absurd (legal_not_account session runs q first second)
one_verdict session runs (Wrong p n) Legal first second = absurd (legal_not_wrong session runs p n second first)
one_verdict session runs (Wrong p n) (Wrong q m) first second =
    elim (cases_lt p q) [
      | inl less ↦ absurd (wrong_and_wrong session runs p n q m first second less)
      | inr most ↦ elim (cases_lt q p) [
        | inl more ↦ absurd (wrong_and_wrong session runs q m p n second first more)
        | inr least ↦ same_wrong session runs p n q m first second (omega arith)
      ]
    ]
one_verdict session runs (Wrong p n) (Account q) first second =
    absurd (account_not_wrong session runs p n q first second)
one_verdict session runs (Account p) Legal first second = absurd (legal_not_account session runs p second first)
one_verdict session runs (Account p) (Wrong q m) first second =
    absurd (account_not_wrong session runs q m p second first)
one_verdict session runs (Account p) (Account q) first second =
    elim (cases_lt p q) [
      | inl less ↦ absurd (account_and_account session runs p q first second less)
      | inr most ↦ elim (cases_lt q p) [
        | inl more ↦ absurd (account_and_account session runs q p second first more)
        | inr least ↦ (let same : p ≡ q = omega arith in λ i. Account (same i))
      ]
    ]
