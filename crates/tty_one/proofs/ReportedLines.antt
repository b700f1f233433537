-- The lines of a report: one for each call, with the answer of its one entry.
use Rattle.std.proofs.Common.{◌≡◌, ℕ, zero, suc, ◌+◌, Bool, List, [], ◌∷◌, ◌++◌, Some}
use Rattle.std.proofs.Common.{length, map, slice_get, refl, sym, ap, subst, ◌∙◌, arith}
use Rattle.std.specs.List.{AllZip, concat}
use Rattle.tty_calls.specs.declared.journals.PortRun.{PortRun}
use Rattle.tty_calls.specs.Plain.{PlainAnswer}
use Rattle.tty_calls.specs.Sessions.{PlainSession}
use Rattle.tty_terminal.specs.Terminals.{Terminal}
use Rattle.session_print.specs.Laws.{IsLineOf, TellsEachCall}
use Rattle.session_print.specs.Report.{ToldCall, told_on, calls_text, calls_from}
use Rattle.legal_runs.specs.Legal.{IsLegal}
use Rattle.tty_one.specs.declared.playing.Telling.TheVariants.{Report}
use Rattle.tty_one.specs.Reported.{IsReported}
use Rattle.tty_one.specs.Outcome.{IsOnlyLineOf, AreLinesOf, TellsEachOnce, after_calls}
use Rattle.tty_one.proofs.Answered.{answered_once}
use Rattle.tty_one.proofs.PortLemmas.{there_too}

same_in_some : {X : Type 0} (a b : X) → Some a ≡ Some b → a ≡ b
same_in_some a b h = cc

-- ---- one port

module _ (p : ℕ) (session : PlainSession) (run : PortRun) (t : Terminal) (legal : IsLegal p session run t) where
  only_line : (told : ToldCall) (line : List ℕ)
      → IsLineOf p session run.journal.items told line
      → IsOnlyLineOf p session run.journal.items told line
  only_line told line h =
      let one = answered_once p session run t legal h.caller told.step told.call h.called in
      let same : one.answer ≡ h.answer = same_in_some one.answer h.answer (sym one.printed ∙ h.answered) in
      record { tells = h; once = one.once ∙ ap (λ (a : PlainAnswer). a ∷ []) same }

  only_lines : (told : List ToldCall) (lines : List (List ℕ))
      → AllZip (IsLineOf p session run.journal.items) told lines
      → AllZip (IsOnlyLineOf p session run.journal.items) told lines
  only_lines [] [] h = h
  only_lines [] (line ∷ lines) h = h
  only_lines (one ∷ told) [] h = h
  only_lines (one ∷ told) (line ∷ lines) h = (only_line one line h.0, only_lines told lines h.1)

  port_lines : TellsEachCall
      → (lines : List (List ℕ)) × (calls_text p session run ≡ concat lines) × AreLinesOf p session run lines
  port_lines tells =
      let found = tells p session run
      (λ c step call is. let one = answered_once p session run t legal c step call is in (one.answer, one.printed)) in
      (found.0, found.1, only_lines (told_on p session) found.0 found.2)

-- ---- all ports

-- a run that is legal, of some terminal
record IsSomeLegal (p : ℕ) (session : PlainSession) (run : PortRun) : Type 0 where
  terminal : Terminal
  legal : IsLegal p session run terminal

-- the lines of runs, from this port on
record HasLines (session : PlainSession) (p : ℕ) (runs : List PortRun) : Type 0 where
  ports : List (List (List ℕ))
  of_all : length ports ≡ length runs
  each : (k q : ℕ) (run : PortRun) (lines : List (List ℕ))
      → q ≡ p + k
      → slice_get runs k ≡ Some run
      → slice_get ports k ≡ Some lines
      → AreLinesOf q session run lines
  told : calls_from p session runs ≡ concat (map concat ports)

same_lines : (session : PlainSession) (p q : ℕ) (run other : PortRun) (lines others : List (List ℕ))
    → q ≡ p
    → Some run ≡ Some other
    → Some lines ≡ Some others
    → AreLinesOf p session run lines
    → AreLinesOf q session other others
same_lines session p q run other lines others at is there h =
    subst (λ (ls : List (List ℕ)). AreLinesOf q session other ls) (same_in_some lines others there) (
    subst (λ (r : PortRun). AreLinesOf q session r lines) (same_in_some run other is)
    (subst (λ (n : ℕ). AreLinesOf n session run lines) (sym at) h)
    )

lines_from : TellsEachCall → (session : PlainSession) (p : ℕ) (runs : List PortRun)
    → ((k q : ℕ) (run : PortRun) → q ≡ p + k → slice_get runs k ≡ Some run → IsSomeLegal q session run)
    → HasLines session p runs
lines_from tells session p [] legal =
    record { ports = []; of_all = refl; each = λ k q run lines at is there. absurd (cc); told = refl }
lines_from tells session p (run ∷ runs) legal =
    let own = legal zero p run (omega arith) refl in
    let here = port_lines p session run own.terminal own.legal tells in
    let later = lines_from tells session (p + 1) runs (λ k q r at is. legal (suc k) q r (omega (arith, at)) is) in
    record {
      ports = here.0 ∷ later.ports;
      of_all = ap suc later.of_all;
      each = each_of here.0 later.ports here.2 later.each;
      told =
          ap (λ (x : List ℕ). x ++ calls_from (p + 1) session runs) here.1
          ∙ ap (λ (x : List ℕ). concat here.0 ++ x) later.told;
    }
  where
    each_of : (own : List (List ℕ)) (ports : List (List (List ℕ)))
        → AreLinesOf p session run own
        → ((k q : ℕ) (r : PortRun) (lines : List (List ℕ))
        → q ≡ p + 1 + k
        → slice_get runs k ≡ Some r
        → slice_get ports k ≡ Some lines
        → AreLinesOf q session r lines)
        → (k q : ℕ) (r : PortRun) (lines : List (List ℕ))
        → q ≡ p + k
        → slice_get (run ∷ runs) k ≡ Some r
        → slice_get (own ∷ ports) k ≡ Some lines
        → AreLinesOf q session r lines
    each_of own ports h more zero q r lines at is there =
        same_lines session p q run r own lines (omega (arith, at)) is there h
    each_of own ports h more (suc k) q r lines at is there = more k q r lines (omega (arith, at)) is there

pub each_once : (InOrder : ℕ → PlainSession → PortRun → Type 0) → TellsEachCall
    → (journals : Bool) (session : PlainSession) (runs : List PortRun) (text : List ℕ)
    → IsReported InOrder (Report journals) session runs text
    → TellsEachOnce journals session runs text
each_once InOrder tells journals session runs text h =
    let found = lines_from tells session 0 runs legal in
    record {
      ports = found.ports;
      ends = h.ends;
      of_all = found.of_all;
      each = λ p run lines is there. found.each p p run lines (omega arith) is there;
      told = h.told ∙ ap (λ (x : List ℕ). x ++ after_calls journals session runs h.ends) found.told;
    }
  where
    legal : (k q : ℕ) (run : PortRun) → q ≡ 0 + k → slice_get runs k ≡ Some run → IsSomeLegal q session run
    legal k q run at is =
        let end = there_too runs h.ends k run (h.runs_of_all ∙ sym h.ends_of_all) is in
        let whole = h.each k run end.0 is end.1 in
        record {
          terminal = whole.terminal;
          legal = subst (λ (n : ℕ). IsLegal n session run whole.terminal) (omega (arith, at)) whole.legal;
        }
