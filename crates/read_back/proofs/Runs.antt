-- Legal runs can be printed, and what is printed of them is read back.
use Rattle.std.proofs.Common.{◌≡◌, ℕ, suc, ◌+◌, ◌≤◌, Some, List, [], ◌∷◌, ◌++◌, length}
use Rattle.std.proofs.Common.{map, sum, slice_get, refl, sym, ap, subst, arith}
use Rattle.std.specs.List.{range_with_len}
use Rattle.tty_base.specs.Sizes.{MOST_ARRIVALS}
use Rattle.tty_base.specs.declared.characters.Flagged.{Flagged}
use Rattle.tty_base.specs.declared.lines.Overrun.{Overrun}
use Rattle.tty_base.specs.Lines.{arrival_count}
use Rattle.tty_calls.specs.declared.journals.PortRun.{PortRun}
use Rattle.tty_calls.specs.Sessions.{PlainSession, call_at, counts_on}
use Rattle.ldisc_switch.specs.declared.kinds.Kind.TheVariants as kind
use Rattle.uart_line.specs.Received.{received_list}
use Rattle.uart_line.specs.Offered.{kept_list}
use Rattle.uart_line.proofs.Arrivals.{received_few}
use Rattle.tty_terminal.specs.declared.callers.CallerState.{CallerState}
use Rattle.tty_terminal.specs.Terminals.{Terminal, opening}
use Rattle.tty_terminal.specs.Runs.{chars_of}
use Rattle.tty_terminal.specs.Standing.{standing_of}
use Rattle.tty_terminal.proofs.CallerLists.{all_idle}
use Rattle.session_text.specs.Grammar.{Spells as SpellsSession}
use Rattle.session_print.specs.Lines.{newline}
use Rattle.legal_runs.specs.Legal.{flip_on, script_on, IsLegal}
use Rattle.legal_runs.specs.Ports.{OfRun, AreLegal}
use Rattle.journal_bound.proofs.Characters.{kept_few}
use Rattle.journal_bound.proofs.Spent.{IsSound}
use Rattle.journal_bound.proofs.Steps.{own}
use Rattle.check_text.specs.Callers.{callers_on}
use Rattle.check_text.specs.Grammar.{most, Spells}
use Rattle.check_text.specs.Printed.{IsRunOf, AreRunsOf, text_after}
use Rattle.check_text.specs.Runs.{run_of}
use Rattle.check_text.proofs.PrintedTexts.{printed_back}
use Rattle.read_back.proofs.Outcomes.{IsSized, sane_are, fresh_is}
use Rattle.read_back.proofs.Received.{AreByteChars, run_bytes, few_arrive, lost_few, few_overruns, overruns_within}
use Rattle.read_back.proofs.Sessions.{IsPrintable, printable}
use Rattle.read_back.proofs.Places.{Place, entries_are}

-- ---- a run

first_sized : (callers capacity : ℕ) → IsSized 0 (opening callers capacity)
first_sized callers capacity = record {
  modes = sane_are;
  counts = record {
    mark = omega arith;
    parity = omega arith;
    frame = omega arith;
    breaks = omega arith;
    cut = omega arith;
    echo = omega arith;
    pin = omega arith;
    pout = omega arith;
    pbad = omega arith;
    pfull = omega arith;
  };
  disc = fresh_is 0 kind.Tty;
  held = omega arith;
}

first_place : (p : ℕ) (session : PlainSession)
    → Place p session [] (opening (sum (counts_on p session)) (flip_on p session))
first_place p session =
    let n : ℕ = sum (counts_on p session) in
    record {
      run = refl;
      sound = λ c. subst (λ (s : CallerState). IsSound (call_at p session c) (own p session c) 0 (standing_of s))
          (sym (all_idle n c)) (record { paid = omega arith; waits = omega arith; over = omega arith });
      sized = first_sized n (flip_on p session);
      piece = tt;
    }

run_is : (p : ℕ) (session : PlainSession) (run : PortRun) (t : Terminal)
    → IsPrintable p session
    → IsLegal p session run t
    → length run.journal.items ≤ most
    → IsRunOf (callers_on p session) (run_of run)
run_is p session run t h legal few =
    let overruns : List Overrun = run.line.overruns.items in
    let account = legal.account in
    let arrived : arrival_count (script_on p session) ≤ MOST_ARRIVALS = few_arrive p session h.limits in
    let received : length (received_list (script_on p session)) ≤ arrival_count (script_on p session) =
    received_few (script_on p session) in
    let kept : length (kept_list (received_list (script_on p session)) overruns)
    ≤ length (received_list (script_on p session)) = kept_few 0 (received_list (script_on p session)) overruns in
    let small : AreByteChars (chars_of run.journal.items) =
    subst AreByteChars (sym account.chars) (run_bytes p session overruns h.phases) in
    let taken : length (chars_of run.journal.items)
    ≡ length (kept_list (received_list (script_on p session)) overruns) =
    ap (λ (cs : List Flagged). length cs) account.chars in
    let many : length overruns ≤ MOST_ARRIVALS =
    few_overruns p session (flip_on p session) 0 0 MOST_ARRIVALS run.journal.items overruns
    (omega (arith, received, arrived))
    account.shown account.seen in
    record {
      entries = entries_are p session h [] (opening (sum (counts_on p session)) (flip_on p session)) run.journal.items t
          (first_place p session) legal.on_the_way.steps legal.on_the_way.in_phases small (omega (arith, few))
          (omega (arith, taken, kept, received, arrived));
      within = record {
        entries = few;
        overruns = omega (arith, many);
        each = overruns_within p session (flip_on p session) 0 0 run.journal.items overruns
            (omega (arith, received, arrived)) account.shown account.seen;
        arrived = omega (arith, account.arrived, arrived);
        lost = omega (arith, account.fifo_lost, lost_few (script_on p session), arrived);
        sent = omega (arith, account.sent, kept, received, arrived);
      };
    }

pub can_be_printed : (text : List ℕ) (session : PlainSession) (p : ℕ) (run : PortRun) (t : Terminal)
    → SpellsSession text session
    → IsLegal p session run t
    → length run.journal.items ≤ most
    → IsRunOf (callers_on p session) (run_of run)
can_be_printed text session p run t spelled legal few =
    run_is p session run t (printable text session p spelled) legal few

-- ---- all runs

runs_from : (session : PlainSession) (k : ℕ) (runs : List PortRun)
    → ((i : ℕ) (run : PortRun) → slice_get runs i ≡ Some run → IsRunOf (callers_on (k + i) session) (run_of run))
    → AreRunsOf (map (λ port. callers_on port session) (range_with_len k (length runs))) (map run_of runs)
runs_from session k [] each = tt
runs_from session k (run ∷ runs) each =
    let here : k + 0 ≡ k = omega arith in (
      subst (λ (p : ℕ). IsRunOf (callers_on p session) (run_of run)) here (each 0 run refl),
      runs_from session (k + 1) runs
          (λ i other e.
          let next : k + suc i ≡ k + 1 + i = omega arith in
          subst (λ (p : ℕ). IsRunOf (callers_on p session) (run_of other)) next (each (suc i) other e)),
    )

pub are_read_back : (text : List ℕ) (session : PlainSession) (runs : List PortRun)
    → SpellsSession text session
    → length runs ≡ session.ports
    → AreLegal session runs
    → ((p : ℕ) → OfRun runs p (λ run. length run.journal.items ≤ most))
    → Spells (text ++ (newline ++ text_after session runs)) session (map run_of runs)
are_read_back text session runs spelled many legal few =
    let each : AreRunsOf (map (λ port. callers_on port session) (range_with_len 0 (length runs))) (map run_of runs) =
    runs_from session 0 runs
    (λ i run e. let is = legal.each i run e in
    let here : i ≡ 0 + i = omega arith in
    subst (λ (p : ℕ). IsRunOf (callers_on p session) (run_of run)) here
    (can_be_printed text session i run is.0 spelled is.1 (few i run e))) in
    printed_back text session runs spelled
    (subst (λ (n : ℕ). AreRunsOf (map (λ port. callers_on port session) (range_with_len 0 n)) (map run_of runs))
    many each)
