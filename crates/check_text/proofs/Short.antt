-- A journal that a text spells has no more entries than the text has bytes.
use Rattle.std.proofs.Common.{◌≡◌, ℕ, suc, ◌+◌, ◌≤◌, List, [], ◌∷◌, ◌++◌, Bool, true, false, not}
use Rattle.std.proofs.Common.{if◌then◌else◌, length, map, filter, codes, Ok, refl, ap, arith, length-append}
use Rattle.std.specs.List.{AllByRecursion, All, onto_first}
use Rattle.std.proofs.lemmas.List.{length-map}
use Rattle.std.proofs.lemmas.List.Elements.{All-from_recursion}
use Rattle.std.proofs.lemmas.List.Filters.{length-filter_both}
use Rattle.std.proofs.lemmas.Slice.Zip.{AllZip-long}
use Rattle.tty_calls.specs.declared.journals.PortRun.{PortRun}
use Rattle.tty_calls.specs.Plain.{PlainEntry}
use Rattle.tty_calls.specs.Sessions.{PlainSession}
use Rattle.text_lines.specs.Lines.{is_newline, lines_of, words_of, says}
use Rattle.session_text.specs.Refusals.{lines_in}
use Rattle.session_text.specs.Grammar.{item_words, session_items}
use Rattle.check_text.specs.Callers.{PlainCallers}
use Rattle.check_text.specs.Entries.{entry_in}
use Rattle.check_text.specs.Grammar.{heading_words, overrun_words, numbers_words, run_lines}
use Rattle.check_text.specs.Grammar.{runs_lines, journals_lines, AreJournals, Spells}
use Rattle.check_text.specs.Journals.{callers_by_port}
use Rattle.check_text.specs.Runs.{PlainRun, run_of}

-- ---- lines, and those that say something

onto_first_long : (byte : ℕ) (lines : List (List ℕ)) (n : ℕ) → length lines ≤ n → length (onto_first byte lines) ≤ suc n
onto_first_long byte [] n h = omega arith
onto_first_long byte (line ∷ lines) n h = omega (arith, h)

one_more : (newline : Bool) (byte : ℕ) (lines : List (List ℕ)) (n : ℕ)
    → length lines ≤ n
    → length (if newline then [] ∷ lines else onto_first byte lines) ≤ suc n
one_more true byte lines n h = omega (arith, h)
one_more false byte lines n h = onto_first_long byte lines n h

few_lines : (text : List ℕ) → length (lines_of text) ≤ length text
few_lines [] = omega arith
few_lines (byte ∷ bytes) = one_more (is_newline byte) byte (lines_of bytes) (length bytes) (few_lines bytes)

few_filtered : (lines : List (List (List ℕ))) → length (filter says lines) ≤ length lines
few_filtered lines = omega (arith, length-filter_both says (λ line. not (says line)) (λ line. refl) lines)

-- ---- the journals among them

front_long : (port : ℕ) (lines : List (List (List ℕ))) (run : PlainRun)
    → length lines ≤ length (run_lines port lines run)
front_long port lines run =
    let rest =
    heading_words (codes "overruns") port (length run.overruns)
    ∷ (map overrun_words run.overruns ++ numbers_words port run ∷ []) in
    omega (arith, length-append lines rest)

short_runs : (n port : ℕ) (callers : List PlainCallers) (entries : List (List (List (List ℕ)))) (runs : List PlainRun)
    → AreJournals callers entries runs
    → length (runs_lines port entries runs) ≤ n
    → AllByRecursion (λ run. length run.journal ≤ n) runs
short_runs n port [] [] [] h few = tt
short_runs n port [] [] (run ∷ runs) h few = absurd h
short_runs n port [] (lines ∷ others) runs h few = absurd h
short_runs n port (c ∷ callers) [] runs h few = absurd h
short_runs n port (c ∷ callers) (lines ∷ others) [] h few = absurd h
short_runs n port (c ∷ callers) (lines ∷ others) (run ∷ runs) h few =
    let long : length run.journal ≡ length lines =
    AllZip-long (λ (words : List (List ℕ)) (entry : PlainEntry). entry_in c words ≡ Ok entry) lines run.journal h.0 in
    let rest = runs_lines (port + 1) others runs in
    let both = length-append (run_lines port lines run) rest in
    let first = front_long port lines run in
    (omega (arith, long, both, first, few), short_runs n (port + 1) callers others runs h.1 (omega (arith, both, few)))

-- a run that a text spells is no longer than the text
pub runs_short : (text : List ℕ) (session : PlainSession) (runs : List PlainRun)
    → Spells text session runs
    → AllByRecursion (λ run. length run.journal ≤ length text) runs
runs_short text session runs h =
    let spoken = ap (λ (lines : List (List (List ℕ))). length lines) h.words in
    let both = length-append (map item_words (session_items h.written)) (journals_lines h.entries runs) in
    let after = length-append (runs_lines 0 h.entries runs) ((codes "done" ∷ []) ∷ []) in
    let lines = length-map (lines_of text) words_of in
    short_runs (length text) 0 (callers_by_port session) h.entries runs h.journals
    (omega (arith, spoken, both, after, few_filtered (lines_in text), lines, few_lines text))

short_of : (n : ℕ) (runs : List PortRun)
    → AllByRecursion (λ run. length run.journal ≤ n) (map run_of runs)
    → AllByRecursion (λ run. length run.journal.items ≤ n) runs
short_of n [] h = tt
short_of n (run ∷ runs) h = (h.0, short_of n runs h.1)

pub spelled_short : (text : List ℕ) (session : PlainSession) (runs : List PortRun)
    → Spells text session (map run_of runs)
    → All (λ run. length run.journal.items ≤ length text) runs
spelled_short text session runs h = All-from_recursion (λ (run : PortRun). length run.journal.items ≤ length text) runs
    (short_of (length text) runs (runs_short text session (map run_of runs) h))
