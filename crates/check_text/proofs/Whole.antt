-- The lines of all journals and what is read of them, each way.
use Rattle.std.proofs.Common.{◌≡◌, ℕ, suc, ◌+◌, ◌≤◌, cond, List, [], ◌∷◌, ◌++◌, Some, Ok, length, map, codes, refl}
use Rattle.std.proofs.Common.{ap, sym, ◌∙◌, arith, append_assoc, append-nil, length-append, slice_get, subst}
use Rattle.std.specs.List.{AllByRecursion}
use Rattle.tty_base.specs.declared.lines.Overrun.{Overrun}
use Rattle.tty_calls.specs.Plain.{PlainEntry}
use Rattle.tty_calls.specs.Sessions.{PlainSession}
use Rattle.check_text.specs.declared.journals.Due.{Due}
use Rattle.check_text.specs.declared.journals.Due.TheVariants as due
use Rattle.check_text.specs.declared.entries.LineNumbers.{LineNumbers}
use Rattle.check_text.specs.Fields.{◌>>=◌}
use Rattle.check_text.specs.Callers.{PlainCallers}
use Rattle.check_text.specs.Entries.{fixed_in, heading_in, numbers_in}
use Rattle.check_text.specs.Journals.{PlainJournals, callers_by_port, first_journals}
use Rattle.check_text.specs.Journals.{run_due, entries_due, overruns_due, line_by, with_run}
use Rattle.check_text.specs.Runs.{PlainRun}
use Rattle.check_text.specs.Grammar.{heading_words, overrun_words, numbers_words, run_lines, runs_lines}
use Rattle.check_text.specs.Grammar.{journals_lines, AreEntries, AreJournals, most, IsRunWithin}
use Rattle.check_text.proofs.Truths.{lt-ltb, ge-ltb}
use Rattle.check_text.proofs.Lines.{both_read, then_read, fixed_read, fixed_back, heading_read}
use Rattle.check_text.proofs.Lines.{heading_back, AreSmall, line_words, numbers_read, numbers_back}
use Rattle.check_text.proofs.Walks.{then_reads, reads, at, one_line, entries_read}
use Rattle.check_text.proofs.Walks.{entries_back, overruns_read, overruns_back}

abbrev Line : Type 0
Line = List (List ℕ)

pub regroup : (entries overruns rest : List Line) (heading numbers : Line)
    → (entries ++ heading ∷ (overruns ++ numbers ∷ [])) ++ rest ≡ entries ++ heading ∷ (overruns ++ numbers ∷ rest)
regroup entries overruns rest heading numbers =
    append_assoc entries (heading ∷ (overruns ++ numbers ∷ [])) rest
    ∙ ap (λ (ls : List Line). entries ++ heading ∷ ls) (append_assoc overruns (numbers ∷ []) rest)

-- ---- the lines that stand alone

record HeadingLine (text : List ℕ) (due_by : ℕ → Due) (callers : List PlainCallers) (runs : List PlainRun)
    (entries : List PlainEntry) (words : Line) (next : PlainJournals) : Type 0 where
  count : ℕ
  is : words ≡ heading_words text (length runs) count
  few : count ≤ most
  leads : next ≡ at callers (due_by count) runs entries []

heading_line : (text : List ℕ) (due_by : ℕ → Due) (callers : List PlainCallers) (runs : List PlainRun)
    (entries : List PlainEntry) (words : Line) (next : PlainJournals)
    → (heading_in text (length runs) words >>= λ n. Ok (at callers (due_by n) runs entries [])) ≡ Ok next
    → HeadingLine text due_by callers runs entries words next
heading_line text due_by callers runs entries words next h =
    let parts =
    both_read (heading_in text (length runs) words) (λ n. Ok (at callers (due_by n) runs entries [])) next h in
    let printed = heading_read text (length runs) words parts.value parts.here in
    record { count = parts.value; is = printed.0; few = printed.1; leads = (let e = parts.there in cc) }

record NumbersLine (callers : List PlainCallers) (runs : List PlainRun) (entries : List PlainEntry)
    (overruns : List Overrun) (words : Line) (next : PlainJournals) : Type 0 where
  numbers : LineNumbers
  is : words ≡ line_words (length runs) numbers
  small : AreSmall numbers
  leads : next ≡ with_run (at callers due.Numbers runs entries overruns) numbers

numbers_line : (callers : List PlainCallers) (runs : List PlainRun) (entries : List PlainEntry)
    (overruns : List Overrun) (words : Line) (next : PlainJournals)
    → line_by (at callers due.Numbers runs entries overruns) due.Numbers words ≡ Ok next
    → NumbersLine callers runs entries overruns words next
numbers_line callers runs entries overruns words next h =
    let parts = both_read (numbers_in (length runs) words)
    (λ n. Ok (with_run (at callers due.Numbers runs entries overruns) n)) next h in
    let printed = numbers_read (length runs) words parts.value parts.here in
    record { numbers = parts.value; is = printed.0; small = printed.1; leads = (let e = parts.there in cc) }

-- ---- a run

record RunRead (callers : List PlainCallers) (own : PlainCallers) (runs final : List PlainRun)
    (lines : List Line) : Type 0 where
  own_lines : List Line
  run : PlainRun
  rest : List Line
  parts : lines ≡ run_lines (length runs) own_lines run ++ rest
  are : AreEntries own own_lines run.journal
  within : IsRunWithin run
  later : reads (at callers (run_due (length callers) (length runs + 1)) (runs ++ run ∷ []) [] []) rest ≡ Some final

abbrev run_made : List PlainEntry → List Overrun → LineNumbers → PlainRun
run_made entries overruns n =
    record { journal = entries; overruns = overruns; arrived = n.arrived; lost = n.lost; sent = n.sent }

run_read : (callers : List PlainCallers) (own : PlainCallers) (runs final : List PlainRun) (lines : List Line)
    → slice_get callers (length runs) ≡ Some own
    → reads (at callers due.Journal runs [] []) lines ≡ Some final
    → RunRead callers own runs final lines
run_read callers own runs final lines mine h =
    let port = length runs in
    let one = one_line (at callers due.Journal runs [] []) lines final refl h in
    let first = heading_line (codes "journal") entries_due callers runs [] one.words one.next one.read in
    let es = entries_read first.count callers own runs final [] [] one.rest mine
    (sym (ap (λ j. reads j one.rest) first.leads) ∙ one.later) in
    let two = one_line (at callers due.Overruns runs es.more []) es.rest final refl es.later in
    let second = heading_line (codes "overruns") overruns_due callers runs es.more two.words two.next two.read in
    let os = overruns_read second.count callers runs final es.more [] two.rest
    (sym (ap (λ j. reads j two.rest) second.leads) ∙ two.later) in
    let three = one_line (at callers due.Numbers runs es.more os.more) os.rest final refl os.later in
    let last = numbers_line callers runs es.more os.more three.words three.next three.read in
    let run = run_made es.more os.more last.numbers in
    let numbers = numbers_words port run in
    let heading = heading_words (codes "overruns") port (length os.more) in
    let head : one.words ≡ heading_words (codes "journal") port (length es.more) =
    first.is ∙ ap (heading_words (codes "journal") port) (sym es.count) in
    let end : os.rest ≡ numbers ∷ three.rest = three.parts ∙ ap (λ (w : Line). w ∷ three.rest) last.is in
    let middle : es.rest ≡ heading ∷ (map overrun_words os.more ++ numbers ∷ three.rest) =
    two.parts
    ∙ ap (λ (w : Line). w ∷ two.rest) (second.is ∙ ap (heading_words (codes "overruns") port) (sym os.count))
    ∙ ap (λ (ls : List Line). heading ∷ ls) (os.parts ∙ ap (λ (ls : List Line). map overrun_words os.more ++ ls) end) in
    record {
      own_lines = es.own_lines;
      run = run;
      rest = three.rest;
      parts = one.parts ∙ ap (λ (w : Line). w ∷ one.rest) head
          ∙ ap (λ (ls : List Line). heading_words (codes "journal") port (length es.more) ∷ ls)
          (es.parts
          ∙ ap (λ (ls : List Line). es.own_lines ++ ls) middle
          ∙ sym (regroup es.own_lines (map overrun_words os.more) three.rest heading numbers));
      are = es.are;
      within = record {
        entries = omega (arith, first.few, es.count);
        overruns = omega (arith, second.few, os.count);
        each = os.within;
        arrived = last.small.arrived;
        lost = last.small.lost;
        sent = last.small.sent;
      };
      later = sym (ap (λ j. reads j three.rest) last.leads) ∙ three.later;
    }

run_back : (callers : List PlainCallers) (own : PlainCallers) (runs : List PlainRun) (own_lines rest : List Line)
    (run : PlainRun)
    → slice_get callers (length runs) ≡ Some own
    → AreEntries own own_lines run.journal
    → IsRunWithin run
    → length runs ≤ most
    → reads (at callers due.Journal runs [] []) (run_lines (length runs) own_lines run ++ rest)
    ≡ reads (at callers (run_due (length callers) (length runs + 1)) (runs ++ run ∷ []) [] []) rest
run_back callers own runs own_lines rest run mine are within small =
    let port = length runs in
    let overruns = map overrun_words run.overruns in
    let heading = heading_words (codes "overruns") port (length run.overruns) in
    let numbers = numbers_words port run in
    let first_line = then_read
    (heading_in (codes "journal") port (heading_words (codes "journal") port (length run.journal)))
    (λ n. Ok (at callers (entries_due n) runs [] [])) (length run.journal)
    (at callers (entries_due (length run.journal)) runs [] [])
    (heading_back (codes "journal") port (length run.journal) small within.entries) refl in
    let second_line = then_read (heading_in (codes "overruns") port heading)
    (λ n. Ok (at callers (overruns_due n) runs run.journal [])) (length run.overruns)
    (at callers (overruns_due (length run.overruns)) runs run.journal [])
    (heading_back (codes "overruns") port (length run.overruns) small within.overruns) refl in
    let n : LineNumbers = record { arrived = run.arrived; lost = run.lost; sent = run.sent } in
    let last_line = then_read (numbers_in port numbers)
    (λ n. Ok (with_run (at callers due.Numbers runs run.journal run.overruns) n)) n
    (with_run (at callers due.Numbers runs run.journal run.overruns) n)
    (numbers_back port n small (record { arrived = within.arrived; lost = within.lost; sent = within.sent })) refl in
    ap (λ r. then_reads r (λ next. reads next ((own_lines ++ heading ∷ (overruns ++ numbers ∷ [])) ++ rest))) first_line
    ∙ ap (λ (ls : List Line). reads (at callers (entries_due (length run.journal)) runs [] []) ls)
    (regroup own_lines overruns rest heading numbers)
    ∙ entries_back callers own runs [] own_lines (heading ∷ (overruns ++ numbers ∷ rest)) run.journal [] mine are
    ∙ ap (λ r. then_reads r (λ next. reads next (overruns ++ numbers ∷ rest))) second_line
    ∙ overruns_back callers runs run.journal run.overruns [] (numbers ∷ rest) within.each
    ∙ ap (λ r. then_reads r (λ next. reads next rest)) last_line

-- ---- all runs

item_after : {X : Type 0} (before rest : List X) (x : X) → slice_get (before ++ x ∷ rest) (length before) ≡ Some x
item_after [] rest x = refl
item_after (y ∷ before) rest x = item_after before rest x

record RunsRead (left callers : List PlainCallers) (runs final : List PlainRun) (lines : List Line) : Type 0 where
  entries : List (List Line)
  more : List PlainRun
  rest : List Line
  parts : lines ≡ runs_lines (length runs) entries more ++ rest
  are : AreJournals left entries more
  within : AllByRecursion IsRunWithin more
  later : reads (at callers due.Done (runs ++ more) [] []) rest ≡ Some final

done_due : (callers before : List PlainCallers) (runs : List PlainRun)
    → callers ≡ before ++ []
    → length before ≡ length runs
    → run_due (length callers) (length runs) ≡ due.Done
done_due callers before runs all same =
    let count : length callers ≡ length runs =
    ap (λ (cs : List PlainCallers). length cs) (all ∙ append-nil before) ∙ same in
    ap (λ b. cond b due.Journal due.Done) (ge-ltb (length runs) (length callers) (omega (arith, count)))

next_due : (callers before more : List PlainCallers) (own : PlainCallers) (runs : List PlainRun)
    → callers ≡ before ++ own ∷ more
    → length before ≡ length runs
    → run_due (length callers) (length runs) ≡ due.Journal
next_due callers before more own runs all same =
    let count : length callers ≡ length before + length (own ∷ more) =
    ap (λ (cs : List PlainCallers). length cs) all ∙ length-append before (own ∷ more) in
    ap (λ b. cond b due.Journal due.Done) (lt-ltb (length runs) (length callers)
    (let long : length (own ∷ more) ≡ suc (length more) = refl in omega (arith, count, same, long)))

own_callers : (callers before more : List PlainCallers) (own : PlainCallers) (runs : List PlainRun)
    → callers ≡ before ++ own ∷ more
    → length before ≡ length runs
    → slice_get callers (length runs) ≡ Some own
own_callers callers before more own runs all same =
    ap (λ (cs : List PlainCallers). slice_get cs (length runs)) all
    ∙ ap (slice_get (before ++ own ∷ more)) (sym same)
    ∙ item_after before more own

longer : {X : Type 0} (xs : List X) (x : X) → length (xs ++ x ∷ []) ≡ length xs + 1
longer xs x = length-append xs (x ∷ [])

runs_read : (left before callers : List PlainCallers) (runs final : List PlainRun) (lines : List Line)
    → callers ≡ before ++ left
    → length before ≡ length runs
    → reads (at callers (run_due (length callers) (length runs)) runs [] []) lines ≡ Some final
    → RunsRead left callers runs final lines
runs_read [] before callers runs final lines all same h = record {
  entries = [];
  more = [];
  rest = lines;
  parts = refl;
  are = tt;
  within = tt;
  later =
      ap (λ (rs : List PlainRun). reads (at callers due.Done rs [] []) lines) (append-nil runs)
      ∙ sym (ap (λ d. reads (at callers d runs [] []) lines) (done_due callers before runs all same))
      ∙ h;
}
runs_read (own ∷ left) before callers runs final lines all same h =
    let one = run_read callers own runs final lines (own_callers callers before left own runs all same)
    (sym (ap (λ d. reads (at callers d runs [] []) lines) (next_due callers before left own runs all same)) ∙ h) in
    let count = longer runs one.run in
    let more = runs_read left (before ++ own ∷ []) callers (runs ++ one.run ∷ []) final one.rest
    (all ∙ sym (append_assoc before (own ∷ []) left)) (longer before own ∙ ap (λ n. n + 1) same ∙ sym count)
    (ap (λ n. reads (at callers (run_due (length callers) n) (runs ++ one.run ∷ []) [] []) one.rest) count ∙ one.later)
    in
    record {
      entries = one.own_lines ∷ more.entries;
      more = one.run ∷ more.more;
      rest = more.rest;
      parts =
          one.parts
          ∙ ap (λ (ls : List Line). run_lines (length runs) one.own_lines one.run ++ ls)
          (more.parts ∙ ap (λ n. runs_lines n more.entries more.more ++ more.rest) count)
          ∙ sym (append_assoc (run_lines (length runs) one.own_lines one.run)
          (runs_lines (length runs + 1) more.entries more.more) more.rest);
      are = (one.are, more.are);
      within = (one.within, more.within);
      later =
          sym (ap (λ (rs : List PlainRun). reads (at callers due.Done rs [] []) more.rest)
          (append_assoc runs (one.run ∷ []) more.more))
          ∙ more.later;
    }

runs_back : (left before callers : List PlainCallers) (entries : List (List Line)) (runs more : List PlainRun)
    (rest : List Line)
    → callers ≡ before ++ left
    → length before ≡ length runs
    → AreJournals left entries more
    → AllByRecursion IsRunWithin more
    → length callers ≤ most
    → reads (at callers (run_due (length callers) (length runs)) runs [] [])
    (runs_lines (length runs) entries more ++ rest)
    ≡ reads (at callers due.Done (runs ++ more) [] []) rest
runs_back [] before callers [] runs [] rest all same are within few =
    ap (λ d. reads (at callers d runs [] []) rest) (done_due callers before runs all same)
    ∙ sym (ap (λ (rs : List PlainRun). reads (at callers due.Done rs [] []) rest) (append-nil runs))
runs_back [] before callers [] runs (run ∷ more) rest all same are within few = absurd are
runs_back [] before callers (lines ∷ entries) runs [] rest all same are within few = absurd are
runs_back [] before callers (lines ∷ entries) runs (run ∷ more) rest all same are within few = absurd are
runs_back (own ∷ left) before callers [] runs [] rest all same are within few = absurd are
runs_back (own ∷ left) before callers [] runs (run ∷ more) rest all same are within few = absurd are
runs_back (own ∷ left) before callers (lines ∷ entries) runs [] rest all same are within few = absurd are
runs_back (own ∷ left) before callers (lines ∷ entries) runs (run ∷ more) rest all same are within few =
    let count = longer runs run in
    let long : length callers ≡ length before + length (own ∷ left) =
    ap (λ (cs : List PlainCallers). length cs) all ∙ length-append before (own ∷ left) in
    let rest_lines = runs_lines (length runs + 1) entries more ++ rest in
    ap (λ d. reads (at callers d runs [] [])
    ((run_lines (length runs) lines run ++ runs_lines (length runs + 1) entries more) ++ rest))
    (next_due callers before left own runs all same)
    ∙ ap (reads (at callers due.Journal runs [] []))
    (append_assoc (run_lines (length runs) lines run) (runs_lines (length runs + 1) entries more) rest)
    ∙ run_back callers own runs lines rest_lines run (own_callers callers before left own runs all same) are.0 within.0
    (omega (arith, long, same, few))
    ∙ ap
    (λ n. reads (at callers (run_due (length callers) n) (runs ++ run ∷ []) [] []) (runs_lines n entries more ++ rest))
    (sym count)
    ∙ runs_back left (before ++ own ∷ []) callers entries (runs ++ run ∷ []) more rest
    (all ∙ sym (append_assoc before (own ∷ []) left)) (longer before own ∙ ap (λ n. n + 1) same ∙ sym count)
    are.1 within.1 few
    ∙ ap (λ (rs : List PlainRun). reads (at callers due.Done rs [] []) rest) (append_assoc runs (run ∷ []) more)

-- ---- from `journals` to `done`

record IsDone (runs final : List PlainRun) (lines : List Line) : Type 0 where
  only : lines ≡ (codes "done" ∷ []) ∷ []
  same : final ≡ runs

over_read : (callers : List PlainCallers) (runs final : List PlainRun) (lines : List Line)
    → reads (at callers due.Over runs [] []) lines ≡ Some final
    → (lines ≡ []) × (final ≡ runs)
over_read callers runs final [] h = (refl, cc)
over_read callers runs final (words ∷ lines) h = cc

done_read : (callers : List PlainCallers) (runs final : List PlainRun) (lines : List Line)
    → reads (at callers due.Done runs [] []) lines ≡ Some final
    → IsDone runs final lines
done_read callers runs final lines h =
    let one = one_line (at callers due.Done runs [] []) lines final refl h in
    let parts =
    both_read (fixed_in (codes "done") one.words) (λ end. Ok (at callers due.Over runs [] [])) one.next one.read in
    let leads : at callers due.Over runs [] [] ≡ one.next = (let e = parts.there in cc) in
    let over = over_read callers runs final one.rest (ap (λ j. reads j one.rest) leads ∙ one.later) in
    record {
      only =
          one.parts
          ∙ ap (λ (w : Line). w ∷ one.rest) (fixed_read (codes "done") one.words parts.value parts.here)
          ∙ ap (λ (ls : List Line). (codes "done" ∷ []) ∷ ls) over.0;
      same = over.1;
    }

pub record JournalsRead (session : PlainSession) (final : List PlainRun) (lines : List Line) : Type 0 where
  pub entries : List (List Line)
  pub parts : lines ≡ journals_lines entries final
  pub are : AreJournals (callers_by_port session) entries final
  pub within : AllByRecursion IsRunWithin final

pub journals_read : (session : PlainSession) (final : List PlainRun) (lines : List Line)
    → reads (first_journals session) lines ≡ Some final
    → JournalsRead session final lines
journals_read session final lines h =
    let callers = callers_by_port session in
    let one = one_line (first_journals session) lines final refl h in
    let parts = both_read (fixed_in (codes "journals") one.words)
    (λ end. Ok (at callers (run_due (length callers) 0) [] [] [])) one.next one.read in
    let leads : at callers (run_due (length callers) 0) [] [] [] ≡ one.next = (let e = parts.there in cc) in
    let all = runs_read callers [] callers [] final one.rest refl refl (ap (λ j. reads j one.rest) leads ∙ one.later) in
    let end = done_read callers all.more final all.rest all.later in
    let same : all.more ≡ final = sym end.same in
    let whole : lines ≡ journals_lines all.entries all.more =
    one.parts
    ∙ ap (λ (w : Line). w ∷ one.rest) (fixed_read (codes "journals") one.words parts.value parts.here)
    ∙ ap (λ (ls : List Line). (codes "journals" ∷ []) ∷ ls)
    (all.parts ∙ ap (λ (ls : List Line). runs_lines 0 all.entries all.more ++ ls) end.only) in
    record {
      entries = all.entries;
      parts = whole ∙ ap (journals_lines all.entries) same;
      are = subst (AreJournals callers all.entries) same all.are;
      within = subst (AllByRecursion IsRunWithin) same all.within;
    }

pub journals_back : (session : PlainSession) (final : List PlainRun) (entries : List (List Line))
    → AreJournals (callers_by_port session) entries final
    → AllByRecursion IsRunWithin final
    → length (callers_by_port session) ≤ most
    → reads (first_journals session) (journals_lines entries final) ≡ Some final
journals_back session final entries are within few =
    let callers = callers_by_port session in
    let last = (codes "done" ∷ []) ∷ [] in
    ap (λ r. then_reads r (λ next. reads next (runs_lines 0 entries final ++ last)))
    (then_read (fixed_in (codes "journals") (codes "journals" ∷ []))
    (λ end. Ok (at callers (run_due (length callers) 0) [] [] [])) tt (at callers (run_due (length callers) 0) [] [] [])
    (fixed_back (codes "journals")) refl)
    ∙ runs_back callers [] callers entries [] final last refl refl are within few
    ∙ ap (λ r. then_reads r (λ next. reads next []))
    (then_read (fixed_in (codes "done") (codes "done" ∷ [])) (λ end. Ok (at callers due.Over final [] [])) tt
    (at callers due.Over final [] []) (fixed_back (codes "done")) refl)
