-- The lines of journals and what is read of them, each way.
use Rattle.std.proofs.Common.{◌≡◌, ℕ, zero, suc, ◌-◌, false, cond, List, [], ◌∷◌, ◌++◌, Option, Some, None, Ok}
use Rattle.std.proofs.Common.{Err, length, map, refl, ap, sym, ◌∙◌, arith, append_assoc, append-nil, slice_get}
use Rattle.std.specs.List.{AllByRecursion}
use Rattle.tty_base.specs.declared.lines.Overrun.{Overrun}
use Rattle.tty_calls.specs.Plain.{PlainEntry}
use Rattle.check_text.specs.declared.journals.Due.{Due}
use Rattle.check_text.specs.declared.journals.Due.TheVariants as due
use Rattle.check_text.specs.Fields.{Read}
use Rattle.check_text.specs.Callers.{PlainCallers}
use Rattle.check_text.specs.Entries.{entry_in, overrun_in}
use Rattle.check_text.specs.Journals.{PlainJournals, entries_due, overruns_due, is_over, entry_by, line_by}
use Rattle.check_text.specs.Runs.{PlainRun}
use Rattle.check_text.specs.Grammar.{overrun_words, AreEntries, IsOverrunWithin}
use Rattle.check_text.proofs.Truths.{next_above}
use Rattle.check_text.proofs.Lines.{both_read, then_read, overrun_read, overrun_back}

-- ---- reading, without the numbers of lines

abbrev pub then_reads : Read PlainJournals → (PlainJournals → Option (List PlainRun)) → Option (List PlainRun)
then_reads (Ok next) later = later next
then_reads (Err reason) later = None

abbrev pub reads : PlainJournals → List (List (List ℕ)) → Option (List PlainRun)
reads j [] = cond (is_over j.due) (Some j.runs) None
reads j (words ∷ lines) = then_reads (line_by j j.due words) (λ next. reads next lines)

abbrev pub at : List PlainCallers → Due → List PlainRun → List PlainEntry → List Overrun → PlainJournals
at callers due runs entries overruns =
    record { callers = callers; due = due; runs = runs; entries = entries; overruns = overruns }

-- a line is there where the journals are not over
pub record OneLine (j : PlainJournals) (lines : List (List (List ℕ))) (runs : List PlainRun) : Type 0 where
  pub words : List (List ℕ)
  pub rest : List (List (List ℕ))
  pub next : PlainJournals
  pub parts : lines ≡ words ∷ rest
  pub read : line_by j j.due words ≡ Ok next
  pub later : reads next rest ≡ Some runs

then_line : (j : PlainJournals) (words : List (List ℕ)) (rest : List (List (List ℕ))) (runs : List PlainRun)
    (read : Read PlainJournals)
    → line_by j j.due words ≡ read
    → then_reads read (λ next. reads next rest) ≡ Some runs
    → OneLine j (words ∷ rest) runs
then_line j words rest runs (Ok next) e h =
    record { words = words; rest = rest; next = next; parts = refl; read = e; later = h }
then_line j words rest runs (Err reason) e h = cc

pub one_line : (j : PlainJournals) (lines : List (List (List ℕ))) (runs : List PlainRun)
    → is_over j.due ≡ false
    → reads j lines ≡ Some runs
    → OneLine j lines runs
one_line j [] runs open_ h =
    absurd (let none : cond (is_over j.due) (Some j.runs) None ≡ None = ap (λ b. cond b (Some j.runs) None) open_ in cc)
one_line j (words ∷ rest) runs open_ h = then_line j words rest runs (line_by j j.due words) refl h

some_due : (k : ℕ) → entries_due (suc k) ≡ due.Entry (suc k)
some_due k = ap (λ b. cond b due.Overruns (due.Entry (suc k))) (next_above k)

some_overrun_due : (k : ℕ) → overruns_due (suc k) ≡ due.Overrun (suc k)
some_overrun_due k = ap (λ b. cond b due.Numbers (due.Overrun (suc k))) (next_above k)

one_less : (k : ℕ) → suc k - 1 ≡ k
one_less k = omega arith

-- ---- entries

pub record EntriesRead (callers : List PlainCallers) (own : PlainCallers) (runs final : List PlainRun)
    (entries : List PlainEntry) (overruns : List Overrun) (left : ℕ) (lines : List (List (List ℕ))) : Type 0 where
  pub own_lines : List (List (List ℕ))
  pub more : List PlainEntry
  pub rest : List (List (List ℕ))
  pub parts : lines ≡ own_lines ++ rest
  pub are : AreEntries own own_lines more
  pub count : length more ≡ left
  pub later : reads (at callers due.Overruns runs (entries ++ more) overruns) rest ≡ Some final

entry_next : (callers : List PlainCallers) (own : PlainCallers) (runs : List PlainRun) (entries : List PlainEntry)
    (overruns : List Overrun) (k : ℕ) (words : List (List ℕ)) (entry : PlainEntry)
    → slice_get callers (length runs) ≡ Some own
    → entry_in own words ≡ Ok entry
    → line_by (at callers (due.Entry (suc k)) runs entries overruns) (due.Entry (suc k)) words
    ≡ Ok (at callers (entries_due k) runs (entries ++ entry ∷ []) overruns)
entry_next callers own runs entries overruns k words entry mine is =
    then_read (entry_by (slice_get callers (length runs)) words)
    (λ e. Ok (at callers (entries_due (suc k - 1)) runs (entries ++ e ∷ []) overruns)) entry
    (at callers (entries_due k) runs (entries ++ entry ∷ []) overruns)
    (ap (λ o. entry_by o words) mine ∙ is) (ap
    (λ n. let read : Read PlainJournals = Ok (at callers (entries_due n) runs (entries ++ entry ∷ []) overruns) in read)
    (one_less k))

record EntryLine (callers : List PlainCallers) (own : PlainCallers) (runs : List PlainRun) (entries : List PlainEntry)
    (overruns : List Overrun) (k : ℕ) (words : List (List ℕ)) (next : PlainJournals) : Type 0 where
  entry : PlainEntry
  is : entry_in own words ≡ Ok entry
  leads : next ≡ at callers (entries_due k) runs (entries ++ entry ∷ []) overruns

entry_line : (callers : List PlainCallers) (own : PlainCallers) (runs : List PlainRun) (entries : List PlainEntry)
    (overruns : List Overrun) (k : ℕ) (words : List (List ℕ)) (next : PlainJournals)
    → slice_get callers (length runs) ≡ Some own
    → line_by (at callers (due.Entry (suc k)) runs entries overruns) (due.Entry (suc k)) words ≡ Ok next
    → EntryLine callers own runs entries overruns k words next
entry_line callers own runs entries overruns k words next mine h =
    let parts = both_read (entry_by (slice_get callers (length runs)) words)
    (λ e. Ok (at callers (entries_due (suc k - 1)) runs (entries ++ e ∷ []) overruns)) next h in
    let same : at callers (entries_due (suc k - 1)) runs (entries ++ parts.value ∷ []) overruns ≡ next =
    (let e = parts.there in cc) in
    record {
      entry = parts.value;
      is = sym (ap (λ o. entry_by o words) mine) ∙ parts.here;
      leads = sym same ∙ ap (λ n. at callers (entries_due n) runs (entries ++ parts.value ∷ []) overruns) (one_less k);
    }

pub entries_read : (left : ℕ) (callers : List PlainCallers) (own : PlainCallers) (runs final : List PlainRun)
    (entries : List PlainEntry) (overruns : List Overrun) (lines : List (List (List ℕ)))
    → slice_get callers (length runs) ≡ Some own
    → reads (at callers (entries_due left) runs entries overruns) lines ≡ Some final
    → EntriesRead callers own runs final entries overruns left lines
entries_read zero callers own runs final entries overruns lines mine h = record {
  own_lines = [];
  more = [];
  rest = lines;
  parts = refl;
  are = tt;
  count = refl;
  later = ap (λ es. reads (at callers due.Overruns runs es overruns) lines) (append-nil entries) ∙ h;
}
entries_read (suc k) callers own runs final entries overruns lines mine h =
    let one = one_line (at callers (due.Entry (suc k)) runs entries overruns) lines final refl
    (sym (ap (λ d. reads (at callers d runs entries overruns) lines) (some_due k)) ∙ h) in
    let line = entry_line callers own runs entries overruns k one.words one.next mine one.read in
    let more = entries_read k callers own runs final (entries ++ line.entry ∷ []) overruns one.rest mine
    (sym (ap (λ j. reads j one.rest) line.leads) ∙ one.later) in record {
      own_lines = one.words ∷ more.own_lines;
      more = line.entry ∷ more.more;
      rest = more.rest;
      parts = one.parts ∙ ap (λ ls. one.words ∷ ls) more.parts;
      are = (line.is, more.are);
      count = ap suc_of more.count;
      later =
          sym (ap (λ es. reads (at callers due.Overruns runs es overruns) more.rest)
          (append_assoc entries (line.entry ∷ []) more.more))
          ∙ more.later;
    }
  where
    suc_of : ℕ → ℕ
    suc_of n = suc n

pub entries_back : (callers : List PlainCallers) (own : PlainCallers) (runs : List PlainRun) (overruns : List Overrun)
    (own_lines rest : List (List (List ℕ))) (more entries : List PlainEntry)
    → slice_get callers (length runs) ≡ Some own
    → AreEntries own own_lines more
    → reads (at callers (entries_due (length more)) runs entries overruns) (own_lines ++ rest)
    ≡ reads (at callers due.Overruns runs (entries ++ more) overruns) rest
entries_back callers own runs overruns [] rest [] entries mine are =
    sym (ap (λ es. reads (at callers due.Overruns runs es overruns) rest) (append-nil entries))
entries_back callers own runs overruns [] rest (entry ∷ more) entries mine are = absurd are
entries_back callers own runs overruns (words ∷ own_lines) rest [] entries mine are = absurd are
entries_back callers own runs overruns (words ∷ own_lines) rest (entry ∷ more) entries mine are =
    let k = length more in
    ap (λ d. reads (at callers d runs entries overruns) ((words ∷ own_lines) ++ rest)) (some_due k)
    ∙ ap (λ r. then_reads r (λ next. reads next (own_lines ++ rest)))
    (entry_next callers own runs entries overruns k words entry mine are.0)
    ∙ entries_back callers own runs overruns own_lines rest more (entries ++ entry ∷ []) mine are.1
    ∙ ap (λ es. reads (at callers due.Overruns runs es overruns) rest) (append_assoc entries (entry ∷ []) more)

-- ---- overruns

pub record OverrunsRead (callers : List PlainCallers) (runs final : List PlainRun) (entries : List PlainEntry)
    (overruns : List Overrun) (left : ℕ) (lines : List (List (List ℕ))) : Type 0 where
  pub more : List Overrun
  pub rest : List (List (List ℕ))
  pub parts : lines ≡ map overrun_words more ++ rest
  pub within : AllByRecursion IsOverrunWithin more
  pub count : length more ≡ left
  pub later : reads (at callers due.Numbers runs entries (overruns ++ more)) rest ≡ Some final

overrun_next : (callers : List PlainCallers) (runs : List PlainRun) (entries : List PlainEntry)
    (overruns : List Overrun) (k : ℕ) (o : Overrun)
    → IsOverrunWithin o
    → line_by (at callers (due.Overrun (suc k)) runs entries overruns) (due.Overrun (suc k)) (overrun_words o)
    ≡ Ok (at callers (overruns_due k) runs entries (overruns ++ o ∷ []))
overrun_next callers runs entries overruns k o within =
    then_read (overrun_in (overrun_words o))
    (λ e. Ok (at callers (overruns_due (suc k - 1)) runs entries (overruns ++ e ∷ []))) o
    (at callers (overruns_due k) runs entries (overruns ++ o ∷ []))
    (overrun_back o within) (ap
    (λ n. let read : Read PlainJournals = Ok (at callers (overruns_due n) runs entries (overruns ++ o ∷ [])) in read)
    (one_less k))

record OverrunLine (callers : List PlainCallers) (runs : List PlainRun) (entries : List PlainEntry)
    (overruns : List Overrun) (k : ℕ) (words : List (List ℕ)) (next : PlainJournals) : Type 0 where
  overrun : Overrun
  is : words ≡ overrun_words overrun
  within : IsOverrunWithin overrun
  leads : next ≡ at callers (overruns_due k) runs entries (overruns ++ overrun ∷ [])

overrun_line : (callers : List PlainCallers) (runs : List PlainRun) (entries : List PlainEntry)
    (overruns : List Overrun) (k : ℕ) (words : List (List ℕ)) (next : PlainJournals)
    → line_by (at callers (due.Overrun (suc k)) runs entries overruns) (due.Overrun (suc k)) words ≡ Ok next
    → OverrunLine callers runs entries overruns k words next
overrun_line callers runs entries overruns k words next h =
    let parts = both_read (overrun_in words)
    (λ e. Ok (at callers (overruns_due (suc k - 1)) runs entries (overruns ++ e ∷ []))) next h in
    let same : at callers (overruns_due (suc k - 1)) runs entries (overruns ++ parts.value ∷ []) ≡ next =
    (let e = parts.there in cc) in
    let printed = overrun_read words parts.value parts.here in
    record {
      overrun = parts.value;
      is = printed.0;
      within = printed.1;
      leads = sym same ∙ ap (λ n. at callers (overruns_due n) runs entries (overruns ++ parts.value ∷ [])) (one_less k);
    }

pub overruns_read : (left : ℕ) (callers : List PlainCallers) (runs final : List PlainRun) (entries : List PlainEntry)
    (overruns : List Overrun) (lines : List (List (List ℕ)))
    → reads (at callers (overruns_due left) runs entries overruns) lines ≡ Some final
    → OverrunsRead callers runs final entries overruns left lines
overruns_read zero callers runs final entries overruns lines h = record {
  more = [];
  rest = lines;
  parts = refl;
  within = tt;
  count = refl;
  later = ap (λ os. reads (at callers due.Numbers runs entries os) lines) (append-nil overruns) ∙ h;
}
overruns_read (suc k) callers runs final entries overruns lines h =
    let one = one_line (at callers (due.Overrun (suc k)) runs entries overruns) lines final refl
    (sym (ap (λ d. reads (at callers d runs entries overruns) lines) (some_overrun_due k)) ∙ h) in
    let line = overrun_line callers runs entries overruns k one.words one.next one.read in
    let more = overruns_read k callers runs final entries (overruns ++ line.overrun ∷ []) one.rest
    (sym (ap (λ j. reads j one.rest) line.leads) ∙ one.later) in record {
      more = line.overrun ∷ more.more;
      rest = more.rest;
      parts = one.parts ∙ ap (λ w. w ∷ one.rest) line.is ∙ ap (λ ls. overrun_words line.overrun ∷ ls) more.parts;
      within = (line.within, more.within);
      count = ap (λ (n : ℕ). suc n) more.count;
      later =
          sym (ap (λ os. reads (at callers due.Numbers runs entries os) more.rest)
          (append_assoc overruns (line.overrun ∷ []) more.more))
          ∙ more.later;
    }

pub overruns_back : (callers : List PlainCallers) (runs : List PlainRun) (entries : List PlainEntry)
    (more overruns : List Overrun) (rest : List (List (List ℕ)))
    → AllByRecursion IsOverrunWithin more
    → reads (at callers (overruns_due (length more)) runs entries overruns) (map overrun_words more ++ rest)
    ≡ reads (at callers due.Numbers runs entries (overruns ++ more)) rest
overruns_back callers runs entries [] overruns rest within =
    sym (ap (λ os. reads (at callers due.Numbers runs entries os) rest) (append-nil overruns))
overruns_back callers runs entries (o ∷ more) overruns rest within =
    let k = length more in
    ap (λ d. reads (at callers d runs entries overruns) (map overrun_words (o ∷ more) ++ rest)) (some_overrun_due k)
    ∙ ap (λ r. then_reads r (λ next. reads next (map overrun_words more ++ rest)))
    (overrun_next callers runs entries overruns k o within.0)
    ∙ overruns_back callers runs entries more (overruns ++ o ∷ []) rest within.1
    ∙ ap (λ os. reads (at callers due.Numbers runs entries os) rest) (append_assoc overruns (o ∷ []) more)
