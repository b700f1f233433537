-- Texts that are checked, and what is read of them, each way.
use Rattle.std.proofs.Common.{◌≡◌, ◌⊎◌, inl, inr, ℕ, ◌≤◌, Bool, true, false, not, cond, List, [], ◌∷◌, ◌++◌, Option}
use Rattle.std.proofs.Common.{Some, None, Result, Ok, Err, length, map, refl, ap, sym, subst, ◌∙◌, arith, Vec, Global}
use Rattle.std.specs.Prelude.{filter, All, IfOk}
use Rattle.std.proofs.lemmas.List.FromFn.{length-map-range_with_len}
use Rattle.tty_base.specs.Sizes.{MOST_PORTS}
use Rattle.tty_calls.specs.declared.journals.PortRun.{PortRun}
use Rattle.tty_calls.specs.declared.sessions.Session.{Session}
use Rattle.tty_calls.specs.Sessions.{PlainSession, session_of}
use Rattle.text_lines.specs.Lines.{says, first_is}
use Rattle.session_text.specs.declared.faults.Reason.TheVariants as reason
use Rattle.session_text.specs.declared.faults.BadLine.{BadLine}
use Rattle.session_text.specs.declared.faults.TextFault.{TextFault}
use Rattle.session_text.specs.declared.faults.TextFault.TheVariants.{Bad, NoMemory}
use Rattle.session_text.specs.Refusals.{next_line}
use Rattle.session_text.specs.Reading.{GivesRead}
use Rattle.session_text.specs.Fronts.{front_in}
use Rattle.session_text.specs.Grammar.{item_words, session_items}
use Rattle.session_text.proofs.Fronts.{front_spelled, spelled_front, good_ports}
use Rattle.check_text.specs.Fields.{Read}
use Rattle.check_text.specs.Callers.{callers_on}
use Rattle.check_text.specs.Journals.{PlainJournals, callers_by_port, first_journals}
use Rattle.check_text.specs.Journals.{is_over, line_by, at_line, then_on, runs_from}
use Rattle.check_text.specs.Reading.{PlainCheck, check_with, check_after, check_in, fault_of, refusal}
use Rattle.check_text.specs.Runs.{PlainRun, run_of}
use Rattle.check_text.specs.Grammar.{journals_lines, most, Spells}
use Rattle.check_text.specs.Views.{check_of}
use Rattle.check_text.proofs.Short.{spelled_short}
use Rattle.check_text.proofs.Walks.{then_reads, reads}
use Rattle.check_text.proofs.Whole.{journals_read, journals_back}

abbrev Line : Type 0
Line = List (List ℕ)

-- ---- the lines of journals that say something

abbrev some_of : {X : Type 0} → Result X BadLine → Option X
some_of (Ok x) = Some x
some_of (Err line) = None

end_told : (j : PlainJournals) (n : ℕ) (over : Bool)
    → some_of (let read : Result (List PlainRun) BadLine =
    cond over (Ok j.runs) (Err (record { line = n; reason = reason.Order })) in
    read)
    ≡ cond over (Some j.runs) None
end_told j n true = refl
end_told j n false = refl

words_told : (n : ℕ) (lines : List Line) (read : Read PlainJournals)
    → ((next : PlainJournals) → some_of (runs_from next (next_line n) lines) ≡ reads next (filter says lines))
    → some_of (then_on (at_line n read) (λ next. runs_from next (next_line n) lines))
    ≡ then_reads read (λ next. reads next (filter says lines))
words_told n lines (Ok next) later = later next
words_told n lines (Err reason) later = refl

line_told : (j : PlainJournals) (n : ℕ) (words : Line) (lines : List Line) (comment : Bool)
    → ((next : PlainJournals) → some_of (runs_from next (next_line n) lines) ≡ reads next (filter says lines))
    → some_of
    (then_on (cond comment (Ok j) (at_line n (line_by j j.due words))) (λ next. runs_from next (next_line n) lines))
    ≡ reads j (cond (not comment) (words ∷ filter says lines) (filter says lines))
line_told j n words lines true later = later j
line_told j n words lines false later = words_told n lines (line_by j j.due words) later

runs_told : (lines : List Line) (j : PlainJournals) (n : ℕ)
    → some_of (runs_from j n lines) ≡ reads j (filter says lines)
runs_told [] j n = end_told j n (is_over j.due)
runs_told ([] ∷ lines) j n = runs_told lines j (next_line n)
runs_told ((word ∷ words) ∷ lines) j n =
    line_told j n (word ∷ words) lines (first_is 35 word) (λ next. runs_told lines next (next_line n))

is_some : {X : Type 0} (read : Result X BadLine) (x : X) → some_of read ≡ Some x → read ≡ Ok x
is_some (Ok y) x h = let same : y ≡ x = cc in ap (λ z. let read : Result _ BadLine = Ok z in read) same
is_some (Err line) x h = cc

-- ---- both parts

record BothRead {X Y : Type 0} (first : Result X BadLine) (later : X → Result Y BadLine) (y : Y) : Type 0 where
  value : X
  here : first ≡ Ok value
  there : later value ≡ Ok y

both_on : {X Y : Type 0} (first : Result X BadLine) (later : X → Result Y BadLine) (y : Y)
    → then_on first later ≡ Ok y
    → BothRead first later y
both_on (Ok x) later y h = record { value = x; here = refl; there = h }
both_on (Err line) later y h = cc

-- what is read is spelled
pub read_spells : (text : List ℕ) (check : PlainCheck) → check_in text ≡ Ok check → Spells text check.session check.runs
read_spells text check h =
    let parts = both_on (front_in text) check_after check h in
    let front = parts.value in
    let more = both_on (runs_from (first_journals front.session) front.line front.rest) (check_with front.session)
    check parts.there in
    let same : (let made : PlainCheck = record { session = front.session; runs = more.value } in made) ≡ check =
    (let e = more.there in cc) in
    let spelled = front_spelled text front parts.here in
    let told : reads (first_journals front.session) (filter says front.rest) ≡ Some more.value =
    sym (runs_told front.rest (first_journals front.session) front.line) ∙ ap some_of more.here in
    let journals = journals_read front.session more.value (filter says front.rest) told in
    let whole : Spells text front.session more.value = record {
      written = spelled.written;
      entries = journals.entries;
      words =
          spelled.words
          ∙ ap (λ (lines : List Line). map item_words (session_items spelled.written) ++ lines) journals.parts;
      good = spelled.good;
      means = spelled.means;
      journals = journals.are;
      within = journals.within;
    } in
    subst (λ (c : PlainCheck). Spells text c.session c.runs) same whole

few_callers : (session : PlainSession) → session.ports ≤ MOST_PORTS → length (callers_by_port session) ≤ most
few_callers session few =
    omega (arith, few, length-map-range_with_len (λ port. callers_on port session) 0 session.ports)

-- .. and what is spelled is read
pub spelled_read : (text : List ℕ) (session : PlainSession) (runs : List PlainRun)
    → Spells text session runs
    → check_in text ≡ Ok (record { session = session; runs = runs })
spelled_read text session runs h =
    let found = spelled_front text h.written (journals_lines h.entries runs) h.good h.words in
    let front = found.front in
    let same : front.session ≡ session = found.means ∙ sym h.means in
    let few : session.ports ≤ MOST_PORTS =
    omega (arith, good_ports h.written h.good, ap (λ (s : PlainSession). s.ports) h.means) in
    let back : reads (first_journals session) (journals_lines h.entries runs) ≡ Some runs =
    journals_back session runs h.entries h.journals h.within (few_callers session few) in
    let told : some_of (runs_from (first_journals front.session) front.line front.rest) ≡ Some runs =
    runs_told front.rest (first_journals front.session) front.line
    ∙ ap (reads (first_journals front.session)) found.words
    ∙ ap (λ (s : PlainSession). reads (first_journals s) (journals_lines h.entries runs)) same
    ∙ back in
    ap (λ r. then_on r check_after) found.is
    ∙ ap (λ r. then_on r (check_with front.session))
    (is_some (runs_from (first_journals front.session) front.line front.rest) runs told)
    ∙ ap (λ (s : PlainSession). check_with s runs) same

pub spelled_once : (text : List ℕ) (one other : PlainSession) (runs others : List PlainRun)
    → Spells text one runs
    → Spells text other others
    → (one ≡ other) × (runs ≡ others)
spelled_once text one other runs others a b =
    let first = spelled_read text one runs a in
    let second = spelled_read text other others b in
    let same : (let c : PlainCheck = record { session = one; runs = runs } in c)
    ≡ (let c : PlainCheck = record { session = other; runs = others } in c) = cc in
    (ap (λ (c : PlainCheck). c.session) same, ap (λ (c : PlainCheck). c.runs) same)

-- ---- refused

pub spelled_fault : (text : List ℕ) (session : PlainSession) (runs : List PlainRun)
    → Spells text session runs
    → refusal text ≡ None
spelled_fault text session runs h = ap fault_of (spelled_read text session runs h)

spells_by : (text : List ℕ) (read : Result PlainCheck BadLine)
    → check_in text ≡ read
    → fault_of read ≡ None
    → (session : PlainSession) × (runs : List PlainRun) × Spells text session runs
spells_by text (Ok check) h none = (check.session, check.runs, read_spells text check h)
spells_by text (Err line) h none = cc

pub unrefused_spells : (text : List ℕ)
    → refusal text ≡ None
    → (session : PlainSession) × (runs : List PlainRun) × Spells text session runs
unrefused_spells text h = spells_by text (check_in text) refl h

-- ---- what the reader gave

abbrev Given : Type 0
Given = Result (Session × Vec PortRun Global) TextFault

pub given_spells : (text : List ℕ) (result : Given)
    → GivesRead (λ check. check_of check.0 check.1.items) result (check_in text)
    → IfOk result (λ check. Spells text (session_of check.0) (map run_of check.1.items))
given_spells text (Ok check) h = read_spells text (check_of check.0 check.1.items) h
given_spells text (Err fault) h = tt

pub given_short : (text : List ℕ) (result : Given)
    → GivesRead (λ check. check_of check.0 check.1.items) result (check_in text)
    → IfOk result (λ check. All (λ run. length run.journal.items ≤ length text) check.1.items)
given_short text (Ok check) h =
    spelled_short text (session_of check.0) check.1.items (read_spells text (check_of check.0 check.1.items) h)
given_short text (Err fault) h = tt

pub given_bad : (text : List ℕ) (result : Given)
    → GivesRead (λ check. check_of check.0 check.1.items) result (check_in text)
    → (line : BadLine)
    → result ≡ Err (Bad line)
    → refusal text ≡ Some line
given_bad text (Ok check) h line e = cc
given_bad text (Err NoMemory) h line e = cc
given_bad text (Err (Bad other)) h line e = let same : other ≡ line = cc in ap fault_of h ∙ ap Some same

pub given_refused : (text : List ℕ) (result : Given)
    → GivesRead (λ check. check_of check.0 check.1.items) result (check_in text)
    → (line : BadLine)
    → refusal text ≡ Some line
    → (result ≡ Err (Bad line)) ⊎ (result ≡ Err NoMemory)
given_refused text (Ok check) h line e = let none = ap fault_of h in cc
given_refused text (Err NoMemory) h line e = inr refl
given_refused text (Err (Bad other)) h line e =
    let same : other ≡ line = (let fault = ap fault_of h in cc) in
    inl (ap (λ (l : BadLine). let r : Given = Err (Bad l) in r) same)
