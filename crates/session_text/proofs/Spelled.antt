-- A text is read exactly where it spells a session, and is refused exactly where it spells none.
use Rattle.std.proofs.Common.{◌≡◌, ◌⊎◌, ℕ, Bool, true, false, cond, List, [], ◌∷◌, Option}
use Rattle.std.proofs.Common.{Some, None, Result, Ok, Err, refl, ap, sym, subst, ◌∙◌, inl, inr}
use Rattle.std.specs.Prelude.{map, filter, not}
use Rattle.std.specs.Prelude.{IfOk}
use Rattle.tty_calls.specs.declared.sessions.Session.{Session}
use Rattle.tty_calls.specs.Sessions.{PlainSession, session_of}
use Rattle.text_lines.specs.Lines.{says, first_is}
use Rattle.session_text.specs.declared.faults.Reason.{Reason}
use Rattle.session_text.specs.declared.faults.Reason.TheVariants as reason
use Rattle.session_text.specs.declared.faults.BadLine.{BadLine}
use Rattle.session_text.specs.declared.faults.TextFault.{TextFault}
use Rattle.session_text.specs.declared.faults.TextFault.TheVariants.{Bad, NoMemory}
use Rattle.session_text.specs.declared.verbs.Verb.{Verb}
use Rattle.session_text.specs.Verbs.{verb_text}
use Rattle.session_text.specs.Stands.{is_ended, verdict_on, stand_after}
use Rattle.session_text.specs.Drafts.{draft_after, session_with}
use Rattle.session_text.specs.Refusals.{next_line, stand_from, or_later, refusal_from, refusal, lines_in}
use Rattle.session_text.specs.Reading.{PlainReading, first_reading, reading_after_item}
use Rattle.session_text.specs.Reading.{then_read, session_from, session_in, GivesRead}
use Rattle.session_text.specs.Grammar.{WrittenItem, item_words, session_items, Spells}
use Rattle.session_text.proofs.Judged.{word_found}
use Rattle.session_text.proofs.Runs.{Run, session_read, item_with}
use Rattle.session_text.proofs.Heads.{run_written, written_taken}

-- ---- lines and items

-- what is read of lines: the items of those that say something
pub record Reads (r : PlainReading) (lines : List (List (List ℕ))) (x : PlainSession) : Type 0 where
  pub items : List WrittenItem
  pub words : filter says lines ≡ map item_words items
  pub run : Run r.stand items
  pub session : x ≡ session_read r.stand r.draft items

abbrev pub end_result : PlainReading → ℕ → Bool → Result PlainSession BadLine
end_result r n ended = cond ended (Ok (session_with r.stand r.draft)) (Err (record { line = n; reason = reason.Order }))

at_end : (r : PlainReading) (n : ℕ) (x : PlainSession) (ended : Bool)
    → is_ended r.stand.place ≡ ended
    → end_result r n ended ≡ Ok x
    → Reads r [] x
at_end r n x true e h = record { items = []; words = refl; run = e; session = cc }
at_end r n x false e h = cc

-- a line that says nothing
silent : (r : PlainReading) (words : List (List ℕ)) (lines : List (List (List ℕ))) (x : PlainSession)
    → says words ≡ false
    → Reads r lines x
    → Reads r (words ∷ lines) x
silent r words lines x none reads = record {
  items = reads.items;
  words = ap (λ (b : Bool). cond b (words ∷ filter says lines) (filter says lines)) none ∙ reads.words;
  run = reads.run;
  session = reads.session;
}

abbrev pub reading_after : PlainReading → Verb → List (List ℕ) → PlainReading
reading_after r verb arguments =
    record { stand = stand_after r.stand verb arguments; draft = draft_after r.stand r.draft verb arguments }

-- a line that is an item
telling : (r : PlainReading) (word : List ℕ) (arguments : List (List ℕ)) (lines : List (List (List ℕ)))
    (x : PlainSession) (verb : Verb)
    → first_is 35 word ≡ false
    → verdict_on r.stand word arguments ≡ Ok verb
    → Reads (reading_after r verb arguments) lines x
    → Reads r ((word ∷ arguments) ∷ lines) x
telling r word arguments lines x verb says_one good reads =
    let same = word_found r.stand word arguments verb good in record {
      items = item_with verb arguments ∷ reads.items;
      words = ap (λ (b : Bool). cond (not b) ((word ∷ arguments) ∷ filter says lines) (filter says lines)) says_one
          ∙ ap (λ (w : List ℕ). (w ∷ arguments) ∷ filter says lines) same
          ∙ ap (λ (ws : List (List (List ℕ))). item_words (item_with verb arguments) ∷ ws) reads.words;
      run = (subst (λ (w : List ℕ). verdict_on r.stand w arguments ≡ Ok verb) same good, reads.run);
      session = reads.session;
    }

item_reads : (r : PlainReading) (n : ℕ) (word : List ℕ) (arguments : List (List ℕ)) (lines : List (List (List ℕ)))
    (x : PlainSession) (verdict : Result Verb Reason)
    → verdict_on r.stand word arguments ≡ verdict
    → first_is 35 word ≡ false
    → then_read (reading_after_item r n arguments verdict) (λ next. session_from next (next_line n) lines) ≡ Ok x
    → ((next : PlainReading) → session_from next (next_line n) lines ≡ Ok x → Reads next lines x)
    → Reads r ((word ∷ arguments) ∷ lines) x
item_reads r n word arguments lines x (Ok verb) good says_one h later =
    telling r word arguments lines x verb says_one good (later (reading_after r verb arguments) h)
item_reads r n word arguments lines x (Err fault) good says_one h later = cc

line_reads : (r : PlainReading) (n : ℕ) (word : List ℕ) (arguments : List (List ℕ)) (lines : List (List (List ℕ)))
    (x : PlainSession) (comment : Bool)
    → first_is 35 word ≡ comment
    → then_read (cond comment (Ok r) (reading_after_item r n arguments (verdict_on r.stand word arguments)))
    (λ next. session_from next (next_line n) lines) ≡ Ok x
    → ((next : PlainReading) → session_from next (next_line n) lines ≡ Ok x → Reads next lines x)
    → Reads r ((word ∷ arguments) ∷ lines) x
line_reads r n word arguments lines x true comment h later =
    silent r (word ∷ arguments) lines x (ap not comment) (later r h)
line_reads r n word arguments lines x false comment h later =
    item_reads r n word arguments lines x (verdict_on r.stand word arguments) refl comment h later

pub lines_read : (lines : List (List (List ℕ))) (r : PlainReading) (n : ℕ) (x : PlainSession)
    → session_from r n lines ≡ Ok x
    → Reads r lines x
lines_read [] r n x h = at_end r n x (is_ended r.stand.place) refl h
lines_read ([] ∷ lines) r n x h = silent r [] lines x refl (lines_read lines r (next_line n) x h)
lines_read ((word ∷ arguments) ∷ lines) r n x h = line_reads r n word arguments lines x (first_is 35 word) refl h
    (λ next onwards. lines_read lines next (next_line n) x onwards)

-- ---- items and lines

no_words : (item : WrittenItem) (items : List WrittenItem) → [] ≡ map item_words (item ∷ items) → ⊥
no_words item items e = cc

no_items : (words : List (List ℕ)) (rest : List (List (List ℕ))) → words ∷ rest ≡ map item_words [] → ⊥
no_items words rest e = cc

first_words : (words : List (List ℕ)) (rest : List (List (List ℕ))) (item : WrittenItem) (items : List WrittenItem)
    → words ∷ rest ≡ map item_words (item ∷ items)
    → words ≡ item_words item
first_words words rest item items e = cc

later_words : (words : List (List ℕ)) (rest : List (List (List ℕ))) (item : WrittenItem) (items : List WrittenItem)
    → words ∷ rest ≡ map item_words (item ∷ items)
    → rest ≡ map item_words items
later_words words rest item items e = cc

end_reads : (items : List WrittenItem) (r : PlainReading) (n : ℕ)
    → [] ≡ map item_words items
    → Run r.stand items
    → session_from r n [] ≡ Ok (session_read r.stand r.draft items)
end_reads [] r n e run = ap (end_result r n) run
end_reads (item ∷ items) r n e run = absurd (no_words item items e)

item_line : (r : PlainReading) (n : ℕ) (word : List ℕ) (arguments : List (List ℕ)) (lines : List (List (List ℕ)))
    (items : List WrittenItem)
    → first_is 35 word ≡ false
    → (word ∷ arguments) ∷ filter says lines ≡ map item_words items
    → Run r.stand items
    → ((next : PlainReading) (more : List WrittenItem)
    → filter says lines ≡ map item_words more
    → Run next.stand more
    → session_from next (next_line n) lines ≡ Ok (session_read next.stand next.draft more))
    → session_from r n ((word ∷ arguments) ∷ lines) ≡ Ok (session_read r.stand r.draft items)
item_line r n word arguments lines [] says_one e run later = absurd (no_items (word ∷ arguments) (filter says lines) e)
item_line r n word arguments lines (item ∷ items) says_one e run later =
    let here = first_words (word ∷ arguments) (filter says lines) item items e in
    let there = later_words (word ∷ arguments) (filter says lines) item items e in
    let same_word : word ≡ verb_text item.verb = cc in
    let same_words : arguments ≡ item.arguments = cc in
    let good : verdict_on r.stand word arguments ≡ Ok item.verb =
    ap (λ (w : List ℕ). verdict_on r.stand w arguments) same_word
    ∙ ap (verdict_on r.stand (verb_text item.verb)) same_words
    ∙ run.0 in
    let next = reading_after r item.verb item.arguments in
    ap (λ (b : Bool). then_read (cond b (Ok r) (reading_after_item r n arguments (verdict_on r.stand word arguments)))
    (λ next. session_from next (next_line n) lines)) says_one
    ∙ ap
    (λ (v : Result Verb Reason).
    then_read (reading_after_item r n arguments v) (λ next. session_from next (next_line n) lines)) good
    ∙ ap (λ (words : List (List ℕ)). session_from (reading_after r item.verb words) (next_line n) lines) same_words
    ∙ later next items there run.1

word_line : (r : PlainReading) (n : ℕ) (word : List ℕ) (arguments : List (List ℕ)) (lines : List (List (List ℕ)))
    (items : List WrittenItem) (comment : Bool)
    → first_is 35 word ≡ comment
    → cond (not comment) ((word ∷ arguments) ∷ filter says lines) (filter says lines) ≡ map item_words items
    → Run r.stand items
    → ((next : PlainReading) (more : List WrittenItem)
    → filter says lines ≡ map item_words more
    → Run next.stand more
    → session_from next (next_line n) lines ≡ Ok (session_read next.stand next.draft more))
    → session_from r n ((word ∷ arguments) ∷ lines) ≡ Ok (session_read r.stand r.draft items)
word_line r n word arguments lines items true comment e run later =
    ap (λ (b : Bool). then_read (cond b (Ok r) (reading_after_item r n arguments (verdict_on r.stand word arguments)))
    (λ next. session_from next (next_line n) lines)) comment
    ∙ later r items e run
word_line r n word arguments lines items false comment e run later =
    item_line r n word arguments lines items comment e run later

pub items_read : (lines : List (List (List ℕ))) (r : PlainReading) (n : ℕ) (items : List WrittenItem)
    → filter says lines ≡ map item_words items
    → Run r.stand items
    → session_from r n lines ≡ Ok (session_read r.stand r.draft items)
items_read [] r n items e run = end_reads items r n e run
items_read ([] ∷ lines) r n items e run = items_read lines r (next_line n) items e run
items_read ((word ∷ arguments) ∷ lines) r n items e run =
    word_line r n word arguments lines items (first_is 35 word) refl e run
    (λ next more same onwards. items_read lines next (next_line n) more same onwards)

-- ---- spelled and read

-- what is read is spelled
pub read_spells : (text : List ℕ) (x : PlainSession) → session_in text ≡ Ok x → Spells text x
read_spells text x h =
    let reads = lines_read (lines_in text) first_reading 1 x h in
    let is = run_written reads.items reads.run in
    let taken = written_taken is.written is.good in record {
      written = is.written;
      words = reads.words ∙ ap (map item_words) is.items_are;
      good = is.good;
      means = reads.session ∙ ap (session_read first_reading.stand first_reading.draft) is.items_are ∙ taken.meant;
    }

-- .. and what is spelled is read
pub spelled_read : (text : List ℕ) (x : PlainSession) → Spells text x → session_in text ≡ Ok x
spelled_read text x h =
    let taken = written_taken h.written h.good in
    items_read (lines_in text) first_reading 1 (session_items h.written) h.words taken.run
    ∙ ap (λ (session : PlainSession). let r : Result PlainSession BadLine = Ok session in r) (taken.meant ∙ sym h.means)

pub spelled_once : (text : List ℕ) (one other : PlainSession) → Spells text one → Spells text other → one ≡ other
spelled_once text one other a b = let first = spelled_read text one a in let second = spelled_read text other b in cc

-- ---- refused

abbrev pub fault_in : Result PlainSession BadLine → Option BadLine
fault_in (Ok session) = None
fault_in (Err line) = Some line

item_faults : (r : PlainReading) (n : ℕ) (arguments : List (List ℕ)) (lines : List (List (List ℕ)))
    (verdict : Result Verb Reason)
    → ((next : PlainReading)
    → fault_in (session_from next (next_line n) lines) ≡ refusal_from next.stand (next_line n) lines)
    → fault_in (then_read (reading_after_item r n arguments verdict) (λ next. session_from next (next_line n) lines))
    ≡ or_later n (stand_from r.stand arguments verdict) (λ next. refusal_from next (next_line n) lines)
item_faults r n arguments lines (Ok verb) later = later (reading_after r verb arguments)
item_faults r n arguments lines (Err fault) later = refl

line_faults : (r : PlainReading) (n : ℕ) (word : List ℕ) (arguments : List (List ℕ)) (lines : List (List (List ℕ)))
    (comment : Bool)
    → ((next : PlainReading)
    → fault_in (session_from next (next_line n) lines) ≡ refusal_from next.stand (next_line n) lines)
    → fault_in (then_read (cond comment (Ok r) (reading_after_item r n arguments (verdict_on r.stand word arguments)))
    (λ next. session_from next (next_line n) lines))
    ≡ or_later n (cond comment (Ok r.stand) (stand_from r.stand arguments (verdict_on r.stand word arguments)))
    (λ next. refusal_from next (next_line n) lines)
line_faults r n word arguments lines true later = later r
line_faults r n word arguments lines false later =
    item_faults r n arguments lines (verdict_on r.stand word arguments) later

end_faults : (r : PlainReading) (n : ℕ) (ended : Bool)
    → fault_in (end_result r n ended) ≡ cond ended None (Some (record { line = n; reason = reason.Order }))
end_faults r n true = refl
end_faults r n false = refl

pub same_fault : (lines : List (List (List ℕ))) (r : PlainReading) (n : ℕ)
    → fault_in (session_from r n lines) ≡ refusal_from r.stand n lines
same_fault [] r n = end_faults r n (is_ended r.stand.place)
same_fault ([] ∷ lines) r n = same_fault lines r (next_line n)
same_fault ((word ∷ arguments) ∷ lines) r n =
    line_faults r n word arguments lines (first_is 35 word) (λ next. same_fault lines next (next_line n))

pub text_fault : (text : List ℕ) → fault_in (session_in text) ≡ refusal text
text_fault text = same_fault (lines_in text) first_reading 1

-- a text that spells a session is not refused
pub spelled_fault : (text : List ℕ) (x : PlainSession) → Spells text x → refusal text ≡ None
spelled_fault text x h = sym (text_fault text) ∙ ap fault_in (spelled_read text x h)

spells_by : (text : List ℕ) (read : Result PlainSession BadLine)
    → session_in text ≡ read
    → fault_in read ≡ None
    → (x : PlainSession) × Spells text x
spells_by text (Ok x) h none = (x, read_spells text x h)
spells_by text (Err line) h none = cc

-- .. and one that is not refused spells one
pub unrefused_spells : (text : List ℕ) → refusal text ≡ None → (x : PlainSession) × Spells text x
unrefused_spells text h = spells_by text (session_in text) refl (text_fault text ∙ h)

-- ---- what the reader gave

pub given_spells : (text : List ℕ) (result : Result Session TextFault)
    → GivesRead session_of result (session_in text)
    → IfOk result (λ session. Spells text (session_of session))
given_spells text (Ok session) h = read_spells text (session_of session) h
given_spells text (Err fault) h = tt

pub given_bad : (text : List ℕ) (result : Result Session TextFault)
    → GivesRead session_of result (session_in text)
    → (line : BadLine)
    → result ≡ Err (Bad line)
    → refusal text ≡ Some line
given_bad text (Ok session) h line e = cc
given_bad text (Err NoMemory) h line e = cc
given_bad text (Err (Bad other)) h line e =
    let same : other ≡ line = cc in sym (text_fault text) ∙ ap fault_in h ∙ ap Some same

pub given_refused : (text : List ℕ) (result : Result Session TextFault)
    → GivesRead session_of result (session_in text)
    → (line : BadLine)
    → refusal text ≡ Some line
    → (result ≡ Err (Bad line)) ⊎ (result ≡ Err NoMemory)
given_refused text (Ok session) h line e = let none = ap fault_in h in let fault = text_fault text in cc
given_refused text (Err NoMemory) h line e = inr refl
given_refused text (Err (Bad other)) h line e =
    let same : other ≡ line = (let fault = ap fault_in h in let told = text_fault text in cc) in
    inl (ap (λ (l : BadLine). let r : Result Session TextFault = Err (Bad l) in r) same)
