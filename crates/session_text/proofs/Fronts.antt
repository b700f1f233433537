-- The front of a text, and what is read of it, each way.
use Rattle.std.proofs.Common.{◌≡◌, ℕ, Bool, true, false, not, cond, List, [], ◌∷◌, ◌++◌}
use Rattle.std.proofs.Common.{Result, Ok, Err, map, refl, ap, sym, subst, ◌∙◌, ◌≤◌}
use Rattle.std.specs.Prelude.{filter}
use Rattle.tty_base.specs.Sizes.{MOST_PORTS}
use Rattle.tty_calls.specs.Sessions.{PlainSession}
use Rattle.text_lines.specs.Lines.{says, first_is}
use Rattle.session_text.specs.declared.faults.Reason.{Reason}
use Rattle.session_text.specs.declared.faults.Reason.TheVariants as reason
use Rattle.session_text.specs.declared.faults.BadLine.{BadLine}
use Rattle.session_text.specs.declared.verbs.Verb.{Verb}
use Rattle.session_text.specs.declared.stands.ItemPlace.{ItemPlace}
use Rattle.session_text.specs.declared.stands.ItemPlace.TheVariants as place
use Rattle.session_text.specs.Verbs.{verb_text}
use Rattle.session_text.specs.Stands.{is_ended, verdict_on}
use Rattle.session_text.specs.Drafts.{session_with}
use Rattle.session_text.specs.Refusals.{next_line, lines_in}
use Rattle.session_text.specs.Reading.{PlainReading, first_reading, reading_after_item}
use Rattle.session_text.specs.Reading.{reading_after_line, session_at_end}
use Rattle.session_text.specs.Fronts.{PlainFront, front_at, then_front, front_from, front_in}
use Rattle.session_text.specs.Grammar.{WrittenItem, Written, item_words, session_items}
use Rattle.session_text.specs.Grammar.{session_meaning, ports_of, IsWellWritten}
use Rattle.session_text.proofs.Judged.{word_found}
use Rattle.session_text.proofs.Runs.{Run, session_read, item_with, ended_run}
use Rattle.session_text.proofs.Heads.{run_written, written_taken, ports_few}
use Rattle.session_text.proofs.Spelled.{reading_after}

abbrev Line : Type 0
Line = List (List ℕ)

pub front_ended : (r : PlainReading) (n : ℕ) (lines : List Line)
    → is_ended r.stand.place ≡ true
    → front_from r n lines ≡ Ok (front_at r n lines)
front_ended r n [] e = ap (λ b.
    let read : Result PlainFront BadLine =
    cond b (Ok (front_at r n [])) (Err (record { line = n; reason = reason.Order })) in
    read) e
front_ended r n (words ∷ lines) e =
    ap (λ b.
    let read : Result PlainFront BadLine =
    cond b (Ok (front_at r n (words ∷ lines)))
    (then_front (reading_after_line r n words) (λ next. front_from next (next_line n) lines)) in
    read) e

session_taken : (r : PlainReading) (n : ℕ) (session : PlainSession) (ended : Bool)
    → is_ended r.stand.place ≡ ended
    → ended ≡ true
    → session_at_end r n ≡ Ok session
    → session_with r.stand r.draft ≡ session
session_taken r n session true e yes_it h =
    let at : session_at_end r n ≡ Ok (session_with r.stand r.draft) =
    ap (λ b.
    let read : Result PlainSession BadLine =
    cond b (Ok (session_with r.stand r.draft)) (Err (record { line = n; reason = reason.Order })) in
    read) e in
    cc
session_taken r n session false e yes_it h = cc

pub front_taken : (r : PlainReading) (n : ℕ) (lines : List Line) (session : PlainSession)
    → is_ended r.stand.place ≡ true
    → session_at_end r n ≡ Ok session
    → front_from r n lines ≡ Ok (record { session = session; line = n; rest = lines })
front_taken r n lines session ended h =
    front_ended r n lines ended
    ∙ ap
    (λ (s : PlainSession).
    let read : Result PlainFront BadLine = Ok (record { session = s; line = n; rest = lines }) in read)
    (session_taken r n session (is_ended r.stand.place) refl ended h)

-- ---- read

record FrontRead (r : PlainReading) (lines : List Line) (front : PlainFront) : Type 0 where
  items : List WrittenItem
  words : filter says lines ≡ map item_words items ++ filter says front.rest
  run : Run r.stand items
  session : front.session ≡ session_read r.stand r.draft items

after_read : (r : PlainReading) (n : ℕ) (lines : List Line) (front : PlainFront)
    → is_ended r.stand.place ≡ true
    → (let read : Result PlainFront BadLine = Ok (front_at r n lines) in read ≡ Ok front)
    → FrontRead r lines front
after_read r n lines front ended h =
    let same : front_at r n lines ≡ front = cc in
    record {
      items = [];
      words = ap (λ (f : PlainFront). filter says f.rest) same;
      run = ended;
      session = sym (ap (λ (f : PlainFront). f.session) same);
    }

silent : (r : PlainReading) (words : Line) (lines : List Line) (front : PlainFront)
    → says words ≡ false
    → FrontRead r lines front
    → FrontRead r (words ∷ lines) front
silent r words lines front none read = record {
  items = read.items;
  words = ap (λ (b : Bool). cond b (words ∷ filter says lines) (filter says lines)) none ∙ read.words;
  run = read.run;
  session = read.session;
}

telling : (r : PlainReading) (word : List ℕ) (arguments : Line) (lines : List Line) (front : PlainFront) (verb : Verb)
    → first_is 35 word ≡ false
    → verdict_on r.stand word arguments ≡ Ok verb
    → FrontRead (reading_after r verb arguments) lines front
    → FrontRead r ((word ∷ arguments) ∷ lines) front
telling r word arguments lines front verb says_one good read =
    let same = word_found r.stand word arguments verb good in record {
      items = item_with verb arguments ∷ read.items;
      words = ap (λ (b : Bool). cond (not b) ((word ∷ arguments) ∷ filter says lines) (filter says lines)) says_one
          ∙ ap (λ (w : List ℕ). (w ∷ arguments) ∷ filter says lines) same
          ∙ ap (λ (ws : List Line). item_words (item_with verb arguments) ∷ ws) read.words;
      run = (subst (λ (w : List ℕ). verdict_on r.stand w arguments ≡ Ok verb) same good, read.run);
      session = read.session;
    }

item_read : (r : PlainReading) (n : ℕ) (word : List ℕ) (arguments : Line) (lines : List Line) (front : PlainFront)
    (verdict : Result Verb Reason)
    → verdict_on r.stand word arguments ≡ verdict
    → first_is 35 word ≡ false
    → then_front (reading_after_item r n arguments verdict) (λ next. front_from next (next_line n) lines) ≡ Ok front
    → ((next : PlainReading) → front_from next (next_line n) lines ≡ Ok front → FrontRead next lines front)
    → FrontRead r ((word ∷ arguments) ∷ lines) front
item_read r n word arguments lines front (Ok verb) good says_one h later =
    telling r word arguments lines front verb says_one good (later (reading_after r verb arguments) h)
item_read r n word arguments lines front (Err fault) good says_one h later = cc

line_read : (r : PlainReading) (n : ℕ) (word : List ℕ) (arguments : Line) (lines : List Line) (front : PlainFront)
    (comment : Bool)
    → first_is 35 word ≡ comment
    → then_front (cond comment (Ok r) (reading_after_item r n arguments (verdict_on r.stand word arguments)))
    (λ next. front_from next (next_line n) lines) ≡ Ok front
    → ((next : PlainReading) → front_from next (next_line n) lines ≡ Ok front → FrontRead next lines front)
    → FrontRead r ((word ∷ arguments) ∷ lines) front
line_read r n word arguments lines front true comment h later =
    silent r (word ∷ arguments) lines front (ap not comment) (later r h)
line_read r n word arguments lines front false comment h later =
    item_read r n word arguments lines front (verdict_on r.stand word arguments) refl comment h later

abbrev when_ended : PlainReading → ℕ → List Line → Bool → Result PlainFront BadLine → Result PlainFront BadLine
when_ended r n lines ended other = cond ended (Ok (front_at r n lines)) other

end_by : (r : PlainReading) (n : ℕ) (front : PlainFront) (ended : Bool)
    → is_ended r.stand.place ≡ ended
    → when_ended r n [] ended (Err (record { line = n; reason = reason.Order })) ≡ Ok front
    → FrontRead r [] front
end_by r n front true e h = after_read r n [] front e h
end_by r n front false e h = cc

line_by_end : (r : PlainReading) (n : ℕ) (words : Line) (lines : List Line) (front : PlainFront) (ended : Bool)
    (other : Result PlainFront BadLine)
    → is_ended r.stand.place ≡ ended
    → when_ended r n (words ∷ lines) ended other ≡ Ok front
    → (other ≡ Ok front → FrontRead r (words ∷ lines) front)
    → FrontRead r (words ∷ lines) front
line_by_end r n words lines front true other e h later = after_read r n (words ∷ lines) front e h
line_by_end r n words lines front false other e h later = later h

front_read : (lines : List Line) (r : PlainReading) (n : ℕ) (front : PlainFront)
    → front_from r n lines ≡ Ok front
    → FrontRead r lines front
front_read [] r n front h = end_by r n front (is_ended r.stand.place) refl h
front_read ([] ∷ lines) r n front h =
    line_by_end r n [] lines front (is_ended r.stand.place) (front_from r (next_line n) lines) refl h
    (λ k. silent r [] lines front refl (front_read lines r (next_line n) front k))
front_read ((word ∷ arguments) ∷ lines) r n front h =
    line_by_end r n (word ∷ arguments) lines front (is_ended r.stand.place)
    (then_front (reading_after_line r n (word ∷ arguments)) (λ next. front_from next (next_line n) lines)) refl h
    (λ k. line_read r n word arguments lines front (first_is 35 word) refl k
    (λ next onwards. front_read lines next (next_line n) front onwards))

-- ---- .. and back

ended_place : (at : ItemPlace) → is_ended at ≡ true → at ≡ place.Ended
ended_place place.Start h = cc
ended_place place.Head h = cc
ended_place place.Before h = cc
ended_place place.Phase h = cc
ended_place place.Line h = cc
ended_place place.Clock h = cc
ended_place place.Caller h = cc
ended_place place.Ended h = refl

record FrontBack (r : PlainReading) (n : ℕ) (lines : List Line) (items : List WrittenItem)
    (rest : List Line) : Type 0 where
  front : PlainFront
  is : front_from r n lines ≡ Ok front
  session : front.session ≡ session_read r.stand r.draft items
  words : filter says front.rest ≡ rest

after_back : (r : PlainReading) (n : ℕ) (lines rest : List Line) (items : List WrittenItem)
    → is_ended r.stand.place ≡ true
    → filter says lines ≡ map item_words items ++ rest
    → Run r.stand items
    → FrontBack r n lines items rest
after_back r n lines rest items ended words run =
    let none = ended_run items r.stand (ended_place r.stand.place ended) run in record {
      front = front_at r n lines;
      is = front_ended r n lines ended;
      session = sym (ap (session_read r.stand r.draft) none);
      words = words ∙ ap (λ (is : List WrittenItem). map item_words is ++ rest) none;
    }

abbrev GoesBack : PlainReading → ℕ → List Line → Type 0
GoesBack r n lines =
    (items : List WrittenItem) (rest : List Line)
    → filter says lines ≡ map item_words items ++ rest
    → Run r.stand items
    → FrontBack r n lines items rest

-- a line that leads on
led : (r next : PlainReading) (n m : ℕ) (lines more : List Line) (items others : List WrittenItem) (rest : List Line)
    → front_from r n lines ≡ front_from next m more
    → session_read next.stand next.draft others ≡ session_read r.stand r.draft items
    → FrontBack next m more others rest
    → FrontBack r n lines items rest
led r next n m lines more items others rest same meant back =
    record { front = back.front; is = same ∙ back.is; session = back.session ∙ meant; words = back.words }

-- where the session is not over there is a line for its next item
item_back : (r : PlainReading) (n : ℕ) (word : List ℕ) (arguments : Line) (lines : List Line)
    → is_ended r.stand.place ≡ false
    → first_is 35 word ≡ false
    → ((next : PlainReading) → GoesBack next (next_line n) lines)
    → (items : List WrittenItem) (rest : List Line)
    → (word ∷ arguments) ∷ filter says lines ≡ map item_words items ++ rest
    → Run r.stand items
    → FrontBack r n ((word ∷ arguments) ∷ lines) items rest
item_back r n word arguments lines open_ says_one later [] rest words run =
    absurd (let e : is_ended r.stand.place ≡ true = run in cc)
item_back r n word arguments lines open_ says_one later (item ∷ items) rest words run =
    let there : filter says lines ≡ map item_words items ++ rest = cc in
    let same_word : word ≡ verb_text item.verb = cc in
    let same_words : arguments ≡ item.arguments = cc in
    let good : verdict_on r.stand word arguments ≡ Ok item.verb =
    ap (λ (w : List ℕ). verdict_on r.stand w arguments) same_word
    ∙ ap (verdict_on r.stand (verb_text item.verb)) same_words
    ∙ run.0 in
    let next = reading_after r item.verb item.arguments in
    let on : front_from r n ((word ∷ arguments) ∷ lines) ≡ front_from next (next_line n) lines =
    ap (λ b. when_ended r n ((word ∷ arguments) ∷ lines) b
    (then_front (reading_after_line r n (word ∷ arguments)) (λ next. front_from next (next_line n) lines))) open_
    ∙ ap
    (λ (b : Bool). then_front (cond b (Ok r) (reading_after_item r n arguments (verdict_on r.stand word arguments)))
    (λ next. front_from next (next_line n) lines)) says_one
    ∙ ap
    (λ (v : Result Verb Reason).
    then_front (reading_after_item r n arguments v) (λ next. front_from next (next_line n) lines)) good
    ∙ ap (λ (words : Line). front_from (reading_after r item.verb words) (next_line n) lines) same_words in
    led r next n (next_line n) ((word ∷ arguments) ∷ lines) lines (item ∷ items) items rest on refl
    (later next items rest there run.1)

word_back : (r : PlainReading) (n : ℕ) (word : List ℕ) (arguments : Line) (lines : List Line) (comment : Bool)
    → is_ended r.stand.place ≡ false
    → first_is 35 word ≡ comment
    → ((next : PlainReading) → GoesBack next (next_line n) lines)
    → (items : List WrittenItem) (rest : List Line)
    → cond (not comment) ((word ∷ arguments) ∷ filter says lines) (filter says lines) ≡ map item_words items ++ rest
    → Run r.stand items
    → FrontBack r n ((word ∷ arguments) ∷ lines) items rest
word_back r n word arguments lines true open_ comment later items rest words run =
    led r r n (next_line n) ((word ∷ arguments) ∷ lines) lines items items rest
    (ap (λ b. when_ended r n ((word ∷ arguments) ∷ lines) b
    (then_front (reading_after_line r n (word ∷ arguments)) (λ next. front_from next (next_line n) lines))) open_
    ∙ ap
    (λ (b : Bool). then_front (cond b (Ok r) (reading_after_item r n arguments (verdict_on r.stand word arguments)))
    (λ next. front_from next (next_line n) lines)) comment)
    refl (later r items rest words run)
word_back r n word arguments lines false open_ comment later items rest words run =
    item_back r n word arguments lines open_ comment later items rest words run

no_line : (r : PlainReading) (items : List WrittenItem) (rest : List Line)
    → is_ended r.stand.place ≡ false
    → [] ≡ map item_words items ++ rest
    → Run r.stand items
    → ⊥
no_line r [] rest open_ words run = let e : is_ended r.stand.place ≡ true = run in cc
no_line r (item ∷ items) rest open_ words run = cc

lines_back : (r : PlainReading) (n : ℕ) (lines : List Line) (ended : Bool)
    → is_ended r.stand.place ≡ ended
    → (ended ≡ false → GoesBack r n lines)
    → GoesBack r n lines
lines_back r n lines true e other items rest words run = after_back r n lines rest items e words run
lines_back r n lines false e other items rest words run = other refl items rest words run

front_back : (lines : List Line) (r : PlainReading) (n : ℕ) → GoesBack r n lines
front_back [] r n = lines_back r n [] (is_ended r.stand.place) refl
    (λ open_ items rest words run. absurd (no_line r items rest open_ words run))
front_back ([] ∷ lines) r n =
    lines_back r n ([] ∷ lines) (is_ended r.stand.place) refl (λ open_ items rest words run.
    led r r n (next_line n) ([] ∷ lines) lines items items rest
    (ap (λ b. when_ended r n ([] ∷ lines) b (front_from r (next_line n) lines)) open_) refl
    (front_back lines r (next_line n) items rest words run))
front_back ((word ∷ arguments) ∷ lines) r n =
    lines_back r n ((word ∷ arguments) ∷ lines) (is_ended r.stand.place) refl (λ open_ items rest words run.
    word_back r n word arguments lines (first_is 35 word) open_ refl (λ next. front_back lines next (next_line n))
    items rest words run)

-- ---- what is read is spelled, and what is spelled is read

pub record FrontSpelled (text : List ℕ) (front : PlainFront) : Type 0 where
  pub written : Written
  pub words : filter says (lines_in text) ≡ map item_words (session_items written) ++ filter says front.rest
  pub good : IsWellWritten written
  pub means : front.session ≡ session_meaning written

pub front_spelled : (text : List ℕ) (front : PlainFront) → front_in text ≡ Ok front → FrontSpelled text front
front_spelled text front h =
    let read = front_read (lines_in text) first_reading 1 front h in
    let is = run_written read.items read.run in
    let taken = written_taken is.written is.good in record {
      written = is.written;
      words =
          read.words
          ∙ ap (λ (items : List WrittenItem). map item_words items ++ filter says front.rest) is.items_are;
      good = is.good;
      means = read.session ∙ ap (session_read first_reading.stand first_reading.draft) is.items_are ∙ taken.meant;
    }

pub record SpelledFront (text : List ℕ) (written : Written) (rest : List Line) : Type 0 where
  pub front : PlainFront
  pub is : front_in text ≡ Ok front
  pub means : front.session ≡ session_meaning written
  pub words : filter says front.rest ≡ rest

pub spelled_front : (text : List ℕ) (written : Written) (rest : List Line)
    → IsWellWritten written
    → filter says (lines_in text) ≡ map item_words (session_items written) ++ rest
    → SpelledFront text written rest
spelled_front text written rest good words =
    let taken = written_taken written good in
    let back = front_back (lines_in text) first_reading 1 (session_items written) rest words taken.run in record {
      front = back.front;
      is = back.is;
      means = back.session ∙ taken.meant;
      words = back.words;
    }

pub good_ports : (written : Written) → IsWellWritten written → ports_of written ≤ MOST_PORTS
good_ports written good = ports_few written good
