-- What was read, and how work ends for want of it.
use Rattle.std.proofs.Common.{◌≡◌, ◌≤◌, ℕ, List, [], Option, None, Some, Result, Ok, Err, length, refl, sym, subst}
use Rattle.std.specs.Prelude.{IfOk, OnErr}
use Rattle.tty_base.specs.Sizes.{MOST_TEXT}
use Rattle.tty_base.specs.Contents.{Contents}
use Rattle.tty_base.specs.declared.buffers.NoMemory.{NoMemory}
use Rattle.tty_calls.specs.declared.sessions.Session.{Session}
use Rattle.tty_calls.specs.Sessions.{session_of}
use Rattle.tty_calls.specs.Limits.{IsWithinLimits}
use Rattle.session_text.proofs.Within.{spelled_within}
use Rattle.session_text.specs.declared.faults.BadLine.{BadLine}
use Rattle.tty_one.specs.declared.words.Command.{Command}
use Rattle.tty_one.specs.declared.reading.Reading.{Reading}
use Rattle.tty_one.specs.declared.reading.Reading.TheVariants.{Of, Ended}
use Rattle.tty_one.specs.declared.works.Work.{Work}
use Rattle.tty_one.specs.declared.works.Ending.{Ending}
use Rattle.tty_one.specs.declared.works.Ending.TheVariants.{Done, BadSession, BadWords, ReadFault, TooLong, NotLegal}
use Rattle.tty_one.specs.Endings.{IsOfSource, IsShort}
use Rattle.tty_one.specs.Reported.{nothing, IsAllOf}
use Rattle.tty_one.specs.Outcome.{refusal_by}
use Rattle.tty_one.proofs.Roomy.{never_full_here}
use Rattle.tty_one.specs.Works.{brought, IsRefusalLine, IsUnread, IsTextRead, IsRead, IsSessionRead}
use Rattle.tty_one.specs.Works.{IsReadIn, IsRefusal, IsWork, IsNeverFull, IsShortText}

-- the text that was read
module _ (first_wrong : List ℕ → Option BadLine) (faults now : ℕ) (left rest : Option (List ℕ))
    (reading : Reading (Contents ℕ)) where
  pub text_read : (text : Contents ℕ) (bytes : List ℕ)
      → reading ≡ Of text
      → bytes ≡ text.items
      → IsTextRead first_wrong reading faults now left rest
      → IsAllOf left bytes × IsShort left rest
  text_read text bytes is same h =
      let parts = subst (λ (r : Reading (Contents ℕ)). IsTextRead first_wrong r faults now left rest) is h in
      (subst (IsAllOf left) (sym same) parts.0, parts.1)

  pub none_read : (e : Ending)
      → reading ≡ Ended e
      → IsTextRead first_wrong reading faults now left rest
      → IsUnread first_wrong left e × IsOfSource e faults now left rest
  none_read e is h = subst (λ (r : Reading (Contents ℕ)). IsTextRead first_wrong r faults now left rest) is h

-- which is no longer than the longest
pub short_read : (reading : Reading (Contents ℕ)) (text : Contents ℕ) (bytes : List ℕ)
    → reading ≡ Of text
    → bytes ≡ text.items
    → IsShortText reading
    → length bytes ≤ MOST_TEXT
short_read reading text bytes is same h =
    subst (λ (xs : List ℕ). length xs ≤ MOST_TEXT) (sym same) (subst IsShortText is h)

-- what holds whatever comes holds at an error
pub at_err : {A : Type 0} (P : Type 0) (r : Result A NoMemory) → P → OnErr r P
at_err P (Ok x) h = tt
at_err P (Err e) h = h

-- what is wrong with the text is wrong with all that the source had left
pub line_from : (first_wrong : List ℕ → Option BadLine) (left : Option (List ℕ)) (text line : List ℕ)
    → IsAllOf left text
    → IsRefusalLine first_wrong (Some text) line
    → IsRefusalLine first_wrong left line
line_from first_wrong left text line whole h =
    record {
      bad = h.bad;
      refused = record {
        read = h.refused.read;
        whole = subst (IsAllOf left) (sym h.refused.whole) whole;
        refused = h.refused.refused;
      };
      told = h.told;
    }

-- the work on a text that was refused
pub refused_from : (first_wrong : List ℕ → Option BadLine) (faults now : ℕ) (left rest : Option (List ℕ))
    (text : List ℕ) (e : Ending)
    → IsAllOf left text
    → IsShort left rest
    → IsRefusal first_wrong text e
    → IsUnread first_wrong left e × IsOfSource e faults now left rest
refused_from first_wrong faults now left rest text (Done report) whole short h = absurd h
refused_from first_wrong faults now left rest text (BadSession line) whole short h =
    (line_from first_wrong left text line.items whole h, short)
refused_from first_wrong faults now left rest text BadWords whole short h = absurd h
refused_from first_wrong faults now left rest text ReadFault whole short h = absurd h
refused_from first_wrong faults now left rest text TooLong whole short h = absurd h
refused_from first_wrong faults now left rest text (NotLegal line) whole short h = absurd h

-- a session that was read in a text
pub session_read : {S : Type 0} → (SpellsIt : List ℕ → S → Type 0) (first_wrong : List ℕ → Option BadLine)
    (faults now : ℕ) (left rest : Option (List ℕ)) (text : List ℕ) (r : Result (Reading S) NoMemory)
    → IsAllOf left text
    → IsShort left rest
    → length text ≤ MOST_TEXT
    → IfOk r (IsReadIn SpellsIt first_wrong text)
    → IfOk r (λ reading. IsRead SpellsIt first_wrong reading faults now left rest)
session_read SpellsIt first_wrong faults now left rest text (Ok (Of session)) whole short few h =
    (record { read = text; whole = whole; spelled = h; few = few }, short)
session_read SpellsIt first_wrong faults now left rest text (Ok (Ended ending)) whole short few h =
    refused_from first_wrong faults now left rest text ending whole short h
session_read SpellsIt first_wrong faults now left rest text (Err e) whole short few h = h

-- how the work of a command ends for want of what it reads
pub unread_works : (command : Command) (left : Option (List ℕ)) (e : Ending)
    → IsUnread (refusal_by command) left e
    → IsWork command left e nothing
unread_works command left (Done report) h = absurd h
unread_works command left (BadSession line) h = (refl, h)
unread_works command left BadWords h = absurd h
unread_works command left ReadFault h = refl
unread_works command left TooLong h = refl
unread_works command left (NotLegal line) h = absurd h

-- work that ended without a run
pub ended_works : (command : Command) (faults now : ℕ) (left rest : Option (List ℕ)) (e : Ending) (work : Work)
    → work
    ≡ record {
      ending = e;
      runs = record { items = []; spare = 0 };
      vt = record { items = []; spare = 0 };
      modem = record { items = []; spare = 0 };
      jobs = record { items = []; spare = 0 };
      derived = None;
    }
    → IsWork command left e nothing
    → IsOfSource e faults now left rest
    → IsWork command left work.ending (brought work) × IsOfSource work.ending faults now left rest
ended_works command faults now left rest e work same done of =
    subst (λ (w : Work). IsWork command left w.ending (brought w) × IsOfSource w.ending faults now left rest) (sym same)
    (done, of)

-- a session that was read keeps the limits of every session, and no journal of it is ever full
pub read_within : (faults now : ℕ) (left rest : Option (List ℕ)) (reading : Reading Session) (session : Session)
    → reading ≡ Of session
    → IsSessionRead reading faults now left rest
    → IsWithinLimits (session_of session) × IsNeverFull (session_of session)
read_within faults now left rest reading session is h =
    let parts = subst (λ (r : Reading Session). IsSessionRead r faults now left rest) is h in (
      spelled_within parts.0.read (session_of session) parts.0.spelled,
      λ p run t short. never_full_here parts.0.read (session_of session) p run t parts.0.spelled parts.0.few short,
    )
