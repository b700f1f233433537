-- A call from turn to turn, and from its first to its last.
use Rattle.std.proofs.Common.{◌≡◌, inl, inr, ℕ, ◌+◌, ◌<◌, ◌≤◌, List, [], ◌∷◌, ◌++◌, Bool, true, false}
use Rattle.std.proofs.Common.{MatchBool, refl, sym, ◌∙◌, ap, subst, arith, append_assoc, append-nil}
use Rattle.std.proofs.lemmas.Bool.{false≢true}
use Rattle.tty_calls.specs.Plain.{PlainCall, PlainAnswer, PlainEvent}
use Rattle.port_core.specs.Attempts.{must_wait}
use Rattle.port_cell.specs.declared.kept.Stamped.{Stamped}
use Rattle.port_cell.specs.Entries.{generation_of, entries_by, Each, Begins, Keeps}
use Rattle.port_cell.specs.Word.{generation_in, changing_in, users_in}
use Rattle.port_cell.specs.Knowledge.{number_of, list_seen, own_entries, last_word, step_count, install_count}
use Rattle.port_cell.specs.Views.{bit_of}
use Rattle.port_cell.specs.Seats.{KeepsTurn}
use Rattle.port_cell.proofs.Histories.{generation_of-push}
use Rattle.tty_port.specs.Inside.{EntryWithCall}
use Rattle.tty_port.specs.Seen.{IsBetweenCalls}
use Rattle.tty_port.specs.Adding.{IsAnswerOf, IsUnderWay}
use Rattle.tty_port.specs.Calls.{PortSeat, is_wait, waits_in, KeepGeneration}
use Rattle.tty_port.specs.Calls.{IsPause, ArePauses, IsAnswered, Pauses}
use Rattle.tty_port.specs.Lines.{MakesOne, MakesNone}
use Rattle.tty_port.specs.Going.{IsMadeIn, Turns, StepsOn, LastHas, IsGoing, Changes}

-- ---- lists of parts and waits

pub match_unit : (b : Bool) → MatchBool b (Unit {0}) (Unit {0})
match_unit true = tt
match_unit false = tt

match_more : (b : Bool) (P Q : Type 0) → (P → Q) → MatchBool b (Unit {0}) P → MatchBool b (Unit {0}) Q
match_more true P Q f h = tt
match_more false P Q f h = f h

match_all : (b : Bool) (P : Type 0) → P → MatchBool b (Unit {0}) P
match_all true P h = tt
match_all false P h = h

match_wait : (b : Bool) (P : Type 0) → b ≡ true → MatchBool b (Unit {0}) P
match_wait true P e = tt
match_wait false P e = absurd (false≢true e)

pub keep_push : (xs : List (Stamped EntryWithCall)) (y : Stamped EntryWithCall)
    → KeepGeneration xs
    → LastHas y.what.entry.generation xs
    → KeepGeneration (xs ++ y ∷ [])
keep_push [] y h last = (match_unit (is_wait y.what.entry.event), tt)
keep_push (x ∷ []) y h last =
    (match_more (is_wait x.what.entry.event) _ _ (λ e. sym e) last, (match_unit (is_wait y.what.entry.event), tt))
keep_push (x ∷ z ∷ zs) y h last = (h.0, keep_push (z ∷ zs) y h.1 last)

last_push : (g : ℕ) (xs : List (Stamped EntryWithCall)) (y : Stamped EntryWithCall)
    → y.what.entry.generation ≡ g
    → LastHas g (xs ++ y ∷ [])
last_push g [] y e = match_all (is_wait y.what.entry.event) _ e
last_push g (x ∷ []) y e = match_all (is_wait y.what.entry.event) _ e
last_push g (x ∷ z ∷ zs) y e = last_push g (z ∷ zs) y e

last_wait : (g : ℕ) (xs : List (Stamped EntryWithCall)) (y : Stamped EntryWithCall)
    → is_wait y.what.entry.event ≡ true
    → LastHas g (xs ++ y ∷ [])
last_wait g [] y e = match_wait (is_wait y.what.entry.event) _ e
last_wait g (x ∷ []) y e = match_wait (is_wait y.what.entry.event) _ e
last_wait g (x ∷ z ∷ zs) y e = last_wait g (z ∷ zs) y e

pauses_push : (c step : ℕ) (call : PlainCall) (xs : List (Stamped EntryWithCall)) (y : Stamped EntryWithCall)
    → ArePauses c step call xs
    → IsPause c step call y
    → ArePauses c step call (xs ++ y ∷ [])
pauses_push c step call [] y h p = (p, tt)
pauses_push c step call (x ∷ xs) y h p = (h.0, pauses_push c step call xs y h.1 p)

waits_push : (xs : List (Stamped EntryWithCall)) (y : Stamped EntryWithCall)
    → waits_in (xs ++ y ∷ []) ≡ waits_in xs + bit_of (is_wait y.what.entry.event)
waits_push [] y = omega arith
waits_push (x ∷ xs) y = let h = waits_push xs y in omega arith

-- ---- histories that go on

any : (xs : List (Stamped EntryWithCall)) → Each (λ k. Unit {0}) xs
any [] = tt
any (x ∷ xs) = (tt, any xs)

begins_keeps : (n : ℕ) (xs ys zs : List (Stamped EntryWithCall)) → Begins xs ys → Keeps n ys zs → Begins xs zs
begins_keeps n xs ys zs h k = (
  h.0 ++ k.0,
  k.1 ∙ ap (λ (us : List (Stamped EntryWithCall)). us ++ k.0) h.1 ∙ append_assoc xs h.0 k.0,
  any (h.0 ++ k.0),
)

pub begins_on : (xs ys zs : List (Stamped EntryWithCall)) → Begins xs ys → Begins ys zs → Begins xs zs
begins_on xs ys zs h k = (
  h.0 ++ k.0,
  k.1 ∙ ap (λ (us : List (Stamped EntryWithCall)). us ++ k.0) h.1 ∙ append_assoc xs h.0 k.0,
  any (h.0 ++ k.0),
)

begins_push : (xs ys zs : List (Stamped EntryWithCall)) (x : Stamped EntryWithCall)
    → Begins xs ys
    → zs ≡ ys ++ x ∷ []
    → Begins xs zs
begins_push xs ys zs x h e = (
  h.0 ++ x ∷ [],
  e ∙ ap (λ (us : List (Stamped EntryWithCall)). us ++ x ∷ []) h.1 ∙ append_assoc xs h.0 (x ∷ []),
  any (h.0 ++ x ∷ []),
)

pub begins_one : (xs : List (Stamped EntryWithCall)) (P : List (Stamped EntryWithCall) → Stamped EntryWithCall → Type 0)
    (old new : PortSeat)
    → Begins xs (list_seen old)
    → MakesOne P old new
    → Begins xs (list_seen new)
begins_one xs P old new h k = begins_push xs k.before (list_seen new) k.entry
    (begins_keeps (number_of old) xs (list_seen old) k.before h k.found) k.added

pub begins_none : (xs : List (Stamped EntryWithCall)) (old new : PortSeat)
    → Begins xs (list_seen old)
    → MakesNone old new
    → Begins xs (list_seen new)
begins_none xs old new h k = begins_keeps (number_of old) xs (list_seen old) (list_seen new) h k.found

pub begins_same : (xs : List (Stamped EntryWithCall)) → Begins xs xs
begins_same xs = ([], sym (append-nil xs), tt)

-- the last entry of a history tells its generation
pub made_after : (P : List (Stamped EntryWithCall) → Stamped EntryWithCall → Type 0) (old new : PortSeat)
    (h : MakesOne P old new)
    → generation_of (list_seen new) ≡ h.entry.after
made_after P old new h = ap generation_of h.added ∙ generation_of-push h.before h.entry

-- ---- a call goes on

pub begins_going : (c step : ℕ) (call : PlainCall) (generation : ℕ) (s : PortSeat)
    → IsUnderWay c step call generation (list_seen s)
    → IsGoing c step call generation s s
begins_going c step call generation s u =
    record {
      so_far = record {
        begins = begins_same (list_seen s);
        pauses = [];
        adds = sym (append-nil (own_entries s));
        are_pauses = tt;
        one = tt;
        renewed = omega arith;
        installed = refl;
      };
      last = tt;
      rested = λ waits g. tt;
      under_way = u;
    }

abbrev pauses_one : (c step : ℕ) (call : PlainCall) (P : List (Stamped EntryWithCall) → Stamped EntryWithCall → Type 0)
    (old mid new : PortSeat) (h : Pauses c step call old mid) (k : MakesOne P mid new)
    → IsPause c step call k.entry
    → LastHas k.entry.what.entry.generation h.pauses
    → step_count mid + bit_of (is_wait k.entry.what.entry.event) ≤ step_count new
    → install_count new ≡ install_count mid
    → Pauses c step call old new
pauses_one c step call P old mid new h k pause last steps installs =
    let renewed = h.renewed in
    let waits = waits_push h.pauses k.entry in
    record {
      begins = begins_one (list_seen old) P mid new h.begins k;
      pauses = h.pauses ++ k.entry ∷ [];
      adds =
          k.own
          ∙ ap (λ (xs : List (Stamped EntryWithCall)). xs ++ k.entry ∷ []) h.adds
          ∙ append_assoc (own_entries old) h.pauses (k.entry ∷ []);
      are_pauses = pauses_push c step call h.pauses k.entry h.are_pauses pause;
      one = keep_push h.pauses k.entry h.one last;
      renewed = omega arith;
      installed = installs ∙ h.installed;
    }

abbrev pub pauses_none : (c step : ℕ) (call : PlainCall) (old mid new : PortSeat)
    → Pauses c step call old mid
    → MakesNone mid new
    → step_count mid ≤ step_count new
    → install_count new ≡ install_count mid
    → Pauses c step call old new
pauses_none c step call old mid new h k steps installs =
    let renewed = h.renewed in
    record {
      begins = begins_none (list_seen old) mid new h.begins k;
      pauses = h.pauses;
      adds = k.own ∙ h.adds;
      are_pauses = h.are_pauses;
      one = h.one;
      renewed = omega arith;
      installed = installs ∙ h.installed;
    }

last_in : (g h : ℕ) (xs : List (Stamped EntryWithCall)) → g ≡ h → LastHas h xs → LastHas g xs
last_in g h xs e last = subst (λ (k : ℕ). LastHas k xs) (sym e) last

pub goes_on : (c step : ℕ) (call : PlainCall) (old mid new : PortSeat)
    → IsGoing c step call (generation_in (last_word mid)) old mid
    → StepsOn c step call mid new
    → step_count mid ≤ step_count new
    → install_count new ≡ install_count mid
    → IsGoing c step call (generation_in (last_word new)) old new
goes_on c step call old mid new h (inl part, u) steps installs =
    let x = part.made.entry in
    let no_wait : bit_of (is_wait x.what.entry.event) ≡ 0 =
    ap (λ (e : PlainEvent). bit_of (is_wait e)) part.made.is.is.1.happened in
    let last =
    last_in x.what.entry.generation (generation_in (last_word mid)) h.so_far.pauses part.made.is.at_generation h.last in
    record {
      so_far =
          pauses_one c step call _ old mid new h.so_far part.made (inl part.made.is.is) last (omega arith) installs;
      last = last_push (generation_in (last_word new)) h.so_far.pauses x (part.made.is.at_generation ∙ sym part.same);
      rested = λ waits g. absurd (false≢true (sym part.goes_on ∙ waits));
      under_way = u;
    }
goes_on c step call old mid new h (inr (inl none, stepped), u) steps installs =
    record {
      so_far = pauses_none c step call old mid new h.so_far none.0 steps installs;
      last = h.rested none.1 (generation_in (last_word new));
      rested = λ waits g. h.rested none.1 g;
      under_way = u;
    }
goes_on c step call old mid new h (inr (inr made, stepped), u) steps installs =
    let x = made.entry in
    let last =
    last_in x.what.entry.generation (generation_in (last_word mid)) h.so_far.pauses made.is.at_generation h.last in
    let wait = ap is_wait made.is.is.happened in
    let one_wait : bit_of (is_wait x.what.entry.event) ≡ 1 = ap bit_of wait in
    record {
      so_far = pauses_one c step call _ old mid new h.so_far made (inr made.is.is) last (omega arith) installs;
      last = last_wait (generation_in (last_word new)) h.so_far.pauses x wait;
      rested = λ waits g. last_wait g h.so_far.pauses x wait;
      under_way = u;
    }

-- ---- a call is answered

pub answers_going : (c step : ℕ) (call : PlainCall) (a : PlainAnswer) (old mid new : PortSeat)
    → IsGoing c step call (generation_in (last_word mid)) old mid
    → MakesOne (IsMadeIn (generation_in (last_word new)) (IsAnswerOf c step call a)) mid new
    → IsBetweenCalls c (step + 1) (list_seen new)
    → generation_in (last_word new) ≡ generation_in (last_word mid)
    → generation_of (list_seen new) ≡ generation_in (last_word new)
    → step_count mid ≤ step_count new
    → install_count new ≡ install_count mid
    → IsAnswered c step call a old new
answers_going c step call a old mid new h k next same still steps installs =
    let x = k.entry in
    let last = last_in x.what.entry.generation (generation_in (last_word mid)) h.so_far.pauses
    (k.is.at_generation ∙ same) h.last in
    let after = made_after _ mid new k in
    let at = k.is.at_generation in
    let before = h.so_far.installed in
    let renewed = h.so_far.renewed in
    record {
      begins = begins_one (list_seen old) _ mid new h.so_far.begins k;
      pauses = h.so_far.pauses;
      last = x;
      adds =
          k.own
          ∙ ap (λ (xs : List (Stamped EntryWithCall)). xs ++ x ∷ []) h.so_far.adds
          ∙ append_assoc (own_entries old) h.so_far.pauses (x ∷ []);
      are_pauses = h.so_far.are_pauses;
      is_answer = k.is.is;
      one = keep_push h.so_far.pauses x h.so_far.one last;
      next = next;
      held = at;
      renewed = omega arith;
      installed = omega arith;
    }

abbrev pub answers_change : (c step : ℕ) (call : PlainCall) (a : PlainAnswer) (old new : PortSeat)
    → Changes c step call a old new
    → step_count old ≤ step_count new
    → IsAnswered c step call a old new
answers_change c step call a old new h steps =
    let k = h.made in
    let x = k.entry in
    let after = made_after _ old new k in
    let at = k.is.at_generation in
    let installs = h.installed in
    record {
      begins = begins_one (list_seen old) _ old new (begins_same (list_seen old)) k;
      pauses = [];
      last = x;
      adds = k.own;
      are_pauses = tt;
      is_answer = k.is.is;
      one = (match_unit (is_wait x.what.entry.event), tt);
      next = h.next;
      held = at;
      renewed = omega arith;
      installed = omega arith;
    }

-- ---- seats that know the same of the history

pub record KnowsSame (s t : PortSeat) : Type 0 where
  pub list : list_seen t ≡ list_seen s
  pub own : own_entries t ≡ own_entries s
  pub installs : install_count t ≡ install_count s

pub knows_same : (s t : PortSeat) → KeepsTurn s t → number_of t ≡ number_of s → KnowsSame s t
knows_same s t h n =
    record {
      list = h.list;
      own = ap (λ (k : ℕ). entries_by k (list_seen t)) n ∙ ap (entries_by (number_of s)) h.list;
      installs = h.installs;
    }

abbrev pub answered_between : (c step : ℕ) (call : PlainCall) (a : PlainAnswer) (s old new t : PortSeat)
    → KnowsSame s old
    → KnowsSame new t
    → generation_in (last_word t) ≡ generation_in (last_word new)
    → step_count s ≤ step_count old
    → step_count new ≤ step_count t
    → IsAnswered c step call a old new
    → IsAnswered c step call a s t
answered_between c step call a s old new t k l word first last h =
    let renewed = h.renewed in
    let i = h.installed in
    let j = k.installs in
    let n = l.installs in
    record {
      begins = subst (λ (xs : List (Stamped EntryWithCall)). Begins xs (list_seen t)) k.list
          (subst (Begins (list_seen old)) (sym l.list) h.begins);
      pauses = h.pauses;
      last = h.last;
      adds = l.own ∙ h.adds ∙ ap (λ (xs : List (Stamped EntryWithCall)). xs ++ (h.pauses ++ h.last ∷ [])) k.own;
      are_pauses = h.are_pauses;
      is_answer = h.is_answer;
      one = h.one;
      next = subst (IsBetweenCalls c (step + 1)) (sym l.list) h.next;
      held = h.held ∙ sym word;
      renewed = omega arith;
      installed = omega arith;
    }

pub pauses_between : (c step : ℕ) (call : PlainCall) (s old new t : PortSeat)
    → KnowsSame s old
    → KnowsSame new t
    → step_count s ≤ step_count old
    → step_count new ≤ step_count t
    → Pauses c step call old new
    → Pauses c step call s t
pauses_between c step call s old new t k l first last h =
    let renewed = h.renewed in
    record {
      begins = subst (λ (xs : List (Stamped EntryWithCall)). Begins xs (list_seen t)) k.list
          (subst (Begins (list_seen old)) (sym l.list) h.begins);
      pauses = h.pauses;
      adds = l.own ∙ h.adds ∙ ap (λ (xs : List (Stamped EntryWithCall)). xs ++ h.pauses) k.own;
      are_pauses = h.are_pauses;
      one = h.one;
      renewed = omega arith;
      installed = l.installs ∙ h.installed ∙ k.installs;
    }

pub changes_none : (c step : ℕ) (call : PlainCall) (old new : PortSeat)
    → MakesNone old new
    → step_count old ≤ step_count new
    → install_count new ≡ install_count old
    → Pauses c step call old new
changes_none c step call old new h steps installs =
    record {
      begins = begins_none (list_seen old) old new (begins_same (list_seen old)) h;
      pauses = [];
      adds = h.own ∙ sym (append-nil (own_entries old));
      are_pauses = tt;
      one = tt;
      renewed = omega arith;
      installed = installs;
    }

-- ---- a call that must wait gives its reference back

one_rested : (P : List (Stamped EntryWithCall) → Stamped EntryWithCall → Type 0) (old mid new : PortSeat)
    → KnowsSame mid new
    → MakesOne P old mid
    → MakesOne P old new
one_rested P old mid new k h =
    record {
      before = h.before;
      entry = h.entry;
      found = h.found;
      added = k.list ∙ h.added;
      own = k.own ∙ h.own;
      generation = h.generation;
      is = h.is;
    }

none_rested : (old mid new : PortSeat) → KnowsSame mid new → MakesNone old mid → MakesNone old new
none_rested old mid new k h =
    record { found = subst (Keeps (number_of old) (list_seen old)) (sym k.list) h.found; own = k.own ∙ h.own }

pub stepped_on : (old mid new : ℕ) → mid ≡ old → mid < new → old < new
stepped_on old mid new same lt = omega arith

pub rests : (c step : ℕ) (call : PlainCall) (old mid new : PortSeat)
    → KnowsSame mid new
    → step_count old < step_count new
    → Turns c step call (generation_in (last_word old)) old mid must_wait
    → StepsOn c step call old new
rests c step call old mid new k stepped h = (
  inr (
    elim (h.0) [
      | inl none ↦ inl (none_rested old mid new k none.0, none.1)
      | inr made ↦ inr (one_rested _ old mid new k made)
    ],
    stepped,
  ),
  subst (IsUnderWay c step call (generation_in (last_word new))) (sym k.list) (h.1 (generation_in (last_word new))),
)

-- ---- what was found in the reference word

pub found_lone : (may : Bool) (word : ℕ)
    → may ≡ true
    → users_in word ≡ 0
    → MatchBool may (users_in word ≡ 0) (changing_in word ≡ 0)
found_lone true word e h = h
found_lone false word e h = absurd (false≢true e)
