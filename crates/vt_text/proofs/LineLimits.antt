-- What is kept while the lines of a session of consoles are read: the limits, and the lines of the callers' session.
use Rattle.std.proofs.Common.{◌≡◌, ℕ, ◌+◌, ◌-◌, ◌*◌, ◌/◌, ◌<◌, ◌≤◌, ◌==◌, ◌⊎◌, inl, inr, nat_le, nat_lt, Bool, true}
use Rattle.std.proofs.Common.{false, cond, ◌&&◌, if◌then◌else◌, Option, None, Some, Result, Ok, Err, List, [], ◌∷◌}
use Rattle.std.proofs.Common.{◌++◌, length, refl, sym, ◌∙◌, ap, subst, arith, length-append, leb-true, ltb-true}
use Rattle.std.specs.Prelude.{codes, sum_by}
use Rattle.std.specs.List.{list_any}
use Rattle.std.specs.Str.{bytes_eq}
use Rattle.std.proofs.lemmas.Bool.{and_parts}
use Rattle.std.proofs.lemmas.List.Sums.{sum_by-cons, sum_by-append}
use Rattle.std.proofs.lemmas.Slice.Eq.{bytes_eq-Decides}
use Rattle.tty_base.specs.Sizes.{MOST_KEYS, MOST_OPERATORS, MOST_STEPS}
use Rattle.tty_calls.specs.Sessions.{PlainSession}
use Rattle.text_lines.specs.Lines.{first_is}
use Rattle.text_lines.specs.Values.{word_at, number_at, is_hex, is_name, bytes_of}
use Rattle.session_text.specs.declared.faults.Reason.{Reason}
use Rattle.session_text.specs.declared.faults.Reason.TheVariants as reason
use Rattle.session_text.specs.declared.faults.BadLine.{BadLine}
use Rattle.session_text.specs.Stands.{is_start, in_phase, verdict_on}
use Rattle.session_text.specs.Drafts.{all_phases}
use Rattle.session_text.specs.Refusals.{next_line}
use Rattle.session_text.specs.Reading.{PlainReading, reading_after_item, then_read, session_from}
use Rattle.session_text.proofs.PhaseCounts.{item_stays, phase_more, end_stays}
use Rattle.session_text.proofs.Within.{length-bytes_of}
use Rattle.vt_text.proofs.Joined.{IsWord, AreWords, AreLines, cost}
use Rattle.vt_text.proofs.Joined.{costs, first_longer, second_short}
use Rattle.vt_text.specs.declared.items.Block.{Block}
use Rattle.vt_text.specs.declared.sessions.OpCall.{OpCall}
use Rattle.vt_text.specs.declared.sessions.OpCall.TheVariants as op
use Rattle.vt_text.specs.declared.verbs.VtVerb.{VtVerb}
use Rattle.vt_text.specs.declared.verbs.VtVerb.TheVariants as vt
use Rattle.vt_text.specs.Sessions.{PlainOperator, PlainVtPhase}
use Rattle.vt_text.specs.Limits.{key_count, calls_of, op_call_count, operator_count}
use Rattle.vt_text.specs.Verbs.{verb_of}
use Rattle.vt_text.specs.Items.{PlainVtReading, first_vt_reading, in_open_phase, is_caller}
use Rattle.vt_text.specs.Items.{is_operator, byte_fault, fault_by, wrong_unless, once_fault}
use Rattle.vt_text.specs.Items.{is_named, keys_fault, operator_fault, activate_fault, state_fault}
use Rattle.vt_text.specs.Items.{with_op_call, with_keys, with_operator, with_call, with_phase_closed}
use Rattle.vt_text.specs.Reading.{bad, ◌>>=◌, unless, after_session_item, is_header, after_header, spend}
use Rattle.vt_text.specs.Reading.{after_border, after_verb, after_item, after_line}
use Rattle.vt_text.proofs.VerbWords.{word_by, no_word, phase_no_call, end_no_call}

abbrev pub one_if : Bool → ℕ
one_if b = if b then 1 else 0

abbrev pub open_count : PlainVtReading → ℕ
open_count r = one_if (in_phase r.session.stand.place)

pub record Within (r : PlainVtReading) : Type 0 where
  pub whole : length (all_phases r.session.draft) ≡ length r.phases + open_count r
  pub keys : key_count r.phases + (length r.keys + r.keys_left) ≤ MOST_KEYS
  pub calls : op_call_count r.phases + (calls_of r.operators + r.calls_left) ≤ MOST_STEPS
  pub operators : length r.operators ≤ MOST_OPERATORS
  pub before : operator_count r.phases ≤ MOST_OPERATORS * length r.phases

-- the callers' session is that of lines from here on, which are so long
pub record ReadsOn (r : PlainReading) (n : ℕ) (x : PlainSession) (long : ℕ) : Type 0 where
  pub lines : List (List (List ℕ))
  pub is : session_from r n lines ≡ Ok x
  pub words : AreLines lines
  pub long_is : costs lines ≡ long

-- how many keys were read
abbrev pub keys_in : PlainVtReading → ℕ
keys_in r = key_count r.phases + length r.keys

-- a line that is so long, and its part of the callers' session
pub record Goes (n long : ℕ) (r next : PlainVtReading) : Type 0 where
  pub within : Within r → Within next
  pub own : ℕ
  pub reads : (x : PlainSession) (rest : ℕ)
      → ReadsOn next.session (next_line n) x rest
      → ReadsOn r.session n x (own + rest)
  pub grows : 2 * keys_in next + own ≤ 2 * keys_in r + long

pub nothing_read : (r : PlainReading) (n : ℕ) (x : PlainSession) (rest : ℕ)
    → ReadsOn r (next_line n) x rest
    → ReadsOn r n x (1 + rest)
nothing_read r n x rest h =
    record { lines = [] ∷ h.lines; is = h.is; words = (tt, h.words); long_is = ap (λ (m : ℕ). 1 + m) h.long_is }

goes_same : (n long : ℕ) (r : PlainVtReading) → 1 ≤ long → Goes n long r r
goes_same n long r some = record {
  within = λ h. h;
  own = 1;
  reads = λ x rest h. nothing_read r.session n x rest h;
  grows = omega (arith, some);
}

pub ok_same : {X : Type 0} (a b : X) → (let r : Result X BadLine = Ok a in r) ≡ Ok b → a ≡ b
ok_same a b h = cc

-- ---- an item of the callers' session

abbrev item_read : PlainReading → ℕ → List ℕ → List (List ℕ) → Result PlainReading BadLine
item_read r n word arguments = reading_after_item r n arguments (verdict_on r.stand word arguments)

record Takes (r : PlainVtReading) (n : ℕ) (word : List ℕ) (arguments : List (List ℕ))
    (next : PlainVtReading) : Type 0 where
  session : PlainReading
  good : item_read r.session n word arguments ≡ Ok session
  is : next ≡ record r { session = session }

takes_by : (r : PlainVtReading) (n : ℕ) (word : List ℕ) (arguments : List (List ℕ)) (read : Result PlainReading BadLine)
    (next : PlainVtReading)
    → item_read r.session n word arguments ≡ read
    → (read >>= λ (session : PlainReading). Ok (record r { session = session })) ≡ Ok next
    → Takes r n word arguments next
takes_by r n word arguments (Ok session) next e h =
    record { session = session; good = e; is = sym (ok_same (record r { session = session }) next h) }
takes_by r n word arguments (Err line) next e h = absurd (cc)

takes : (r : PlainVtReading) (n : ℕ) (word : List ℕ) (arguments : List (List ℕ)) (next : PlainVtReading)
    → after_session_item r n word arguments ≡ Ok next
    → Takes r n word arguments next
takes r n word arguments next h = takes_by r n word arguments (item_read r.session n word arguments) next refl h

reads_item : (r : PlainReading) (n : ℕ) (word : List ℕ) (arguments : List (List ℕ)) (session : PlainReading)
    (x : PlainSession) (rest : ℕ)
    → first_is 35 word ≡ false
    → AreWords (word ∷ arguments)
    → item_read r n word arguments ≡ Ok session
    → ReadsOn session (next_line n) x rest
    → ReadsOn r n x (cost (word ∷ arguments) + rest)
reads_item r n word arguments session x rest says words good h = record {
  lines = (word ∷ arguments) ∷ h.lines;
  is = ap (λ (b : Bool).
      then_read (cond b (Ok r) (item_read r n word arguments)) (λ next. session_from next (next_line n) h.lines)) says
      ∙ ap (λ (read : Result PlainReading BadLine). then_read read (λ next. session_from next (next_line n) h.lines))
      good
      ∙ h.is;
  words = (words, h.words);
  long_is = ap (λ (m : ℕ). cost (word ∷ arguments) + m) h.long_is;
}

-- the words of a line that is not too long
record Fits (long : ℕ) (word : List ℕ) (arguments : List (List ℕ)) : Type 0 where
  words : AreWords (word ∷ arguments)
  few : cost (word ∷ arguments) ≤ long

-- words that are put in the place of others
pub ports_word : IsWord (codes "ports")
ports_word = record {
  some = refl;
  no_blank = (refl, (refl, (refl, (refl, (refl, tt)))));
  no_newline = (refl, (refl, (refl, (refl, (refl, tt)))));
}

pub header_word : IsWord (codes "tty-session")
header_word = record {
  some = refl;
  no_blank = (refl, (refl, (refl, (refl, (refl, (refl, (refl, (refl, (refl, (refl, (refl, tt)))))))))));
  no_newline = (refl, (refl, (refl, (refl, (refl, (refl, (refl, (refl, (refl, (refl, (refl, tt)))))))))));
}

pub unless_none : (n : ℕ) (fault : Option Reason) (k next : PlainVtReading)
    → unless n fault k ≡ Ok next
    → (fault ≡ None) × (k ≡ next)
unless_none n None k next h = (refl, ok_same k next h)
unless_none n (Some why) k next h = absurd (cc)

-- of a line that is so long
module _ (long : ℕ) where
  taken_inside : (r : PlainVtReading) (n : ℕ) (word : List ℕ) (arguments : List (List ℕ)) (session : PlainReading)
      → Fits long word arguments
      → first_is 35 word ≡ false
      → bytes_eq word (codes "phase") ≡ false
      → bytes_eq word (codes "end") ≡ false
      → item_read r.session n word arguments ≡ Ok session
      → Goes n long r (record r { session = session })
  taken_inside r n word arguments session fits says p q good =
      let same = item_stays r.session n word arguments session good p q in
      record {
        within = λ h. record {
          whole = same.0 ∙ (h.whole ∙ ap (λ (b : Bool). length r.phases + one_if b) (sym same.1));
          keys = h.keys;
          calls = h.calls;
          operators = h.operators;
          before = h.before;
        };
        own = cost (word ∷ arguments);
        reads = λ x rest h. reads_item r.session n word arguments session x rest says fits.words good h;
        grows = omega (arith, fits.few);
      }

  goes_inside : (r : PlainVtReading) (n : ℕ) (word : List ℕ) (arguments : List (List ℕ)) (next : PlainVtReading)
      → Fits long word arguments
      → first_is 35 word ≡ false
      → bytes_eq word (codes "phase") ≡ false
      → bytes_eq word (codes "end") ≡ false
      → after_session_item r n word arguments ≡ Ok next
      → Goes n long r next
  goes_inside r n word arguments next fits says p q h =
      let t = takes r n word arguments next h in
      subst (Goes n long r) (sym t.is) (taken_inside r n word arguments t.session fits says p q t.good)

  -- ---- a block more, and a call less

  goes_on_to : (n : ℕ) (r next : PlainVtReading) (b : Block)
      → Goes n long r next
      → Goes n long r (record next { block = b })
  goes_on_to n r next b h = record {
    within = λ w.
        let k = h.within w in
        record { whole = k.whole; keys = k.keys; calls = k.calls; operators = k.operators; before = k.before };
    own = h.own;
    reads = h.reads;
    grows = h.grows;
  }

  caller_by : (n : ℕ) (r : PlainVtReading) (read : Result PlainVtReading BadLine) (b : Block) (next : PlainVtReading)
      → ((k : PlainVtReading) → read ≡ Ok k → Goes n long r k)
      → (read >>= λ (k : PlainVtReading). Ok (record k { block = b })) ≡ Ok next
      → Goes n long r next
  caller_by n r (Ok k) b next goes h =
      subst (Goes n long r) (ok_same (record k { block = b }) next h) (goes_on_to n r k b (goes k refl))
  caller_by n r (Err line) b next goes h = absurd (cc)

  spent : (n : ℕ) (r k : PlainVtReading) → Goes n long r k → Goes n long r (record k { calls_left = k.calls_left - 1 })
  spent n r k h = record {
    within = λ w.
        let was = h.within w in
        record {
          whole = was.whole;
          keys = was.keys;
          calls = omega (arith, was.calls);
          operators = was.operators;
          before = was.before;
        };
    own = h.own;
    reads = h.reads;
    grows = h.grows;
  }

  spend_by : (r k : PlainVtReading) (n : ℕ) (none : Bool) (next : PlainVtReading)
      → Goes n long r k
      → (if none then bad n reason.Limit else Ok (record k { calls_left = k.calls_left - 1 })) ≡ Ok next
      → Goes n long r next
  spend_by r k n true next goes h = absurd (cc)
  spend_by r k n false next goes h =
      subst (Goes n long r) (ok_same (record k { calls_left = k.calls_left - 1 }) next h) (spent n r k goes)

  call_by : (r : PlainVtReading) (n : ℕ) (read : Result PlainVtReading BadLine) (next : PlainVtReading)
      → ((k : PlainVtReading) → read ≡ Ok k → Goes n long r k)
      → (read >>= spend n) ≡ Ok next
      → Goes n long r next
  call_by r n (Ok k) next goes h = spend_by r k n (k.calls_left == 0) next (goes k refl) h
  call_by r n (Err line) next goes h = absurd (cc)

  call_in_block : (r : PlainVtReading) (n : ℕ) (word : List ℕ) (arguments : List (List ℕ)) (inside : Bool)
      (next : PlainVtReading)
      → ((k : PlainVtReading) → after_session_item r n word arguments ≡ Ok k → Goes n long r k)
      → (if inside then (after_session_item r n word arguments >>= spend n) else bad n reason.Order) ≡ Ok next
      → Goes n long r next
  call_in_block r n word arguments true next goes h = call_by r n (after_session_item r n word arguments) next goes h
  call_in_block r n word arguments false next goes h = absurd (cc)

  -- ---- the end of a phase

  sum_more : (f : PlainVtPhase → ℕ) (phases : List PlainVtPhase) (p : PlainVtPhase)
      → sum_by f (phases ++ p ∷ []) ≡ sum_by f phases + f p
  sum_more f phases p = omega (arith, sum_by-append f phases (p ∷ []), sum_by-cons f p [])

  closed : (r : PlainVtReading) (session : PlainReading) (is_open now : Bool)
      → in_phase r.session.stand.place ≡ is_open
      → in_phase session.stand.place ≡ now
      → length (all_phases session.draft) ≡ length (all_phases r.session.draft) + one_if now
      → Within r
      → Within (with_phase_closed is_open (record r { session = session }))
  closed r session true now e f many h =
      let p : PlainVtPhase = record { keys = r.keys; operators = r.operators } in
      let was : open_count r ≡ 1 = ap one_if e in
      let is : open_count (with_phase_closed true (record r { session = session })) ≡ one_if now = ap one_if f in
      let longer : length (r.phases ++ p ∷ []) ≡ length r.phases + 1 = length-append r.phases (p ∷ []) in
      record {
        whole = omega (arith, many, h.whole, was, is, longer);
        keys = omega (arith, h.keys, sum_more (λ (x : PlainVtPhase). length x.keys) r.phases p);
        calls = omega (arith, h.calls, sum_more (λ (x : PlainVtPhase). calls_of x.operators) r.phases p);
        operators = omega arith;
        before = omega
            (arith, h.before, h.operators, longer, sum_more (λ (x : PlainVtPhase). length x.operators) r.phases p);
      }
  closed r session false now e f many h =
      let was : open_count r ≡ 0 = ap one_if e in
      let is : open_count (with_phase_closed false (record r { session = session })) ≡ one_if now = ap one_if f in
      record {
        whole = omega (arith, many, h.whole, was, is);
        keys = omega (arith, h.keys);
        calls = omega (arith, h.calls);
        operators = omega arith;
        before = h.before;
      }

  -- the keys of a phase stay as it ends
  keys_closed : (r : PlainVtReading) (session : PlainReading) (is_open : Bool)
      → keys_in (with_phase_closed is_open (record r { session = session })) ≤ keys_in r
  keys_closed r session true =
      let p : PlainVtPhase = record { keys = r.keys; operators = r.operators } in
      omega (arith, sum_more (λ (x : PlainVtPhase). length x.keys) r.phases p)
  keys_closed r session false = omega arith

  border_taken : (r : PlainVtReading) (n : ℕ) (word : List ℕ) (arguments : List (List ℕ)) (session : PlainReading)
      (now : Bool)
      → Fits long word arguments
      → first_is 35 word ≡ false
      → item_read r.session n word arguments ≡ Ok session
      → in_phase session.stand.place ≡ now
      → length (all_phases session.draft) ≡ length (all_phases r.session.draft) + one_if now
      → Goes n long r (with_phase_closed (in_open_phase r) (record r { session = session }))
  border_taken r n word arguments session now fits says good f many = record {
    within = closed r session (in_open_phase r) now refl f many;
    own = cost (word ∷ arguments);
    reads = λ x rest h. reads_item r.session n word arguments session x rest says fits.words good h;
    grows = omega (arith, fits.few, keys_closed r session (in_open_phase r));
  }

  border_by : (r : PlainVtReading) (n : ℕ) (word : List ℕ) (arguments : List (List ℕ)) (now : Bool)
      (read : Result PlainVtReading BadLine) (next : PlainVtReading)
      → Fits long word arguments
      → first_is 35 word ≡ false
      → ((k : PlainVtReading) → read ≡ Ok k → Takes r n word arguments k)
      → ((session : PlainReading)
      → item_read r.session n word arguments ≡ Ok session
      → (length (all_phases session.draft) ≡ length (all_phases r.session.draft) + one_if now)
      × (in_phase session.stand.place ≡ now))
      → (read >>= λ (k : PlainVtReading). Ok (with_phase_closed (in_open_phase r) k)) ≡ Ok next
      → Goes n long r next
  border_by r n word arguments now (Ok k) next fits says taken does h =
      let t = taken k refl in
      let what = does t.session t.good in
      subst (Goes n long r) (ap (λ (l : PlainVtReading). with_phase_closed (in_open_phase r) l) (sym t.is)
      ∙ ok_same (with_phase_closed (in_open_phase r) k) next h)
      (border_taken r n word arguments t.session now fits says t.good what.1 what.0)
  border_by r n word arguments now (Err line) next fits says taken does h = absurd (cc)

  goes_phase : (r : PlainVtReading) (n : ℕ) (arguments : List (List ℕ)) (next : PlainVtReading)
      → Fits long (codes "phase") arguments
      → is_start r.session.stand.place ≡ false
      → after_border r n (codes "phase") arguments ≡ Ok next
      → Goes n long r next
  goes_phase r n arguments next fits past h =
      border_by r n (codes "phase") arguments true (after_session_item r n (codes "phase") arguments) next fits refl
      (λ k e. takes r n (codes "phase") arguments k e)
      (λ session good. phase_more r.session n arguments session past good) h

  goes_end : (r : PlainVtReading) (n : ℕ) (arguments : List (List ℕ)) (next : PlainVtReading)
      → Fits long (codes "end") arguments
      → is_start r.session.stand.place ≡ false
      → after_border r n (codes "end") arguments ≡ Ok next
      → Goes n long r next
  goes_end r n arguments next fits past h =
      border_by r n (codes "end") arguments false (after_session_item r n (codes "end") arguments) next fits refl
      (λ k e. takes r n (codes "end") arguments k e)
      (λ session good. let what = end_stays r.session n arguments session past good in (omega (arith, what.0), what.1))
      h

  -- ---- items of the keyboard and of operators

  -- the last test, where nothing is wrong
  last_fits : (at_place has_arguments : Bool) (argument late : Option Reason)
      → fault_by at_place has_arguments argument late ≡ None
      → late ≡ None
  last_fits true true None late h = h
  last_fits true true (Some why) late h = absurd (cc)
  last_fits true false argument late h = absurd (cc)
  last_fits false has_arguments argument late h = absurd (cc)

  fits_unless : (why : Reason) (fits : Bool) → wrong_unless why fits ≡ None → fits ≡ true
  fits_unless why true h = refl
  fits_unless why false h = absurd (cc)

  few_by_once : (named few : Bool)
      → (if named then Some reason.Order else wrong_unless reason.Limit few) ≡ None
      → few ≡ true
  few_by_once true few h = absurd (cc)
  few_by_once false few h = fits_unless reason.Limit few h

  two_digits : (digits : List ℕ) → 2 * length (bytes_of digits) ≤ length digits
  two_digits digits = twice (length (bytes_of digits)) (length digits) (length-bytes_of digits)
    where
      twice : (n m : ℕ) → n ≤ m / 2 → 2 * n ≤ m
      twice n m h = omega (arith, h)

  -- the digits of keys are no longer than their line
  digits_short : (word : List ℕ) (arguments : List (List ℕ))
      → length (word_at arguments 0) + 1 ≤ cost (word ∷ arguments)
  digits_short word [] = omega arith
  digits_short word (digits ∷ more) = omega (arith, second_short word (digits ∷ more) digits more refl)

  goes_keys : (r : PlainVtReading) (n : ℕ) (arguments : List (List ℕ))
      → length (word_at arguments 0) + 1 ≤ long
      → keys_fault r arguments ≡ None
      → Goes n long r (with_keys r (word_at arguments 0))
  goes_keys r n arguments short none =
      let digits = word_at arguments 0 in
      let late = last_fits (in_open_phase r) (length arguments == 1) (wrong_unless reason.Hex (is_hex digits))
      (wrong_unless reason.Limit (nat_le (length digits / 2) r.keys_left)) none in
      let few : length digits / 2 ≤ r.keys_left =
      leb-true (length digits / 2) r.keys_left
      (fits_unless reason.Limit (nat_le (length digits / 2) r.keys_left) late) in
      record {
        within = λ h. record {
          whole = h.whole;
          keys = omega (arith, h.keys, few, length-bytes_of digits, length-append r.keys (bytes_of digits));
          calls = h.calls;
          operators = h.operators;
          before = h.before;
        };
        own = 1;
        reads = λ x rest h. nothing_read r.session n x rest h;
        grows = omega (arith, two_digits digits, short, length-append r.keys (bytes_of digits));
      }

  goes_operator : (r : PlainVtReading) (n : ℕ) (arguments : List (List ℕ))
      → 1 ≤ long
      → operator_fault r arguments ≡ None
      → Goes n long r (with_operator r (word_at arguments 0))
  goes_operator r n arguments some none =
      let name = word_at arguments 0 in
      let one : PlainOperator = record { name = name; calls = [] } in
      let late = last_fits (in_open_phase r) (length arguments == 1) (wrong_unless reason.Word (is_name name))
      (once_fault r.operators name) none in
      let few : length r.operators < MOST_OPERATORS =
      ltb-true (length r.operators) MOST_OPERATORS
      (few_by_once (list_any (is_named name) r.operators) (nat_lt (length r.operators) MOST_OPERATORS) late) in
      record {
        within = λ h. record {
          whole = h.whole;
          keys = h.keys;
          calls = omega (
            arith,
            h.calls,
            sum_by-append (λ (o : PlainOperator). length o.calls) r.operators (one ∷ []),
            sum_by-cons (λ (o : PlainOperator). length o.calls) one [],
          );
          operators = omega (arith, few, length-append r.operators (one ∷ []));
          before = h.before;
        };
        own = 1;
        reads = λ x rest h. nothing_read r.session n x rest h;
        grows = omega (arith, some);
      }

  as_many : (call : OpCall) (operators : List PlainOperator) → length (with_op_call call operators) ≡ length operators
  as_many call [] = refl
  as_many call (operator ∷ []) = refl
  as_many call (operator ∷ other ∷ operators) = omega (arith, as_many call (other ∷ operators))

  one_more : (call : OpCall) (operators : List PlainOperator)
      → calls_of (with_op_call call operators) ≤ calls_of operators + 1
  one_more call [] = omega arith
  one_more call (operator ∷ []) =
      let longer : PlainOperator = record operator { calls = operator.calls ++ call ∷ [] } in
      omega (
        arith,
        sum_by-cons (λ (o : PlainOperator). length o.calls) longer [],
        sum_by-cons (λ (o : PlainOperator). length o.calls) operator [],
        length-append operator.calls (call ∷ []),
      )
  one_more call (operator ∷ other ∷ operators) =
      omega (
        arith,
        one_more call (other ∷ operators),
        sum_by-cons (λ (o : PlainOperator). length o.calls) operator (with_op_call call (other ∷ operators)),
        sum_by-cons (λ (o : PlainOperator). length o.calls) operator (other ∷ operators),
      )

  goes_call : (r : PlainVtReading) (n : ℕ) (call : OpCall)
      → 1 ≤ long
      → 0 < r.calls_left
      → Goes n long r (with_call r call)
  goes_call r n call here some = record {
    within = λ h. record {
      whole = h.whole;
      keys = h.keys;
      calls = omega (arith, h.calls, some, one_more call r.operators);
      operators = omega (arith, h.operators, as_many call r.operators);
      before = h.before;
    };
    own = 1;
    reads = λ x rest h. nothing_read r.session n x rest h;
    grows = omega (arith, here);
  }

  some_left : (n : ℕ) (at_place has_arguments : Bool) (argument : Option Reason)
      → fault_by at_place has_arguments argument (wrong_unless reason.Limit (nat_lt 0 n)) ≡ None
      → 0 < n
  some_left n at_place has_arguments argument h =
      ltb-true 0 n
      (fits_unless reason.Limit (nat_lt 0 n)
      (last_fits at_place has_arguments argument (wrong_unless reason.Limit (nat_lt 0 n)) h))

  -- ---- a line

  goes_caller : (r : PlainVtReading) (n : ℕ) (word : List ℕ) (arguments : List (List ℕ)) (k : PlainVtReading)
      → Fits long word arguments
      → first_is 35 word ≡ false
      → word ≡ codes "caller"
      → after_session_item r n word arguments ≡ Ok k
      → Goes n long r k
  goes_caller r n word arguments k fits says e h =
      goes_inside r n word arguments k fits says (ap (λ (w : List ℕ). bytes_eq w (codes "phase")) e)
      (ap (λ (w : List ℕ). bytes_eq w (codes "end")) e) h

  fits_ports : (word : List ℕ) (arguments : List (List ℕ))
      → word ≡ codes "consoles"
      → Fits long word arguments
      → Fits long (codes "ports") arguments
  fits_ports word arguments e fits =
      let same = ap (λ (w : List ℕ). length w) e in
      record {
        words = (ports_word, fits.words.1);
        few = omega (arith, fits.few, first_longer (codes "ports") word arguments 0 (omega (arith, same)));
      }

  fits_as : (word other : List ℕ) (arguments : List (List ℕ))
      → word ≡ other
      → Fits long word arguments
      → Fits long other arguments
  fits_as word other arguments e fits = subst (λ (w : List ℕ). Fits long w arguments) e fits

  some_long : (word : List ℕ) (arguments : List (List ℕ)) → Fits long word arguments → 1 ≤ long
  some_long word arguments fits = omega (arith, fits.few)

  goes_verb : (r : PlainVtReading) (n : ℕ) (word : List ℕ) (arguments : List (List ℕ)) (o : Option VtVerb)
      (next : PlainVtReading)
      → Fits long word arguments
      → is_start r.session.stand.place ≡ false
      → first_is 35 word ≡ false
      → verb_of word ≡ o
      → after_verb r n word arguments o ≡ Ok next
      → Goes n long r next
  goes_verb r n word arguments None next fits past says is_verb h = absurd (cc)
  goes_verb r n word arguments (Some vt.Header) next fits past says is_verb h = absurd (cc)
  goes_verb r n word arguments (Some vt.Consoles) next fits past says is_verb h =
      goes_inside r n (codes "ports") arguments next
      (fits_ports word arguments (word_by word vt.Consoles is_verb (λ e. cc)) fits) refl refl refl h
  goes_verb r n word arguments (Some vt.Phase) next fits past says is_verb h =
      goes_phase r n arguments next
      (fits_as word (codes "phase") arguments (word_by word vt.Phase is_verb (λ e. cc)) fits) past
      (subst (λ (w : List ℕ). after_border r n w arguments ≡ Ok next) (word_by word vt.Phase is_verb (λ e. cc)) h)
  goes_verb r n word arguments (Some vt.Caller) next fits past says is_verb h =
      caller_by n r (after_session_item r n word arguments) _ next
      (λ k e. goes_caller r n word arguments k fits says (word_by word vt.Caller is_verb (λ f. cc)) e) h
  goes_verb r n word arguments (Some vt.Keys) next fits past says is_verb h =
      let good = unless_none n (keys_fault r arguments) (with_keys r (word_at arguments 0)) next h in
      subst (Goes n long r) good.1
      (goes_keys r n arguments (omega (arith, fits.few, digits_short word arguments)) good.0)
  goes_verb r n word arguments (Some vt.Operator) next fits past says is_verb h =
      let good = unless_none n (operator_fault r arguments) (with_operator r (word_at arguments 0)) next h in
      subst (Goes n long r) good.1 (goes_operator r n arguments (some_long word arguments fits) good.0)
  goes_verb r n word arguments (Some vt.Activate) next fits past says is_verb h =
      let good =
      unless_none n (activate_fault r arguments) (with_call r (op.Activate (number_at arguments 0))) next h in
      subst (Goes n long r) good.1 (goes_call r n (op.Activate (number_at arguments 0)) (some_long word arguments fits)
      (some_left r.calls_left (is_operator r.block) (length arguments == 1) (byte_fault (word_at arguments 0)) good.0))
  goes_verb r n word arguments (Some vt.State) next fits past says is_verb h =
      let good = unless_none n (state_fault r arguments) (with_call r op.State) next h in
      subst (Goes n long r) good.1
      (goes_call r n op.State (some_long word arguments fits)
      (some_left r.calls_left (is_operator r.block) (length arguments == 0) None good.0))
  goes_verb r n word arguments (Some vt.End) next fits past says is_verb h =
      goes_end r n arguments next (fits_as word (codes "end") arguments (word_by word vt.End is_verb (λ e. cc)) fits)
      past (subst (λ (w : List ℕ). after_border r n w arguments ≡ Ok next) (word_by word vt.End is_verb (λ e. cc)) h)
  goes_verb r n word arguments (Some vt.Call) next fits past says is_verb h =
      call_in_block r n word arguments (is_caller r.block) next
      (λ k e. goes_inside r n word arguments k fits says (no_word word (codes "phase") (phase_no_call word is_verb))
      (no_word word (codes "end") (end_no_call word is_verb)) e) h

pub first_within : Within first_vt_reading
first_within =
    record { whole = refl; keys = omega arith; calls = omega arith; operators = omega arith; before = omega arith }

-- a line goes on from where the reader stands, or begins the reading
abbrev pub Moves : (n long : ℕ) (r next : PlainVtReading) → Type 0
Moves n long r next = Goes n long r next ⊎ Goes n (long + 1) first_vt_reading next

-- the header has its own word
header_fits : (long : ℕ) (word : List ℕ) (arguments : List (List ℕ))
    → Fits long word arguments
    → is_header word arguments ≡ true
    → Fits (long + 1) (codes "tty-session") arguments
header_fits long word arguments fits h =
    let parts = and_parts (bytes_eq word (codes "vt-session") && length arguments == 1)
    (bytes_eq (word_at arguments 0) (codes "1")) h in
    let first = and_parts (bytes_eq word (codes "vt-session")) (length arguments == 1) parts.0 in
    let same = ap (λ (w : List ℕ). length w) ((bytes_eq-Decides word (codes "vt-session")).0 first.0) in
    record {
      words = (header_word, fits.words.1);
      few = omega (arith, fits.few, first_longer (codes "tty-session") word arguments 1 (omega (arith, same)));
    }

header_by : (long n : ℕ) (word : List ℕ) (arguments : List (List ℕ)) (next : PlainVtReading) (good : Bool)
    → Fits long word arguments
    → is_header word arguments ≡ good
    → (if good
    then after_session_item first_vt_reading n (codes "tty-session") arguments
    else bad n reason.Header) ≡ Ok next
    → Goes n (long + 1) first_vt_reading next
header_by long n word arguments next true fits e h =
    goes_inside (long + 1) first_vt_reading n (codes "tty-session") arguments next
    (header_fits long word arguments fits e) refl refl refl h
header_by long n word arguments next false fits e h = absurd (cc)

goes_item : (long : ℕ) (r : PlainVtReading) (n : ℕ) (word : List ℕ) (arguments : List (List ℕ)) (start : Bool)
    (next : PlainVtReading)
    → Fits long word arguments
    → first_is 35 word ≡ false
    → is_start r.session.stand.place ≡ start
    → (if start then after_header n word arguments else after_verb r n word arguments (verb_of word)) ≡ Ok next
    → Moves n long r next
goes_item long r n word arguments true next fits says e h =
    inr (header_by long n word arguments next (is_header word arguments) fits refl h)
goes_item long r n word arguments false next fits says e h =
    inl (goes_verb long r n word arguments (verb_of word) next fits e says refl h)

goes_words : (r : PlainVtReading) (n : ℕ) (word : List ℕ) (arguments : List (List ℕ)) (comment : Bool)
    (next : PlainVtReading)
    → AreWords (word ∷ arguments)
    → first_is 35 word ≡ comment
    → (if comment then Ok r else after_item r n word arguments) ≡ Ok next
    → Moves n (cost (word ∷ arguments)) r next
goes_words r n word arguments true next words e h =
    inl (subst (Goes n (cost (word ∷ arguments)) r) (ok_same r next h)
    (goes_same n (cost (word ∷ arguments)) r (omega arith)))
goes_words r n word arguments false next words e h =
    goes_item (cost (word ∷ arguments)) r n word arguments (is_start r.session.stand.place) next
    (record { words = words; few = omega arith }) e refl h

pub goes_line : (r : PlainVtReading) (n : ℕ) (words : List (List ℕ)) (next : PlainVtReading)
    → AreWords words
    → after_line r n words ≡ Ok next
    → Moves n (cost words) r next
goes_line r n [] next good h = inl (subst (Goes n 1 r) (ok_same r next h) (goes_same n 1 r (omega arith)))
goes_line r n (word ∷ arguments) next good h = goes_words r n word arguments (first_is 35 word) next good refl h
