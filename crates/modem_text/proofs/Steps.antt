-- What a line does to what was read: what is left of the text, and what is kept of the limits.
use Rattle.std.proofs.Common.{◌≡◌, ℕ, ◌+◌, ◌-◌, ◌<◌, ◌≤◌, ◌==◌, nat_le, Bool, true, false, cond}
use Rattle.std.proofs.Common.{if◌then◌else◌, Option, None, Some, Result, Ok, List, [], ◌∷◌, ◌++◌}
use Rattle.std.proofs.Common.{length, map, refl, sym, ◌∙◌, ap, subst, arith, length-append, append-nil}
use Rattle.std.specs.Prelude.{◌&&◌, count_by, is_some, sum_by}
use Rattle.std.specs.List.{AllByRecursion}
use Rattle.std.specs.Str.{bytes_eq}
use Rattle.std.proofs.lemmas.Bool.{both_ways, leb-false, eqb-true}
use Rattle.std.proofs.lemmas.List.Sums.{sum_by-cons, sum_by_push}
use Rattle.tty_base.specs.Sizes.{MOST_STEPS}
use Rattle.tty_calls.specs.Sessions.{PlainPhase, PlainSession}
use Rattle.text_lines.specs.Lines.{first_is}
use Rattle.text_lines.specs.Values.{word_at, number_at}
use Rattle.session_text.specs.declared.faults.Reason.TheVariants as reason
use Rattle.session_text.specs.declared.faults.BadLine.{BadLine}
use Rattle.session_text.specs.declared.verbs.Verb.{Verb}
use Rattle.session_text.specs.declared.verbs.Verb.TheVariants as verb
use Rattle.session_text.specs.Kinds.{may_have}
use Rattle.session_text.specs.Grammar.{caller_key}
use Rattle.session_text.specs.Stands.{PlainKey, PlainStand, callers_on, holds, in_phase}
use Rattle.session_text.specs.Stands.{is_start, key_in, may_stand, stand_after}
use Rattle.session_text.specs.Drafts.{PlainDraft, draft_after}
use Rattle.session_text.specs.Reading.{PlainReading}
use Rattle.further_text.specs.declared.sorts.Sort.{Sort}
use Rattle.further_text.specs.declared.sorts.Sort.TheVariants as sort
use Rattle.further_text.specs.Faults.{on_line, wrong_if, ◌>>=◌}
use Rattle.further_text.specs.Reading.{BaseReading, base_after_item, base_after_ports}
use Rattle.further_text.specs.Reading.{base_after_step, in_open_phase, place_in, spend}
use Rattle.further_text.specs.Sorts.{sort_of}
use Rattle.further_text.proofs.Drafts.{draft_calls, steps_of, calls_after, keys_in, EachPhase, each_after, same_keys}
use Rattle.further_text.proofs.Drafts.{HasOpen, ports_after, phase_before, phase_opened, no_key, is_caller}
use Rattle.further_text.proofs.Items.{then_ok, good, ok_is, not_wrong, not_wrong_unless, sort_by, Took, took_sort}
use Rattle.further_text.proofs.Items.{took_fits, took_header, Takes, base_item, base_ports, step_spent, base_step}
use Rattle.further_text.proofs.Items.{Later, blank_left, comment_left, item_left, own_left, header_left}
use Rattle.modem_text.specs.declared.verbs.ModemVerb.{ModemVerb}
use Rattle.modem_text.specs.declared.items.ModemItem.{ModemItem}
use Rattle.modem_text.specs.declared.items.ModemItem.TheVariants as item
use Rattle.modem_text.specs.Items.{item_of}
use Rattle.modem_text.specs.Left.{is_own}
use Rattle.modem_text.specs.Sessions.{PlainPart, carrier_name}
use Rattle.modem_text.specs.Verbs.{verb_of}
use Rattle.modem_text.specs.Reading.{ModemReading, first_modem_reading, is_modem, port_of, with_base}
use Rattle.modem_text.specs.Reading.{after_session_item, is_taken, with_caller, after_opening}
use Rattle.modem_text.specs.Reading.{with_phase_closed, after_shared, may_stand as may_stand_here, with_item}
use Rattle.modem_text.specs.Reading.{with_own, with_pin, after_own, after_verb, after_item, after_line}

-- ---- what is kept while lines are read

-- how much a phase has beside that is a step
abbrev pub size : PlainPart → ℕ
size part = length part.pins + length part.own

-- none of the callers is `carrier`, and each port has at most 15 of them
pub record AreCallers (keys : List PlainKey) : Type 0 where
  pub named : AllByRecursion (λ (key : PlainKey). bytes_eq key.name carrier_name ≡ false) keys
  pub few : (p : ℕ) → callers_on p keys ≤ 15

pub record Holds (r : ModemReading) : Type 0 where
  pub few : draft_calls r.base.session.draft + (sum_by size r.parts + (size r.part + r.base.steps_left)) ≤ MOST_STEPS
  pub each : EachPhase AreCallers r.base.session.draft
  pub here : in_phase r.base.session.stand.place ≡ true → HasOpen r.callers r.base.session.draft.open_phase

-- a line of these words keeps it, and what is left of the text is read on
pub record Goes (r next : ModemReading) (words : List (List ℕ)) : Type 0 where
  pub holds : Holds r → Holds next
  pub left : (lines : List (List (List ℕ))) (x : PlainSession)
      → Later is_own next.base.session lines x
      → Later is_own r.base.session (words ∷ lines) x

no_callers : AreCallers []
no_callers = record { named = tt; few = λ p. omega arith }

pub first_holds : Holds first_modem_reading
first_holds = record { few = omega arith; each = record { closed = tt; here = tt }; here = λ e. absurd (cc) }

-- ---- an item of the session of ports

-- what it keeps, by its verb
abbrev Keeps : (s : PlainStand) (d : PlainDraft) (ports more : List ℕ) (steps : ℕ) (v : Verb)
    (arguments : List (List ℕ))
    → Type 0
Keeps s d ports more steps v arguments =
    (draft_calls (draft_after s d v arguments) ≤ draft_calls d + steps)
    × EachPhase AreCallers (draft_after s d v arguments)
    × (in_phase (stand_after s v arguments).place ≡ true → HasOpen more (draft_after s d v arguments).open_phase)

keeps_inside : (s : PlainStand) (d : PlainDraft) (ports : List ℕ) (v : Verb) (arguments : List (List ℕ))
    → may_stand v s.place ≡ true
    → (sort_by v ≡ sort.Caller → ⊥)
    → (sort_by v ≡ sort.Border → ⊥)
    → EachPhase AreCallers d
    → (in_phase s.place ≡ true → HasOpen ports d.open_phase)
    → Keeps s d ports ports (steps_of (sort_by v)) v arguments
keeps_inside s d ports v arguments stands no_caller inner each here =
    let none = no_key v arguments no_caller in
    let same : ports ++ map (λ (key : PlainKey). key.port) (caller_key v arguments) ≡ ports =
    ap (λ (keys : List PlainKey). ports ++ map (λ (key : PlainKey). key.port) keys) none ∙ append-nil ports in (
      calls_after s d v arguments,
      each_after AreCallers s d v arguments no_callers
          (λ phase begun h. same_keys AreCallers v arguments (keys_in phase) none h) each,
      λ e. subst (λ (ps : List ℕ). HasOpen ps (draft_after s d v arguments).open_phase) same
          (ports_after ports s d v arguments inner (here (phase_before s v arguments stands inner e))),
    )

keeps_header : (s : PlainStand) (d : PlainDraft) (ports : List ℕ) (v : Verb) (arguments : List (List ℕ))
    → verb.Session ≡ v
    → EachPhase AreCallers d
    → Keeps s d ports ports 0 v arguments
keeps_header s d ports v arguments is each =
    subst (λ (x : Verb). Keeps s d ports ports 0 x arguments) is
    (omega arith, record { closed = each.closed; here = each.here }, λ e. absurd (cc))

keeps_border : (s : PlainStand) (d : PlainDraft) (ports : List ℕ) (v : Verb) (arguments : List (List ℕ))
    → sort_by v ≡ sort.Border
    → EachPhase AreCallers d
    → Keeps s d ports [] 0 v arguments
keeps_border s d ports v arguments border each =
    let none = no_key v arguments (λ e. let both : sort.Border ≡ sort.Caller = sym border ∙ e in absurd (cc)) in (
      subst (λ (k : Sort). draft_calls (draft_after s d v arguments) ≤ draft_calls d + steps_of k) border
          (calls_after s d v arguments),
      each_after AreCallers s d v arguments no_callers
          (λ phase begun h. same_keys AreCallers v arguments (keys_in phase) none h) each,
      λ e. phase_opened s d v arguments border e,
    )

-- ---- a caller more

all_push : (P : PlainKey → Type 0) (keys : List PlainKey) (key : PlainKey)
    → AllByRecursion P keys
    → P key
    → AllByRecursion P (keys ++ key ∷ [])
all_push P [] key h k = (k, tt)
all_push P (x ∷ keys) key h k = (h.0, all_push P keys key h.1 k)

count_ports : (port : ℕ) (keys : List PlainKey)
    → count_by (λ p. p == port) (map (λ (key : PlainKey). key.port) keys) ≡ callers_on port keys
count_ports port [] = refl
count_ports port (key ∷ keys) =
    omega (
      arith,
      count_ports port keys,
      sum_by-cons (λ (p : ℕ). cond (p == port) 1 0) key.port (map (λ (key : PlainKey). key.port) keys),
      sum_by-cons (λ (x : PlainKey). cond (x.port == port) 1 0) key keys,
    )

one_more : (t : Bool) (port p n m : ℕ)
    → (t ≡ true → port ≡ p)
    → (port ≡ p → n < 15)
    → n ≤ 15
    → m ≡ n + cond t 1 0
    → m ≤ 15
one_more true port p n m is few all e = omega (arith, few (is refl), e)
one_more false port p n m is few all e = omega (arith, all, e)

caller_more : (keys : List PlainKey) (key : PlainKey)
    → AreCallers keys
    → bytes_eq key.name carrier_name ≡ false
    → callers_on key.port keys < 15
    → AreCallers (keys ++ key ∷ [])
caller_more keys key h named few = record {
  named = all_push (λ (k : PlainKey). bytes_eq k.name carrier_name ≡ false) keys key h.named named;
  few = λ p.
      one_more (key.port == p) key.port p (callers_on p keys) (callers_on p (keys ++ key ∷ [])) (eqb-true key.port p)
      (λ e. subst (λ (q : ℕ). callers_on q keys < 15) e few) (h.few p)
      (sum_by_push (λ (k : PlainKey). cond (k.port == p) 1 0) keys key);
}

open_same : (ports : List ℕ) (o : Option PlainPhase) (phase : PlainPhase)
    → o ≡ Some phase
    → HasOpen ports o
    → map (λ (key : PlainKey). key.port) (keys_in phase) ≡ ports
open_same ports o phase e h = subst (HasOpen ports) e h

keeps_caller : (s : PlainStand) (d : PlainDraft) (ports : List ℕ) (arguments : List (List ℕ))
    → in_phase s.place ≡ true
    → bytes_eq (word_at arguments 0) carrier_name ≡ false
    → count_by (λ p. p == number_at arguments 1) ports < 15
    → EachPhase AreCallers d
    → (in_phase s.place ≡ true → HasOpen ports d.open_phase)
    → Keeps s d ports (ports ++ number_at arguments 1 ∷ []) 0 verb.Caller arguments
keeps_caller s d ports arguments within named few each here =
    let port = number_at arguments 1 in (
      calls_after s d verb.Caller arguments,
      each_after AreCallers s d verb.Caller arguments no_callers
          (λ phase begun h. caller_more (keys_in phase) (key_in arguments) h named
          (let same =
          ap (λ (ps : List ℕ). count_by (λ p. p == port) ps) (open_same ports d.open_phase phase begun (here within)) in
          omega (arith, few, same, count_ports port (keys_in phase))))
          each,
      λ e. ports_after ports s d verb.Caller arguments (λ f. absurd (cc)) (here within),
    )

-- ---- what is read then

record Reads (r next : ModemReading) (steps : ℕ) (more : List ℕ) (word : List ℕ)
    (arguments : List (List ℕ)) : Type 0 where
  takes : Takes steps r.base word arguments next.base
  keeps : Holds r → Keeps r.base.session.stand r.base.session.draft r.callers more steps takes.took.what arguments

-- the reading with the callers and what the phases have beside, where no more is counted
holds_then : (r next : ModemReading) (steps : ℕ) (more : List ℕ) (word : List ℕ) (arguments : List (List ℕ))
    → Reads r next steps more word arguments
    → next.callers ≡ more
    → sum_by size next.parts + size next.part ≤ sum_by size r.parts + size r.part
    → Holds r
    → Holds next
holds_then r next steps more word arguments reads callers few h =
    let took = reads.takes.took in
    let keeps = reads.keeps h in
    let draft : next.base.session.draft ≡ draft_after r.base.session.stand r.base.session.draft took.what arguments =
    ap (λ (x : PlainReading). x.draft) took.is in
    let stand : next.base.session.stand ≡ stand_after r.base.session.stand took.what arguments =
    ap (λ (x : PlainReading). x.stand) took.is in
    let calls : draft_calls next.base.session.draft
    ≡ draft_calls (draft_after r.base.session.stand r.base.session.draft took.what arguments) = ap draft_calls draft in
    record {
      few = omega (arith, h.few, few, calls, keeps.0, reads.takes.spent);
      each = subst (EachPhase AreCallers) (sym draft) keeps.1;
      here = λ e.
          subst (λ (ps : List ℕ). HasOpen ps next.base.session.draft.open_phase) (sym callers)
          (subst (λ (d : PlainDraft). HasOpen more d.open_phase) (sym draft)
          (keeps.2 (sym (ap (λ (s : PlainStand). in_phase s.place) stand) ∙ e)));
    }

-- ---- each sort of line

pub based : (r next : ModemReading) (read : Result BaseReading BadLine)
    → with_base r read ≡ Ok next
    → (read ≡ Ok next.base) × (next ≡ record r { base = next.base })
based r next read e =
    let went = then_ok read (λ (base : BaseReading). good (record r { base = base })) next e in
    let is = ok_is (record r { base = went.x }) next went.goes_on in
    let base : went.x ≡ next.base = ap (λ (s : ModemReading). s.base) is in
    (went.was ∙ ap (λ (b : BaseReading). good b) base, sym is ∙ ap (λ (b : BaseReading). record r { base = b }) base)

-- what a shared line does, where it leaves all but what is read of the session of ports
abbrev pub Leaves : (r next : ModemReading) → Type 0
Leaves r next = (next.callers ≡ r.callers) × (next.part ≡ r.part) × (next.parts ≡ r.parts)

pub leaves : (r next : ModemReading) (b : BaseReading) → next ≡ record r { base = b } → Leaves r next
leaves r next b e =
    (ap (λ (s : ModemReading). s.callers) e, ap (λ (s : ModemReading). s.part) e, ap (λ (s : ModemReading). s.parts) e)

same_sizes : (r next : ModemReading)
    → Leaves r next
    → sum_by size next.parts + size next.part ≤ sum_by size r.parts + size r.part
same_sizes r next same =
    let parts : sum_by size next.parts ≡ sum_by size r.parts = ap (sum_by size) same.2 in
    let part : size next.part ≡ size r.part = ap size same.1 in
    omega (arith, parts, part)

holds_inside : (r next : ModemReading) (steps : ℕ) (word : List ℕ) (arguments : List (List ℕ))
    (takes : Takes steps r.base word arguments next.base) (k : Sort)
    → sort_of word ≡ k
    → steps_of k ≡ steps
    → (k ≡ sort.Caller → ⊥)
    → (k ≡ sort.Border → ⊥)
    → is_start r.base.session.stand.place ≡ false
    → Leaves r next
    → Holds r
    → Holds next
holds_inside r next steps word arguments takes k is few no_caller inner past same h =
    let sorted : sort_by takes.took.what ≡ k =
    sym (took_sort r.base.session next.base.session word arguments takes.took) ∙ is in
    let fits = took_fits r.base.session next.base.session word arguments takes.took past in
    holds_then r next steps r.callers word arguments
    (record {
      takes = takes;
      keeps = λ holds.
          subst
          (λ (n : ℕ). Keeps r.base.session.stand r.base.session.draft r.callers r.callers n takes.took.what arguments)
          (ap steps_of sorted ∙ few)
          (keeps_inside r.base.session.stand r.base.session.draft r.callers takes.took.what arguments fits.stands
          (λ e. no_caller (sym sorted ∙ e)) (λ e. inner (sym sorted ∙ e)) holds.each holds.here);
    })
    same.0 (same_sizes r next same) h

-- a line that is left
goes_shared : (r next : ModemReading) (steps : ℕ) (word : List ℕ) (arguments : List (List ℕ))
    → first_is 35 word ≡ false
    → is_own word ≡ false
    → Takes steps r.base word arguments next.base
    → (Holds r → Holds next)
    → Goes r next (word ∷ arguments)
goes_shared r next steps word arguments says shared takes holds = record {
  holds = holds;
  left = λ lines x later.
      item_left is_own r.base.session next.base.session word arguments lines x says shared takes.took later;
}

pub record Item (r next : ModemReading) (word : List ℕ) (arguments : List (List ℕ)) : Type 0 where
  pub takes : Takes 0 r.base word arguments next.base
  pub leaves : Leaves r next
  pub opened : next.open_block ≡ r.open_block

pub session_item : (r next : ModemReading) (n : ℕ) (word : List ℕ) (arguments : List (List ℕ))
    → after_session_item r n word arguments ≡ Ok next
    → Item r next word arguments
session_item r next n word arguments e =
    let is = based r next (base_after_item r.base n word arguments) e in
    record {
      takes = base_item r.base next.base n word arguments is.0;
      leaves = leaves r next next.base is.1;
      opened = ap (λ (s : ModemReading). s.open_block) is.1;
    }

goes_header : (r next : ModemReading) (n : ℕ) (word : List ℕ) (arguments : List (List ℕ))
    → first_is 35 word ≡ false
    → is_start r.base.session.stand.place ≡ true
    → after_session_item r n word arguments ≡ Ok next
    → Goes r next (word ∷ arguments)
goes_header r next n word arguments says first e =
    let is = session_item r next n word arguments e in
    let header = took_header r.base.session next.base.session word arguments is.takes.took first in
    goes_shared r next 0 word arguments says
    (header_left is_own r.base.session next.base.session word arguments refl first is.takes.took) is.takes
    (λ h. holds_then r next 0 r.callers word arguments
    (record {
      takes = is.takes;
      keeps = λ holds. keeps_header r.base.session.stand r.base.session.draft
          r.callers is.takes.took.what arguments header holds.each;
    })
    is.leaves.0 (same_sizes r next is.leaves) h)

-- an item that opens the block of a caller
pub record Opens (r next : ModemReading) (port : ℕ) (word : List ℕ) (arguments : List (List ℕ)) : Type 0 where
  pub takes : Takes 0 r.base word arguments next.base
  pub callers : next.callers ≡ r.callers ++ port ∷ []
  pub part : next.part ≡ r.part
  pub parts : next.parts ≡ r.parts
  pub few : count_by (λ p. p == port) r.callers < 15

pub opening : (r next : ModemReading) (n port : ℕ) (word : List ℕ) (arguments : List (List ℕ))
    → after_opening r n word arguments port ≡ Ok next
    → Opens r next port word arguments
opening r next n port word arguments e =
    let went = then_ok (after_session_item r n word arguments) (with_caller n port) next e in
    let is = session_item r went.x n word arguments went.was in
    let last = not_wrong n reason.Limit (nat_le 15 (count_by (λ p. p == port) went.x.callers)) _ next went.goes_on in
    let made = ok_is _ next last.1 in
    let session : went.x.base.session ≡ next.base.session = ap (λ (s : ModemReading). s.base.session) made in
    let left : went.x.base.steps_left ≡ next.base.steps_left = ap (λ (s : ModemReading). s.base.steps_left) made in
    let some = leb-false 15 (count_by (λ p. p == port) went.x.callers) last.0 in
    let same : count_by (λ p. p == port) went.x.callers ≡ count_by (λ p. p == port) r.callers =
    ap (λ (ps : List ℕ). count_by (λ p. p == port) ps) is.leaves.0 in
    record {
      takes = record {
        took = subst (Took r.base.session word arguments) session is.takes.took;
        spent = omega (arith, left, is.takes.spent);
      };
      callers = sym (ap (λ (s : ModemReading). s.callers) made) ∙ ap (λ (ps : List ℕ). ps ++ port ∷ []) is.leaves.0;
      part = sym (ap (λ (s : ModemReading). s.part) made) ∙ is.leaves.1;
      parts = sym (ap (λ (s : ModemReading). s.parts) made) ∙ is.leaves.2;
      few = omega (arith, some, same);
    }

taken_not : (within taken : Bool) → within ≡ true → (within && taken) ≡ false → taken ≡ false
taken_not true taken is e = e
taken_not false taken is e = absurd (cc)

holds_caller : (r next : ModemReading) (word : List ℕ) (arguments : List (List ℕ))
    → sort_of word ≡ sort.Caller
    → is_start r.base.session.stand.place ≡ false
    → is_taken r (word_at arguments 0) ≡ false
    → Opens r next (number_at arguments 1) word arguments
    → Holds r
    → Holds next
holds_caller r next word arguments is past free opens h =
    let took = opens.takes.took in
    let sorted : sort_by took.what ≡ sort.Caller =
    sym (took_sort r.base.session next.base.session word arguments took) ∙ is in
    let caller = is_caller took.what sorted in
    let fits = took_fits r.base.session next.base.session word arguments took past in
    let within : in_phase r.base.session.stand.place ≡ true =
    sym (ap (λ (v : Verb). may_stand v r.base.session.stand.place) caller) ∙ fits.stands in
    let named =
    taken_not (in_phase r.base.session.stand.place) (bytes_eq (word_at arguments 0) carrier_name) within free in
    holds_then r next 0 (r.callers ++ number_at arguments 1 ∷ []) word arguments
    (record {
      takes = opens.takes;
      keeps = λ holds.
          subst (λ (v : Verb). Keeps r.base.session.stand r.base.session.draft r.callers
          (r.callers ++ number_at arguments 1 ∷ []) 0 v arguments)
          (sym caller)
          (keeps_caller r.base.session.stand r.base.session.draft r.callers
          arguments within named opens.few holds.each holds.here);
    })
    opens.callers (let parts : sum_by size next.parts ≡ sum_by size r.parts = ap (sum_by size) opens.parts in
    let part : size next.part ≡ size r.part = ap size opens.part in omega (arith, parts, part)) h

-- with another number of arguments it is no caller's item
pub two_arguments : (r next : PlainReading) (word : List ℕ) (arguments : List (List ℕ))
    → sort_of word ≡ sort.Caller
    → is_start r.stand.place ≡ false
    → (length arguments == 2) ≡ false
    → Took r word arguments next
    → ⊥
two_arguments r next word arguments is past other took =
    let sorted : sort_by took.what ≡ sort.Caller = sym (took_sort r next word arguments took) ∙ is in
    let has : may_have verb.Caller (length arguments) ≡ true =
    sym (ap (λ (v : Verb). may_have v (length arguments)) (is_caller took.what sorted))
    ∙ (took_fits r next word arguments took past).has in
    both_ways (length arguments == 2) other has

goes_caller : (b : Bool) (r next : ModemReading) (n : ℕ) (word : List ℕ) (arguments : List (List ℕ))
    → first_is 35 word ≡ false
    → is_own word ≡ false
    → is_start r.base.session.stand.place ≡ false
    → sort_of word ≡ sort.Caller
    → (length arguments == 2) ≡ b
    → (if b
    then wrong_if n reason.Word (is_taken r (word_at arguments 0))
    (after_opening r n word arguments (number_at arguments 1))
    else after_session_item r n word arguments) ≡ Ok next
    → Goes r next (word ∷ arguments)
goes_caller true r next n word arguments says shared past is two e =
    let free = not_wrong n reason.Word (is_taken r (word_at arguments 0))
    (after_opening r n word arguments (number_at arguments 1)) next e in
    let opens = opening r next n (number_at arguments 1) word arguments free.1 in
    goes_shared r next 0 word arguments says shared opens.takes
    (holds_caller r next word arguments is past free.0 opens)
goes_caller false r next n word arguments says shared past is two e =
    let one = session_item r next n word arguments e in
    absurd (two_arguments r.base.session next.base.session word arguments is past two one.takes.took)

closed_sizes : (b : Bool) (parts : List PlainPart) (part : PlainPart)
    → sum_by size (if b then parts ++ part ∷ [] else parts) + 0 ≤ sum_by size parts + size part
closed_sizes true parts part = omega (arith, sum_by_push size parts part)
closed_sizes false parts part = omega arith

goes_border : (r next : ModemReading) (n : ℕ) (word : List ℕ) (arguments : List (List ℕ))
    → first_is 35 word ≡ false
    → is_own word ≡ false
    → is_start r.base.session.stand.place ≡ false
    → sort_of word ≡ sort.Border
    → (after_session_item r n word arguments
    >>= λ (s : ModemReading). good (with_phase_closed (in_open_phase r.base) s)) ≡ Ok next
    → Goes r next (word ∷ arguments)
goes_border r next n word arguments says shared past is e =
    let went = then_ok (after_session_item r n word arguments)
    (λ (s : ModemReading). good (with_phase_closed (in_open_phase r.base) s)) next e in
    let one = session_item r went.x n word arguments went.was in
    let made = ok_is (with_phase_closed (in_open_phase r.base) went.x) next went.goes_on in
    let base : went.x.base ≡ next.base = ap (λ (s : ModemReading). s.base) made in
    let takes = subst (Takes 0 r.base word arguments) base one.takes in
    let sorted : sort_by takes.took.what ≡ sort.Border =
    sym (took_sort r.base.session next.base.session word arguments takes.took) ∙ is in
    let parts : sum_by size
    (if in_open_phase r.base then went.x.parts ++ went.x.part ∷ [] else went.x.parts) ≡ sum_by size next.parts =
    ap (λ (s : ModemReading). sum_by size s.parts) made in
    let part : 0 ≡ size next.part = ap (λ (s : ModemReading). size s.part) made in
    let same = same_sizes r went.x one.leaves in
    goes_shared r next 0 word arguments says shared takes
    (λ h. holds_then r next 0 [] word arguments
    (record {
      takes = takes;
      keeps = λ holds.
          keeps_border r.base.session.stand r.base.session.draft r.callers takes.took.what arguments sorted holds.each;
    })
    (sym (ap (λ (s : ModemReading). s.callers) made))
    (omega (arith, parts, part, same, closed_sizes (in_open_phase r.base) went.x.parts went.x.part)) h)

goes_sort : (r next : ModemReading) (n : ℕ) (word : List ℕ) (arguments : List (List ℕ)) (k : Sort)
    → first_is 35 word ≡ false
    → is_own word ≡ false
    → is_start r.base.session.stand.place ≡ false
    → sort_of word ≡ k
    → after_shared r n word arguments k ≡ Ok next
    → Goes r next (word ∷ arguments)
goes_sort r next n word arguments sort.Ports says shared past is e =
    let read = based r next (base_after_ports r.base n word arguments) e in
    let takes = base_ports r.base next.base n word arguments read.0 in
    goes_shared r next 0 word arguments says shared takes
    (holds_inside r next 0 word arguments takes sort.Ports is refl (λ f. absurd (cc)) (λ f. absurd (cc)) past
    (leaves r next next.base read.1))
goes_sort r next n word arguments sort.Caller says shared past is e =
    goes_caller (length arguments == 2) r next n word arguments says shared past is refl e
goes_sort r next n word arguments sort.Border says shared past is e =
    goes_border r next n word arguments says shared past is e
goes_sort r next n word arguments sort.Inside says shared past is e =
    let read = based r next (base_after_step r.base n word arguments)
    (not_wrong n reason.Order (is_modem r.open_block) (with_base r (base_after_step r.base n word arguments))
    next e).1 in
    let takes = base_step r.base next.base n word arguments read.0 in
    goes_shared r next 1 word arguments says shared takes
    (holds_inside r next 1 word arguments takes sort.Inside is refl (λ f. absurd (cc)) (λ f. absurd (cc)) past
    (leaves r next next.base read.1))
goes_sort r next n word arguments sort.Other says shared past is e =
    let went = then_ok (after_session_item r n word arguments) _ next e in
    let one = session_item r went.x n word arguments went.was in
    let made = ok_is _ next went.goes_on in
    let base : went.x.base ≡ next.base = ap (λ (s : ModemReading). s.base) made in
    let takes = subst (Takes 0 r.base word arguments) base one.takes in
    let same : Leaves r next = (
      sym (ap (λ (s : ModemReading). s.callers) made) ∙ one.leaves.0,
      sym (ap (λ (s : ModemReading). s.part) made) ∙ one.leaves.1,
      sym (ap (λ (s : ModemReading). s.parts) made) ∙ one.leaves.2,
    ) in
    goes_shared r next 0 word arguments says shared takes
    (holds_inside r next 0 word arguments takes sort.Other is refl (λ f. absurd (cc)) (λ f. absurd (cc)) past same)

-- ---- a line that only this text has

-- it leaves the session of ports, and is as many steps as it adds
record Adds (r next : ModemReading) : Type 0 where
  session : next.base.session ≡ r.base.session
  callers : next.callers ≡ r.callers
  parts : next.parts ≡ r.parts
  few : size next.part + next.base.steps_left ≤ size r.part + r.base.steps_left

holds_own : (r next : ModemReading) → Adds r next → Holds r → Holds next
holds_own r next adds h =
    let calls : draft_calls next.base.session.draft ≡ draft_calls r.base.session.draft =
    ap (λ (s : PlainReading). draft_calls s.draft) adds.session in
    let parts : sum_by size next.parts ≡ sum_by size r.parts = ap (sum_by size) adds.parts in
    record {
      few = omega (arith, h.few, calls, parts, adds.few);
      each = subst (λ (s : PlainReading). EachPhase AreCallers s.draft) (sym adds.session) h.each;
      here =
          subst (λ (ps : List ℕ).
          in_phase next.base.session.stand.place ≡ true → HasOpen ps next.base.session.draft.open_phase)
          (sym adds.callers)
          (subst (λ (s : PlainReading). in_phase s.stand.place ≡ true → HasOpen r.callers s.draft.open_phase)
          (sym adds.session) h.here);
    }

spent : (r made next : ModemReading) (n : ℕ)
    → with_base made (spend n r.base) ≡ Ok next
    → made.callers ≡ r.callers
    → made.parts ≡ r.parts
    → size made.part ≡ size r.part + 1
    → Adds r next
spent r made next n e callers parts more =
    let read = based made next (spend n r.base) e in
    let spends = step_spent r.base next.base n read.0 in
    let part : size next.part ≡ size made.part = ap (λ (s : ModemReading). size s.part) read.1 in
    record {
      session = spends.session;
      callers = ap (λ (s : ModemReading). s.callers) read.1 ∙ callers;
      parts = ap (λ (s : ModemReading). s.parts) read.1 ∙ parts;
      few = omega (arith, spends.spent, part, more);
    }

adds_item : (r next : ModemReading) (n : ℕ) (i : ModemItem) → with_item r n i ≡ Ok next → Adds r next
adds_item r next n (item.Block port) e =
    let made = ok_is _ next (not_wrong n reason.Order (holds r.modems port) _ next e).1 in
    let part : size r.part ≡ size next.part = ap (λ (s : ModemReading). size s.part) made in
    let left : r.base.steps_left ≡ next.base.steps_left = ap (λ (s : ModemReading). s.base.steps_left) made in
    record {
      session = sym (ap (λ (s : ModemReading). s.base.session) made);
      callers = sym (ap (λ (s : ModemReading). s.callers) made);
      parts = sym (ap (λ (s : ModemReading). s.parts) made);
      few = omega (arith, part, left);
    }
adds_item r next n (item.Pin pin up) e = spent r
    (with_pin r (record { port = port_of r.open_block; pin = pin; up = up })) next n e refl refl
    (omega (arith, length-append r.part.pins (record { port = port_of r.open_block; pin = pin; up = up } ∷ [])))
adds_item r next n (item.Call call) e = spent r (with_own r call) next n e refl refl
    (omega (
      arith,
      length-append r.part.own (record { script = length r.callers - 1; place = place_in r.base; call = call } ∷ []),
    ))

adds_own : (r next : ModemReading) (n : ℕ) (v : ModemVerb) (arguments : List (List ℕ))
    → after_own r n v arguments ≡ Ok next
    → Adds r next
adds_own r next n v arguments e =
    let went = then_ok (on_line n (item_of r.base.ports v arguments)) (with_item r n) next
    (not_wrong_unless n reason.Order (may_stand_here r v) _ next e).1 in
    adds_item r next n went.x went.goes_on

-- ---- any line

goes_verb : (o : Option ModemVerb) (r next : ModemReading) (n : ℕ) (word : List ℕ) (arguments : List (List ℕ))
    → first_is 35 word ≡ false
    → is_start r.base.session.stand.place ≡ false
    → verb_of word ≡ o
    → after_verb r n word arguments o ≡ Ok next
    → Goes r next (word ∷ arguments)
goes_verb None r next n word arguments says past is e =
    goes_sort r next n word arguments (sort_of word) says (ap (λ (o : Option ModemVerb). is_some o) is) past refl e
goes_verb (Some v) r next n word arguments says past is e =
    let adds = adds_own r next n v arguments e in
    record {
      holds = holds_own r next adds;
      left = λ lines x later. own_left is_own r.base.session next.base.session word arguments lines x
          (ap (λ (o : Option ModemVerb). is_some o) is) adds.session later;
    }

goes_item : (start : Bool) (r next : ModemReading) (n : ℕ) (word : List ℕ) (arguments : List (List ℕ))
    → first_is 35 word ≡ false
    → is_start r.base.session.stand.place ≡ start
    → (if start then after_session_item r n word arguments else after_verb r n word arguments (verb_of word)) ≡ Ok next
    → Goes r next (word ∷ arguments)
goes_item true r next n word arguments says first e = goes_header r next n word arguments says first e
goes_item false r next n word arguments says past e = goes_verb (verb_of word) r next n word arguments says past refl e

goes_words : (comment : Bool) (r next : ModemReading) (n : ℕ) (word : List ℕ) (arguments : List (List ℕ))
    → first_is 35 word ≡ comment
    → (if comment then Ok r else after_item r n word arguments) ≡ Ok next
    → Goes r next (word ∷ arguments)
goes_words true r next n word arguments is e =
    let same = ok_is r next e in
    record {
      holds = subst Holds same;
      left = λ lines x later. comment_left is_own r.base.session word arguments lines x is
          (subst (λ (s : ModemReading). Later is_own s.base.session lines x) (sym same) later);
    }
goes_words false r next n word arguments is e =
    goes_item (is_start r.base.session.stand.place) r next n word arguments is refl e

pub goes_line : (r next : ModemReading) (n : ℕ) (words : List (List ℕ))
    → after_line r n words ≡ Ok next
    → Goes r next words
goes_line r next n [] e =
    let same = ok_is r next e in
    record {
      holds = subst Holds same;
      left = λ lines x later. blank_left is_own r.base.session lines x
          (subst (λ (s : ModemReading). Later is_own s.base.session lines x) (sym same) later);
    }
goes_line r next n (word ∷ arguments) e = goes_words (first_is 35 word) r next n word arguments refl e
