-- What a line does to what was read: what is left of the text, and what is kept of the limits.
use Rattle.std.proofs.Common.{◌≡◌, inl, inr, ℕ, ◌+◌, ◌-◌, ◌<◌, ◌≤◌, ◌==◌, nat_le, Bool, true, false, cond}
use Rattle.std.proofs.Common.{if◌then◌else◌, Option, None, Some, Result, Ok, Err, List, [], ◌∷◌, ◌++◌}
use Rattle.std.proofs.Common.{length, map, append-nil, refl, sym, ◌∙◌, ap, subst, arith, length-append}
use Rattle.std.specs.Prelude.{◌||◌, count_by, filter, is_some, sum_by}
use Rattle.std.specs.List.{AllByRecursion, list_any, position_from}
use Rattle.std.specs.Str.{bytes_eq}
use Rattle.std.proofs.lemmas.Bool.{both_ways, cases_Bool, eqb-true, leb-false}
use Rattle.std.proofs.lemmas.List.{append_assoc, flat_map_more, map_push}
use Rattle.std.proofs.lemmas.List.Elements.{filter-append}
use Rattle.std.proofs.lemmas.List.Sums.{sum_by_push}
use Rattle.tty_base.specs.Sizes.{MOST_PROCESSES, MOST_STEPS}
use Rattle.tty_calls.specs.Sessions.{PlainPhase, PlainSession}
use Rattle.text_lines.specs.Lines.{first_is}
use Rattle.text_lines.specs.Values.{word_at, number_at}
use Rattle.session_text.specs.declared.faults.Reason.TheVariants as reason
use Rattle.session_text.specs.declared.faults.BadLine.{BadLine}
use Rattle.session_text.specs.declared.verbs.Verb.{Verb}
use Rattle.session_text.specs.declared.verbs.Verb.TheVariants as verb
use Rattle.session_text.specs.Kinds.{may_have}
use Rattle.session_text.specs.Stands.{PlainKey, PlainStand, in_phase, is_start, key_in}
use Rattle.session_text.specs.Drafts.{PlainDraft, draft_after}
use Rattle.session_text.specs.Reading.{PlainReading}
use Rattle.passed_calls.specs.declared.placed.PlacedCall.{PlacedCall}
use Rattle.further_text.specs.declared.sorts.Sort.{Sort}
use Rattle.further_text.specs.declared.sorts.Sort.TheVariants as sort
use Rattle.further_text.specs.Faults.{Read, on_line, wrong_if, ◌>>=◌}
use Rattle.further_text.specs.Reading.{BaseReading, base_after_item, base_after_ports}
use Rattle.further_text.specs.Reading.{base_after_step, in_open_phase, place_in, spend}
use Rattle.further_text.specs.Sorts.{sort_of}
use Rattle.further_text.proofs.Drafts.{draft_calls, steps_of, calls_after, keys_in, EachPhase, each_after}
use Rattle.further_text.proofs.Drafts.{same_keys, no_key, is_caller, phase_kept, start_outside, opens_phase}
use Rattle.further_text.proofs.Items.{then_ok, good, ok_is, not_wrong, not_wrong_unless, sort_by, Took, took_sort}
use Rattle.further_text.proofs.Items.{took_fits, took_header, Takes, base_item, base_ports, step_spent, base_step}
use Rattle.further_text.proofs.Items.{Later, blank_left, comment_left, item_left, own_left, header_left}
use Rattle.job_text.specs.declared.verbs.JobVerb.{JobVerb}
use Rattle.job_text.specs.declared.verbs.JobVerb.TheVariants as job
use Rattle.job_text.specs.declared.calls.OwnCall.{OwnCall}
use Rattle.job_text.specs.declared.calls.OwnCall.TheVariants as call
use Rattle.job_text.specs.declared.sessions.PortProc.{PortProc}
use Rattle.job_text.specs.declared.blocks.Block.{Block}
use Rattle.job_text.specs.declared.blocks.Block.TheVariants as block
use Rattle.job_text.specs.Calls.{call_of}
use Rattle.job_text.specs.Left.{is_own, call_by, calls_by, calls_said, calls_beside}
use Rattle.job_text.specs.Procs.{words_in, proc_of}
use Rattle.job_text.specs.Verbs.{verb_of}
use Rattle.job_text.specs.Reading.{JobsReading, first_jobs_reading, with_base, is_before_phases}
use Rattle.job_text.specs.Reading.{is_caller as is_caller_block, is_exited, is_stray, place_of}
use Rattle.job_text.specs.Reading.{after_session_item, with_caller_of, with_caller, after_opening}
use Rattle.job_text.specs.Reading.{with_phase_closed, after_shared, has_stood, with_proc, after_proc, exits}
use Rattle.job_text.specs.Reading.{with_exit, with_own, with_call, after_call, after_verb, after_item, after_line}

-- ---- what is kept while lines are read

abbrev pub on_port : ℕ → PortProc → Bool
on_port p q = q.port == p

abbrev pub is_named : List ℕ → PortProc → Bool
is_named name q = bytes_eq q.proc.name.bytes name

-- each caller is a process of its port
abbrev pub IsProcKey : List PortProc → PlainKey → Type 0
IsProcKey procs key = list_any (is_named key.name) (filter (on_port key.port) procs) ≡ true

abbrev pub AreProcs : List PortProc → List PlainKey → Type 0
AreProcs procs keys = AllByRecursion (IsProcKey procs) keys

abbrev pub own_count : List (List (PlacedCall OwnCall)) → ℕ
own_count parts = sum_by (λ (own : List (PlacedCall OwnCall)). length own) parts

pub record Holds (r : JobsReading) : Type 0 where
  pub few : draft_calls r.base.session.draft + (own_count r.parts + (length r.own + r.base.steps_left)) ≤ MOST_STEPS
  pub procs : (p : ℕ) → count_by (on_port p) r.procs ≤ MOST_PROCESSES
  pub callers : EachPhase (AreProcs r.procs) r.base.session.draft

-- the calls beside, in order
abbrev pub own_calls : JobsReading → List OwnCall
own_calls r = calls_beside r.parts ++ map (λ (o : PlacedCall OwnCall). o.call) r.own

-- outside of phases the open one has none, and no block of a process is open
pub record Rests (r : JobsReading) : Type 0 where
  pub none : r.own ≡ []
  pub closed : is_caller_block r.open_block ≡ false

abbrev pub Outside : JobsReading → Type 0
Outside r = in_phase r.base.session.stand.place ≡ false → Rests r

-- what a line of these words says is said
pub record Says (r next : JobsReading) (words : List (List ℕ)) : Type 0 where
  pub outside : Outside next
  pub said : own_calls next ≡ own_calls r ++ calls_said words

-- a line of these words keeps it, and what is left of the text is read on
pub record Goes (r next : JobsReading) (words : List (List ℕ)) : Type 0 where
  pub holds : Holds r → Holds next
  pub says : Outside r → Says r next words
  pub left : (lines : List (List (List ℕ))) (x : PlainSession)
      → Later is_own next.base.session lines x
      → Later is_own r.base.session (words ∷ lines) x

pub first_holds : Holds first_jobs_reading
first_holds = record { few = omega arith; procs = λ p. omega arith; callers = record { closed = tt; here = tt } }

pub first_outside : Outside first_jobs_reading
first_outside out = record { none = refl; closed = refl }

-- ---- an item of the session of ports

-- what it keeps of the callers
abbrev Keeps : List PortProc → PlainStand → PlainDraft → Verb → List (List ℕ) → Type 0
Keeps procs s d v arguments = EachPhase (AreProcs procs) d → EachPhase (AreProcs procs) (draft_after s d v arguments)

keeps_all : (procs : List PortProc) (s : PlainStand) (d : PlainDraft) (v : Verb) (arguments : List (List ℕ))
    → (sort_by v ≡ sort.Caller → ⊥)
    → Keeps procs s d v arguments
keeps_all procs s d v arguments other each =
    each_after (AreProcs procs) s d v arguments tt
    (λ phase begun h. same_keys (AreProcs procs) v arguments (keys_in phase) (no_key v arguments other) h) each

key_push : (procs : List PortProc) (keys : List PlainKey) (key : PlainKey)
    → AreProcs procs keys
    → IsProcKey procs key
    → AreProcs procs (keys ++ key ∷ [])
key_push procs [] key h k = (k, tt)
key_push procs (x ∷ keys) key h k = (h.0, key_push procs keys key h.1 k)

keeps_caller : (procs : List PortProc) (s : PlainStand) (d : PlainDraft) (v : Verb) (arguments : List (List ℕ))
    → v ≡ verb.Caller
    → IsProcKey procs (key_in arguments)
    → Keeps procs s d v arguments
keeps_caller procs s d v arguments is named each =
    subst (λ (x : Verb). EachPhase (AreProcs procs) (draft_after s d x arguments)) (sym is)
    (each_after (AreProcs procs) s d verb.Caller arguments tt
    (λ phase begun h. key_push procs (keys_in phase) (key_in arguments) h named) each)

-- what a line reads of the session of ports, where it leaves the processes and adds no calls beside
record Reads (r next : JobsReading) (steps : ℕ) (word : List ℕ) (arguments : List (List ℕ)) : Type 0 where
  takes : Takes steps r.base word arguments next.base
  calls : steps_of (sort_by takes.took.what) ≤ steps
  keeps : Keeps r.procs r.base.session.stand r.base.session.draft takes.took.what arguments
  procs : next.procs ≡ r.procs
  own : own_count next.parts + length next.own ≤ own_count r.parts + length r.own

holds_then : (r next : JobsReading) (steps : ℕ) (word : List ℕ) (arguments : List (List ℕ))
    → Reads r next steps word arguments
    → Holds r
    → Holds next
holds_then r next steps word arguments reads h =
    let took = reads.takes.took in
    let draft : next.base.session.draft ≡ draft_after r.base.session.stand r.base.session.draft took.what arguments =
    ap (λ (x : PlainReading). x.draft) took.is in
    let calls : draft_calls next.base.session.draft
    ≡ draft_calls (draft_after r.base.session.stand r.base.session.draft took.what arguments) = ap draft_calls draft in
    let more = calls_after r.base.session.stand r.base.session.draft took.what arguments in
    record {
      few = omega (arith, h.few, reads.own, calls, more, reads.calls, reads.takes.spent);
      procs = λ p.
          let same : count_by (on_port p) next.procs ≡ count_by (on_port p) r.procs =
          ap (count_by (on_port p)) reads.procs in
          omega (arith, h.procs p, same);
      callers =
          subst (λ (qs : List PortProc). EachPhase (AreProcs qs) next.base.session.draft) (sym reads.procs)
          (subst (EachPhase (AreProcs r.procs)) (sym draft) (reads.keeps h.callers));
    }

unsaid_by : (o : Option JobVerb) (arguments : List (List ℕ)) → is_some o ≡ false → calls_by o arguments ≡ []
unsaid_by None arguments h = refl
unsaid_by (Some v) arguments h = absurd (cc)

unsaid : (word : List ℕ) (arguments : List (List ℕ))
    → first_is 35 word ≡ false
    → is_own word ≡ false
    → calls_said (word ∷ arguments) ≡ []
unsaid word arguments says shared =
    ap (λ (b : Bool). if b then [] else calls_by (verb_of word) arguments) says
    ∙ unsaid_by (verb_of word) arguments shared

same_calls : (r next : JobsReading) → next.own ≡ r.own → next.parts ≡ r.parts → own_calls next ≡ own_calls r
same_calls r next own parts =
    ap (λ (xs : List (List (PlacedCall OwnCall))). calls_beside xs ++ map (λ (o : PlacedCall OwnCall). o.call) next.own)
    parts
    ∙ ap (λ (xs : List (PlacedCall OwnCall)). calls_beside r.parts ++ map (λ (o : PlacedCall OwnCall). o.call) xs) own

nothing_said : (r next : JobsReading) (words : List (List ℕ))
    → calls_said words ≡ []
    → own_calls next ≡ own_calls r
    → own_calls next ≡ own_calls r ++ calls_said words
nothing_said r next words none same =
    same ∙ sym (append-nil (own_calls r)) ∙ ap (λ (xs : List OwnCall). own_calls r ++ xs) (sym none)

-- behind an item that is no border a phase goes on
outside_before : (r next : PlainReading) (word : List ℕ) (arguments : List (List ℕ)) (took : Took r word arguments next)
    → is_start r.stand.place ≡ false
    → (sort_by took.what ≡ sort.Border → ⊥)
    → in_phase next.stand.place ≡ false
    → in_phase r.stand.place ≡ false
outside_before r next word arguments took past inner out =
    elim (cases_Bool (in_phase r.stand.place)) [
      | inl within ↦
          absurd (both_ways (in_phase next.stand.place) out
          (ap (λ (s : PlainReading). in_phase s.stand.place) took.is
          ∙ phase_kept r.stand took.what arguments (took_fits r next word arguments took past).stands inner within))
      | inr before ↦ before
    ]

says_shared : (r next : JobsReading) (word : List ℕ) (arguments : List (List ℕ))
    (took : Took r.base.session word arguments next.base.session)
    → first_is 35 word ≡ false
    → is_own word ≡ false
    → is_start r.base.session.stand.place ≡ false
    → (sort_by took.what ≡ sort.Border → ⊥)
    → next.own ≡ r.own
    → next.parts ≡ r.parts
    → (in_phase next.base.session.stand.place ≡ false
    → is_caller_block r.open_block ≡ false
    → is_caller_block next.open_block ≡ false)
    → Outside r
    → Says r next (word ∷ arguments)
says_shared r next word arguments took says shared past inner own parts shuts h = record {
  outside = λ out.
      let rests = h (outside_before r.base.session next.base.session word arguments took past inner out) in
      record { none = own ∙ rests.none; closed = shuts out rests.closed };
  said = nothing_said r next (word ∷ arguments) (unsaid word arguments says shared) (same_calls r next own parts);
}

goes_shared : (r next : JobsReading) (steps : ℕ) (word : List ℕ) (arguments : List (List ℕ))
    → first_is 35 word ≡ false
    → is_own word ≡ false
    → Reads r next steps word arguments
    → (Outside r → Says r next (word ∷ arguments))
    → Goes r next (word ∷ arguments)
goes_shared r next steps word arguments says shared reads tells = record {
  holds = holds_then r next steps word arguments reads;
  says = tells;
  left = λ lines x later.
      item_left is_own r.base.session next.base.session word arguments lines x says shared reads.takes.took later;
}

-- ---- each sort of line

based : (r next : JobsReading) (read : Result BaseReading BadLine)
    → with_base r read ≡ Ok next
    → (read ≡ Ok next.base) × (next ≡ record r { base = next.base })
based r next read e =
    let went = then_ok read (λ (base : BaseReading). good (record r { base = base })) next e in
    let is = ok_is (record r { base = went.x }) next went.goes_on in
    let base : went.x ≡ next.base = ap (λ (s : JobsReading). s.base) is in
    (went.was ∙ ap (λ (b : BaseReading). good b) base, sym is ∙ ap (λ (b : BaseReading). record r { base = b }) base)

abbrev Leaves : (r next : JobsReading) → Type 0
Leaves r next = (next.procs ≡ r.procs) × (next.own ≡ r.own) × (next.parts ≡ r.parts)

leaves : (r next : JobsReading) (b : BaseReading) → next ≡ record r { base = b } → Leaves r next
leaves r next b e =
    (ap (λ (s : JobsReading). s.procs) e, ap (λ (s : JobsReading). s.own) e, ap (λ (s : JobsReading). s.parts) e)

same_count : (r next : JobsReading)
    → Leaves r next
    → own_count next.parts + length next.own ≤ own_count r.parts + length r.own
same_count r next same =
    let parts : own_count next.parts ≡ own_count r.parts = ap own_count same.2 in
    let own : length next.own ≡ length r.own = ap length same.1 in
    omega (arith, parts, own)

same_steps : (a b : Sort) (n : ℕ) → a ≡ b → steps_of b ≡ n → steps_of a ≤ n
same_steps a b n e is = let same = ap steps_of e in omega (arith, same, is)

reads_other : (r next : JobsReading) (steps : ℕ) (word : List ℕ) (arguments : List (List ℕ)) (k : Sort)
    → Takes steps r.base word arguments next.base
    → sort_of word ≡ k
    → steps_of k ≡ steps
    → (k ≡ sort.Caller → ⊥)
    → next.procs ≡ r.procs
    → own_count next.parts + length next.own ≤ own_count r.parts + length r.own
    → Reads r next steps word arguments
reads_other r next steps word arguments k takes is few other procs own =
    let sorted : sort_by takes.took.what ≡ k =
    sym (took_sort r.base.session next.base.session word arguments takes.took) ∙ is in
    record {
      takes = takes;
      calls = same_steps (sort_by takes.took.what) k steps sorted few;
      keeps = keeps_all r.procs r.base.session.stand r.base.session.draft takes.took.what arguments
          (λ e. other (sym sorted ∙ e));
      procs = procs;
      own = own;
    }

record Item (r next : JobsReading) (word : List ℕ) (arguments : List (List ℕ)) : Type 0 where
  takes : Takes 0 r.base word arguments next.base
  leaves : Leaves r next
  opened : next.open_block ≡ r.open_block

session_item : (r next : JobsReading) (n : ℕ) (word : List ℕ) (arguments : List (List ℕ))
    → after_session_item r n word arguments ≡ Ok next
    → Item r next word arguments
session_item r next n word arguments e =
    let is = based r next (base_after_item r.base n word arguments) e in
    record {
      takes = base_item r.base next.base n word arguments is.0;
      leaves = leaves r next next.base is.1;
      opened = ap (λ (s : JobsReading). s.open_block) is.1;
    }

goes_header : (r next : JobsReading) (n : ℕ) (word : List ℕ) (arguments : List (List ℕ))
    → first_is 35 word ≡ false
    → is_start r.base.session.stand.place ≡ true
    → after_session_item r n word arguments ≡ Ok next
    → Goes r next (word ∷ arguments)
goes_header r next n word arguments says first e =
    let is = session_item r next n word arguments e in
    let header = took_header r.base.session next.base.session word arguments is.takes.took first in
    let sorted : sort_of word ≡ sort.Other =
    took_sort r.base.session next.base.session word arguments is.takes.took ∙ ap sort_by (sym header) in
    goes_shared r next 0 word arguments says
    (header_left is_own r.base.session next.base.session word arguments refl first is.takes.took)
    (reads_other r next 0 word arguments sort.Other is.takes sorted refl (λ f. absurd (cc)) is.leaves.0
    (same_count r next is.leaves))
    (λ h.
    let rests = h (start_outside r.base.session.stand.place first) in
    let own = header_left is_own r.base.session next.base.session word arguments refl first is.takes.took in
    record {
      outside = λ out. record { none = is.leaves.1 ∙ rests.none; closed = ap is_caller_block is.opened ∙ rests.closed };
      said = nothing_said r next (word ∷ arguments) (unsaid word arguments says own)
          (same_calls r next is.leaves.1 is.leaves.2);
    })

-- a process that is found is there
found_by : (t : Bool) (i place : ℕ) (rest : Option ℕ) (any : Bool)
    → cond t (Some i) rest ≡ Some place
    → (rest ≡ Some place → any ≡ true)
    → (t || any) ≡ true
found_by true i place rest any e later = refl
found_by false i place rest any e later = later e

found_any : (test : PortProc → Bool) (i place : ℕ) (procs : List PortProc)
    → position_from test i procs ≡ Some place
    → list_any test procs ≡ true
found_any test i place [] e = absurd (cc)
found_any test i place (q ∷ procs) e = found_by (test q) i place (position_from test (i + 1) procs)
    (list_any test procs) e (λ f. found_any test (i + 1) place procs f)

-- an item that opens the block of a caller
record Opens (r next : JobsReading) (name : List ℕ) (port : ℕ) (word : List ℕ)
    (arguments : List (List ℕ)) : Type 0 where
  takes : Takes 0 r.base word arguments next.base
  leaves : Leaves r next
  named : list_any (is_named name) (filter (on_port port) r.procs) ≡ true

opened_by : (r s next : JobsReading) (n : ℕ) (name : List ℕ) (port : ℕ) (word : List ℕ) (arguments : List (List ℕ))
    (o : Option ℕ)
    → Item r s word arguments
    → place_of s port name ≡ o
    → with_caller n port o s ≡ Ok next
    → Opens r next name port word arguments
opened_by r s next n name port word arguments None is found e = absurd (cc)
opened_by r s next n name port word arguments (Some place) is found e =
    let made = ok_is (with_caller_of (record { port = port; place = place }) s) next e in
    let session : s.base.session ≡ next.base.session = ap (λ (x : JobsReading). x.base.session) made in
    let left : s.base.steps_left ≡ next.base.steps_left = ap (λ (x : JobsReading). x.base.steps_left) made in
    record {
      takes = record {
        took = subst (Took r.base.session word arguments) session is.takes.took;
        spent = omega (arith, left, is.takes.spent);
      };
      leaves = (
        sym (ap (λ (x : JobsReading). x.procs) made) ∙ is.leaves.0,
        sym (ap (λ (x : JobsReading). x.own) made) ∙ is.leaves.1,
        sym (ap (λ (x : JobsReading). x.parts) made) ∙ is.leaves.2,
      );
      named = subst (λ (procs : List PortProc). list_any (is_named name) (filter (on_port port) procs) ≡ true)
          is.leaves.0 (found_any (is_named name) 0 place (filter (on_port port) s.procs) found);
    }

opening : (r next : JobsReading) (n : ℕ) (name : List ℕ) (port : ℕ) (word : List ℕ) (arguments : List (List ℕ))
    → after_opening r n word arguments name port ≡ Ok next
    → Opens r next name port word arguments
opening r next n name port word arguments e =
    let went = then_ok (after_session_item r n word arguments)
    (λ (s : JobsReading). with_caller n port (place_of s port name) s) next e in
    opened_by r went.x next n name port word arguments (place_of went.x port name)
    (session_item r went.x n word arguments went.was) refl went.goes_on

-- with another number of arguments it is no caller's item
two_arguments : (r next : PlainReading) (word : List ℕ) (arguments : List (List ℕ))
    → sort_of word ≡ sort.Caller
    → is_start r.stand.place ≡ false
    → (length arguments == 2) ≡ false
    → Took r word arguments next
    → ⊥
two_arguments r next word arguments is past other took =
    let sorted : sort_by took.what ≡ sort.Caller = sym (took_sort r next word arguments took) ∙ is in
    let has : may_have verb.Caller (length arguments) ≡ true =
    sym (ap (λ (v : Verb). may_have v (length arguments)) (is_caller took.what sorted))
    ∙ (took_fits r next word arguments took past).has in
    both_ways (length arguments == 2) other has

goes_caller : (b : Bool) (r next : JobsReading) (n : ℕ) (word : List ℕ) (arguments : List (List ℕ))
    → first_is 35 word ≡ false
    → is_own word ≡ false
    → is_start r.base.session.stand.place ≡ false
    → sort_of word ≡ sort.Caller
    → (length arguments == 2) ≡ b
    → (if b
    then wrong_if n reason.Order (is_stray r (word_at arguments 0) (word_at arguments 1))
    (after_opening r n word arguments (word_at arguments 0) (number_at arguments 1))
    else after_session_item r n word arguments) ≡ Ok next
    → Goes r next (word ∷ arguments)
goes_caller true r next n word arguments says shared past is two e =
    let went = not_wrong n reason.Order (is_stray r (word_at arguments 0) (word_at arguments 1))
    (after_opening r n word arguments (word_at arguments 0) (number_at arguments 1)) next e in
    let opens = opening r next n (word_at arguments 0) (number_at arguments 1) word arguments went.1 in
    let sorted : sort_by opens.takes.took.what ≡ sort.Caller =
    sym (took_sort r.base.session next.base.session word arguments opens.takes.took) ∙ is in
    goes_shared r next 0 word arguments says shared
    (record {
      takes = opens.takes;
      calls = same_steps (sort_by opens.takes.took.what) sort.Caller 0 sorted refl;
      keeps = keeps_caller r.procs r.base.session.stand r.base.session.draft opens.takes.took.what arguments
          (is_caller opens.takes.took.what sorted) opens.named;
      procs = opens.leaves.0;
      own = same_count r next opens.leaves;
    })
    (says_shared r next word arguments opens.takes.took says shared past
    (λ e. let both : sort.Caller ≡ sort.Border = sym sorted ∙ e in absurd (cc)) opens.leaves.1 opens.leaves.2
    (λ out closed. absurd (both_ways (in_phase next.base.session.stand.place) out
    (opens_phase r.base.session next.base.session word arguments opens.takes.took
    (is_caller opens.takes.took.what sorted)))))
goes_caller false r next n word arguments says shared past is two e =
    let one = session_item r next n word arguments e in
    absurd (two_arguments r.base.session next.base.session word arguments is past two one.takes.took)

closed_count : (b : Bool) (parts : List (List (PlacedCall OwnCall))) (own : List (PlacedCall OwnCall))
    → own_count (if b then parts ++ own ∷ [] else parts) + 0 ≤ own_count parts + length own
closed_count true parts own = omega (arith, sum_by_push (λ (xs : List (PlacedCall OwnCall)). length xs) parts own)
closed_count false parts own = omega arith

closed_calls : (b : Bool) (parts : List (List (PlacedCall OwnCall))) (own : List (PlacedCall OwnCall))
    → (b ≡ false → own ≡ [])
    → calls_beside (if b then parts ++ own ∷ [] else parts) ++ []
    ≡ calls_beside parts ++ map (λ (o : PlacedCall OwnCall). o.call) own
closed_calls true parts own none =
    append-nil (calls_beside (parts ++ own ∷ []))
    ∙ sym (flat_map_more (λ (xs : List (PlacedCall OwnCall)). map (λ (o : PlacedCall OwnCall). o.call) xs) [] parts own)
closed_calls false parts own none = ap
    (λ (xs : List (PlacedCall OwnCall)). calls_beside parts ++ map (λ (o : PlacedCall OwnCall). o.call) xs)
    (sym (none refl))

goes_border : (r next : JobsReading) (n : ℕ) (word : List ℕ) (arguments : List (List ℕ))
    → first_is 35 word ≡ false
    → is_own word ≡ false
    → sort_of word ≡ sort.Border
    → (after_session_item r n word arguments
    >>= λ (s : JobsReading). good (with_phase_closed (in_open_phase r.base) s)) ≡ Ok next
    → Goes r next (word ∷ arguments)
goes_border r next n word arguments says shared is e =
    let went = then_ok (after_session_item r n word arguments)
    (λ (s : JobsReading). good (with_phase_closed (in_open_phase r.base) s)) next e in
    let one = session_item r went.x n word arguments went.was in
    let made = ok_is (with_phase_closed (in_open_phase r.base) went.x) next went.goes_on in
    let base : went.x.base ≡ next.base = ap (λ (s : JobsReading). s.base) made in
    let parts : own_count
    (if in_open_phase r.base then went.x.parts ++ went.x.own ∷ [] else went.x.parts) ≡ own_count next.parts =
    ap (λ (s : JobsReading). own_count s.parts) made in
    let own : 0 ≡ length next.own = ap (λ (s : JobsReading). length s.own) made in
    let same = same_count r went.x one.leaves in
    goes_shared r next 0 word arguments says shared
    (reads_other r next 0 word arguments sort.Border (subst (Takes 0 r.base word arguments) base one.takes) is refl
    (λ f. absurd (cc))
    (sym (ap (λ (s : JobsReading). s.procs) made) ∙ one.leaves.0)
    (omega (arith, parts, own, same, closed_count (in_open_phase r.base) went.x.parts went.x.own)))
    (λ h. record {
      outside = λ out. record {
        none = sym (ap (λ (s : JobsReading). s.own) made);
        closed = ap is_caller_block (sym (ap (λ (s : JobsReading). s.open_block) made));
      };
      said =
          nothing_said r next (word ∷ arguments) (unsaid word arguments says shared)
          (sym (ap own_calls made)
          ∙ closed_calls (in_open_phase r.base) went.x.parts went.x.own (λ out. one.leaves.1 ∙ (h out).none)
          ∙ same_calls r went.x one.leaves.1 one.leaves.2);
    })

says_inside : (r next : JobsReading) (word : List ℕ) (arguments : List (List ℕ))
    (took : Took r.base.session word arguments next.base.session) (k : Sort)
    → first_is 35 word ≡ false
    → is_own word ≡ false
    → is_start r.base.session.stand.place ≡ false
    → sort_of word ≡ k
    → (k ≡ sort.Border → ⊥)
    → Leaves r next
    → (is_caller_block r.open_block ≡ false → is_caller_block next.open_block ≡ false)
    → Outside r
    → Says r next (word ∷ arguments)
says_inside r next word arguments took k says shared past is inner same shuts =
    let sorted : sort_by took.what ≡ k = sym (took_sort r.base.session next.base.session word arguments took) ∙ is in
    says_shared r next word arguments took says shared past (λ e. inner (sym sorted ∙ e)) same.1 same.2
    (λ out closed. shuts closed)

goes_sort : (r next : JobsReading) (n : ℕ) (word : List ℕ) (arguments : List (List ℕ)) (k : Sort)
    → first_is 35 word ≡ false
    → is_own word ≡ false
    → is_start r.base.session.stand.place ≡ false
    → sort_of word ≡ k
    → after_shared r n word arguments k ≡ Ok next
    → Goes r next (word ∷ arguments)
goes_sort r next n word arguments sort.Ports says shared past is e =
    let read = based r next (base_after_ports r.base n word arguments) e in
    let same = leaves r next next.base read.1 in
    goes_shared r next 0 word arguments says shared
    (reads_other r next 0 word arguments sort.Ports (base_ports r.base next.base n word arguments read.0) is refl
    (λ f. absurd (cc)) same.0 (same_count r next same))
    (says_inside r next word arguments (base_ports r.base next.base n word arguments read.0).took sort.Ports says shared
    past is (λ f. absurd (cc)) same (λ c. ap (λ (s : JobsReading). is_caller_block s.open_block) read.1 ∙ c))
goes_sort r next n word arguments sort.Caller says shared past is e =
    goes_caller (length arguments == 2) r next n word arguments says shared past is refl e
goes_sort r next n word arguments sort.Border says shared past is e =
    goes_border r next n word arguments says shared is e
goes_sort r next n word arguments sort.Inside says shared past is e =
    let read = based r next (base_after_step r.base n word arguments)
    (not_wrong n reason.Order (is_exited r.open_block) (with_base r (base_after_step r.base n word arguments))
    next e).1 in
    let same = leaves r next next.base read.1 in
    goes_shared r next 1 word arguments says shared
    (reads_other r next 1 word arguments sort.Inside (base_step r.base next.base n word arguments read.0) is refl
    (λ f. absurd (cc)) same.0 (same_count r next same))
    (says_inside r next word arguments (base_step r.base next.base n word arguments read.0).took sort.Inside says shared
    past is (λ f. absurd (cc)) same (λ c. ap (λ (s : JobsReading). is_caller_block s.open_block) read.1 ∙ c))
goes_sort r next n word arguments sort.Other says shared past is e =
    let went = then_ok (after_session_item r n word arguments) _ next e in
    let one = session_item r went.x n word arguments went.was in
    let made = ok_is _ next went.goes_on in
    let base : went.x.base ≡ next.base = ap (λ (s : JobsReading). s.base) made in
    let same : Leaves r next = (
      sym (ap (λ (s : JobsReading). s.procs) made) ∙ one.leaves.0,
      sym (ap (λ (s : JobsReading). s.own) made) ∙ one.leaves.1,
      sym (ap (λ (s : JobsReading). s.parts) made) ∙ one.leaves.2,
    ) in
    goes_shared r next 0 word arguments says shared
    (reads_other r next 0 word arguments sort.Other (subst (Takes 0 r.base word arguments) base one.takes) is refl
    (λ f. absurd (cc)) same.0 (same_count r next same))
    (says_inside r next word arguments (subst (Takes 0 r.base word arguments) base one.takes).took sort.Other says
    shared past is (λ f. absurd (cc)) same (λ c. sym (ap (λ (s : JobsReading). is_caller_block s.open_block) made)))

-- ---- a process more

more_by : (t any more : Bool) → (any ≡ true → more ≡ true) → (t || any) ≡ true → (t || more) ≡ true
more_by true any more later e = refl
more_by false any more later e = later e

any_more : (test : PortProc → Bool) (xs ys : List PortProc) → list_any test xs ≡ true → list_any test (xs ++ ys) ≡ true
any_more test [] ys h = absurd (cc)
any_more test (x ∷ xs) ys h = more_by (test x) (list_any test xs) (list_any test (xs ++ ys)) (any_more test xs ys) h

keys_more : (procs : List PortProc) (q : PortProc) (keys : List PlainKey)
    → AreProcs procs keys
    → AreProcs (procs ++ q ∷ []) keys
keys_more procs q [] h = tt
keys_more procs q (key ∷ keys) h = (
  subst (λ (qs : List PortProc). list_any (is_named key.name) qs ≡ true)
      (sym (filter-append (on_port key.port) procs (q ∷ [])))
      (any_more (is_named key.name) (filter (on_port key.port) procs) (filter (on_port key.port) (q ∷ [])) h.0),
  keys_more procs q keys h.1,
)

phases_more : (procs : List PortProc) (q : PortProc) (phases : List PlainPhase)
    → AllByRecursion (λ (phase : PlainPhase). AreProcs procs (keys_in phase)) phases
    → AllByRecursion (λ (phase : PlainPhase). AreProcs (procs ++ q ∷ []) (keys_in phase)) phases
phases_more procs q [] h = tt
phases_more procs q (phase ∷ phases) h = (keys_more procs q (keys_in phase) h.0, phases_more procs q phases h.1)

callers_more : (procs : List PortProc) (q : PortProc) (phases : List PlainPhase) (flips : List ℕ)
    (o : Option PlainPhase)
    → EachPhase (AreProcs procs) (record { flips = flips; phases = phases; open_phase = o })
    → EachPhase (AreProcs (procs ++ q ∷ [])) (record { flips = flips; phases = phases; open_phase = o })
callers_more procs q phases flips None h = record { closed = phases_more procs q phases h.closed; here = tt }
callers_more procs q phases flips (Some phase) h =
    record { closed = phases_more procs q phases h.closed; here = keys_more procs q (keys_in phase) h.here }

few_more : (t : Bool) (port p n m : ℕ)
    → (t ≡ true → port ≡ p)
    → (port ≡ p → n < MOST_PROCESSES)
    → n ≤ MOST_PROCESSES
    → m ≡ n + cond t 1 0
    → m ≤ MOST_PROCESSES
few_more true port p n m is few all e = omega (arith, few (is refl), e)
few_more false port p n m is few all e = omega (arith, all, e)

record AddsProc (r next : JobsReading) : Type 0 where
  q : PortProc
  session : next.base.session ≡ r.base.session
  steps : next.base.steps_left ≡ r.base.steps_left
  procs : next.procs ≡ r.procs ++ q ∷ []
  own : next.own ≡ r.own
  parts : next.parts ≡ r.parts
  opened : next.open_block ≡ block.Another
  few : count_by (on_port q.port) r.procs < MOST_PROCESSES

holds_proc : (r next : JobsReading) → AddsProc r next → Holds r → Holds next
holds_proc r next adds h =
    let calls : draft_calls next.base.session.draft ≡ draft_calls r.base.session.draft =
    ap (λ (s : PlainReading). draft_calls s.draft) adds.session in
    let parts : own_count next.parts ≡ own_count r.parts = ap own_count adds.parts in
    let own : length next.own ≡ length r.own = ap length adds.own in
    record {
      few = omega (arith, h.few, calls, parts, own, adds.steps);
      procs = λ p.
          few_more (adds.q.port == p) adds.q.port p (count_by (on_port p) r.procs) (count_by (on_port p) next.procs)
          (eqb-true adds.q.port p)
          (λ e. subst (λ (n : ℕ). count_by (on_port n) r.procs < MOST_PROCESSES) e adds.few) (h.procs p)
          (ap (count_by (on_port p)) adds.procs
          ∙ sum_by_push (λ (q : PortProc). cond (on_port p q) 1 0) r.procs adds.q);
      callers =
          subst (λ (qs : List PortProc). EachPhase (AreProcs qs) next.base.session.draft) (sym adds.procs)
          (subst (λ (s : PlainReading). EachPhase (AreProcs (r.procs ++ adds.q ∷ [])) s.draft) (sym adds.session)
          (callers_more r.procs adds.q r.base.session.draft.phases r.base.session.draft.flips
          r.base.session.draft.open_phase (record { closed = h.callers.closed; here = h.callers.here })));
    }

adds_proc : (r next : JobsReading) (n : ℕ) (arguments : List (List ℕ))
    → after_proc r n arguments ≡ Ok next
    → AddsProc r next
adds_proc r next n arguments e =
    let went = then_ok (on_line n (words_in arguments >>= proc_of r.base.ports r.procs)) (with_proc r n) next
    (not_wrong_unless n reason.Order (is_before_phases r) _ next e).1 in
    let q = went.x in
    let once = not_wrong n reason.Order (has_stood r.procs q) _ next went.goes_on in
    let few = not_wrong n reason.Limit (nat_le MOST_PROCESSES (count_by (on_port q.port) r.procs)) _ next once.1 in
    let made = ok_is _ next few.1 in
    let some = leb-false MOST_PROCESSES (count_by (on_port q.port) r.procs) few.0 in
    record {
      q = q;
      session = sym (ap (λ (s : JobsReading). s.base.session) made);
      steps = sym (ap (λ (s : JobsReading). s.base.steps_left) made);
      procs = sym (ap (λ (s : JobsReading). s.procs) made);
      own = sym (ap (λ (s : JobsReading). s.own) made);
      parts = sym (ap (λ (s : JobsReading). s.parts) made);
      opened = sym (ap (λ (s : JobsReading). s.open_block) made);
      few = omega (arith, some);
    }

-- ---- a call more

-- it leaves the session of ports, and is a step
record Adds (r next : JobsReading) : Type 0 where
  session : next.base.session ≡ r.base.session
  procs : next.procs ≡ r.procs
  parts : next.parts ≡ r.parts
  few : length next.own + next.base.steps_left ≡ length r.own + r.base.steps_left

holds_call : (r next : JobsReading) → Adds r next → Holds r → Holds next
holds_call r next adds h =
    let calls : draft_calls next.base.session.draft ≡ draft_calls r.base.session.draft =
    ap (λ (s : PlainReading). draft_calls s.draft) adds.session in
    let parts : own_count next.parts ≡ own_count r.parts = ap own_count adds.parts in
    record {
      few = omega (arith, h.few, calls, parts, adds.few);
      procs = λ p.
          let same : count_by (on_port p) next.procs ≡ count_by (on_port p) r.procs =
          ap (count_by (on_port p)) adds.procs in
          omega (arith, h.procs p, same);
      callers =
          subst (λ (qs : List PortProc). EachPhase (AreProcs qs) next.base.session.draft) (sym adds.procs)
          (subst (λ (s : PlainReading). EachPhase (AreProcs r.procs) s.draft) (sym adds.session) h.callers);
    }

-- an exit is noted, which leaves all else
exit_leaves : (b : Block) (r : JobsReading) → Leaves r (exits b r)
exit_leaves (block.Caller process) r = (refl, refl, refl)
exit_leaves block.Exited r = (refl, refl, refl)
exit_leaves block.Another r = (refl, refl, refl)

with_exit_leaves : (c : OwnCall) (r : JobsReading) → Leaves r (with_exit c r)
with_exit_leaves call.Exit r = exit_leaves r.open_block r
with_exit_leaves (call.Sctty h) r = (refl, refl, refl)
with_exit_leaves (call.Notty h) r = (refl, refl, refl)
with_exit_leaves (call.Gpgrp h) r = (refl, refl, refl)
with_exit_leaves (call.Spgrp h group) r = (refl, refl, refl)

adds_call : (r next : JobsReading) (n : ℕ) (c : OwnCall) → with_call r n c ≡ Ok next → Adds r next
adds_call r next n c e =
    let made = with_exit c (with_own r c) in
    let same = with_exit_leaves c (with_own r c) in
    let read = based made next (spend n r.base) e in
    let spends = step_spent r.base next.base n read.0 in
    let own : length next.own ≡ length (with_own r c).own =
    ap (λ (s : JobsReading). length s.own) read.1 ∙ ap length same.1 in
    record {
      session = spends.session;
      procs = ap (λ (s : JobsReading). s.procs) read.1 ∙ same.0;
      parts = ap (λ (s : JobsReading). s.parts) read.1 ∙ same.2;
      few = omega (
        arith,
        spends.spent,
        own,
        length-append r.own (record { script = length r.scripts - 1; place = place_in r.base; call = c } ∷ []),
      );
    }

line_call : (n : ℕ) (read : Read OwnCall) (c : OwnCall) → on_line n read ≡ Ok c → call_by read ≡ c ∷ []
line_call n (Ok x) c e = ap (λ (y : OwnCall). y ∷ []) (ok_is x c e)
line_call n (Err why) c e = absurd (cc)

call_more : (parts : List (List (PlacedCall OwnCall))) (own : List (PlacedCall OwnCall)) (o : PlacedCall OwnCall)
    → calls_beside parts ++ map (λ (x : PlacedCall OwnCall). x.call) (own ++ o ∷ [])
    ≡ (calls_beside parts ++ map (λ (x : PlacedCall OwnCall). x.call) own) ++ o.call ∷ []
call_more parts own o =
    ap (λ (xs : List OwnCall). calls_beside parts ++ xs) (map_push (λ (x : PlacedCall OwnCall). x.call) own o)
    ∙ sym (append_assoc (calls_beside parts) (map (λ (x : PlacedCall OwnCall). x.call) own) (o.call ∷ []))

own_after : (r next : JobsReading) (n : ℕ) (c : OwnCall)
    → with_call r n c ≡ Ok next
    → next.own ≡ r.own ++ record { script = length r.scripts - 1; place = place_in r.base; call = c } ∷ []
own_after r next n c e =
    ap (λ (s : JobsReading). s.own) (based (with_exit c (with_own r c)) next (spend n r.base) e).1
    ∙ (with_exit_leaves c (with_own r c)).1

says_call : (r next : JobsReading) (c : OwnCall) (words : List (List ℕ))
    → Adds r next
    → next.own ≡ r.own ++ record { script = length r.scripts - 1; place = place_in r.base; call = c } ∷ []
    → is_caller_block r.open_block ≡ true
    → calls_said words ≡ c ∷ []
    → Outside r
    → Says r next words
says_call r next c words adds own open_one said h = record {
  outside = λ out. absurd (both_ways (is_caller_block r.open_block)
      (h (sym (ap (λ (s : PlainReading). in_phase s.stand.place) adds.session) ∙ out)).closed open_one);
  said =
      ap
      (λ (xs : List (List (PlacedCall OwnCall))). calls_beside xs ++ map (λ (o : PlacedCall OwnCall). o.call) next.own)
      adds.parts
      ∙ ap (λ (xs : List (PlacedCall OwnCall)). calls_beside r.parts ++ map (λ (o : PlacedCall OwnCall). o.call) xs) own
      ∙ call_more r.parts r.own (record { script = length r.scripts - 1; place = place_in r.base; call = c })
      ∙ ap (λ (xs : List OwnCall). own_calls r ++ xs) (sym said);
}

goes_call : (r next : JobsReading) (n : ℕ) (v : JobVerb) (word : List ℕ) (arguments : List (List ℕ))
    → calls_said (word ∷ arguments) ≡ call_by (call_of v arguments)
    → is_own word ≡ true
    → after_call r n v arguments ≡ Ok next
    → Goes r next (word ∷ arguments)
goes_call r next n v word arguments said own e =
    let stands = not_wrong_unless n reason.Order (is_caller_block r.open_block)
    (on_line n (call_of v arguments) >>= with_call r n) next e in
    let went = then_ok (on_line n (call_of v arguments)) (with_call r n) next stands.1 in
    let adds = adds_call r next n went.x went.goes_on in
    record {
      holds = holds_call r next adds;
      says = says_call r next went.x (word ∷ arguments) adds (own_after r next n went.x went.goes_on) stands.0
          (said ∙ line_call n (call_of v arguments) went.x went.was);
      left = λ lines x later.
          own_left is_own r.base.session next.base.session word arguments lines x own adds.session later;
    }

goes_proc : (r next : JobsReading) (n : ℕ) (word : List ℕ) (arguments : List (List ℕ))
    → calls_said (word ∷ arguments) ≡ []
    → is_own word ≡ true
    → after_proc r n arguments ≡ Ok next
    → Goes r next (word ∷ arguments)
goes_proc r next n word arguments said own e =
    let adds = adds_proc r next n arguments e in
    record {
      holds = holds_proc r next adds;
      says = λ h. record {
        outside = λ out. record {
          none = adds.own ∙ (h (sym (ap (λ (s : PlainReading). in_phase s.stand.place) adds.session) ∙ out)).none;
          closed = ap is_caller_block adds.opened;
        };
        said = nothing_said r next (word ∷ arguments) said (same_calls r next adds.own adds.parts);
      };
      left = λ lines x later.
          own_left is_own r.base.session next.base.session word arguments lines x own adds.session later;
    }

-- ---- any line

own_word : (word : List ℕ) (o : Option JobVerb) → verb_of word ≡ o → is_own word ≡ is_some o
own_word word o e = ap (λ (v : Option JobVerb). is_some v) e

said_by : (word : List ℕ) (arguments : List (List ℕ)) (o : Option JobVerb)
    → first_is 35 word ≡ false
    → verb_of word ≡ o
    → calls_said (word ∷ arguments) ≡ calls_by o arguments
said_by word arguments o says is =
    ap (λ (b : Bool). if b then [] else calls_by (verb_of word) arguments) says
    ∙ ap (λ (v : Option JobVerb). calls_by v arguments) is

goes_verb : (o : Option JobVerb) (r next : JobsReading) (n : ℕ) (word : List ℕ) (arguments : List (List ℕ))
    → first_is 35 word ≡ false
    → is_start r.base.session.stand.place ≡ false
    → verb_of word ≡ o
    → after_verb r n word arguments o ≡ Ok next
    → Goes r next (word ∷ arguments)
goes_verb None r next n word arguments says past is e =
    goes_sort r next n word arguments (sort_of word) says (own_word word None is) past refl e
goes_verb (Some job.Proc) r next n word arguments says past is e =
    goes_proc r next n word arguments (said_by word arguments (Some job.Proc) says is)
    (own_word word (Some job.Proc) is) e
goes_verb (Some job.Sctty) r next n word arguments says past is e =
    goes_call r next n job.Sctty word arguments (said_by word arguments (Some job.Sctty) says is)
    (own_word word (Some job.Sctty) is) e
goes_verb (Some job.Notty) r next n word arguments says past is e =
    goes_call r next n job.Notty word arguments (said_by word arguments (Some job.Notty) says is)
    (own_word word (Some job.Notty) is) e
goes_verb (Some job.Gpgrp) r next n word arguments says past is e =
    goes_call r next n job.Gpgrp word arguments (said_by word arguments (Some job.Gpgrp) says is)
    (own_word word (Some job.Gpgrp) is) e
goes_verb (Some job.Spgrp) r next n word arguments says past is e =
    goes_call r next n job.Spgrp word arguments (said_by word arguments (Some job.Spgrp) says is)
    (own_word word (Some job.Spgrp) is) e
goes_verb (Some job.Exit) r next n word arguments says past is e =
    goes_call r next n job.Exit word arguments (said_by word arguments (Some job.Exit) says is)
    (own_word word (Some job.Exit) is) e

goes_item : (start : Bool) (r next : JobsReading) (n : ℕ) (word : List ℕ) (arguments : List (List ℕ))
    → first_is 35 word ≡ false
    → is_start r.base.session.stand.place ≡ start
    → (if start then after_session_item r n word arguments else after_verb r n word arguments (verb_of word)) ≡ Ok next
    → Goes r next (word ∷ arguments)
goes_item true r next n word arguments says first e = goes_header r next n word arguments says first e
goes_item false r next n word arguments says past e = goes_verb (verb_of word) r next n word arguments says past refl e

goes_words : (comment : Bool) (r next : JobsReading) (n : ℕ) (word : List ℕ) (arguments : List (List ℕ))
    → first_is 35 word ≡ comment
    → (if comment then Ok r else after_item r n word arguments) ≡ Ok next
    → Goes r next (word ∷ arguments)
goes_words true r next n word arguments is e =
    let same = ok_is r next e in
    record {
      holds = subst Holds same;
      says = λ h. record {
        outside = subst Outside same h;
        said = nothing_said r next (word ∷ arguments)
            (ap (λ (b : Bool). if b then [] else calls_by (verb_of word) arguments) is) (ap own_calls (sym same));
      };
      left = λ lines x later. comment_left is_own r.base.session word arguments lines x is
          (subst (λ (s : JobsReading). Later is_own s.base.session lines x) (sym same) later);
    }
goes_words false r next n word arguments is e =
    goes_item (is_start r.base.session.stand.place) r next n word arguments is refl e

pub goes_line : (r next : JobsReading) (n : ℕ) (words : List (List ℕ))
    → after_line r n words ≡ Ok next
    → Goes r next words
goes_line r next n [] e =
    let same = ok_is r next e in
    record {
      holds = subst Holds same;
      says = λ h.
          record { outside = subst Outside same h; said = nothing_said r next [] refl (ap own_calls (sym same)) };
      left = λ lines x later. blank_left is_own r.base.session lines x
          (subst (λ (s : JobsReading). Later is_own s.base.session lines x) (sym same) later);
    }
goes_line r next n (word ∷ arguments) e = goes_words (first_is 35 word) r next n word arguments refl e
