-- What the lines of a text say that only it has is what its phases have beside.
use Rattle.std.proofs.Common.{◌≡◌, inl, inr, ℕ, ◌-◌, ◌==◌, Bool, true, false, if◌then◌else◌, Option, None, Some, Ok}
use Rattle.std.proofs.Common.{Err, List, [], ◌∷◌, ◌++◌, length, append-nil, append_assoc, refl, sym, ◌∙◌, ap, subst}
use Rattle.std.specs.Prelude.{flat_map, is_some}
use Rattle.std.proofs.lemmas.Bool.{both_ways, cases_Bool}
use Rattle.std.proofs.lemmas.List.{flat_map_more, map_push}
use Rattle.text_lines.specs.Lines.{first_is}
use Rattle.text_lines.specs.Values.{word_at, number_at}
use Rattle.session_text.specs.declared.faults.Reason.TheVariants as reason
use Rattle.session_text.specs.Stands.{holds, in_phase, is_start}
use Rattle.session_text.specs.Reading.{PlainReading}
use Rattle.passed_calls.specs.declared.placed.PlacedCall.{PlacedCall}
use Rattle.further_text.specs.declared.sorts.Sort.{Sort}
use Rattle.further_text.specs.declared.sorts.Sort.TheVariants as sort
use Rattle.further_text.specs.Faults.{Read, on_line, wrong_if, ◌>>=◌}
use Rattle.further_text.specs.Numbers.{port_in}
use Rattle.further_text.specs.Reading.{base_after_ports, base_after_step, in_open_phase, place_in, spend}
use Rattle.further_text.specs.Sorts.{sort_of}
use Rattle.further_text.proofs.Drafts.{is_caller as caller_is, opens_phase, phase_kept, start_outside}
use Rattle.further_text.proofs.Items.{then_ok, good, ok_is, not_wrong, not_wrong_unless, sort_by, Took}
use Rattle.further_text.proofs.Items.{took_sort, took_fits, base_ports, step_spent, base_step, header_left}
use Rattle.modem_text.specs.declared.verbs.ModemVerb.{ModemVerb}
use Rattle.modem_text.specs.declared.verbs.ModemVerb.TheVariants as modem
use Rattle.modem_text.specs.declared.items.ModemItem.{ModemItem}
use Rattle.modem_text.specs.declared.items.ModemItem.TheVariants as item
use Rattle.modem_text.specs.declared.items.OwnCall.{OwnCall}
use Rattle.modem_text.specs.declared.reader.Block.{Block}
use Rattle.modem_text.specs.declared.reader.Block.TheVariants as block
use Rattle.modem_text.specs.declared.sessions.PinItem.{PinItem}
use Rattle.modem_text.specs.Items.{item_of}
use Rattle.modem_text.specs.Left.{is_own, item_by, items_by, items_said, call_in, pin_in, own_of, pins_of}
use Rattle.modem_text.specs.Sessions.{PlainPart, no_part, step_of}
use Rattle.modem_text.specs.Verbs.{verb_of}
use Rattle.modem_text.specs.Reading.{ModemReading, first_modem_reading, is_caller, is_modem, port_of}
use Rattle.modem_text.specs.Reading.{with_base, after_session_item, is_taken, after_opening}
use Rattle.modem_text.specs.Reading.{with_phase_closed, after_shared, may_stand, with_item, with_own}
use Rattle.modem_text.specs.Reading.{with_pin, after_own, after_verb, after_item, after_line}
use Rattle.modem_text.proofs.Steps.{based, leaves, session_item, opening, two_arguments}

-- ---- what was said so far, in order

abbrev pub so_far : {X : Type 0} → (PlainPart → List X) → ModemReading → List X
so_far of_part r = flat_map of_part r.parts ++ of_part r.part

-- outside of phases the open one has nothing beside, and no block is open
pub record Rests (r : ModemReading) : Type 0 where
  pub none : r.part ≡ no_part
  pub closed : r.open_block ≡ block.Another

abbrev pub Outside : ModemReading → Type 0
Outside r = in_phase r.base.session.stand.place ≡ false → Rests r

-- what a line says is added
abbrev pub Told : {X : Type 0} → (PlainPart → List X) → (ModemItem → List X) → (r next : ModemReading)
    → (words : List (List ℕ))
    → Type 0
Told of_part of_item r next words = so_far of_part next ≡ so_far of_part r ++ flat_map of_item (items_said words)

pub record Says (r next : ModemReading) (words : List (List ℕ)) : Type 0 where
  pub outside : Outside next
  pub calls : Told own_of call_in r next words
  pub pins : Told pins_of pin_in r next words

pub first_outside : Outside first_modem_reading
first_outside out = record { none = refl; closed = refl }

same_far : {X : Type 0} (of_part : PlainPart → List X) (r next : ModemReading)
    → next.part ≡ r.part
    → next.parts ≡ r.parts
    → so_far of_part next ≡ so_far of_part r
same_far of_part r next part parts =
    ap (λ (ps : List PlainPart). flat_map of_part ps ++ of_part next.part) parts
    ∙ ap (λ (p : PlainPart). flat_map of_part r.parts ++ of_part p) part

-- a line that says nothing
nothing_told : {X : Type 0} (of_part : PlainPart → List X) (of_item : ModemItem → List X) (r next : ModemReading)
    (words : List (List ℕ))
    → items_said words ≡ []
    → so_far of_part next ≡ so_far of_part r
    → Told of_part of_item r next words
nothing_told {X} of_part of_item r next words none same =
    same
    ∙ sym (append-nil (so_far of_part r))
    ∙ ap (λ (items : List ModemItem). so_far of_part r ++ flat_map of_item items) (sym none)

-- ---- a line that may stand in the text of any session

unsaid_by : (o : Option ModemVerb) (arguments : List (List ℕ)) → is_some o ≡ false → items_by o arguments ≡ []
unsaid_by None arguments h = refl
unsaid_by (Some v) arguments h = absurd (cc)

unsaid : (word : List ℕ) (arguments : List (List ℕ))
    → first_is 35 word ≡ false
    → is_own word ≡ false
    → items_said (word ∷ arguments) ≡ []
unsaid word arguments says shared =
    ap (λ (b : Bool). if b then [] else items_by (verb_of word) arguments) says
    ∙ unsaid_by (verb_of word) arguments shared

outside_before : (r next : PlainReading) (word : List ℕ) (arguments : List (List ℕ)) (took : Took r word arguments next)
    → is_start r.stand.place ≡ false
    → (sort_by took.what ≡ sort.Border → ⊥)
    → in_phase next.stand.place ≡ false
    → in_phase r.stand.place ≡ false
outside_before r next word arguments took past inner out =
    elim (cases_Bool (in_phase r.stand.place)) [
      | inl within ↦
          absurd (both_ways (in_phase next.stand.place) out
          (ap (λ (s : PlainReading). in_phase s.stand.place) took.is
          ∙ phase_kept r.stand took.what arguments (took_fits r next word arguments took past).stands inner within))
      | inr before ↦ before
    ]

says_shared : (r next : ModemReading) (word : List ℕ) (arguments : List (List ℕ))
    (took : Took r.base.session word arguments next.base.session) (k : Sort)
    → first_is 35 word ≡ false
    → is_own word ≡ false
    → is_start r.base.session.stand.place ≡ false
    → sort_of word ≡ k
    → (k ≡ sort.Border → ⊥)
    → next.part ≡ r.part
    → next.parts ≡ r.parts
    → (in_phase next.base.session.stand.place ≡ false → r.open_block ≡ block.Another → next.open_block ≡ block.Another)
    → Outside r
    → Says r next (word ∷ arguments)
says_shared r next word arguments took k says shared past is inner part parts shuts h =
    let sorted : sort_by took.what ≡ k = sym (took_sort r.base.session next.base.session word arguments took) ∙ is in
    record {
      outside = λ out.
          let rests = h (outside_before r.base.session next.base.session word arguments took past
          (λ e. inner (sym sorted ∙ e)) out) in
          record { none = part ∙ rests.none; closed = shuts out rests.closed };
      calls = nothing_told own_of call_in r next (word ∷ arguments) (unsaid word arguments says shared)
          (same_far own_of r next part parts);
      pins = nothing_told pins_of pin_in r next (word ∷ arguments) (unsaid word arguments says shared)
          (same_far pins_of r next part parts);
    }

says_header : (r next : ModemReading) (n : ℕ) (word : List ℕ) (arguments : List (List ℕ))
    → items_said (word ∷ arguments) ≡ []
    → is_start r.base.session.stand.place ≡ true
    → after_session_item r n word arguments ≡ Ok next
    → Outside r
    → Says r next (word ∷ arguments)
says_header r next n word arguments none first e h =
    let one = session_item r next n word arguments e in
    let rests = h (start_outside r.base.session.stand.place first) in
    record {
      outside = λ out. record { none = one.leaves.1 ∙ rests.none; closed = one.opened ∙ rests.closed };
      calls =
          nothing_told own_of call_in r next (word ∷ arguments) none (same_far own_of r next one.leaves.1 one.leaves.2);
      pins = nothing_told pins_of pin_in r next (word ∷ arguments) none
          (same_far pins_of r next one.leaves.1 one.leaves.2);
    }

says_caller : (b : Bool) (r next : ModemReading) (n : ℕ) (word : List ℕ) (arguments : List (List ℕ))
    → first_is 35 word ≡ false
    → is_own word ≡ false
    → is_start r.base.session.stand.place ≡ false
    → sort_of word ≡ sort.Caller
    → (length arguments == 2) ≡ b
    → (if b
    then wrong_if n reason.Word (is_taken r (word_at arguments 0))
    (after_opening r n word arguments (number_at arguments 1))
    else after_session_item r n word arguments) ≡ Ok next
    → Outside r
    → Says r next (word ∷ arguments)
says_caller true r next n word arguments says shared past is two e =
    let opens = opening r next n (number_at arguments 1) word arguments
    (not_wrong n reason.Word (is_taken r (word_at arguments 0))
    (after_opening r n word arguments (number_at arguments 1)) next e).1 in
    let took = opens.takes.took in
    let sorted : sort_by took.what ≡ sort.Caller =
    sym (took_sort r.base.session next.base.session word arguments took) ∙ is in
    says_shared r next word arguments took sort.Caller says shared past is (λ f. absurd (cc)) opens.part opens.parts
    (λ out closed. absurd (both_ways (in_phase next.base.session.stand.place) out
    (opens_phase r.base.session next.base.session word arguments took (caller_is took.what sorted))))
says_caller false r next n word arguments says shared past is two e =
    let one = session_item r next n word arguments e in
    absurd (two_arguments r.base.session next.base.session word arguments is past two one.takes.took)

closed_far : {X : Type 0} (of_part : PlainPart → List X) (b : Bool) (parts : List PlainPart) (part : PlainPart)
    → of_part no_part ≡ []
    → (b ≡ false → part ≡ no_part)
    → flat_map of_part (if b then parts ++ part ∷ [] else parts) ++ of_part no_part
    ≡ flat_map of_part parts ++ of_part part
closed_far {X} of_part true parts part none rests =
    ap (λ (xs : List X). flat_map of_part (parts ++ part ∷ []) ++ xs) none
    ∙ append-nil (flat_map of_part (parts ++ part ∷ []))
    ∙ sym (flat_map_more of_part [] parts part)
closed_far of_part false parts part none rests =
    ap (λ (p : PlainPart). flat_map of_part parts ++ of_part p) (sym (rests refl))

says_border : (r next : ModemReading) (n : ℕ) (word : List ℕ) (arguments : List (List ℕ))
    → first_is 35 word ≡ false
    → is_own word ≡ false
    → (after_session_item r n word arguments
    >>= λ (s : ModemReading). good (with_phase_closed (in_open_phase r.base) s)) ≡ Ok next
    → Outside r
    → Says r next (word ∷ arguments)
says_border r next n word arguments says shared e h =
    let went = then_ok (after_session_item r n word arguments)
    (λ (s : ModemReading). good (with_phase_closed (in_open_phase r.base) s)) next e in
    let one = session_item r went.x n word arguments went.was in
    let made = ok_is (with_phase_closed (in_open_phase r.base) went.x) next went.goes_on in
    let none : in_open_phase r.base ≡ false → went.x.part ≡ no_part = λ out. one.leaves.1 ∙ (h out).none in
    record {
      outside = λ out. record {
        none = sym (ap (λ (s : ModemReading). s.part) made);
        closed = sym (ap (λ (s : ModemReading). s.open_block) made);
      };
      calls =
          nothing_told own_of call_in r next (word ∷ arguments) (unsaid word arguments says shared)
          (sym (ap (so_far own_of) made)
          ∙ closed_far own_of (in_open_phase r.base) went.x.parts went.x.part refl none
          ∙ same_far own_of r went.x one.leaves.1 one.leaves.2);
      pins =
          nothing_told pins_of pin_in r next (word ∷ arguments) (unsaid word arguments says shared)
          (sym (ap (so_far pins_of) made)
          ∙ closed_far pins_of (in_open_phase r.base) went.x.parts went.x.part refl none
          ∙ same_far pins_of r went.x one.leaves.1 one.leaves.2);
    }

says_sort : (r next : ModemReading) (n : ℕ) (word : List ℕ) (arguments : List (List ℕ)) (k : Sort)
    → first_is 35 word ≡ false
    → is_own word ≡ false
    → is_start r.base.session.stand.place ≡ false
    → sort_of word ≡ k
    → after_shared r n word arguments k ≡ Ok next
    → Outside r
    → Says r next (word ∷ arguments)
says_sort r next n word arguments sort.Ports says shared past is e =
    let read = based r next (base_after_ports r.base n word arguments) e in
    let same = leaves r next next.base read.1 in
    says_shared r next word arguments (base_ports r.base next.base n word arguments read.0).took sort.Ports says shared
    past is (λ f. absurd (cc)) same.1 same.2
    (λ out closed. ap (λ (s : ModemReading). s.open_block) read.1 ∙ closed)
says_sort r next n word arguments sort.Caller says shared past is e =
    says_caller (length arguments == 2) r next n word arguments says shared past is refl e
says_sort r next n word arguments sort.Border says shared past is e = says_border r next n word arguments says shared e
says_sort r next n word arguments sort.Inside says shared past is e =
    let read = based r next (base_after_step r.base n word arguments)
    (not_wrong n reason.Order (is_modem r.open_block) (with_base r (base_after_step r.base n word arguments))
    next e).1 in
    let same = leaves r next next.base read.1 in
    says_shared r next word arguments (base_step r.base next.base n word arguments read.0).took sort.Inside says shared
    past is (λ f. absurd (cc)) same.1 same.2
    (λ out closed. ap (λ (s : ModemReading). s.open_block) read.1 ∙ closed)
says_sort r next n word arguments sort.Other says shared past is e =
    let went = then_ok (after_session_item r n word arguments)
    (λ (s : ModemReading). good (record s { open_block = block.Another })) next e in
    let one = session_item r went.x n word arguments went.was in
    let made = ok_is (record went.x { open_block = block.Another }) next went.goes_on in
    says_shared r next word arguments
    (subst (Took r.base.session word arguments) (ap (λ (s : ModemReading). s.base.session) made) one.takes.took)
    sort.Other says shared past is (λ f. absurd (cc))
    (sym (ap (λ (s : ModemReading). s.part) made) ∙ one.leaves.1)
    (sym (ap (λ (s : ModemReading). s.parts) made) ∙ one.leaves.2)
    (λ out closed. sym (ap (λ (s : ModemReading). s.open_block) made))

-- ---- a line that only this text has

-- it stands in a phase
within_by : (r : ModemReading) (stands : Bool)
    → (r.open_block ≡ block.Another → stands ≡ false)
    → stands ≡ true
    → Outside r
    → in_phase r.base.session.stand.place ≡ true
within_by r stands shut h outside =
    elim (cases_Bool (in_phase r.base.session.stand.place)) [
      | inl within ↦ within
      | inr out ↦ absurd (both_ways stands (shut (outside out).closed) h)
    ]

no_modem : (r : ModemReading) → r.open_block ≡ block.Another → is_modem r.open_block ≡ false
no_modem r e = ap is_modem e

no_caller : (r : ModemReading) → r.open_block ≡ block.Another → is_caller r.open_block ≡ false
no_caller r e = ap is_caller e

stands_within : (r : ModemReading) (v : ModemVerb)
    → may_stand r v ≡ true
    → Outside r
    → in_phase r.base.session.stand.place ≡ true
stands_within r modem.Modem h outside = h
stands_within r modem.Dcd h outside = within_by r (is_modem r.open_block) (no_modem r) h outside
stands_within r modem.Dsr h outside = within_by r (is_modem r.open_block) (no_modem r) h outside
stands_within r modem.Cts h outside = within_by r (is_modem r.open_block) (no_modem r) h outside
stands_within r modem.Ri h outside = within_by r (is_modem r.open_block) (no_modem r) h outside
stands_within r modem.Mget h outside = within_by r (is_caller r.open_block) (no_caller r) h outside
stands_within r modem.Mset h outside = within_by r (is_caller r.open_block) (no_caller r) h outside
stands_within r modem.Mbis h outside = within_by r (is_caller r.open_block) (no_caller r) h outside
stands_within r modem.Mbic h outside = within_by r (is_caller r.open_block) (no_caller r) h outside
stands_within r modem.Softcar h outside = within_by r (is_caller r.open_block) (no_caller r) h outside
stands_within r modem.Getcar h outside = within_by r (is_caller r.open_block) (no_caller r) h outside
stands_within r modem.Hupcl h outside = within_by r (is_caller r.open_block) (no_caller r) h outside
stands_within r modem.Msr h outside = within_by r (is_caller r.open_block) (no_caller r) h outside

line_item : (n : ℕ) (read : Read ModemItem) (i : ModemItem) → on_line n read ≡ Ok i → item_by read ≡ i ∷ []
line_item n (Ok x) i e = ap (λ (y : ModemItem). y ∷ []) (ok_is x i e)
line_item n (Err why) i e = absurd (cc)

-- a modem block begins, which is no item of one
block_read : (read : Read ℕ) (n : ℕ) (i : ModemItem)
    → on_line n (read >>= λ (port : ℕ). let made : Read ModemItem = Ok (item.Block port) in made) ≡ Ok i
    → (call_in i ≡ []) × (pin_in i ≡ [])
block_read (Ok port) n i e = let same = ok_is (item.Block port) i e in (sym (ap call_in same), sym (ap pin_in same))
block_read (Err why) n i e = absurd (cc)

block_by : (b : Bool) (ports n : ℕ) (word : List ℕ) (i : ModemItem)
    → on_line n (if b
    then (port_in ports word >>= λ (port : ℕ). let made : Read ModemItem = Ok (item.Block port) in made)
    else Err reason.Word) ≡ Ok i
    → (call_in i ≡ []) × (pin_in i ≡ [])
block_by false ports n word i e = absurd (cc)
block_by true ports n word i e = block_read (port_in ports word) n i e

-- what it says, where it is none that begins a block
record IsSaid (i : ModemItem) (items : List ModemItem) : Type 0 where
  calls : flat_map call_in items ≡ call_in i
  pins : flat_map pin_in items ≡ pin_in i

said_one : (i : ModemItem) (items : List ModemItem) → items ≡ i ∷ [] → IsSaid i items
said_one i items e = record {
  calls = ap (flat_map call_in) e ∙ append-nil (call_in i);
  pins = ap (flat_map pin_in) e ∙ append-nil (pin_in i);
}

item_said : (n ports : ℕ) (v : ModemVerb) (arguments : List (List ℕ)) (i : ModemItem)
    → on_line n (item_of ports v arguments) ≡ Ok i
    → IsSaid i (items_by (Some v) arguments)
item_said n ports modem.Modem arguments i e =
    let none = block_by (length arguments == 1) ports n (word_at arguments 0) i e in
    record { calls = sym none.0; pins = sym none.1 }
item_said n ports modem.Dcd arguments i e =
    said_one i (items_by (Some modem.Dcd) arguments) (line_item n (item_of ports modem.Dcd arguments) i e)
item_said n ports modem.Dsr arguments i e =
    said_one i (items_by (Some modem.Dsr) arguments) (line_item n (item_of ports modem.Dsr arguments) i e)
item_said n ports modem.Cts arguments i e =
    said_one i (items_by (Some modem.Cts) arguments) (line_item n (item_of ports modem.Cts arguments) i e)
item_said n ports modem.Ri arguments i e =
    said_one i (items_by (Some modem.Ri) arguments) (line_item n (item_of ports modem.Ri arguments) i e)
item_said n ports modem.Mget arguments i e =
    said_one i (items_by (Some modem.Mget) arguments) (line_item n (item_of ports modem.Mget arguments) i e)
item_said n ports modem.Mset arguments i e =
    said_one i (items_by (Some modem.Mset) arguments) (line_item n (item_of ports modem.Mset arguments) i e)
item_said n ports modem.Mbis arguments i e =
    said_one i (items_by (Some modem.Mbis) arguments) (line_item n (item_of ports modem.Mbis arguments) i e)
item_said n ports modem.Mbic arguments i e =
    said_one i (items_by (Some modem.Mbic) arguments) (line_item n (item_of ports modem.Mbic arguments) i e)
item_said n ports modem.Softcar arguments i e =
    said_one i (items_by (Some modem.Softcar) arguments) (line_item n (item_of ports modem.Softcar arguments) i e)
item_said n ports modem.Getcar arguments i e =
    said_one i (items_by (Some modem.Getcar) arguments) (line_item n (item_of ports modem.Getcar arguments) i e)
item_said n ports modem.Hupcl arguments i e =
    said_one i (items_by (Some modem.Hupcl) arguments) (line_item n (item_of ports modem.Hupcl arguments) i e)
item_said n ports modem.Msr arguments i e =
    said_one i (items_by (Some modem.Msr) arguments) (line_item n (item_of ports modem.Msr arguments) i e)

-- the open phase with an item
record Has (r next : ModemReading) (i : ModemItem) : Type 0 where
  parts : next.parts ≡ r.parts
  session : next.base.session ≡ r.base.session
  calls : own_of next.part ≡ own_of r.part ++ call_in i
  pins : pins_of next.part ≡ pins_of r.part ++ pin_in i

spent : (r made next : ModemReading) (n : ℕ) (i : ModemItem)
    → with_base made (spend n r.base) ≡ Ok next
    → made.parts ≡ r.parts
    → own_of made.part ≡ own_of r.part ++ call_in i
    → pins_of made.part ≡ pins_of r.part ++ pin_in i
    → Has r next i
spent r made next n i e parts calls pins =
    let read = based made next (spend n r.base) e in
    let spends = step_spent r.base next.base n read.0 in
    record {
      parts = ap (λ (s : ModemReading). s.parts) read.1 ∙ parts;
      session = spends.session;
      calls = ap (λ (s : ModemReading). own_of s.part) read.1 ∙ calls;
      pins = ap (λ (s : ModemReading). pins_of s.part) read.1 ∙ pins;
    }

has_item : (r next : ModemReading) (n : ℕ) (i : ModemItem) → with_item r n i ≡ Ok next → Has r next i
has_item r next n (item.Block port) e =
    let made = ok_is _ next (not_wrong n reason.Order (holds r.modems port) _ next e).1 in
    record {
      parts = sym (ap (λ (s : ModemReading). s.parts) made);
      session = sym (ap (λ (s : ModemReading). s.base.session) made);
      calls = sym (ap (λ (s : ModemReading). own_of s.part) made) ∙ sym (append-nil (own_of r.part));
      pins = sym (ap (λ (s : ModemReading). pins_of s.part) made) ∙ sym (append-nil (pins_of r.part));
    }
has_item r next n (item.Pin pin up) e =
    let p : PinItem = record { port = port_of r.open_block; pin = pin; up = up } in
    spent r (with_pin r p) next n (item.Pin pin up) e refl (sym (append-nil (own_of r.part)))
    (map_push step_of r.part.pins p)
has_item r next n (item.Call c) e =
    let o : PlacedCall OwnCall = record { script = length r.callers - 1; place = place_in r.base; call = c } in
    spent r (with_own r c) next n (item.Call c) e refl (map_push (λ (x : PlacedCall OwnCall). x.call) r.part.own o)
    (sym (append-nil (pins_of r.part)))

told_by : {X : Type 0} (of_part : PlainPart → List X) (of_item : ModemItem → List X) (r next : ModemReading)
    (words : List (List ℕ)) (items : List ModemItem) (i : ModemItem)
    → items_said words ≡ items
    → flat_map of_item items ≡ of_item i
    → next.parts ≡ r.parts
    → of_part next.part ≡ of_part r.part ++ of_item i
    → Told of_part of_item r next words
told_by {X} of_part of_item r next words items i says is parts part =
    ap (λ (ps : List PlainPart). flat_map of_part ps ++ of_part next.part) parts
    ∙ ap (λ (xs : List X). flat_map of_part r.parts ++ xs) part
    ∙ sym (append_assoc (flat_map of_part r.parts) (of_part r.part) (of_item i))
    ∙ ap (λ (xs : List X). so_far of_part r ++ xs) (sym is)
    ∙ ap (λ (xs : List ModemItem). so_far of_part r ++ flat_map of_item xs) (sym says)

says_own : (r next : ModemReading) (n : ℕ) (v : ModemVerb) (word : List ℕ) (arguments : List (List ℕ))
    → items_said (word ∷ arguments) ≡ items_by (Some v) arguments
    → after_own r n v arguments ≡ Ok next
    → Outside r
    → Says r next (word ∷ arguments)
says_own r next n v word arguments says e h =
    let stands = not_wrong_unless n reason.Order (may_stand r v)
    (on_line n (item_of r.base.ports v arguments) >>= with_item r n) next e in
    let went = then_ok (on_line n (item_of r.base.ports v arguments)) (with_item r n) next stands.1 in
    let has = has_item r next n went.x went.goes_on in
    let said = item_said n r.base.ports v arguments went.x went.was in
    let within = stands_within r v stands.0 h in
    record {
      outside = λ out. absurd (both_ways (in_phase next.base.session.stand.place) out
          (ap (λ (s : PlainReading). in_phase s.stand.place) has.session ∙ within));
      calls = told_by own_of call_in r next (word ∷ arguments) (items_by (Some v) arguments)
          went.x says said.calls has.parts has.calls;
      pins = told_by pins_of pin_in r next (word ∷ arguments) (items_by (Some v) arguments)
          went.x says said.pins has.parts has.pins;
    }

-- ---- any line

said_by : (word : List ℕ) (arguments : List (List ℕ)) (o : Option ModemVerb)
    → first_is 35 word ≡ false
    → verb_of word ≡ o
    → items_said (word ∷ arguments) ≡ items_by o arguments
said_by word arguments o says is =
    ap (λ (b : Bool). if b then [] else items_by (verb_of word) arguments) says
    ∙ ap (λ (v : Option ModemVerb). items_by v arguments) is

says_verb : (o : Option ModemVerb) (r next : ModemReading) (n : ℕ) (word : List ℕ) (arguments : List (List ℕ))
    → first_is 35 word ≡ false
    → is_start r.base.session.stand.place ≡ false
    → verb_of word ≡ o
    → after_verb r n word arguments o ≡ Ok next
    → Outside r
    → Says r next (word ∷ arguments)
says_verb None r next n word arguments says past is e =
    says_sort r next n word arguments (sort_of word) says (ap (λ (o : Option ModemVerb). is_some o) is) past refl e
says_verb (Some v) r next n word arguments says past is e =
    says_own r next n v word arguments (said_by word arguments (Some v) says is) e

-- the header says nothing of its own
header_unsaid : (r next : ModemReading) (n : ℕ) (word : List ℕ) (arguments : List (List ℕ))
    → first_is 35 word ≡ false
    → is_start r.base.session.stand.place ≡ true
    → after_session_item r n word arguments ≡ Ok next
    → items_said (word ∷ arguments) ≡ []
header_unsaid r next n word arguments says first e =
    let one = session_item r next n word arguments e in
    unsaid word arguments says
    (header_left is_own r.base.session next.base.session word arguments refl first one.takes.took)

says_started : (start : Bool) (r next : ModemReading) (n : ℕ) (word : List ℕ) (arguments : List (List ℕ))
    → first_is 35 word ≡ false
    → is_start r.base.session.stand.place ≡ start
    → (if start then after_session_item r n word arguments else after_verb r n word arguments (verb_of word)) ≡ Ok next
    → Outside r
    → Says r next (word ∷ arguments)
says_started true r next n word arguments says first e h =
    says_header r next n word arguments (header_unsaid r next n word arguments says first e) first e h
says_started false r next n word arguments says past e h =
    says_verb (verb_of word) r next n word arguments says past refl e h

says_words : (comment : Bool) (r next : ModemReading) (n : ℕ) (word : List ℕ) (arguments : List (List ℕ))
    → first_is 35 word ≡ comment
    → (if comment then Ok r else after_item r n word arguments) ≡ Ok next
    → Outside r
    → Says r next (word ∷ arguments)
says_words true r next n word arguments is e h =
    let same = ok_is r next e in
    let none : items_said (word ∷ arguments) ≡ [] =
    ap (λ (b : Bool). if b then [] else items_by (verb_of word) arguments) is in
    record {
      outside = subst Outside same h;
      calls = nothing_told own_of call_in r next (word ∷ arguments) none (ap (so_far own_of) (sym same));
      pins = nothing_told pins_of pin_in r next (word ∷ arguments) none (ap (so_far pins_of) (sym same));
    }
says_words false r next n word arguments is e h =
    says_started (is_start r.base.session.stand.place) r next n word arguments is refl e h

pub says_line : (r next : ModemReading) (n : ℕ) (words : List (List ℕ))
    → after_line r n words ≡ Ok next
    → Outside r
    → Says r next words
says_line r next n [] e h =
    let same = ok_is r next e in
    record {
      outside = subst Outside same h;
      calls = nothing_told own_of call_in r next [] refl (ap (so_far own_of) (sym same));
      pins = nothing_told pins_of pin_in r next [] refl (ap (so_far pins_of) (sym same));
    }
says_line r next n (word ∷ arguments) e h = says_words (first_is 35 word) r next n word arguments refl e h
