-- Entries that were kept stay the same where the lists grow.
use Rattle.std.proofs.Common.{◌≡◌, ℕ, zero, suc, ◌+◌, ◌<◌, ◌≤◌, List, [], ◌∷◌, ◌++◌, Option, None, Some, length}
use Rattle.std.proofs.Common.{map, take, slice_get, slice_index_or, refl, sym, ◌∙◌, ap, subst, arith, length-append}
use Rattle.std.proofs.lemmas.List.{map-append, take_all}
use Rattle.std.proofs.Math.Seq.{drop-append_seam}
use Rattle.std.specs.Prelude.{All}
use Rattle.tty_base.specs.declared.characters.Flagged.{Flagged}
use Rattle.tty_calls.specs.declared.parts.ListPart.{ListPart}
use Rattle.tty_calls.specs.declared.kept_entries.KeptPurge.{KeptPurge}
use Rattle.tty_calls.specs.declared.kept_entries.KeptEvent.{KeptEvent}
use Rattle.tty_calls.specs.declared.kept_entries.KeptEvent.TheVariants as events
use Rattle.tty_calls.specs.declared.kept_entries.KeptEntry.{KeptEntry}
use Rattle.tty_calls.specs.declared.kept_entries.Lists.{Lists}
use Rattle.tty_calls.specs.Parts.{Extends, IsListPart, part_of}
use Rattle.tty_calls.specs.Plain.{PlainAnswer, got, PlainEvent, answered, flushed, hung_up, PlainEntry}
use Rattle.tty_calls.specs.Entries.{Grows, HasAnswer, HasEntry, HasEvent, HasPurge, answer_in}
use Rattle.tty_calls.specs.Entries.{counts_at, entry_in, event_in, modes_at, purge_at, sent_at}
use Rattle.tty_calls.proofs.Keeping.{part_stays}

-- ---- lists

get_stays : {A : Type 0} (i : ℕ) (xs ys : List A) → i < length xs → slice_get (xs ++ ys) i ≡ slice_get xs i
get_stays i [] ys within = absurd (omega (arith, within))
get_stays zero (x ∷ xs) ys within = refl
get_stays (suc i) (x ∷ xs) ys within = get_stays i xs ys (omega (arith, within))

-- the element behind a list
pub get_last : {A : Type 0} (xs : List A) (x : A) → slice_get (xs ++ x ∷ []) (length xs) ≡ Some x
get_last [] x = refl
get_last (y ∷ ys) x = get_last ys x

get_where : {A : Type 0} (i : ℕ) (xs now : List A) → Extends xs now → i < length xs → slice_get now i ≡ slice_get xs i
get_where {A = A} i xs now (more, grown) within = ap (λ (l : List A). slice_get l i) grown ∙ get_stays i xs more within

part_where : {A : Type 0} (xs now : List A) (part : ListPart)
    → Extends xs now
    → IsListPart (length xs) part
    → part_of now part ≡ part_of xs part
part_where {A = A} xs now part (more, grown) within =
    ap (λ (l : List A). part_of l part) grown ∙ part_stays xs more part within

no_shorter : {A : Type 0} (n : ℕ) (xs now : List A) → Extends xs now → n ≤ length xs → n ≤ length now
no_shorter n xs now (more, grown) within = omega (arith, within, ap length grown, length-append xs more)

-- the part behind a list
pub part_behind : {A : Type 0} (xs more : List A)
    → part_of (xs ++ more) (record { first = length xs; count = length more }) ≡ more
part_behind xs more = ap (take (length more)) (drop-append_seam xs more) ∙ take_all (length more) more (omega arith)

-- one more of which it holds too
pub all_more : {A : Type 0} (P : A → Type 0) (xs : List A) (x : A)
    → All P xs
    → P x
    → (i : ℕ) (d : A)
    → i < length (xs ++ x ∷ [])
    → P (slice_index_or (xs ++ x ∷ []) i d)
all_more P [] x all here zero d within = here
all_more P [] x all here (suc i) d within = absurd (omega (arith, within))
all_more P (y ∷ ys) x all here zero d within = all zero d (omega arith)
all_more P (y ∷ ys) x all here (suc i) d within =
    all_more P ys x (λ j e l. all (suc j) e (omega (arith, l))) here i d (omega (arith, within))

-- ---- answers

pub answer_there : (old new : Lists) (a : KeptEvent) → Grows old new → HasAnswer old a → HasAnswer new a
answer_there old new (events.Got part) g w =
    no_shorter (part.first + part.count) old.bytes.items new.bytes.items g.bytes w
answer_there old new (events.ModesAre place) g w = no_shorter (suc place) old.modes.items new.modes.items g.modes w
answer_there old new (events.CountsAre place) g w = no_shorter (suc place) old.counts.items new.counts.items g.counts w
answer_there old new other g w = w

pub answer_stays : (old new : Lists) (a : KeptEvent)
    → Grows old new
    → HasAnswer old a
    → answer_in new a ≡ answer_in old a
answer_stays old new (events.Got part) g w = ap got (part_where old.bytes.items new.bytes.items part g.bytes w)
answer_stays old new (events.ModesAre place) g w =
    ap modes_at (get_where place old.modes.items new.modes.items g.modes w)
answer_stays old new (events.CountsAre place) g w =
    ap counts_at (get_where place old.counts.items new.counts.items g.counts w)
answer_stays old new other g w = refl

-- ---- purges

get_within : {A : Type 0} (i : ℕ) (xs : List A) (x : A) → slice_get xs i ≡ Some x → i < length xs
get_within i [] x found = absurd (cc)
get_within zero (y ∷ ys) x found = omega arith
get_within (suc i) (y ∷ ys) x found = let deeper : i < length ys = get_within i ys x found in omega (arith, deeper)

place_known : (b : Lists) (place : ℕ) (found : Option KeptPurge)
    → slice_get b.purges.items place ≡ found
    → HasPurge b found
    → place < length b.purges.items
place_known b place None is w = absurd w
place_known b place (Some p) is w = get_within place b.purges.items p is

purge_there : (old new : Lists) (found : Option KeptPurge) → Grows old new → HasPurge old found → HasPurge new found
purge_there old new None g w = w
purge_there old new (Some p) g w = (
  answer_there old new p.answer g w.0,
  no_shorter (p.dropped.first + p.dropped.count) old.characters.items new.characters.items g.characters w.1,
)

purge_stays : (old new : Lists) (found : Option KeptPurge)
    → Grows old new
    → HasPurge old found
    → purge_at new found ≡ purge_at old found
purge_stays old new None g w = refl
purge_stays old new (Some p) g w =
    ap (λ a. answered a (part_of new.characters.items p.dropped)) (answer_stays old new p.answer g w.0)
    ∙ ap (λ cs. answered (answer_in old p.answer) cs)
    (part_where old.characters.items new.characters.items p.dropped g.characters w.1)

purge_same : (old new : Lists) (place : ℕ)
    → Grows old new
    → HasPurge old (slice_get old.purges.items place)
    → slice_get new.purges.items place ≡ slice_get old.purges.items place
purge_same old new place g w = get_where place old.purges.items new.purges.items g.purges
    (place_known old place (slice_get old.purges.items place) refl w)

-- ---- events and entries

event_there : (old new : Lists) (e : KeptEvent) → Grows old new → HasEvent old e → HasEvent new e
event_there old new (events.Purge place) g w = subst (λ found. HasPurge new found) (sym (purge_same old new place g w))
    (purge_there old new (slice_get old.purges.items place) g w)
event_there old new (events.Flush part) g w =
    no_shorter (part.first + part.count) old.characters.items new.characters.items g.characters w
event_there old new (events.LineEnd place) g w = no_shorter (suc place) old.sents.items new.sents.items g.sents w
event_there old new (events.Hangup part) g w =
    no_shorter (part.first + part.count) old.characters.items new.characters.items g.characters w
event_there old new other g w = answer_there old new other g w

event_stays : (old new : Lists) (e : KeptEvent) → Grows old new → HasEvent old e → event_in new e ≡ event_in old e
event_stays old new (events.Got part) g w = ap (λ p. answered p []) (answer_stays old new (events.Got part) g w)
event_stays old new (events.ModesAre place) g w =
    ap (λ p. answered p []) (answer_stays old new (events.ModesAre place) g w)
event_stays old new (events.CountsAre place) g w =
    ap (λ p. answered p []) (answer_stays old new (events.CountsAre place) g w)
event_stays old new (events.Purge place) g w =
    ap (λ found. purge_at new found) (purge_same old new place g w)
    ∙ purge_stays old new (slice_get old.purges.items place) g w
event_stays old new (events.Flush part) g w =
    ap flushed (part_where old.characters.items new.characters.items part g.characters w)
event_stays old new (events.LineEnd place) g w = ap sent_at (get_where place old.sents.items new.sents.items g.sents w)
event_stays old new (events.Hangup part) g w =
    ap hung_up (part_where old.characters.items new.characters.items part g.characters w)
event_stays old new other g w = refl

all_there : (old new : Lists) (es : List KeptEntry) → Grows old new → All (HasEntry old) es → All (HasEntry new) es
all_there old new es g all = λ i d within. event_there old new (slice_index_or es i d).event g (all i d within)

all_stay : (old new : Lists) (es : List KeptEntry)
    → Grows old new
    → All (HasEntry old) es
    → map (entry_in new) es ≡ map (entry_in old) es
all_stay old new [] g all = refl
all_stay old new (e ∷ es) g all =
    ap (λ (v : PlainEvent).
    record { who = e.who; step = e.step; part = e.part; generation = e.generation; event = v } ∷ map (entry_in new) es)
    (event_stays old new e.event g (all 0 e (omega arith)))
    ∙ ap (λ rest. entry_in old e ∷ rest) (all_stay old new es g (λ i d l. all (suc i) d (omega (arith, l))))

-- one more entry, behind those before
pub entry_more : (old new : Lists) (es : List KeptEntry) (e : KeptEntry) (plain : PlainEntry)
    → Grows old new
    → All (HasEntry old) es
    → entry_in new e ≡ plain
    → map (entry_in new) (es ++ e ∷ []) ≡ map (entry_in old) es ++ plain ∷ []
entry_more old new es e plain g all is =
    map-append (entry_in new) es (e ∷ [])
    ∙ ap (λ p. map (entry_in new) es ++ p ∷ []) is
    ∙ ap (λ ps. ps ++ plain ∷ []) (all_stay old new es g all)

pub has_more : (old new : Lists) (es : List KeptEntry) (e : KeptEntry)
    → Grows old new
    → All (HasEntry old) es
    → HasEntry new e
    → (i : ℕ) (d : KeptEntry)
    → i < length (es ++ e ∷ [])
    → HasEntry new (slice_index_or (es ++ e ∷ []) i d)
has_more old new es e g all here = all_more (HasEntry new) es e (all_there old new es g all) here

-- a purge that was kept
module _ (old new : Lists) (purges : List KeptPurge) (answer : KeptEvent) (part : ListPart) (plain : PlainAnswer)
    (characters dropped : List Flagged) (grows : Grows old new) (there : HasAnswer old answer)
    (is : answer_in old answer ≡ plain)
    (added : new.purges.items ≡ purges ++ record { answer = answer; dropped = part } ∷ [])
    (kept : new.characters.items ≡ characters ++ dropped)
    (part_is : part ≡ record { first = length characters; count = length dropped }) where
  found : slice_get new.purges.items (length purges) ≡ Some (record { answer = answer; dropped = part })
  found =
      ap (λ (l : List KeptPurge). slice_get l (length purges)) added
      ∙ get_last purges (record { answer = answer; dropped = part })

  same : part_of new.characters.items part ≡ dropped
  same =
      ap (λ (l : List Flagged). part_of l part) kept
      ∙ ap (λ (p : ListPart). part_of (characters ++ dropped) p) part_is
      ∙ part_behind characters dropped

  pub purge_is : purge_at new (slice_get new.purges.items (length purges)) ≡ answered plain dropped
  purge_is =
      ap (λ f. purge_at new f) found
      ∙ ap (λ (b : PlainAnswer). answered b (part_of new.characters.items part))
      (answer_stays old new answer grows there ∙ is)
      ∙ ap (λ (cs : List Flagged). answered plain cs) same

  pub purge_has : HasPurge new (slice_get new.purges.items (length purges))
  purge_has =
      subst (λ f. HasPurge new f) (sym found) (
        answer_there old new answer grows there,
        omega (
          arith,
          ap (λ (p : ListPart). p.first) part_is,
          ap (λ (p : ListPart). p.count) part_is,
          ap length kept,
          length-append characters dropped,
        ),
      )
