-- Overruns, the characters of a journal, and those that a line's overruns leave of its received list.
use Rattle.std.proofs.Common.{◌≡◌, inl, inr, ℕ, zero, suc, ◌+◌, ◌-◌, ◌<◌, ◌≤◌, ◌==◌, Bool, true, false, ◌||◌}
use Rattle.std.proofs.Common.{if◌then◌else◌, List, [], ◌∷◌, ◌++◌, Some, length, take, drop, get_or, slice_get}
use Rattle.std.proofs.Common.{refl, sym, ◌∙◌, ap, subst, arith, add-one, drop-cons, append_assoc}
use Rattle.std.specs.List.{list_any}
use Rattle.std.proofs.lemmas.Bool.{false≢true, eqb-true, eq-eqb, cases_lt}
use Rattle.std.proofs.lemmas.List.{take_at, take-append-drop, take_rest}
use Rattle.std.proofs.lemmas.Option.{get_or_from_slice_get, slice_get_within}
use Rattle.tty_base.specs.declared.characters.Flagged.{Flagged}
use Rattle.tty_base.specs.declared.lines.Overrun.{Overrun}
use Rattle.tty_calls.specs.Plain.{PlainEntry, chars_in}
use Rattle.tty_terminal.specs.Runs.{chars_of}
use Rattle.uart_line.specs.Offered.{kept_list_from, AreShown}
use Rattle.journal_check.specs.Accounts.{Walk, is_at, kept_from}

-- ---- overruns that are shown

pub record IsShown (capacity k floor : ℕ) (o : Overrun) : Type 0 where
  pub place : floor ≤ o.at
  pub sent : o.sent + k ≡ o.at
  pub full : o.sent ≡ o.seen + capacity

pub shown_cons : (capacity k floor : ℕ) (o : Overrun) (os : List Overrun)
    → AreShown capacity k floor (o ∷ os)
    → IsShown capacity k floor o × AreShown capacity (k + 1) (o.at + 1) os
unfolding AreShown
shown_cons capacity k floor o os h = (record { place = h.0; sent = h.1; full = h.2 }, h.3)

cons_shown : (capacity k floor : ℕ) (o : Overrun) (os : List Overrun)
    → IsShown capacity k floor o
    → AreShown capacity (k + 1) (o.at + 1) os
    → AreShown capacity k floor (o ∷ os)
unfolding AreShown
cons_shown capacity k floor o os h rest = (h.place, h.sent, h.full, rest)

pub shown_none : (capacity k floor : ℕ) → AreShown capacity k floor []
unfolding AreShown
shown_none capacity k floor = tt

next_parts : {X : Type 0} (xs : List X) (i : ℕ) (d : X) → i < length xs → drop i xs ≡ get_or xs i d ∷ drop (i + 1) xs
next_parts xs i d lt = drop-cons xs i d lt ∙ ap (λ (n : ℕ). get_or xs i d ∷ drop n xs) (sym (add-one i))

pub next_at : {X : Type 0} (xs : List X) (i : ℕ) (x : X) → slice_get xs i ≡ Some x → drop i xs ≡ x ∷ drop (i + 1) xs
next_at xs i x at =
    next_parts xs i x (slice_get_within xs i x at) ∙ ap (λ y. y ∷ drop (i + 1) xs) (get_or_from_slice_get xs i x x at)

pub shown_next : (capacity k floor : ℕ) (os : List Overrun) (i : ℕ) (d : Overrun)
    → i < length os
    → AreShown capacity k floor (drop i os)
    → IsShown capacity k floor (get_or os i d) × AreShown capacity (k + 1) ((get_or os i d).at + 1) (drop (i + 1) os)
shown_next capacity k floor os i d lt h = shown_cons capacity k floor (get_or os i d) (drop (i + 1) os)
    (subst (AreShown capacity k floor) (next_parts os i d lt) h)

pub next_shown : (capacity k floor : ℕ) (os : List Overrun) (i : ℕ) (d : Overrun)
    → i < length os
    → IsShown capacity k floor (get_or os i d)
    → AreShown capacity (k + 1) ((get_or os i d).at + 1) (drop (i + 1) os)
    → AreShown capacity k floor (drop i os)
next_shown capacity k floor os i d lt one rest = subst (AreShown capacity k floor) (sym (next_parts os i d lt))
    (cons_shown capacity k floor (get_or os i d) (drop (i + 1) os) one rest)

drop_past : {X : Type 0} (xs : List X) (i : ℕ) → length xs ≤ i → drop i xs ≡ []
drop_past [] zero h = refl
drop_past [] (suc i) h = refl
drop_past (x ∷ xs) zero h = absurd (omega arith)
drop_past (x ∷ xs) (suc i) h = drop_past xs i (omega arith)

pub shown_past : (capacity k floor : ℕ) (os : List Overrun) (i : ℕ)
    → length os ≤ i
    → AreShown capacity k floor (drop i os)
shown_past capacity k floor os i h =
    subst (AreShown capacity k floor) (sym (drop_past os i h)) (shown_none capacity k floor)

-- ---- the characters of a journal

pub front_is : (xs front rest : List Flagged) → xs ≡ front ++ rest → take (length front) xs ≡ front
front_is xs front rest is =
    ap (λ (ys : List Flagged). take (length front) ys) is ∙ take_at front rest (length front) refl

pub rest_is : (xs front : List Flagged)
    → take (length front) xs ≡ front
    → xs ≡ front ++ take (length xs - length front) (drop (length front) xs)
rest_is xs front is =
    sym (take-append-drop (length front) xs)
    ∙ ap (λ (ys : List Flagged). ys ++ drop (length front) xs) is
    ∙ ap (λ (ys : List Flagged). front ++ ys) (sym (take_rest xs (length front)))

append_same : (front xs ys : List Flagged) → front ++ xs ≡ front ++ ys → xs ≡ ys
append_same [] xs ys h = h
append_same (c ∷ front) xs ys h = append_same front xs ys (cc)

pub record CharsGoOn (es : List PlainEntry) (i : ℕ) (list left : List Flagged) : Type 0 where
  pub goes_on : chars_of es ≡ list → chars_of (drop i es) ≡ left
  pub came : chars_of (drop i es) ≡ left → chars_of es ≡ list

pub chars_next : (es : List PlainEntry) (i : ℕ) (e : PlainEntry) (list rest front left : List Flagged)
    → slice_get es i ≡ Some e
    → front ≡ chars_in e.event
    → rest ≡ front ++ left
    → (chars_of es ≡ list → chars_of (drop i es) ≡ rest)
    → (chars_of (drop i es) ≡ rest → chars_of es ≡ list)
    → CharsGoOn es (i + 1) list left
chars_next es i e list rest front left at front_is parts goes_on came =
    let next : chars_of (drop i es) ≡ front ++ chars_of (drop (i + 1) es) =
    ap (λ (xs : List PlainEntry). chars_of xs) (next_at es i e at)
    ∙ ap (λ (cs : List Flagged). cs ++ chars_of (drop (i + 1) es)) (sym front_is) in
    record {
      goes_on = λ whole. append_same front (chars_of (drop (i + 1) es)) left (sym next ∙ goes_on whole ∙ parts);
      came = λ h. came (next ∙ ap (λ (cs : List Flagged). front ++ cs) h ∙ sym parts);
    }

pub not_next : (es : List PlainEntry) (i : ℕ) (e : PlainEntry) (list rest front : List Flagged)
    → slice_get es i ≡ Some e
    → front ≡ chars_in e.event
    → ((left : List Flagged) → rest ≡ front ++ left → ⊥)
    → (chars_of es ≡ list → chars_of (drop i es) ≡ rest)
    → chars_of es ≡ list
    → ⊥
not_next es i e list rest front at front_is none goes_on whole =
    none (chars_of (drop (i + 1) es))
    (sym (goes_on whole)
    ∙ (ap (λ (xs : List PlainEntry). chars_of xs) (next_at es i e at)
    ∙ ap (λ (cs : List Flagged). cs ++ chars_of (drop (i + 1) es)) (sym front_is)))

-- ---- what the overruns leave

drop_one : {X : Type 0} (xs : List X) (n : ℕ) → drop 1 (drop n xs) ≡ drop (n + 1) xs
drop_one xs n = either xs n ∙ ap (λ (m : ℕ). drop m xs) (sym (add-one n))
  where
    either : {X : Type 0} (xs : List X) (n : ℕ) → drop 1 (drop n xs) ≡ drop (suc n) xs
    either [] zero = refl
    either [] (suc n) = refl
    either (x ∷ xs) zero = refl
    either (x ∷ xs) (suc n) = either xs n

walk_at : (place : ℕ) (c : Flagged) (cs : List Flagged) (os : List Overrun)
    → is_at os place ≡ true
    → kept_from place (c ∷ cs) os ≡ kept_from (place + 1) cs (drop 1 os)
walk_at place c cs os is = ap (λ b.
    if b
    then kept_from (place + 1) cs (drop 1 os)
    else record { chars = c ∷ (kept_from (place + 1) cs os).chars; overruns = (kept_from (place + 1) cs os).overruns })
    is

walk_off : (place : ℕ) (c : Flagged) (cs : List Flagged) (os : List Overrun)
    → is_at os place ≡ false
    → kept_from place (c ∷ cs) os
    ≡ record { chars = c ∷ (kept_from (place + 1) cs os).chars; overruns = (kept_from (place + 1) cs os).overruns }
walk_off place c cs os is = ap (λ b.
    if b
    then kept_from (place + 1) cs (drop 1 os)
    else record { chars = c ∷ (kept_from (place + 1) cs os).chars; overruns = (kept_from (place + 1) cs os).overruns })
    is

pub walk_skips : (place : ℕ) (chars : List Flagged) (os : List Overrun) (i next : ℕ) (d : Flagged)
    → i < length chars
    → is_at (drop next os) (place + i) ≡ true
    → kept_from (place + i) (drop i chars) (drop next os)
    ≡ kept_from (place + (i + 1)) (drop (i + 1) chars) (drop (next + 1) os)
walk_skips place chars os i next d lt is =
    ap (λ (cs : List Flagged). kept_from (place + i) cs (drop next os)) (next_parts chars i d lt)
    ∙ walk_at (place + i) (get_or chars i d) (drop (i + 1) chars) (drop next os) is
    ∙ ap (λ (xs : List Overrun). kept_from ((place + i) + 1) (drop (i + 1) chars) xs) (drop_one os next)
    ∙ ap (λ (n : ℕ). kept_from n (drop (i + 1) chars) (drop (next + 1) os))
    (let e : (place + i) + 1 ≡ place + (i + 1) = omega arith in e)

pub walk_keeps : (place : ℕ) (chars : List Flagged) (os : List Overrun) (i next : ℕ) (d : Flagged)
    → i < length chars
    → is_at (drop next os) (place + i) ≡ false
    → kept_from (place + i) (drop i chars) (drop next os)
    ≡ record {
      chars = get_or chars i d ∷ (kept_from (place + (i + 1)) (drop (i + 1) chars) (drop next os)).chars;
      overruns = (kept_from (place + (i + 1)) (drop (i + 1) chars) (drop next os)).overruns;
    }
walk_keeps place chars os i next d lt is =
    ap (λ (cs : List Flagged). kept_from (place + i) cs (drop next os)) (next_parts chars i d lt)
    ∙ walk_off (place + i) (get_or chars i d) (drop (i + 1) chars) (drop next os) is
    ∙ ap
    (λ (n : ℕ). record {
      chars = get_or chars i d ∷ (kept_from n (drop (i + 1) chars) (drop next os)).chars;
      overruns = (kept_from n (drop (i + 1) chars) (drop next os)).overruns;
    })
    (let e : (place + i) + 1 ≡ place + (i + 1) = omega arith in e)

-- a walk over a longer list goes on where it was
pub walk_append : (place : ℕ) (xs ys : List Flagged) (os : List Overrun)
    → kept_from place (xs ++ ys) os
    ≡ record {
      chars =
          (kept_from place xs os).chars ++ (kept_from (place + length xs) ys (kept_from place xs os).overruns).chars;
      overruns = (kept_from (place + length xs) ys (kept_from place xs os).overruns).overruns;
    }
walk_append place [] ys os = ap (λ (n : ℕ). kept_from n ys os) (let e : place ≡ place + 0 = omega arith in e)
walk_append place (c ∷ xs) ys os =
    either (is_at os place) refl (walk_append (place + 1) xs ys (drop 1 os)) (walk_append (place + 1) xs ys os)
  where
    far : (n : ℕ) → (place + 1) + n ≡ place + suc n
    far n = omega arith

    either : (b : Bool)
        → is_at os place ≡ b
        → kept_from (place + 1) (xs ++ ys) (drop 1 os)
        ≡ record {
          chars =
              (kept_from (place + 1) xs (drop 1 os)).chars
              ++ (kept_from ((place + 1) + length xs) ys (kept_from (place + 1) xs (drop 1 os)).overruns).chars;
          overruns = (kept_from ((place + 1) + length xs) ys (kept_from (place + 1) xs (drop 1 os)).overruns).overruns;
        }
        → kept_from (place + 1) (xs ++ ys) os
        ≡ record {
          chars =
              (kept_from (place + 1) xs os).chars
              ++ (kept_from ((place + 1) + length xs) ys (kept_from (place + 1) xs os).overruns).chars;
          overruns = (kept_from ((place + 1) + length xs) ys (kept_from (place + 1) xs os).overruns).overruns;
        }
        → kept_from place (c ∷ (xs ++ ys)) os
        ≡ record {
          chars =
              (kept_from place (c ∷ xs) os).chars
              ++ (kept_from (place + suc (length xs)) ys (kept_from place (c ∷ xs) os).overruns).chars;
          overruns = (kept_from (place + suc (length xs)) ys (kept_from place (c ∷ xs) os).overruns).overruns;
        }
    either true is at off =
        walk_at place c (xs ++ ys) os is ∙ at
        ∙ (λ j. record {
          chars =
              (kept_from (place + 1) xs (drop 1 os)).chars
              ++ (kept_from (far (length xs) j) ys (kept_from (place + 1) xs (drop 1 os)).overruns).chars;
          overruns = (kept_from (far (length xs) j) ys (kept_from (place + 1) xs (drop 1 os)).overruns).overruns;
        })
        ∙ (λ j. record {
          chars =
              (sym (walk_at place c xs os is) j).chars
              ++ (kept_from (place + suc (length xs)) ys (sym (walk_at place c xs os is) j).overruns).chars;
          overruns = (kept_from (place + suc (length xs)) ys (sym (walk_at place c xs os is) j).overruns).overruns;
        })
    either false is at off =
        walk_off place c (xs ++ ys) os is
        ∙ ap (λ (w : Walk). record { chars = c ∷ w.chars; overruns = w.overruns }) off
        ∙ (λ j. record {
          chars =
              c
              ∷ ((kept_from (place + 1) xs os).chars
              ++ (kept_from (far (length xs) j) ys (kept_from (place + 1) xs os).overruns).chars);
          overruns = (kept_from (far (length xs) j) ys (kept_from (place + 1) xs os).overruns).overruns;
        })
        ∙ (λ j. record {
          chars =
              (sym (walk_off place c xs os is) j).chars
              ++ (kept_from (place + suc (length xs)) ys (sym (walk_off place c xs os is) j).overruns).chars;
          overruns = (kept_from (place + suc (length xs)) ys (sym (walk_off place c xs os is) j).overruns).overruns;
        })

-- overruns that lie further on are at no place before
none_at : (capacity k floor place : ℕ) (os : List Overrun)
    → AreShown capacity k floor os
    → place < floor
    → list_any (λ o. o.at == place) os ≡ false
none_at capacity k floor place [] h less = refl
none_at capacity k floor place (o ∷ os) h less =
    let parts = shown_cons capacity k floor o os h in
    or_none (o.at == place) (list_any (λ x. x.at == place) os)
    (apart (o.at == place) (λ is. omega (arith, eqb-true o.at place is, parts.0.place, less)))
    (none_at capacity (k + 1) (o.at + 1) place os parts.1 (omega (arith, parts.0.place, less)))
  where
    apart : (b : Bool) → (b ≡ true → ⊥) → b ≡ false
    apart true h = absurd (h refl)
    apart false h = refl

    or_none : (a b : Bool) → a ≡ false → b ≡ false → (a || b) ≡ false
    or_none true b h k = absurd (false≢true (sym h))
    or_none false b h k = k

kept_cons : (place : ℕ) (c : Flagged) (cs : List Flagged) (os : List Overrun)
    → kept_list_from place (c ∷ cs) os
    ≡ (if list_any (λ o. o.at == place) os
    then kept_list_from (place + 1) cs os
    else c ∷ kept_list_from (place + 1) cs os)
unfolding kept_list_from
kept_cons place c cs os = refl

kept_nil : (place : ℕ) (os : List Overrun) → kept_list_from place [] os ≡ []
unfolding kept_list_from
kept_nil place os = refl

-- an overrun at an earlier place is of no further character
past_one : (place : ℕ) (cs : List Flagged) (o : Overrun) (os : List Overrun)
    → o.at < place
    → kept_list_from place cs (o ∷ os) ≡ kept_list_from place cs os
past_one place [] o os less = kept_nil place (o ∷ os) ∙ sym (kept_nil place os)
past_one place (c ∷ cs) o os less =
    kept_cons place c cs (o ∷ os)
    ∙ (λ j.
    if skip (o.at == place) (list_any (λ x. x.at == place) os) differs j
    then past_one (place + 1) cs o os (omega arith) j
    else c ∷ past_one (place + 1) cs o os (omega arith) j)
    ∙ sym (kept_cons place c cs os)
  where
    apart : (b : Bool) → (b ≡ true → ⊥) → b ≡ false
    apart true h = absurd (h refl)
    apart false h = refl

    differs : (o.at == place) ≡ false
    differs = apart (o.at == place) (λ is. omega (arith, eqb-true o.at place is, less))

    skip : (a b : Bool) → a ≡ false → (a || b) ≡ b
    skip true b h = absurd (false≢true (sym h))
    skip false b h = refl

-- the walk leaves what the places of overruns that are shown leave
pub walk_is : (capacity k floor place : ℕ) (cs : List Flagged) (os : List Overrun)
    → AreShown capacity k floor os
    → place ≤ floor
    → (kept_from place cs os).chars ≡ kept_list_from place cs os
walk_is capacity k floor place [] os h below = sym (kept_nil place os)
walk_is capacity k floor place (c ∷ cs) [] h below =
    ap (λ (ds : List Flagged). c ∷ ds)
    (walk_is capacity k (floor + 1) (place + 1) cs [] (shown_none capacity k (floor + 1)) (omega arith))
    ∙ sym (kept_cons place c cs [])
walk_is capacity k floor place (c ∷ cs) (o ∷ os) h below =
    either (o.at == place) refl (shown_cons capacity k floor o os h)
    (λ at parts. walk_is capacity (k + 1) (o.at + 1) (place + 1) cs os parts.1 (omega (arith, at)))
    (λ off parts. walk_is capacity k o.at (place + 1) cs (o ∷ os)
    (cons_shown capacity k o.at o os (record { place = omega arith; sent = parts.0.sent; full = parts.0.full }) parts.1)
    (omega (arith, off, parts.0.place, below)))
  where
    either : (b : Bool)
        → (o.at == place) ≡ b
        → IsShown capacity k floor o × AreShown capacity (k + 1) (o.at + 1) os
        → (o.at ≡ place
        → IsShown capacity k floor o × AreShown capacity (k + 1) (o.at + 1) os
        → (kept_from (place + 1) cs os).chars ≡ kept_list_from (place + 1) cs os)
        → (place < o.at
        → IsShown capacity k floor o × AreShown capacity (k + 1) (o.at + 1) os
        → (kept_from (place + 1) cs (o ∷ os)).chars ≡ kept_list_from (place + 1) cs (o ∷ os))
        → (kept_from place (c ∷ cs) (o ∷ os)).chars ≡ kept_list_from place (c ∷ cs) (o ∷ os)
    either true is parts at off =
        let here : o.at ≡ place = eqb-true o.at place is in
        ap (λ (w : Walk). w.chars) (walk_at place c cs (o ∷ os) is) ∙ at here parts
        ∙ sym (past_one (place + 1) cs o os (omega (arith, here)))
        ∙ sym (kept_cons place c cs (o ∷ os)
        ∙ ap (λ b.
        if b || list_any (λ x. x.at == place) os
        then kept_list_from (place + 1) cs (o ∷ os)
        else c ∷ kept_list_from (place + 1) cs (o ∷ os)) is)
    either false is parts at off =
        let further : place < o.at =
        (let differs : o.at ≡ place → ⊥ = λ e. false≢true (sym is ∙ eq-eqb o.at place e) in after differs) in
        ap (λ (w : Walk). w.chars) (walk_off place c cs (o ∷ os) is)
        ∙ ap (λ (ds : List Flagged). c ∷ ds) (off further parts)
        ∙ sym (kept_cons place c cs (o ∷ os)
        ∙ (λ j.
        if is j || none_at capacity (k + 1) (o.at + 1) place os parts.1 (omega (arith, further)) j
        then kept_list_from (place + 1) cs (o ∷ os)
        else c ∷ kept_list_from (place + 1) cs (o ∷ os)))
      where
        after : (o.at ≡ place → ⊥) → place < o.at
        after differs = elim (cases_lt place o.at)
            [ inl less ↦ less | inr most ↦ absurd (differs (omega (arith, most, parts.0.place, below))) ]

-- the walk so far, and what is left of it
pub record KeepsOn (first : List Flagged) (place : ℕ) (chars : List Flagged) (os : List Overrun) (i next : ℕ)
    (so_far : List Flagged) : Type 0 where
  pub kept : so_far ++ (kept_from (place + i) (drop i chars) (drop next os)).chars
      ≡ first ++ (kept_from place chars os).chars
  pub rest : (kept_from (place + i) (drop i chars) (drop next os)).overruns ≡ (kept_from place chars os).overruns

pub keeps_skip : (first : List Flagged) (place : ℕ) (chars : List Flagged) (os : List Overrun) (i next next' : ℕ)
    (kept kept' : List Flagged) (d : Flagged)
    → i < length chars
    → is_at (drop next os) (place + i) ≡ true
    → next' ≡ next + 1
    → kept' ≡ kept
    → kept ++ (kept_from (place + i) (drop i chars) (drop next os)).chars ≡ first ++ (kept_from place chars os).chars
    → (kept_from (place + i) (drop i chars) (drop next os)).overruns ≡ (kept_from place chars os).overruns
    → KeepsOn first place chars os (i + 1) next' kept'
keeps_skip first place chars os i next next' kept kept' d lt is next_is kept_is h rest =
    let step = walk_skips place chars os i next d lt is in
    subst (λ (n : ℕ). KeepsOn first place chars os (i + 1) n kept') (sym next_is)
    (subst (KeepsOn first place chars os (i + 1) (next + 1)) (sym kept_is) (record {
      kept = ap (λ (w : Walk). kept ++ w.chars) (sym step) ∙ h;
      rest = ap (λ (w : Walk). w.overruns) (sym step) ∙ rest;
    }))

pub keeps_add : (first : List Flagged) (place : ℕ) (chars : List Flagged) (os : List Overrun) (i next next' : ℕ)
    (kept kept' : List Flagged) (d : Flagged)
    → i < length chars
    → is_at (drop next os) (place + i) ≡ false
    → next' ≡ next
    → kept' ≡ kept ++ get_or chars i d ∷ []
    → kept ++ (kept_from (place + i) (drop i chars) (drop next os)).chars ≡ first ++ (kept_from place chars os).chars
    → (kept_from (place + i) (drop i chars) (drop next os)).overruns ≡ (kept_from place chars os).overruns
    → KeepsOn first place chars os (i + 1) next' kept'
keeps_add first place chars os i next next' kept kept' d lt is next_is kept_is h rest =
    let step = walk_keeps place chars os i next d lt is in
    subst (λ (n : ℕ). KeepsOn first place chars os (i + 1) n kept') (sym next_is)
    (subst (KeepsOn first place chars os (i + 1) next) (sym kept_is) (record {
      kept =
          append_assoc kept (get_or chars i d ∷ [])
          (kept_from (place + (i + 1)) (drop (i + 1) chars) (drop next os)).chars
          ∙ ap (λ (w : Walk). kept ++ w.chars) (sym step)
          ∙ h;
      rest = ap (λ (w : Walk). w.overruns) (sym step) ∙ rest;
    }))

pub not_same : (xs ys : List Flagged) (i : ℕ) (d : Flagged) → (get_or xs i d ≡ get_or ys i d → ⊥) → xs ≡ ys → ⊥
not_same xs ys i d differs is = differs (ap (λ (zs : List Flagged). get_or zs i d) is)
