-- How offers follow each other.
use Rattle.std.proofs.Common.{◌≡◌, ℕ, ◌+◌, ◌<◌, ◌≤◌, List, [], ◌∷◌, ◌++◌, length, refl, sym, ◌∙◌}
use Rattle.std.proofs.Common.{ap, arith, append_assoc, append-nil, length-append, true, false, ◌==◌}
use Rattle.std.specs.List.{list_any}
use Rattle.std.proofs.lemmas.Bool.Decides.{nat_tests}
use Rattle.tty_base.specs.declared.characters.Flagged.{Flagged}
use Rattle.tty_base.specs.declared.lines.Overrun.{Overrun}
use Rattle.uart_line.specs.Offered.{PutAnswer, appends, refuses, appended_list, overrun_list, IsFullAt}
use Rattle.uart_line.specs.Offered.{AreAmong, Offers, HandsOver, AddsCharacters, kept_list, kept_list_from, AreShown}

accepted_list-append : (xs ys : List Flagged) (ps qs : List PutAnswer) → length ps ≡ length xs
    → appended_list (xs ++ ys) (ps ++ qs) ≡ appended_list xs ps ++ appended_list ys qs
unfolding appended_list
accepted_list-append [] ys [] qs e = refl
accepted_list-append [] ys (a ∷ ps) qs e = cc
accepted_list-append (x ∷ xs) ys [] qs e = cc
accepted_list-append (x ∷ xs) ys (appends ∷ ps) qs e =
    ap (λ r. x ∷ r) (accepted_list-append xs ys ps qs (omega (arith, e)))
accepted_list-append (x ∷ xs) ys (refuses _ ∷ ps) qs e = accepted_list-append xs ys ps qs (omega (arith, e))

-- how many characters were accepted
unfoldable pub appended_count : List PutAnswer → ℕ
appended_count [] = 0
appended_count (appends ∷ answers) = appended_count answers + 1
appended_count (refuses _ ∷ answers) = appended_count answers

length-accepted_list : (xs : List Flagged) (ps : List PutAnswer) → length ps ≡ length xs
    → length (appended_list xs ps) ≡ appended_count ps
unfolding appended_list appended_count
length-accepted_list [] [] e = refl
length-accepted_list [] (a ∷ ps) e = omega (arith, e)
length-accepted_list (x ∷ xs) [] e = omega (arith, e)
length-accepted_list (x ∷ xs) (appends ∷ ps) e = omega (arith, length-accepted_list xs ps (omega (arith, e)))
length-accepted_list (x ∷ xs) (refuses _ ∷ ps) e = length-accepted_list xs ps (omega (arith, e))

overrun_list-append : (place sent : ℕ) (ps qs : List PutAnswer)
    → overrun_list place sent (ps ++ qs)
    ≡ overrun_list place sent ps ++ overrun_list (place + length ps) (sent + appended_count ps) qs
unfolding overrun_list appended_count
overrun_list-append place sent [] qs =
    let p : place + 0 ≡ place = omega arith in let s : sent + 0 ≡ sent = omega arith in rw (p, s)
overrun_list-append place sent (appends ∷ ps) qs =
    let p : place + length (appends ∷ ps) ≡ (place + 1) + length ps = omega arith in
    let s : sent + (appended_count ps + 1) ≡ (sent + 1) + appended_count ps = omega arith in
    rw (p, s) (overrun_list-append (place + 1) (sent + 1) ps qs)
overrun_list-append place sent (refuses seen ∷ ps) qs =
    let p : place + length (refuses seen ∷ ps) ≡ (place + 1) + length ps = omega arith in
    rw p (ap (λ (r : List Overrun). record { at = place; sent = sent; seen = seen } ∷ r)
    (overrun_list-append (place + 1) sent ps qs))

IsFullAt-append : (capacity sent : ℕ) (ps qs : List PutAnswer) → IsFullAt capacity sent ps
    → IsFullAt capacity (sent + appended_count ps) qs → IsFullAt capacity sent (ps ++ qs)
unfolding IsFullAt appended_count
IsFullAt-append capacity sent [] qs h g = let s : sent + 0 ≡ sent = omega arith in rw s at g
IsFullAt-append capacity sent (appends ∷ ps) qs h g =
    let s : sent + (appended_count ps + 1) ≡ (sent + 1) + appended_count ps = omega arith in
    IsFullAt-append capacity (sent + 1) ps qs h (rw s at g)
IsFullAt-append capacity sent (refuses seen ∷ ps) qs h g = (h.0, IsFullAt-append capacity sent ps qs h.1 g)

AreAmong-more : (ps : List PutAnswer) (xs ys : List ℕ) → AreAmong ps ys → AreAmong ps (xs ++ ys)
unfolding AreAmong
AreAmong-more [] xs ys h = tt
AreAmong-more (appends ∷ ps) xs ys h = AreAmong-more ps xs ys h
AreAmong-more (refuses seen ∷ ps) xs ys h =
    (xs ++ h.0, h.1, ap (λ r. xs ++ r) h.2 ∙ sym (append_assoc xs h.0 (seen ∷ h.1)), h.3)

AreAmong-append : (ps qs : List PutAnswer) (xs ys : List ℕ)
    → AreAmong ps xs
    → AreAmong qs ys
    → AreAmong (ps ++ qs) (xs ++ ys)
unfolding AreAmong
AreAmong-append [] qs xs ys h g = AreAmong-more qs xs ys g
AreAmong-append (appends ∷ ps) qs xs ys h g = AreAmong-append ps qs xs ys h g
AreAmong-append (refuses seen ∷ ps) qs xs ys h g =
    (h.0, h.1 ++ ys, ap (λ r. r ++ ys) h.2 ∙ append_assoc h.0 (seen ∷ h.1) ys, AreAmong-append ps qs h.1 ys h.3 g)

-- ---- offers

pub Offers-none : (capacity place : ℕ) (sent : List Flagged) (heads heads' more : List ℕ) (overruns : List Overrun)
    → heads' ≡ heads ++ more → Offers capacity place [] sent sent heads heads' overruns overruns
unfolding appended_list overrun_list IsFullAt AreAmong
Offers-none capacity place sent heads heads' more overruns h = record {
  answers = [];
  loaded = more;
  one_each = refl;
  appends_rest = sym (append-nil sent);
  adds_refused = sym (append-nil overruns);
  is_full = tt;
  loads = h;
  among_loaded = tt;
}

pub Offers-accept : (capacity place : ℕ) (c : Flagged) (sent sent' : List Flagged) (heads heads' more : List ℕ)
    (overruns : List Overrun)
    → heads' ≡ heads ++ more
    → sent' ≡ sent ++ c ∷ []
    → Offers capacity place (c ∷ []) sent sent' heads heads' overruns overruns
unfolding appended_list overrun_list IsFullAt AreAmong
Offers-accept capacity place c sent sent' heads heads' more overruns h e = record {
  answers = appends ∷ [];
  loaded = more;
  one_each = refl;
  appends_rest = e;
  adds_refused = sym (append-nil overruns);
  is_full = tt;
  loads = h;
  among_loaded = tt;
}

pub Offers-refuse : (capacity place count seen : ℕ) (c : Flagged) (sent sent' : List Flagged) (heads heads' : List ℕ)
    (overruns overruns' : List Overrun)
    → heads' ≡ heads ++ seen ∷ []
    → sent' ≡ sent
    → count ≡ length sent
    → count ≡ seen + capacity
    → overruns' ≡ overruns ++ (record { at = place; sent = count; seen = seen }) ∷ []
    → Offers capacity place (c ∷ []) sent sent' heads heads' overruns overruns'
unfolding appended_list overrun_list IsFullAt AreAmong
Offers-refuse capacity place count seen c sent sent' heads heads' overruns overruns' h s n f o = record {
  answers = refuses seen ∷ [];
  loaded = seen ∷ [];
  one_each = refl;
  appends_rest = s ∙ sym (append-nil sent);
  adds_refused = rw n at o;
  is_full = (sym n ∙ f, tt);
  loads = h;
  among_loaded = ([], [], refl, tt);
}

pub Offers-append : (capacity place place' : ℕ) (xs ys : List Flagged) (s0 s1 s2 : List Flagged) (h0 h1 h2 : List ℕ)
    (o0 o1 o2 : List Overrun)
    → place' ≡ place + length xs
    → Offers capacity place xs s0 s1 h0 h1 o0 o1
    → Offers capacity place' ys s1 s2 h1 h2 o1 o2
    → Offers capacity place (xs ++ ys) s0 s2 h0 h2 o0 o2
Offers-append capacity place place' xs ys s0 s1 s2 h0 h1 h2 o0 o1 o2 e a b =
    let count : length s1 ≡ length s0 + appended_count a.answers =
    omega (
      arith,
      ap length a.appends_rest,
      length-append s0 (appended_list xs a.answers),
      length-accepted_list xs a.answers a.one_each,
    ) in
    let at : place' ≡ place + length a.answers = omega (arith, a.one_each) in
    let is_full : IsFullAt capacity (length s0 + appended_count a.answers) b.answers = rw count at b.is_full in
    record {
      answers = a.answers ++ b.answers;
      loaded = a.loaded ++ b.loaded;
      one_each = omega (arith, length-append a.answers b.answers, length-append xs ys, a.one_each, b.one_each);
      appends_rest = rw (accepted_list-append xs ys a.answers b.answers a.one_each, ← append_assoc, ← a.appends_rest)
          b.appends_rest;
      adds_refused = rw (overrun_list-append, ← append_assoc, ← a.adds_refused, ← count, ← at) b.adds_refused;
      is_full = IsFullAt-append capacity (length s0) a.answers b.answers a.is_full is_full;
      loads = rw (← append_assoc, ← a.loads) b.loads;
      among_loaded = AreAmong-append a.answers b.answers a.loaded b.loaded a.among_loaded b.among_loaded;
    }

pub HandsOver-trans : (capacity : ℕ) (a0 a1 a2 : List Flagged) (s0 s1 s2 : List Flagged) (h0 h1 h2 : List ℕ)
    (o0 o1 o2 : List Overrun)
    → HandsOver capacity a0 a1 s0 s1 h0 h1 o0 o1
    → HandsOver capacity a1 a2 s1 s2 h1 h2 o1 o2
    → HandsOver capacity a0 a2 s0 s2 h0 h2 o0 o2
HandsOver-trans capacity a0 a1 a2 s0 s1 s2 h0 h1 h2 o0 o1 o2 a b =
    let e : length a1 ≡ length a0 + length a.list = omega (arith, ap length a.grows, length-append a0 a.list) in
    record {
      list = a.list ++ b.list;
      grows = rw (← append_assoc, ← a.grows) b.grows;
      offers =
          Offers-append capacity (length a0) (length a1) a.list b.list s0 s1 s2 h0 h1 h2 o0 o1 o2 e a.offers b.offers;
    }

-- ---- all are accepted

unfoldable all_append : List Flagged → List PutAnswer
all_append [] = []
all_append (c ∷ cs) = appends ∷ all_append cs

record AllAppend (capacity place sent : ℕ) (list : List Flagged) : Type 0 where
  one_each : length (all_append list) ≡ length list
  accepted : appended_list list (all_append list) ≡ list
  refused : overrun_list place sent (all_append list) ≡ []
  is_full : IsFullAt capacity sent (all_append list)
  among : AreAmong (all_append list) []

all_are_appended : (capacity place sent : ℕ) (list : List Flagged) → AllAppend capacity place sent list
unfolding appended_list overrun_list IsFullAt AreAmong all_append
all_are_appended capacity place sent [] =
    record { one_each = refl; accepted = refl; refused = refl; is_full = tt; among = tt }
all_are_appended capacity place sent (c ∷ cs) =
    let rest = all_are_appended capacity (place + 1) (sent + 1) cs in
    record {
      one_each = omega (arith, rest.one_each);
      accepted = ap (λ r. c ∷ r) rest.accepted;
      refused = rest.refused;
      is_full = rest.is_full;
      among = rest.among;
    }

pub Offers-all : (capacity place : ℕ) (list sent sent' : List Flagged) (heads heads' : List ℕ)
    (overruns overruns' : List Overrun)
    → sent' ≡ sent ++ list
    → heads' ≡ heads
    → overruns' ≡ overruns
    → Offers capacity place list sent sent' heads heads' overruns overruns'
Offers-all capacity place list sent sent' heads heads' overruns overruns' s h o =
    let all = all_are_appended capacity place (length sent) list in
    record {
      answers = all_append list;
      loaded = [];
      one_each = all.one_each;
      appends_rest = s ∙ ap (λ r. sent ++ r) (sym all.accepted);
      adds_refused = o ∙ (sym (append-nil overruns) ∙ ap (λ r. overruns ++ r) (sym all.refused));
      is_full = all.is_full;
      loads = h ∙ sym (append-nil heads);
      among_loaded = all.among;
    }

-- ---- overruns by their places

none_before : (q place sent : ℕ) (ps : List PutAnswer)
    → q < place
    → list_any (λ o. o.at == q) (overrun_list place sent ps) ≡ false
unfolding overrun_list
none_before q place sent [] h = refl
none_before q place sent (appends ∷ ps) h = none_before q (place + 1) (sent + 1) ps (omega arith)
none_before q place sent (refuses seen ∷ ps) h =
    let other : (place == q) ≡ false = grind (arith, nat_tests) in
    rw other (none_before q (place + 1) sent ps (omega arith))

kept_list_from-skip : (place : ℕ) (cs : List Flagged) (o : Overrun) (os : List Overrun) → o.at < place
    → kept_list_from place cs (o ∷ os) ≡ kept_list_from place cs os
unfolding kept_list_from
kept_list_from-skip place [] o os h = refl
kept_list_from-skip place (c ∷ cs) o os h =
    let other : (o.at == place) ≡ false = grind (arith, nat_tests) in
    rw (other, kept_list_from-skip (place + 1) cs o os (omega arith)) refl

kept_list_from-overrun_list : (place sent : ℕ) (cs : List Flagged) (ps : List PutAnswer) → length ps ≡ length cs
    → kept_list_from place cs (overrun_list place sent ps) ≡ appended_list cs ps
unfolding kept_list_from overrun_list appended_list
kept_list_from-overrun_list place sent [] ps e = refl
kept_list_from-overrun_list place sent (c ∷ cs) [] e = absurd (omega (arith, e))
kept_list_from-overrun_list place sent (c ∷ cs) (appends ∷ ps) e =
    rw (none_before place (place + 1) (sent + 1) ps (omega arith))
    (ap (λ r. c ∷ r) (kept_list_from-overrun_list (place + 1) (sent + 1) cs ps (omega (arith, e))))
kept_list_from-overrun_list place sent (c ∷ cs) (refuses seen ∷ ps) e =
    let here : (place == place) ≡ true = grind (arith, nat_tests) in
    rw here (kept_list_from-skip (place + 1) cs (record { at = place; sent = sent; seen = seen })
    (overrun_list (place + 1) sent ps) (omega arith)
    ∙ kept_list_from-overrun_list (place + 1) sent cs ps (omega (arith, e)))

AreShown-overrun_list : (capacity k floor place sent : ℕ) (ps : List PutAnswer)
    → floor ≤ place
    → sent + k ≡ place
    → IsFullAt capacity sent ps
    → AreShown capacity k floor (overrun_list place sent ps)
unfolding AreShown overrun_list IsFullAt
AreShown-overrun_list capacity k floor place sent [] f e h = tt
AreShown-overrun_list capacity k floor place sent (appends ∷ ps) f e h =
    AreShown-overrun_list capacity k floor (place + 1) (sent + 1) ps (omega arith) (omega arith) h
AreShown-overrun_list capacity k floor place sent (refuses seen ∷ ps) f e h =
    (f, e, h.0, AreShown-overrun_list capacity (k + 1) (place + 1) (place + 1) sent ps (omega arith) (omega arith) h.1)

pub HandsOver-kept : (capacity : ℕ) (all sent : List Flagged) (heads : List ℕ) (overruns : List Overrun)
    → HandsOver capacity [] all [] sent [] heads [] overruns → sent ≡ kept_list all overruns
HandsOver-kept capacity all sent heads overruns a =
    a.offers.appends_rest
    ∙ sym (kept_list_from-overrun_list 0 0 a.list a.offers.answers a.offers.one_each)
    ∙ ap (λ l. kept_list_from 0 l (overrun_list 0 0 a.offers.answers)) (sym a.grows)
    ∙ ap (kept_list_from 0 all) (sym a.offers.adds_refused)

pub HandsOver-shown : (capacity : ℕ) (all sent : List Flagged) (heads : List ℕ) (overruns : List Overrun)
    → HandsOver capacity [] all [] sent [] heads [] overruns → AreShown capacity 0 0 overruns
HandsOver-shown capacity all sent heads overruns a =
    rw a.offers.adds_refused
    (AreShown-overrun_list capacity 0 0 0 0 a.offers.answers (omega arith) (omega arith) a.offers.is_full)

-- ---- a buffer that is never full

none_refused : (capacity place sent : ℕ) (cs : List Flagged) (ps : List PutAnswer) → length ps ≡ length cs
    → IsFullAt capacity sent ps → sent + length cs ≤ capacity
    → (appended_list cs ps ≡ cs) × (overrun_list place sent ps ≡ [])
unfolding appended_list overrun_list IsFullAt
none_refused capacity place sent [] [] e h room = (refl, refl)
none_refused capacity place sent [] (p ∷ ps) e h room = absurd (omega (arith, e))
none_refused capacity place sent (c ∷ cs) [] e h room = absurd (omega (arith, e))
none_refused capacity place sent (c ∷ cs) (appends ∷ ps) e h room =
    let rest : (appended_list cs ps ≡ cs) × (overrun_list (place + 1) (sent + 1) ps ≡ []) =
    none_refused capacity (place + 1) (sent + 1) cs ps (omega (arith, e)) h (omega arith) in
    (ap (λ r. c ∷ r) rest.0, rest.1)
none_refused capacity place sent (c ∷ cs) (refuses seen ∷ ps) e h room = absurd (omega (arith, h.0))

-- where there is room for all that is handed over, all of it stands there, and none is an overrun
pub HandsOver-adds : (capacity : ℕ) (all all' items items' : List Flagged) (heads heads' : List ℕ)
    (overruns overruns' : List Overrun)
    → HandsOver capacity all all' items items' heads heads' overruns overruns'
    → length items + length all' ≤ capacity + length all
    → AddsCharacters all all' items items' × (overruns' ≡ overruns)
HandsOver-adds capacity all all' items items' heads heads' overruns overruns' a room =
    let o = a.offers in
    let none : (appended_list a.list o.answers ≡ a.list) × (overrun_list (length all) (length items) o.answers ≡ []) =
    none_refused capacity (length all) (length items) a.list o.answers o.one_each o.is_full
    (omega (arith, room, ap length a.grows, length-append all a.list)) in (
      record { list = a.list; grows = a.grows; adds = o.appends_rest ∙ ap (λ r. items ++ r) none.0 },
      o.adds_refused ∙ ap (λ r. overruns ++ r) none.1 ∙ append-nil overruns,
    )
