-- What adding entries to a board, one part after the other, comes to.
use Rattle.std.proofs.Common.{◌≡◌, ℕ, suc, zero, ◌+◌, ◌-◌, ◌<◌, ◌≤◌, List, [], ◌∷◌, ◌++◌, length}
use Rattle.std.proofs.Common.{map, take, drop, refl, sym, ◌∙◌, ap, subst, arith}
use Rattle.std.proofs.Common.{append_assoc, append-nil, length-append, drop-cons, add-one, get_or}
use Rattle.std.specs.Prelude.{slice_index_or, slice_set}
use Rattle.std.proofs.lemmas.List.{length-set, length-map, drop_all, take_all, drop-map, get_or-map, map-set}
use Rattle.std.proofs.lemmas.List.Sums.{fold-append}
use Rattle.tty_base.specs.Sizes.{MOST_ENTRIES}
use Rattle.tty_calls.specs.declared.answers.Denied.{Denied}
use Rattle.tty_calls.specs.declared.answers.Denied.TheVariants.{NoMemory, Full}
use Rattle.tty_calls.specs.declared.sessions.Phase.{Phase}
use Rattle.tty_calls.specs.Sessions.{PlainPhase, phase_of}
use Rattle.vt_consoles.specs.declared.entries.VtEntry.{VtEntry}
use Rattle.vt_consoles.specs.declared.entries.VtEvent.{VtEvent}
use Rattle.vt_consoles.specs.declared.entries.VtEvent.TheVariants.{Key}
use Rattle.vt_consoles.specs.Boards.{BoardState, Adds, IsBoard, active_on}
use Rattle.vt_consoles.specs.Runs.{active_after, active_of}
use Rattle.vt_text.specs.declared.sessions.OpCall.{OpCall}
use Rattle.vt_text.specs.declared.sessions.VtPhase.{VtPhase}
use Rattle.vt_text.specs.Sessions.{PlainOperator, PlainVtPhase, PlainVtSession, vt_phase_of}
use Rattle.vt_account.specs.InOrder.{active_behind, key_entries, event_of, call_entries, operator_entries}
use Rattle.vt_account.specs.InOrder.{operators_entries, phase_entries, entries_from, entries_in_order, IsBoardDenied}
use Rattle.vt_account.specs.Keyed.{all_keys}
use Rattle.vt_account.specs.Seats.{operator_names}
use Rattle.vt_account.specs.Played.{AddsAll, LacksRoom, HasLeft, key_lines, phases_in_order}
use Rattle.vt_account.specs.Played.{HasPressed, HasOperated, HasPlayed}
use Rattle.vt_account.proofs.Accounting.{active_keys}

-- ---- parts

pub adds_none : (b : BoardState) → AddsAll [] b b
adds_none b = record { consoles = refl; limit = refl; added = sym (append-nil b.entries) }

pub adds_one : (seat : ℕ) (event : VtEvent) (old new : BoardState)
    → Adds seat event old new
    → AddsAll (record { seat = seat; event = event } ∷ []) old new
adds_one seat event old new h = record {
  consoles = ap (λ (b : BoardState). b.consoles) h.adds;
  limit = ap (λ (b : BoardState). b.limit) h.adds;
  added = ap (λ (b : BoardState). b.entries) h.adds;
}

pub adds_both : (xs ys : List VtEntry) (a b c : BoardState) → AddsAll xs a b → AddsAll ys b c → AddsAll (xs ++ ys) a c
adds_both xs ys a b c h k = record {
  consoles = k.consoles ∙ h.consoles;
  limit = k.limit ∙ h.limit;
  added = k.added ∙ ap (λ (l : List VtEntry). l ++ ys) h.added ∙ append_assoc a.entries xs ys;
}

-- which console is active then
pub active_then : (xs : List VtEntry) (a b : BoardState) → AddsAll xs a b → active_on b ≡ active_behind (active_on a) xs
active_then xs a b h =
    ap active_of h.added ∙ fold-append (λ (n : ℕ) (e : VtEntry). active_after n e.event) 0 a.entries xs

pub left_first : (whole : List VtEntry) (b : BoardState) → HasLeft whole whole b b
left_first whole b = record { done = []; adds = adds_none b; all = refl }

pub left_less : (whole xs left : List VtEntry) (a b c : BoardState)
    → HasLeft whole (xs ++ left) a b
    → AddsAll xs b c
    → HasLeft whole left a c
left_less whole xs left a b c h k = record {
  done = h.done ++ xs;
  adds = adds_both h.done xs a b c h.adds k;
  all = append_assoc h.done xs left ∙ h.all;
}

pub left_none : (whole : List VtEntry) (a b : BoardState) → HasLeft whole [] a b → AddsAll whole a b
left_none whole a b h = subst (λ (xs : List VtEntry). AddsAll xs a b) (sym (append-nil h.done) ∙ h.all) h.adds

-- ---- no room

-- .. nor for more
pub lacks_more : (xs ys : List VtEntry) (b : BoardState) (d : Denied) → LacksRoom xs b d → LacksRoom (xs ++ ys) b d
lacks_more xs ys b Full h = omega (arith, h, length-append xs ys)
lacks_more xs ys b NoMemory h = tt

pub lacks_behind : (xs ys : List VtEntry) (a b : BoardState) (d : Denied)
    → AddsAll xs a b
    → LacksRoom ys b d
    → LacksRoom (xs ++ ys) a d
lacks_behind xs ys a b Full h k =
    let both : length b.entries ≡ length a.entries + length xs =
    ap (λ (l : List VtEntry). length l) h.added ∙ length-append a.entries xs in
    omega (arith, k, both, h.limit, length-append xs ys)
lacks_behind xs ys a b NoMemory h k = tt

lacks_left : (whole xs left : List VtEntry) (a b : BoardState) (d : Denied)
    → HasLeft whole (xs ++ left) a b
    → LacksRoom xs b d
    → LacksRoom whole a d
lacks_left whole xs left a b d h k =
    subst (λ (l : List VtEntry). LacksRoom l a d) h.all
    (lacks_behind h.done (xs ++ left) a b d h.adds (lacks_more xs left b d k))

-- ---- keys

-- a key more
pub key_next : (whole : List VtEntry) (a b c : BoardState) (seat active at count console : ℕ)
    → HasLeft whole (key_entries seat active at (suc count)) a b → active_on b ≡ active → Adds seat (Key at console) b c
    → HasLeft whole (key_entries seat active (at + 1) count) a c × (active_on c ≡ active)
key_next whole a b c seat active at count console h e k =
    let same : console ≡ active = k.rightly ∙ e in
    let one : AddsAll (record { seat = seat; event = Key at active } ∷ []) b c =
    subst (λ (n : ℕ). AddsAll (record { seat = seat; event = Key at n } ∷ []) b c) same
    (adds_one seat (Key at console) b c k) in (
      left_less whole (record { seat = seat; event = Key at active } ∷ []) (key_entries seat active (at + 1) count)
          a b c h one,
      active_then (record { seat = seat; event = Key at active } ∷ []) b c one ∙ e,
    )

pub press_next : (whole : List VtEntry) (a b c : BoardState) (seat active first place count console : ℕ)
    → place < count
    → HasLeft whole (key_entries seat active (first + place) (count - place)) a b
    → active_on b ≡ active
    → Adds seat (Key (first + place) console) b c
    → HasLeft whole (key_entries seat active (first + (place + 1)) (count - (place + 1))) a c × (active_on c ≡ active)
press_next whole a b c seat active first place count console lt h e k =
    let more : count - place ≡ suc (count - (place + 1)) = omega (arith, lt) in
    let next : (first + place) + 1 ≡ first + (place + 1) = omega arith in
    subst (λ (at : ℕ). HasLeft whole (key_entries seat active at (count - (place + 1))) a c × (active_on c ≡ active))
    next
    (key_next whole a b c seat active (first + place) (count - (place + 1)) console
    (subst (λ (n : ℕ). HasLeft whole (key_entries seat active (first + place) n) a b) more h) e k)

-- ---- calls

pub calls_both : (seat active : ℕ) (xs ys : List OpCall)
    → call_entries seat active (xs ++ ys)
    ≡ call_entries seat active xs ++ call_entries seat (active_behind active (call_entries seat active xs)) ys
calls_both seat active [] ys = refl
calls_both seat active (call ∷ xs) ys =
    ap (λ (l : List VtEntry). record { seat = seat; event = event_of active call } ∷ l)
    (calls_both seat (active_after active (event_of active call)) xs ys)

-- ---- operators and phases

pub operator_next : (whole : List VtEntry) (a b c : BoardState) (names : List (List ℕ)) (consoles : ℕ)
    (operator : PlainOperator) (operators : List PlainOperator)
    → HasLeft whole (operators_entries names consoles (active_on b) (operator ∷ operators)) a b
    → AddsAll (operator_entries names consoles (active_on b) operator) b c
    → HasLeft whole (operators_entries names consoles (active_on c) operators) a c
operator_next whole a b c names consoles operator operators h k =
    let one = operator_entries names consoles (active_on b) operator in
    left_less whole one (operators_entries names consoles (active_on c) operators) a b c
    (subst (λ (n : ℕ). HasLeft whole (one ++ operators_entries names consoles n operators) a b)
    (sym (active_then one b c k)) h) k

pub phase_next : (whole : List VtEntry) (a b c : BoardState) (names : List (List ℕ)) (consoles first : ℕ)
    (phase : PlainVtPhase) (phases : List PlainVtPhase)
    → HasLeft whole (entries_from names consoles (active_on b) first (phase ∷ phases)) a b
    → AddsAll (phase_entries names consoles (active_on b) first phase) b c
    → HasLeft whole (entries_from names consoles (active_on c) (first + length phase.keys) phases) a c
phase_next whole a b c names consoles first phase phases h k =
    let one = phase_entries names consoles (active_on b) first phase in
    left_less whole one (entries_from names consoles (active_on c) (first + length phase.keys) phases) a b c
    (subst (λ (n : ℕ). HasLeft whole (one ++ entries_from names consoles n (first + length phase.keys) phases) a b)
    (sym (active_then one b c k)) h) k

-- the keys of a phase, and then its operators
pub phase_both : (a b c : BoardState) (names : List (List ℕ)) (consoles first : ℕ) (phase : PlainVtPhase)
    → AddsAll (key_entries (length names) (active_on a) first (length phase.keys)) a b
    → AddsAll (operators_entries names consoles (active_on b) phase.operators) b c
    → AddsAll (phase_entries names consoles (active_on a) first phase) a c
phase_both a b c names consoles first phase h k =
    let keys = key_entries (length names) (active_on a) first (length phase.keys) in
    let same : active_on b ≡ active_on a =
    active_then keys a b h ∙ active_keys (length names) (active_on a) (active_on a) first (length phase.keys) in
    adds_both keys (operators_entries names consoles (active_on a) phase.operators) a b c h
    (subst (λ (n : ℕ). AddsAll (operators_entries names consoles n phase.operators) b c) same k)

-- ---- loops

pub pressed_first : (seat first count : ℕ) (b : BoardState) → HasPressed seat first count 0 b b
pressed_first seat first count b =
    let whole = key_entries seat (active_on b) first count in
    let same : first ≡ first + 0 = omega arith in
    let all : count ≡ count - 0 = omega arith in
    record {
      left =
          subst (λ (n : ℕ). HasLeft whole (key_entries seat (active_on b) (first + 0) n) b b) all
          (subst (λ (at : ℕ). HasLeft whole (key_entries seat (active_on b) at count) b b) same (left_first whole b));
      active = refl;
    }

pub pressed_more : (seat first count place console : ℕ) (a b c : BoardState)
    → place < count
    → HasPressed seat first count place a b
    → Adds seat (Key (first + place) console) b c
    → HasPressed seat first count (place + 1) a c
pressed_more seat first count place console a b c lt h k =
    let next = press_next (key_entries seat (active_on a) first count) a b c seat (active_on a)
    first place count console lt h.left h.active k in
    record { left = next.0; active = next.1 }

pub pressed_all : (seat first count place : ℕ) (a b : BoardState)
    → count ≤ place
    → HasPressed seat first count place a b
    → AddsAll (key_entries seat (active_on a) first count) a b
pressed_all seat first count place a b le h =
    let none : count - place ≡ 0 = omega (arith, le) in
    left_none (key_entries seat (active_on a) first count) a b
    (subst (λ (n : ℕ).
    HasLeft (key_entries seat (active_on a) first count) (key_entries seat (active_on a) (first + place) n) a b)
    none h.left)

pub operated_more : (names : List (List ℕ)) (place : ℕ) (operators : List PlainOperator) (operator : PlainOperator)
    (a b c : BoardState)
    → drop place operators ≡ operator ∷ drop (place + 1) operators
    → HasOperated names operators place a b
    → AddsAll (operator_entries names b.consoles (active_on b) operator) b c
    → HasOperated names operators (place + 1) a c
operated_more names place operators operator a b c next h k =
    let whole = operators_entries names a.consoles (active_on a) operators in
    operator_next whole a b c names a.consoles operator (drop (place + 1) operators)
    (subst (λ (l : List PlainOperator). HasLeft whole (operators_entries names a.consoles (active_on b) l) a b) next h)
    (subst (λ (n : ℕ). AddsAll (operator_entries names n (active_on b) operator) b c) h.adds.consoles k)

pub operated_lacks : (names : List (List ℕ)) (place : ℕ) (operators : List PlainOperator) (operator : PlainOperator)
    (a b : BoardState) (d : Denied)
    → drop place operators ≡ operator ∷ drop (place + 1) operators
    → HasOperated names operators place a b
    → LacksRoom (operator_entries names b.consoles (active_on b) operator) b d
    → LacksRoom (operators_entries names a.consoles (active_on a) operators) a d
operated_lacks names place operators operator a b d next h k =
    let whole = operators_entries names a.consoles (active_on a) operators in
    let one = operator_entries names a.consoles (active_on b) operator in
    lacks_left whole one
    (operators_entries names a.consoles (active_behind (active_on b) one) (drop (place + 1) operators)) a b d
    (subst (λ (l : List PlainOperator). HasLeft whole (operators_entries names a.consoles (active_on b) l) a b) next h)
    (subst (λ (n : ℕ). LacksRoom (operator_entries names n (active_on b) operator) b d) h.adds.consoles k)

-- ---- phases

-- the item at a place, and those behind it
next_item : {X : Type 0} (xs : List X) (i : ℕ) (x : X)
    → i < length xs
    → x ≡ get_or xs i x
    → drop i xs ≡ x ∷ drop (i + 1) xs
next_item xs i x h at =
    drop-cons xs i x h ∙ ap (λ y. y ∷ drop (suc i) xs) (sym at) ∙ ap (λ n. x ∷ drop n xs) (sym (add-one i))

pub next_mapped : {X Y : Type 0} (f : X → Y) (xs : List X) (i : ℕ) (x : X)
    → i < length xs
    → x ≡ get_or xs i x
    → drop i (map f xs) ≡ f x ∷ drop (i + 1) (map f xs)
next_mapped {X} {Y} f xs i x h at =
    drop-map f i xs
    ∙ ap (λ (l : List X). map f l) (next_item xs i x h at)
    ∙ ap (λ (l : List Y). f x ∷ l) (sym (drop-map f (i + 1) xs))

-- a list with one item set, at its place
abbrev SetAt : (next place : ℕ) → List PlainPhase → PlainPhase → PlainPhase → Type 0
SetAt next place xs x y =
    (drop place xs ≡ x ∷ drop next xs)
    × (take next (slice_set xs place y) ≡ take place xs ++ y ∷ [])
    × (drop next (slice_set xs place y) ≡ drop next xs)

set_at : (place : ℕ) (xs : List PlainPhase) (x y : PlainPhase)
    → place < length xs
    → x ≡ slice_index_or xs place x
    → SetAt (suc place) place xs x y
set_at zero [] x y lt e = absurd (omega (arith, lt))
set_at (suc place) [] x y lt e = absurd (omega (arith, lt))
set_at zero (z ∷ xs) x y lt e = (ap (λ (w : PlainPhase). w ∷ xs) (sym e), refl, refl)
set_at (suc place) (z ∷ xs) x y lt e =
    let rest = set_at place xs x y (omega (arith, lt)) e in
    (rest.0, ap (λ (l : List PlainPhase). z ∷ l) rest.1, rest.2)

set_parts : (place : ℕ) (xs : List PlainPhase) (x y : PlainPhase)
    → place < length xs
    → x ≡ slice_index_or xs place x
    → SetAt (place + 1) place xs x y
set_parts place xs x y lt e =
    let next : suc place ≡ place + 1 = omega arith in
    subst (λ (n : ℕ). SetAt n place xs x y) next (set_at place xs x y lt e)

pub played_more : (names : List (List ℕ)) (keyboards : List PlainVtPhase) (keyboard : PlainVtPhase) (place first : ℕ)
    (a b c : BoardState) (phases played : List PlainPhase) (phase now : PlainPhase)
    → place < length played
    → phase ≡ slice_index_or played place phase
    → drop place keyboards ≡ keyboard ∷ drop (place + 1) keyboards
    → now ≡ record phase { lines = key_lines b.consoles (active_on b) keyboard.keys }
    → AddsAll (phase_entries names b.consoles (active_on b) first keyboard) b c
    → HasPlayed names keyboards place first a b phases played
    → HasPlayed names keyboards (place + 1) (first + length keyboard.keys) a c phases (slice_set played place now)
played_more names keyboards keyboard place first a b c phases played phase now lt at next lines adds h =
    let whole = entries_from names a.consoles (active_on a) 0 keyboards in
    let rest = drop (place + 1) keyboards in
    let consoles : b.consoles ≡ a.consoles = h.left.adds.consoles in
    let added : AddsAll (phase_entries names a.consoles (active_on b) first keyboard) b c =
    subst (λ (n : ℕ). AddsAll (phase_entries names n (active_on b) first keyboard) b c) consoles adds in
    let parts = set_parts place played phase now lt at in
    let later : active_on c
    ≡ active_behind (active_on b) (phase_entries names a.consoles (active_on b) first keyboard) =
    active_then (phase_entries names a.consoles (active_on b) first keyboard) b c added in
    let here : now ≡ record phase { lines = key_lines a.consoles (active_on b) keyboard.keys } =
    lines ∙ ap (λ (n : ℕ). record phase { lines = key_lines n (active_on b) keyboard.keys }) consoles in
    let others =
    phases_in_order names a.consoles (active_on c) (first + length keyboard.keys) rest (drop (place + 1) played) in
    let all : phases_in_order names a.consoles (active_on b) first (drop place keyboards)
    (drop place played) ≡ now ∷ others =
    ap (λ (l : List PlainVtPhase). phases_in_order names a.consoles (active_on b) first l (drop place played)) next
    ∙ ap (λ (l : List PlainPhase). phases_in_order names a.consoles (active_on b) first (keyboard ∷ rest) l) parts.0
    ∙ ap
    (λ (w : PlainPhase).
    w
    ∷ phases_in_order names a.consoles
    (active_behind (active_on b) (phase_entries names a.consoles (active_on b) first keyboard))
    (first + length keyboard.keys) rest (drop (place + 1) played))
    (sym here)
    ∙ ap
    (λ (n : ℕ). now ∷ phases_in_order names a.consoles n (first + length keyboard.keys) rest (drop (place + 1) played))
    (sym later) in
    record {
      left = phase_next whole a b c names a.consoles first keyboard rest
          (subst (λ (l : List PlainVtPhase). HasLeft whole (entries_from names a.consoles (active_on b) first l) a b)
          next h.left) added;
      each = length-set played place now ∙ h.each;
      same =
          ap (λ (l : List PlainPhase).
          l
          ++ phases_in_order names a.consoles (active_on c) (first + length keyboard.keys) rest
          (drop (place + 1) (slice_set played place now))) parts.1
          ∙ ap
          (λ (l : List PlainPhase).
          (take place played ++ now ∷ [])
          ++ phases_in_order names a.consoles (active_on c) (first + length keyboard.keys) rest l) parts.2
          ∙ append_assoc (take place played) (now ∷ []) others
          ∙ ap (λ (l : List PlainPhase). take place played ++ l) (sym all)
          ∙ h.same;
      counted =
          let sum : length (all_keys (keyboard ∷ rest)) ≡ length keyboard.keys + length (all_keys rest) =
          length-append keyboard.keys (all_keys rest) in
          let was : first + length (all_keys (keyboard ∷ rest)) ≡ length (all_keys keyboards) =
          subst (λ (l : List PlainVtPhase). first + length (all_keys l) ≡ length (all_keys keyboards)) next h.counted in
          omega (arith, sum, was);
    }

pub played_all : (names : List (List ℕ)) (keyboards : List PlainVtPhase) (place first : ℕ) (a b : BoardState)
    (phases played : List PlainPhase)
    → length keyboards ≤ place
    → HasPlayed names keyboards place first a b phases played
    → AddsAll (entries_from names a.consoles (active_on a) 0 keyboards) a b
    × (played ≡ phases_in_order names a.consoles (active_on a) 0 keyboards phases)
played_all names keyboards place first a b phases played le h =
    let whole = entries_from names a.consoles (active_on a) 0 keyboards in
    let none : drop place keyboards ≡ [] = drop_all place keyboards le in
    let no_more : drop place played ≡ [] = drop_all place played (omega (arith, le, h.each)) in
    let front : take place played ≡ played = take_all place played (omega (arith, le, h.each)) in (
      left_none whole a b
          (subst (λ (l : List PlainVtPhase). HasLeft whole (entries_from names a.consoles (active_on b) first l) a b)
          none h.left),
      sym (append-nil played)
          ∙ ap (λ (l : List PlainPhase). played ++ l)
          (sym (ap
          (λ (l : List PlainVtPhase). phases_in_order names a.consoles (active_on b) first l (drop place played)) none
          ∙ no_more))
          ∙ ap
          (λ (l : List PlainPhase).
          l ++ phases_in_order names a.consoles (active_on b) first (drop place keyboards) (drop place played))
          (sym front)
          ∙ h.same,
    )

-- the keys of the phase that comes next are among all
pub keys_fit : (names : List (List ℕ)) (keyboards : List PlainVtPhase) (keyboard : PlainVtPhase) (place first : ℕ)
    (a b : BoardState) (phases played : List PlainPhase)
    → drop place keyboards ≡ keyboard ∷ drop (place + 1) keyboards
    → HasPlayed names keyboards place first a b phases played
    → first + length keyboard.keys ≤ length (all_keys keyboards)
keys_fit names keyboards keyboard place first a b phases played next h =
    let rest = drop (place + 1) keyboards in
    let sum : length (all_keys (keyboard ∷ rest)) ≡ length keyboard.keys + length (all_keys rest) =
    length-append keyboard.keys (all_keys rest) in
    let was : first + length (all_keys (keyboard ∷ rest)) ≡ length (all_keys keyboards) =
    subst (λ (l : List PlainVtPhase). first + length (all_keys l) ≡ length (all_keys keyboards)) next h.counted in
    omega (arith, sum, was)

-- a phase more
pub step_played : (names : List (List ℕ)) (keyboards : List VtPhase) (x : VtPhase) (place first : ℕ)
    (a b c : BoardState) (phases played : List Phase) (y z : Phase) (keys : List ℕ)
    → place < length keyboards
    → x ≡ get_or keyboards place x
    → y ≡ get_or played place y
    → keys ≡ x.keys.items
    → phase_of z ≡ record (phase_of y) { lines = key_lines b.consoles (active_on b) keys }
    → AddsAll (phase_entries names b.consoles (active_on b) first (vt_phase_of x)) b c
    → HasPlayed names (map vt_phase_of keyboards) place first a b (map phase_of phases) (map phase_of played)
    → HasPlayed names (map vt_phase_of keyboards) (place + 1) (first + length keys) a c (map phase_of phases)
    (map phase_of (slice_set played place z))
step_played names keyboards x place first a b c phases played y z keys lt is_x is_y is_keys lines adds h =
    let ks : List PlainVtPhase = map vt_phase_of keyboards in
    let ps : List PlainPhase = map phase_of played in
    let many : length ps ≡ length played = length-map played phase_of in
    let few : length ks ≡ length keyboards = length-map keyboards vt_phase_of in
    let within : place < length ps = omega (arith, lt, few, h.each) in
    let inside : place < length played = omega (arith, within, many) in
    let at : phase_of y ≡ slice_index_or ps place (phase_of y) =
    ap phase_of is_y ∙ sym (get_or-map phase_of played place y (phase_of y) inside) in
    let next = next_mapped vt_phase_of keyboards place x lt is_x in
    let here : phase_of z ≡ record (phase_of y) { lines = key_lines b.consoles (active_on b) x.keys.items } =
    lines ∙ ap (λ (l : List ℕ). record (phase_of y) { lines = key_lines b.consoles (active_on b) l }) is_keys in
    let done = played_more names ks (vt_phase_of x) place first a b c (map phase_of phases) ps (phase_of y) (phase_of z)
    within at next here adds h in
    subst (λ (n : ℕ).
    HasPlayed names ks (place + 1) (first + n) a c (map phase_of phases) (map phase_of (slice_set played place z)))
    (ap (λ (l : List ℕ). length l) (sym is_keys))
    (subst
    (λ (l : List PlainPhase). HasPlayed names ks (place + 1) (first + length x.keys.items) a c (map phase_of phases) l)
    (sym (map-set phase_of played place z)) done)

-- a phase, by the numbers that the code has
pub phase_played : (a b c : BoardState) (names : List (List ℕ)) (first seat count : ℕ) (phase : PlainVtPhase)
    → seat ≡ length names
    → count ≡ length phase.keys
    → AddsAll (key_entries seat (active_on a) first count) a b
    → AddsAll (operators_entries names b.consoles (active_on b) phase.operators) b c
    → AddsAll (phase_entries names a.consoles (active_on a) first phase) a c
phase_played a b c names first seat count phase e f h k =
    let keys : AddsAll (key_entries (length names) (active_on a) first (length phase.keys)) a b =
    subst (λ (n : ℕ). AddsAll (key_entries (length names) (active_on a) first n) a b) f
    (subst (λ (n : ℕ). AddsAll (key_entries n (active_on a) first count) a b) e h) in
    phase_both a b c names a.consoles first phase keys
    (subst (λ (n : ℕ). AddsAll (operators_entries names n (active_on b) phase.operators) b c) keys.consoles k)

-- a phase whose keys, or whose operators' calls, have no room
pub keys_lack : (a : BoardState) (names : List (List ℕ)) (first seat count : ℕ) (phase : PlainVtPhase) (d : Denied)
    → seat ≡ length names
    → count ≡ length phase.keys
    → LacksRoom (key_entries seat (active_on a) first count) a d
    → LacksRoom (phase_entries names a.consoles (active_on a) first phase) a d
keys_lack a names first seat count phase d e f h =
    lacks_more (key_entries (length names) (active_on a) first (length phase.keys))
    (operators_entries names a.consoles (active_on a) phase.operators) a d
    (subst (λ (n : ℕ). LacksRoom (key_entries (length names) (active_on a) first n) a d) f
    (subst (λ (n : ℕ). LacksRoom (key_entries n (active_on a) first count) a d) e h))

pub operators_lack : (a b : BoardState) (names : List (List ℕ)) (first seat count : ℕ) (phase : PlainVtPhase)
    (d : Denied)
    → seat ≡ length names
    → count ≡ length phase.keys
    → AddsAll (key_entries seat (active_on a) first count) a b
    → LacksRoom (operators_entries names b.consoles (active_on b) phase.operators) b d
    → LacksRoom (phase_entries names a.consoles (active_on a) first phase) a d
operators_lack a b names first seat count phase d e f h k =
    let keys : AddsAll (key_entries (length names) (active_on a) first (length phase.keys)) a b =
    subst (λ (n : ℕ). AddsAll (key_entries (length names) (active_on a) first n) a b) f
    (subst (λ (n : ℕ). AddsAll (key_entries n (active_on a) first count) a b) e h) in
    let same : active_on b ≡ active_on a =
    active_then (key_entries (length names) (active_on a) first (length phase.keys)) a b keys
    ∙ active_keys (length names) (active_on a) (active_on a) first (length phase.keys) in
    lacks_behind (key_entries (length names) (active_on a) first (length phase.keys))
    (operators_entries names a.consoles (active_on a) phase.operators) a b d keys
    (subst (λ (n : ℕ). LacksRoom (operators_entries names a.consoles n phase.operators) b d) same
    (subst (λ (n : ℕ). LacksRoom (operators_entries names n (active_on b) phase.operators) b d) keys.consoles k))

-- a phase that has no room, among others
pub phase_lacks : (names : List (List ℕ)) (keyboards : List VtPhase) (x : VtPhase) (place first : ℕ) (a b : BoardState)
    (phases played : List PlainPhase) (d : Denied)
    → place < length keyboards
    → x ≡ get_or keyboards place x
    → LacksRoom (phase_entries names b.consoles (active_on b) first (vt_phase_of x)) b d
    → HasPlayed names (map vt_phase_of keyboards) place first a b phases played
    → LacksRoom (entries_from names a.consoles (active_on a) 0 (map vt_phase_of keyboards)) a d
phase_lacks names keyboards x place first a b phases played d lt is_x k h =
    let ks : List PlainVtPhase = map vt_phase_of keyboards in
    let whole = entries_from names a.consoles (active_on a) 0 ks in
    let phase = vt_phase_of x in
    let one = phase_entries names a.consoles (active_on b) first phase in
    lacks_left whole one
    (entries_from names a.consoles (active_behind (active_on b) one) (first + length phase.keys) (drop (place + 1) ks))
    a b d
    (subst (λ (l : List PlainVtPhase). HasLeft whole (entries_from names a.consoles (active_on b) first l) a b)
    (next_mapped vt_phase_of keyboards place x lt is_x) h.left)
    (subst (λ (n : ℕ). LacksRoom (phase_entries names n (active_on b) first phase) b d) h.left.adds.consoles k)

-- ---- the board of a session

pub board_denied : (session : PlainVtSession) (names : List (List ℕ)) (board : BoardState)
    (keyboards : List PlainVtPhase) (d : Denied)
    → names ≡ operator_names session.phases
    → board ≡ record { consoles = session.calls.ports; limit = MOST_ENTRIES; entries = [] }
    → keyboards ≡ session.phases
    → LacksRoom (entries_from names board.consoles (active_on board) 0 keyboards) board d
    → IsBoardDenied session d
board_denied session names board keyboards Full is_names is_board is_keyboards h =
    let here : LacksRoom (entries_from names session.calls.ports 0 0 keyboards)
    (record { consoles = session.calls.ports; limit = MOST_ENTRIES; entries = [] }) Full =
    subst (λ (b : BoardState). LacksRoom (entries_from names b.consoles (active_on b) 0 keyboards) b Full) is_board h in
    subst (λ (ks : List PlainVtPhase).
    MOST_ENTRIES < length (entries_from (operator_names session.phases) session.calls.ports 0 0 ks)) is_keyboards
    (subst (λ (ns : List (List ℕ)). MOST_ENTRIES < length (entries_from ns session.calls.ports 0 0 keyboards)) is_names
    (omega (arith, here)))
board_denied session names board keyboards NoMemory is_names is_board is_keyboards h = tt

pub memory_denied : (session : PlainVtSession) (d : Denied) → d ≡ NoMemory → IsBoardDenied session d
memory_denied session d e = subst (IsBoardDenied session) (sym e) tt

entries_are : (session : PlainVtSession) (names : List (List ℕ)) (board played : BoardState)
    (keyboards : List PlainVtPhase)
    → names ≡ operator_names session.phases
    → board ≡ record { consoles = session.calls.ports; limit = MOST_ENTRIES; entries = [] }
    → keyboards ≡ session.phases
    → AddsAll (entries_from names board.consoles (active_on board) 0 keyboards) board played
    → played.entries ≡ entries_in_order session
entries_are session names board played keyboards is_names is_board is_keyboards adds =
    adds.added
    ∙ ap (λ (b : BoardState). b.entries ++ entries_from names b.consoles (active_on b) 0 keyboards) is_board
    ∙ ap (λ (ns : List (List ℕ)). entries_from ns session.calls.ports 0 0 keyboards) is_names
    ∙ ap (λ (ks : List PlainVtPhase). entries_from (operator_names session.phases) session.calls.ports 0 0 ks)
    is_keyboards

-- a board that was played had room
pub had_room : (session : PlainVtSession) (names : List (List ℕ)) (board played : BoardState)
    (keyboards : List PlainVtPhase)
    → names ≡ operator_names session.phases
    → board ≡ record { consoles = session.calls.ports; limit = MOST_ENTRIES; entries = [] }
    → keyboards ≡ session.phases
    → AddsAll (entries_from names board.consoles (active_on board) 0 keyboards) board played
    → IsBoard played
    → length (entries_in_order session) ≤ MOST_ENTRIES
had_room session names board played keyboards is_names is_board is_keyboards adds is =
    let same : length played.entries ≡ length (entries_in_order session) =
    ap (λ (l : List VtEntry). length l)
    (entries_are session names board played keyboards is_names is_board is_keyboards adds) in
    let limit : board.limit ≡ MOST_ENTRIES = ap (λ (b : BoardState). b.limit) is_board in
    omega (arith, limit, adds.limit, is.within, same)
