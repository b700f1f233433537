-- Each caller of a session has a number, and each of its calls a step.
use Rattle.std.proofs.Common.{◌≡◌, ℕ, Bool, true, false, ◌||◌, List, [], ◌∷◌, ◌++◌, Option, Some, ◌+◌, length, map}
use Rattle.std.proofs.Common.{fold, flat_map, slice_get, refl, sym, ap, subst, ◌∙◌, cond, append_assoc, length-append}
use Rattle.std.specs.Str.{bytes_eq}
use Rattle.std.specs.List.{list_any, position_from, concat, AllZip}
use Rattle.std.proofs.lemmas.Bool.{false≢true}
use Rattle.std.proofs.lemmas.Option.{slice_get-get_or}
use Rattle.std.proofs.lemmas.Grind.{flat_map-append}
use Rattle.std.proofs.lemmas.List.{map-append}
use Rattle.std.proofs.lemmas.List.Folds.{list_any-append, concat-append}
use Rattle.std.proofs.lemmas.List.Sums.{fold-append}
use Rattle.std.proofs.lemmas.Iterator.Adapters.{position_from-zero}
use Rattle.std.proofs.lemmas.Slice.Eq.{bytes_eq-Decides}
use Rattle.tty_calls.specs.Plain.{PlainCall, PlainEntry}
use Rattle.tty_calls.specs.Sessions.{PlainScript, PlainSession, scripts_over, with_name}
use Rattle.tty_calls.specs.Sessions.{names_of, number_in, calls_under, calls_of, call_at}
use Rattle.session_print.specs.Lines.{call_line}
use Rattle.session_print.specs.Report.{ToldCall, told_from, told_in, told_line, answered_line, answer_in}
use Rattle.session_print.specs.Laws.{AnswersEvery, IsLineOf}
use Rattle.session_print.proofs.Numbering.{place_within, name_at_place}

abbrev has : List ℕ → List (List ℕ) → Bool
has name names = list_any (bytes_eq name) names

or_true : (b : Bool) → (b || true) ≡ true
or_true true = refl
or_true false = refl

-- a name that was added is there, and stays
has_either : (b : Bool) (names : List (List ℕ)) (name : List ℕ)
    → has name names ≡ b
    → has name (cond b names (names ++ name ∷ [])) ≡ true
has_either true names name e = e
has_either false names name e =
    list_any-append (bytes_eq name) names (name ∷ [])
    ∙ ap (λ b. has name names || (b || false)) ((bytes_eq-Decides name name).1 refl)
    ∙ or_true (has name names)

stays_either : (b : Bool) (names : List (List ℕ)) (other name : List ℕ)
    → has name names ≡ true
    → has name (cond b names (names ++ other ∷ [])) ≡ true
stays_either true names other name e = e
stays_either false names other name e =
    list_any-append (bytes_eq name) names (other ∷ []) ∙ ap (λ b. b || (bytes_eq name other || false)) e

abbrev then_name : List (List ℕ) → PlainScript → List (List ℕ)
then_name names s = with_name names s.name

stays : (names : List (List ℕ)) (ss : List PlainScript) (name : List ℕ)
    → has name names ≡ true
    → has name (fold then_name names ss) ≡ true
stays names [] name e = e
stays names (s ∷ ss) name e =
    stays (with_name names s.name) ss name (stays_either (list_any (bytes_eq s.name) names) names s.name name e)

has_own : (before ss : List PlainScript) (s : PlainScript) → has s.name (names_of (before ++ s ∷ ss)) ≡ true
has_own before ss s =
    ap (λ names. has s.name names) (fold-append then_name [] before (s ∷ ss))
    ∙ stays (with_name (names_of before) s.name) ss s.name
    (has_either (has s.name (names_of before)) (names_of before) s.name refl)

place_from : (name : List ℕ) (i : ℕ) (names : List (List ℕ))
    → has name names ≡ true
    → (c : ℕ) × (position_from (bytes_eq name) i names ≡ Some c)
place_from name i [] e = absurd (false≢true e)
place_from name i (n ∷ ns) e = either (bytes_eq name n) refl (λ there. place_from name (i + 1) ns there)
  where
    either : (b : Bool)
        → bytes_eq name n ≡ b
        → (has name ns ≡ true → (c : ℕ) × (position_from (bytes_eq name) (i + 1) ns ≡ Some c))
        → (c : ℕ) × (position_from (bytes_eq name) i (n ∷ ns) ≡ Some c)
    either true here go = (i, ap (λ b. cond b (Some i) (position_from (bytes_eq name) (i + 1) ns)) here)
    either false other go =
        let there : has name ns ≡ true = sym (ap (λ b. b || has name ns) other) ∙ e in
        let found = go there in
        (found.0, ap (λ b. cond b (Some i) (position_from (bytes_eq name) (i + 1) ns)) other ∙ found.1)

-- each caller has a number
number_is : (names : List (List ℕ)) (name : List ℕ) → has name names ≡ true → (c : ℕ) × (number_in names name ≡ Some c)
number_is names name e =
    let found = place_from name 0 names e in (found.0, position_from-zero (bytes_eq name) names ∙ found.1)

name_of_number : (names : List (List ℕ)) (name : List ℕ) (c : ℕ)
    → number_in names name ≡ Some c
    → slice_get names c ≡ Some name
name_of_number names name c e =
    slice_get-get_or names c [] (place_within names name c e) ∙ ap (λ n. Some n) (sym (name_at_place names name c e))

item_after : (done rest : List PlainCall) (call : PlainCall) → slice_get (done ++ call ∷ rest) (length done) ≡ Some call
item_after [] rest call = refl
item_after (x ∷ xs) rest call = item_after xs rest call

-- the lines of some calls that are told
abbrev Lines : ℕ → PlainSession → List PlainEntry → List ToldCall → List ℕ → Type 0
Lines p session es told text =
    (lines : List (List ℕ)) × (text ≡ concat lines) × AllZip (IsLineOf p session es) told lines

zip_append : {X Y : Type 0} (R : X → Y → Type 0) (xs more : List X) (ys rest : List Y)
    → AllZip R xs ys
    → AllZip R more rest
    → AllZip R (xs ++ more) (ys ++ rest)
zip_append R [] more [] rest h k = k
zip_append R [] more (y ∷ ys) rest h k = absurd h
zip_append R (x ∷ xs) more [] rest h k = absurd h
zip_append R (x ∷ xs) more (y ∷ ys) rest h k = (h.0, zip_append R xs more ys rest h.1 k)

-- the calls of a script, which come after those that its caller has done
script_lines : (p : ℕ) (session : PlainSession) (es : List PlainEntry)
    → AnswersEvery p session es
    → (name : List ℕ) (c : ℕ)
    → slice_get (names_of (scripts_over p session.phases)) c ≡ Some name
    → (step : ℕ) (done calls rest : List PlainCall)
    → step ≡ length done
    → calls_under name (scripts_over p session.phases) ≡ done ++ (calls ++ rest)
    → Lines p session es (told_from name (Some c) step calls)
    (flat_map (told_line p (answer_in es)) (told_from name (Some c) step calls))
script_lines p session es all name c named step done [] rest at is = ([], refl, tt)
script_lines p session es all name c named step done (call ∷ calls) rest at is =
    let called : call_at p session c step ≡ Some call =
    ap (λ n. slice_get (calls_of (scripts_over p session.phases) n) step) named
    ∙ ap (λ cs. slice_get cs step) is
    ∙ ap (λ n. slice_get (done ++ call ∷ (calls ++ rest)) n) at
    ∙ item_after done (calls ++ rest) call
    in
    let answer = all c step call called in
    let more = script_lines p session es all name c named (step + 1) (done ++ call ∷ []) calls rest
    (ap (λ n. n + 1) at ∙ sym (length-append done (call ∷ [])))
    (is ∙ sym (append_assoc done (call ∷ []) (calls ++ rest))) in
    let line : List ℕ = call_line p name step call answer.0 in
    let t : ToldCall = record { name = name; caller = Some c; step = step; call = call } in (
      line ∷ more.0,
      ap (λ a. answered_line p t a ++ flat_map (told_line p (answer_in es)) (told_from name (Some c) (step + 1) calls))
          answer.1
          ∙ ap (λ xs. line ++ xs) more.1,
      (
        record {
          caller = c;
          answer = answer.0;
          numbered = refl;
          named = named;
          called = called;
          answered = answer.1;
          is_line = refl;
        },
        more.2,
      ),
    )

own_calls : (s : PlainScript) → cond (bytes_eq s.name s.name) s.calls [] ≡ s.calls
own_calls s = ap (λ b. cond b s.calls []) ((bytes_eq-Decides s.name s.name).1 refl)

-- the calls of scripts that come after others
pub scripts_lines : (p : ℕ) (session : PlainSession) (es : List PlainEntry)
    → AnswersEvery p session es
    → (before ss : List PlainScript)
    → scripts_over p session.phases ≡ before ++ ss
    → Lines p session es (told_in (names_of (scripts_over p session.phases)) before ss)
    (flat_map (told_line p (answer_in es)) (told_in (names_of (scripts_over p session.phases)) before ss))
scripts_lines p session es all before [] is = ([], refl, tt)
scripts_lines p session es all before (s ∷ ss) is =
    let scripts : List PlainScript = scripts_over p session.phases in
    let names : List (List ℕ) = names_of scripts in
    let number = number_is names s.name (ap (λ xs. has s.name (names_of xs)) is ∙ has_own before ss s) in
    let c : ℕ = number.0 in
    let step : ℕ = length (calls_under s.name before) in
    let under : calls_under s.name scripts ≡ calls_under s.name before ++ (s.calls ++ calls_under s.name ss) =
    ap (calls_under s.name) is
    ∙ flat_map-append (λ x. cond (bytes_eq x.name s.name) x.calls []) before (s ∷ ss)
    ∙ ap (λ cs. calls_under s.name before ++ (cs ++ calls_under s.name ss)) (own_calls s)
    in
    let here = script_lines p session es all s.name c (name_of_number names s.name c number.1) step
    (calls_under s.name before) s.calls (calls_under s.name ss) refl under in
    let more = scripts_lines p session es all (before ++ s ∷ []) ss (is ∙ sym (append_assoc before (s ∷ []) ss)) in
    let rest : List ToldCall = told_in names (before ++ s ∷ []) ss in (
      here.0 ++ more.0,
      ap (λ o. flat_map (told_line p (answer_in es)) (told_from s.name o step s.calls ++ rest)) number.1
          ∙ flat_map-append (told_line p (answer_in es)) (told_from s.name (Some c) step s.calls) rest
          ∙ ap (λ xs. xs ++ flat_map (told_line p (answer_in es)) rest) here.1
          ∙ ap (λ xs. concat here.0 ++ xs) more.1
          ∙ sym (concat-append here.0 more.0),
      subst (λ o. AllZip (IsLineOf p session es) (told_from s.name o step s.calls ++ rest) (here.0 ++ more.0))
          (sym number.1) (
          zip_append (IsLineOf p session es) (told_from s.name (Some c) step s.calls) rest here.0 more.0 here.2 more.2
          ),
    )

-- the calls that are told are all that there are
from_calls : (name : List ℕ) (c : Option ℕ) (step : ℕ) (calls : List PlainCall)
    → map (λ t. t.call) (told_from name c step calls) ≡ calls
from_calls name c step [] = refl
from_calls name c step (call ∷ calls) = ap (λ cs. call ∷ cs) (from_calls name c (step + 1) calls)

pub told_calls : (names : List (List ℕ)) (before ss : List PlainScript)
    → map (λ t. t.call) (told_in names before ss) ≡ flat_map (λ s. s.calls) ss
told_calls names before [] = refl
told_calls names before (s ∷ ss) =
    let here : List ToldCall = told_from s.name (number_in names s.name) (length (calls_under s.name before)) s.calls in
    map-append (λ (t : ToldCall). t.call) here (told_in names (before ++ s ∷ []) ss)
    ∙ ap (λ cs. cs ++ map (λ t. t.call) (told_in names (before ++ s ∷ []) ss))
    (from_calls s.name (number_in names s.name) (length (calls_under s.name before)) s.calls)
    ∙ ap (λ cs. s.calls ++ cs) (told_calls names (before ++ s ∷ []) ss)
