-- What is passed asks no more than the session whose calls are passed.
use Rattle.std.proofs.Common.{◌≡◌, ℕ, suc, ◌+◌, ◌≤◌, ◌==◌, Bool, true, false}
use Rattle.std.proofs.Common.{cond, if◌then◌else◌, Option, Some, List, [], ◌∷◌, ◌++◌}
use Rattle.std.proofs.Common.{length, map, refl, sym, ap, ◌∙◌, subst, arith, length-append}
use Rattle.std.specs.Prelude.{All, filter, flat_map, slice_get, slice_index_or, sum, sum_by, unwrap_or}
use Rattle.std.specs.Str.{bytes_eq}
use Rattle.std.proofs.lemmas.Bool.{eqb-true, or_left, or_right}
use Rattle.std.proofs.lemmas.Grind.{flat_map-append}
use Rattle.std.proofs.lemmas.List.Elements.{All-nil, All-head, All-tail, All-append, filter-append}
use Rattle.std.proofs.lemmas.List.Sums.{sum_by-append, sum_by-cons}
use Rattle.tty_base.specs.Lines.{arrival_count}
use Rattle.tty_calls.specs.Plain.{PlainCall}
use Rattle.tty_calls.specs.Limits.{character_count}
use Rattle.tty_calls.specs.Sessions.{PlainScript, PlainPhase, PlainSession, line_on}
use Rattle.tty_calls.specs.Sessions.{number_in, scripts_over as plain_scripts_over}
use Rattle.session_text.specs.Asked.{asked_of}
use Rattle.legal_runs.proofs.NameLemmas.{get_append, get_past, same_name}
use Rattle.legal_runs.proofs.ScriptLemmas.{at_number}
use Rattle.play_base.proofs.NameLemmas.{has_name, script_has_number}
use Rattle.passed_calls.specs.Blocks.{Block, bare, blocks_on, names_on, number_on, steps_under}
use Rattle.passed_calls.specs.Derived.{Passing, Passed, BlockPhase, blocks_of, by_caller, calls_at, calls_for}
use Rattle.passed_calls.specs.Derived.{passed_script, passed_scripts, passed_phases_after, passed_phases}
use Rattle.passed_calls.specs.Scripts.{CallerScript, block_of, calls_named, numbered_call}
use Rattle.passed_calls.specs.Within.{ArePassedWithin}
use Rattle.passed_calls.proofs.Names.{on_port, over_phases}
use Rattle.further_asked.specs.Asked.{AskedPhase, AskNoMore, AsksWithin, asked_at, asked_on}
use Rattle.further_asked.specs.Asked.{block_phases, call_asks, scripts_over}
use Rattle.further_asked.proofs.Mixing.{plain_asks, script_asks, scripts_parts}

abbrev Script : Type 0
Script = CallerScript ℕ

-- ---- one call

few_ask : (n : ℕ) (calls : List PlainCall)
    → length calls ≤ 1
    → All (AsksWithin (Some n)) calls
    → sum_by call_asks calls ≤ n
few_ask n [] few h = omega arith
few_ask n (call ∷ []) few h =
    omega (arith, sum_by-cons call_asks call [], All-head (AsksWithin (Some n)) call [] h)
few_ask n (call ∷ other ∷ calls) few h = absurd (omega (arith, few))

-- ---- what was passed for a call of a caller

abbrev OfCall : (asks : ℕ → ℕ → Option ℕ) → Passing → Type 0
OfCall asks m = All (AsksWithin (asks m.caller m.step)) m.calls

module _ (asks : ℕ → ℕ → Option ℕ) (c step : ℕ) where
  of_step : (b : Bool) (m : Passing)
      → (m.step == step) ≡ b
      → m.caller ≡ c
      → OfCall asks m
      → All (AsksWithin (asks c step)) (if b then m.calls else [])
  of_step true m e is h =
      subst (λ (n : ℕ). All (AsksWithin (asks c n)) m.calls) (eqb-true m.step step e)
      (subst (λ (d : ℕ). All (AsksWithin (asks d m.step)) m.calls) is h)
  of_step false m e is h = All-nil (AsksWithin (asks c step))

  of_caller : (b : Bool) (m : Passing) (ms : List Passing)
      → (m.caller == c) ≡ b
      → OfCall asks m
      → All (AsksWithin (asks c step)) (calls_at ms step)
      → All (AsksWithin (asks c step)) (calls_at (cond b (m ∷ ms) ms) step)
  of_caller true m ms e mine h =
      All-append (AsksWithin (asks c step)) (if m.step == step then m.calls else []) (calls_at ms step)
      (of_step (m.step == step) m refl (eqb-true m.caller c e) mine) h
  of_caller false m ms e mine h = h

  at_step : (ms : List Passing)
      → All (OfCall asks) ms
      → All (AsksWithin (asks c step)) (calls_at (by_caller c ms) step)
  at_step [] h = All-nil (AsksWithin (asks c step))
  at_step (m ∷ ms) h = of_caller (m.caller == c) m (by_caller c ms) refl (All-head (OfCall asks) m ms h)
      (at_step ms (All-tail (OfCall asks) m ms h))

-- ---- a script

steps_ask : (ms : List Passing) (first : ℕ) (calls : List ℕ)
    → ((k n : ℕ) → slice_get calls k ≡ Some n → sum_by call_asks (calls_at ms (first + k)) ≤ n)
    → sum_by call_asks (calls_for ms first (length calls)) ≤ sum calls
steps_ask ms first [] each = omega arith
steps_ask ms first (n ∷ calls) each =
    let here : sum_by call_asks (calls_at ms first) ≤ n =
    (let none : first + 0 ≡ first = omega arith in
    subst (λ (at : ℕ). sum_by call_asks (calls_at ms at) ≤ n) none (each 0 n refl)) in
    let behind : (k m : ℕ) → slice_get calls k ≡ Some m → sum_by call_asks (calls_at ms ((first + 1) + k)) ≤ m =
    λ k m is. (let along : first + suc k ≡ (first + 1) + k = omega arith in
    subst (λ (at : ℕ). sum_by call_asks (calls_at ms at) ≤ m) along (each (suc k) m is)) in
    omega (
      arith,
      here,
      steps_ask ms (first + 1) calls behind,
      sum_by-append call_asks (calls_at ms first) (calls_for ms (first + 1) (length calls)),
      sum_by-cons (λ (x : ℕ). x) n calls,
    )

-- ---- its place among the scripts of its port

abbrev is_on : ℕ → Script → Bool
is_on p s = s.port == p

abbrev blocks_all : List Script → List Block
blocks_all ss = map block_of ss

on_blocks : (t : Bool) (s : Script) (xs : List Script) (bs : List Block)
    → map block_of xs ≡ bs
    → map block_of (cond t (s ∷ xs) xs) ≡ cond t (block_of s ∷ bs) bs
on_blocks true s xs bs h = ap (λ (ys : List Block). block_of s ∷ ys) h
on_blocks false s xs bs h = h

blocks_kept : (p : ℕ) (ss : List Script) → map block_of (filter (is_on p) ss) ≡ blocks_on p (blocks_all ss)
blocks_kept p [] = refl
blocks_kept p (s ∷ ss) =
    on_blocks (s.port == p) s (filter (is_on p) ss) (blocks_on p (blocks_all ss)) (blocks_kept p ss)

named_length : (b : Bool) (s : Script) → length (if b then s.calls else []) ≡ (if b then length s.calls else 0)
named_length true s = refl
named_length false s = refl

-- how many calls stand before it under its name
steps_named : (name : List ℕ) (ss : List Script)
    → length (calls_named (Some name) ss) ≡ steps_under name (map block_of ss)
steps_named name [] = refl
steps_named name (s ∷ ss) =
    omega (
      arith,
      length-append (if bytes_eq s.name name then s.calls else []) (calls_named (Some name) ss),
      named_length (bytes_eq s.name name) s,
      steps_named name ss,
      sum_by-cons (λ (b : Block). if bytes_eq b.name name then b.steps else 0) (block_of s) (map block_of ss),
    )

call_behind : (xs zs : List Script) (s : Script) (k call : ℕ) → slice_get s.calls k ≡ Some call
    → slice_get (calls_named (Some s.name) (xs ++ s ∷ zs)) (length (calls_named (Some s.name) xs) + k) ≡ Some call
call_behind xs zs s k call is =
    let mine : Script → List ℕ = λ x. if bytes_eq x.name s.name then x.calls else [] in
    let front : List ℕ = flat_map mine xs in
    let behind : List ℕ = flat_map mine zs in
    ap (λ (cs : List ℕ). slice_get cs (length front + k)) (flat_map-append mine xs (s ∷ zs))
    ∙ (get_past front (mine s ++ behind) (length front + k) k (omega arith)
    ∙ (ap (λ (b : Bool). slice_get ((if b then s.calls else []) ++ behind) k) (same_name s.name)
    ∙ get_append s.calls behind k call is))

-- its name has a number
there : (xs zs : List PlainScript) (x : PlainScript) → has_name (xs ++ x ∷ zs) x.name ≡ true
there [] zs x = or_left (bytes_eq x.name x.name) (has_name zs x.name) (same_name x.name)
there (y ∷ xs) zs x = or_right (bytes_eq y.name x.name) (has_name (xs ++ x ∷ zs) x.name) (there xs zs x)

map_append : {X Y : Type 0} (f : X → Y) (xs ys : List X) → map f (xs ++ ys) ≡ map f xs ++ map f ys
map_append f [] ys = refl
map_append {X} {Y} f (x ∷ xs) ys = ap (λ (zs : List Y). f x ∷ zs) (map_append f xs ys)

unwrapped : (o : Option ℕ) (n d : ℕ) → o ≡ Some n → unwrap_or o d ≡ n
unwrapped o n d e = ap (λ (x : Option ℕ). unwrap_or x d) e

own_name : (p : ℕ) (all : List Block) (xs zs : List Block) (b : Block)
    → blocks_on p all ≡ xs ++ b ∷ zs
    → slice_get (names_on p all) (number_on p all b.name) ≡ Some b.name
own_name p all xs zs b e =
    let scripts : List PlainScript = map bare (blocks_on p all) in
    let has : has_name scripts b.name ≡ true =
    ap (λ (bs : List Block). has_name (map bare bs) b.name) e
    ∙ (ap (λ (ss : List PlainScript). has_name ss b.name) (map_append bare xs (b ∷ zs))
    ∙ there (map bare xs) (map bare zs) (bare b)) in
    let number = script_has_number scripts b.name has in
    ap (λ (n : ℕ). slice_get (names_on p all) n)
    (unwrapped (number_in (names_on p all) b.name) number.0 (length (names_on p all)) number.1)
    ∙ at_number (names_on p all) b.name number.0 number.1

-- ---- all scripts

on_either : (t : Bool) (x : PlainScript) (s : Script) (xs : List PlainScript) (ss : List Script)
    → (t ≡ true → plain_asks x ≤ script_asks s)
    → sum_by plain_asks xs ≤ sum_by script_asks ss
    → sum_by plain_asks (cond t (x ∷ xs) xs) ≤ sum_by script_asks (cond t (s ∷ ss) ss)
on_either true x s xs ss mine h = omega (arith, mine refl, h, sum_by-cons plain_asks x xs, sum_by-cons script_asks s ss)
on_either false x s xs ss mine h = h

-- what a port was passed for a call asks no more than the call
abbrev AsksFor : (p : ℕ) → (all : List Script) → List Passing → Type 0
AsksFor p all ms =
    (c step n : ℕ)
    → numbered_call (names_on p (blocks_all all)) (filter (is_on p) all) c step ≡ Some n
    → sum_by call_asks (calls_at (by_caller c ms) step) ≤ n

module _ (p : ℕ) (given : Passed) (all : List Script) (each : AsksFor p all (given p)) where
  own_asks : (before ss : List Script) (s : Script)
      → before ++ s ∷ ss ≡ all
      → s.port ≡ p
      → (s.port == p) ≡ true
      → sum_by call_asks (calls_for (by_caller (number_on p (blocks_all all) s.name) (given p))
      (steps_under s.name (blocks_on p (blocks_all before))) (length s.calls)) ≤ script_asks s
  own_asks before ss s e at on =
      let kept : filter (is_on p) all ≡ filter (is_on p) before ++ s ∷ filter (is_on p) ss =
      ap (filter (is_on p)) (sym e)
      ∙ (filter-append (is_on p) before (s ∷ ss)
      ∙ ap (λ (t : Bool). filter (is_on p) before ++ cond t (s ∷ filter (is_on p) ss) (filter (is_on p) ss)) on) in
      let blocks : blocks_on p (blocks_all all)
      ≡ map block_of (filter (is_on p) before) ++ block_of s ∷ map block_of (filter (is_on p) ss) =
      sym (blocks_kept p all)
      ∙ (ap (map block_of) kept ∙ map_append block_of (filter (is_on p) before) (s ∷ filter (is_on p) ss)) in
      let name = own_name p (blocks_all all) (map block_of (filter (is_on p) before))
      (map block_of (filter (is_on p) ss)) (block_of s) blocks in
      let number = number_on p (blocks_all all) s.name in
      let first : steps_under s.name (blocks_on p (blocks_all before))
      ≡ length (calls_named (Some s.name) (filter (is_on p) before)) =
      ap (λ (bs : List Block). steps_under s.name bs) (sym (blocks_kept p before))
      ∙ sym (steps_named s.name (filter (is_on p) before)) in
      steps_ask (by_caller number (given p)) (steps_under s.name (blocks_on p (blocks_all before))) s.calls
      (λ k call is. each number (steps_under s.name (blocks_on p (blocks_all before)) + k) call
      (ap (λ (o : Option (List ℕ)).
      slice_get (calls_named o (filter (is_on p) all)) (steps_under s.name (blocks_on p (blocks_all before)) + k)) name
      ∙ (ap (λ (xs : List Script).
      slice_get (calls_named (Some s.name) xs) (steps_under s.name (blocks_on p (blocks_all before)) + k)) kept
      ∙ (ap
      (λ (n : ℕ). slice_get (calls_named (Some s.name) (filter (is_on p) before ++ s ∷ filter (is_on p) ss)) (n + k))
      first
      ∙ call_behind (filter (is_on p) before) (filter (is_on p) ss) s k call is))))

  own_script : (before ss : List Script) (s : Script)
      → before ++ s ∷ ss ≡ all
      → (s.port == p) ≡ true
      → plain_asks (passed_script given (blocks_all all) (blocks_all before) (block_of s)) ≤ script_asks s
  own_script before ss s e on =
      let at = eqb-true s.port p on in
      let same = ap (λ (q : ℕ). sum_by call_asks (calls_for (by_caller (number_on q (blocks_all all) s.name) (given q))
      (steps_under s.name (blocks_on q (blocks_all before))) (length s.calls))) at in
      omega (arith, same, own_asks before ss s e at on)

  passed_ask : (before ss : List Script)
      → before ++ ss ≡ all
      → sum_by plain_asks
      (filter (on_port p) (passed_scripts given (blocks_all all) (blocks_all before) (blocks_all ss)))
      ≤ sum_by script_asks (filter (is_on p) ss)
  passed_ask before [] e = omega arith
  passed_ask before (s ∷ ss) e =
      let more : blocks_all (before ++ s ∷ []) ≡ blocks_all before ++ block_of s ∷ [] =
      map_append block_of before (s ∷ []) in
      let rest : sum_by plain_asks (filter (on_port p)
      (passed_scripts given (blocks_all all) (blocks_all before ++ block_of s ∷ []) (blocks_all ss)))
      ≤ sum_by script_asks (filter (is_on p) ss) =
      subst (λ (bs : List Block).
      sum_by plain_asks (filter (on_port p) (passed_scripts given (blocks_all all) bs (blocks_all ss)))
      ≤ sum_by script_asks (filter (is_on p) ss)) more
      (passed_ask (before ++ s ∷ []) ss (assoc before s ss ∙ e)) in
      on_either (s.port == p) (passed_script given (blocks_all all) (blocks_all before) (block_of s)) s
      (filter (on_port p)
      (passed_scripts given (blocks_all all) (blocks_all before ++ block_of s ∷ []) (blocks_all ss)))
      (filter (is_on p) ss)
      (λ on. own_script before ss s e on) rest
    where
      assoc : (xs : List Script) (y : Script) (ys : List Script) → (xs ++ y ∷ []) ++ ys ≡ xs ++ y ∷ ys
      assoc [] y ys = refl
      assoc (x ∷ xs) y ys = ap (λ (zs : List Script). x ∷ zs) (assoc xs y ys)

-- ---- all phases

flat_blocks : (phases : List AskedPhase)
    → blocks_of (block_phases phases) ≡ blocks_all (flat_map (λ (phase : AskedPhase). phase.callers) phases)
flat_blocks [] = refl
flat_blocks (phase ∷ phases) =
    ap (λ (bs : List Block). map block_of phase.callers ++ bs) (flat_blocks phases)
    ∙ sym (map_append block_of phase.callers (flat_map (λ (x : AskedPhase). x.callers) phases))

scripts_flat : (p : ℕ) (phases : List AskedPhase)
    → scripts_over p phases ≡ filter (is_on p) (flat_map (λ (phase : AskedPhase). phase.callers) phases)
scripts_flat p [] = refl
scripts_flat p (phase ∷ phases) =
    ap (λ (ss : List Script). filter (is_on p) phase.callers ++ ss) (scripts_flat p phases)
    ∙ sym (filter-append (is_on p) phase.callers (flat_map (λ (x : AskedPhase). x.callers) phases))

characters_same : (given : Passed) (all before : List Block) (phases : List BlockPhase) (p : ℕ)
    → character_count p (passed_phases_after given all before phases)
    ≡ sum_by (λ phase. arrival_count (slice_index_or phase.lines p [])) phases
characters_same given all before [] p = refl
characters_same given all before (phase ∷ phases) p =
    let first : PlainPhase =
    record { lines = phase.lines; ticks = phase.ticks; callers = passed_scripts given all before phase.blocks } in
    omega (
      arith,
      characters_same given all (before ++ phase.blocks) phases p,
      sum_by-cons (λ (x : PlainPhase). arrival_count (line_on p x)) first
          (passed_phases_after given all (before ++ phase.blocks) phases),
      sum_by-cons (λ (x : BlockPhase). arrival_count (slice_index_or x.lines p [])) phase phases,
    )

module _ (phases : List AskedPhase) (given : Passed) (p : ℕ) (within : ArePassedWithin given)
    (no_more : AskNoMore p phases (given p)) where
  abbrev all_scripts : List Script
  all_scripts = flat_map (λ (phase : AskedPhase). phase.callers) phases

  asks_for : AsksFor p all_scripts (given p)
  asks_for c step n is =
      let here : asked_at p phases c step ≡ Some n =
      ap (λ (bs : List Block). numbered_call (names_on p bs) (scripts_over p phases) c step) (flat_blocks phases)
      ∙ (ap (λ (ss : List Script). numbered_call (names_on p (blocks_all all_scripts)) ss c step)
      (scripts_flat p phases)
      ∙ is) in
      few_ask n (calls_at (by_caller c (given p)) step) (within.single p c step)
      (subst (λ (o : Option ℕ). All (AsksWithin o) (calls_at (by_caller c (given p)) step)) here
      (at_step (asked_at p phases) c step (given p) no_more))

  given_ask : sum_by plain_asks (plain_scripts_over p (passed_phases given (block_phases phases)))
      ≤ sum_by script_asks (scripts_over p phases)
  given_ask =
      let blocks = blocks_of (block_phases phases) in
      let over = over_phases given blocks [] (block_phases phases) p in
      let flat = ap (λ (bs : List Block). filter (on_port p) (passed_scripts given bs [] bs)) (flat_blocks phases) in
      omega (
        arith,
        ap (λ (ss : List PlainScript). sum_by plain_asks ss) (over ∙ flat),
        passed_ask p given all_scripts asks_for [] all_scripts refl,
        ap (λ (ss : List Script). sum_by script_asks ss) (scripts_flat p phases),
      )

pub asks_no_more : (phases : List AskedPhase) (given : Passed) (played : PlainSession) (p : ℕ)
    → played.phases ≡ passed_phases given (block_phases phases)
    → ArePassedWithin given
    → AskNoMore p phases (given p)
    → asked_of p played.phases ≤ asked_on p phases
asks_no_more phases given played p are within no_more =
    let all = passed_phases given (block_phases phases) in
    omega (
      arith,
      ap (λ (ps : List PlainPhase). asked_of p ps) are,
      scripts_parts (plain_scripts_over p all),
      given_ask phases given p within no_more,
      characters_same given (blocks_of (block_phases phases)) [] (block_phases phases) p,
    )
