-- The calls of a caller in the session that was played, step by step.
use Rattle.std.proofs.Common.{◌≡◌, ℕ, zero, suc, ◌+◌, Bool, true, false, cond}
use Rattle.std.proofs.Common.{List, [], ◌∷◌, ◌++◌, refl, sym, ap, ◌∙◌, arith}
use Rattle.std.specs.Prelude.{◌==◌, filter, flat_map}
use Rattle.std.specs.List.{range_with_len}
use Rattle.std.specs.Str.{bytes_eq}
use Rattle.std.proofs.lemmas.Grind.{flat_map-append}
use Rattle.std.proofs.lemmas.List.Elements.{filter-append}
use Rattle.std.proofs.lemmas.List.Sums.{sum_by-cons, sum_by-append}
use Rattle.std.proofs.lemmas.Bool.{eqb-true}
use Rattle.std.proofs.lemmas.Slice.Eq.{bytes_eq-Decides}
use Rattle.tty_calls.specs.Sessions.{PlainScript, calls_under, scripts_over}
use Rattle.passed_calls.specs.Blocks.{Block, blocks_on, number_on, steps_under}
use Rattle.passed_calls.specs.Derived.{Passing, Passed, BlockPhase, blocks_of, by_caller, calls_at}
use Rattle.passed_calls.specs.Derived.{calls_for, passed_script, passed_scripts, passed_phases}
use Rattle.passed_calls.proofs.Names.{on_port, over_phases}

-- so many steps, and more
pub range_append : (a m n : ℕ) → range_with_len a (m + n) ≡ range_with_len a m ++ range_with_len (a + m) n
range_append a zero n =
    let none : zero + n ≡ n = omega arith in
    let same : a + zero ≡ a = omega arith in
    rw none (rw same refl)
range_append a (suc m) n =
    let more : suc m + n ≡ suc (m + n) = omega arith in
    let along : a + suc m ≡ (a + 1) + m = omega arith in
    rw more (rw along (ap (λ rest. a ∷ rest) (range_append (a + 1) m n)))

pub calls_for_more : (passings : List Passing) (first m n : ℕ)
    → calls_for passings first (m + n) ≡ calls_for passings first m ++ calls_for passings (first + m) n
calls_for_more passings first m n =
    ap (flat_map (calls_at passings)) (range_append first m n)
    ∙ flat_map-append (calls_at passings) (range_with_len first m) (range_with_len (first + m) n)

-- the steps under a name on a port, of one block more
abbrev steps_on : ℕ → List ℕ → List Block → ℕ
steps_on p name blocks = steps_under name (blocks_on p blocks)

abbrev here : ℕ → List ℕ → Block → ℕ
here p name b = cond (b.port == p) (cond (bytes_eq b.name name) b.steps 0) 0

steps_kept : (t : Bool) (name : List ℕ) (b : Block) (bs : List Block)
    → steps_under name (cond t (b ∷ bs) bs) ≡ cond t (cond (bytes_eq b.name name) b.steps 0) 0 + steps_under name bs
steps_kept true name b bs = sum_by-cons (λ x. cond (bytes_eq x.name name) x.steps 0) b bs
steps_kept false name b bs = omega arith

steps_first : (p : ℕ) (name : List ℕ) (b : Block) (bs : List Block)
    → steps_on p name (b ∷ bs) ≡ here p name b + steps_on p name bs
steps_first p name b bs = steps_kept (b.port == p) name b (blocks_on p bs)

steps_last : (p : ℕ) (name : List ℕ) (before : List Block) (b : Block)
    → steps_on p name (before ++ b ∷ []) ≡ steps_on p name before + here p name b
steps_last p name before b =
    let parts : blocks_on p (before ++ b ∷ []) ≡ blocks_on p before ++ blocks_on p (b ∷ []) =
    filter-append (λ x. x.port == p) before (b ∷ []) in
    let sums : steps_under name (blocks_on p before ++ blocks_on p (b ∷ []))
    ≡ steps_on p name before + steps_on p name (b ∷ []) =
    sum_by-append (λ x. cond (bytes_eq x.name name) x.steps 0) (blocks_on p before) (blocks_on p (b ∷ [])) in
    let one : steps_on p name (b ∷ []) ≡ here p name b + 0 = steps_first p name b [] in
    rw parts (omega (arith, sums, one))

calls_first : (t : Bool) (name : List ℕ) (s : PlainScript) (ss : List PlainScript)
    → calls_under name (cond t (s ∷ ss) ss) ≡ cond t (cond (bytes_eq s.name name) s.calls []) [] ++ calls_under name ss
calls_first true name s ss = refl
calls_first false name s ss = refl

-- of a block the calls that were passed for its steps, where it is of this port and name
of_block : (passed : Passed) (all before : List Block) (b : Block) (p : ℕ) (name : List ℕ) (on : Bool) (named : Bool)
    → (on ≡ true → b.port ≡ p)
    → (named ≡ true → b.name ≡ name)
    → cond on (cond named (passed_script passed all before b).calls []) []
    ≡ calls_for (by_caller (number_on p all name) (passed p)) (steps_on p name before)
    (cond on (cond named b.steps 0) 0)
of_block passed all before b p name false named at_port at_name = refl
of_block passed all before b p name true false at_port at_name = refl
of_block passed all before b p name true true at_port at_name =
    ap (λ q. calls_for (by_caller (number_on q all b.name) (passed q)) (steps_on q b.name before) b.steps)
    (at_port refl)
    ∙ ap (λ n. calls_for (by_caller (number_on p all n) (passed p)) (steps_on p n before) b.steps) (at_name refl)

pub bytes_are : (xs ys : List ℕ) → bytes_eq xs ys ≡ true → xs ≡ ys
bytes_are xs ys e = (bytes_eq-Decides xs ys).0 e

pub under_name :
    (passed : Passed) (all before blocks : List Block) (p : ℕ) (name : List ℕ)
    → calls_under name (filter (on_port p) (passed_scripts passed all before blocks))
    ≡ calls_for (by_caller (number_on p all name) (passed p)) (steps_on p name before) (steps_on p name blocks)
under_name passed all before [] p name = refl
under_name passed all before (b ∷ bs) p name =
    let mine : List Passing = by_caller (number_on p all name) (passed p) in
    let script : PlainScript = passed_script passed all before b in
    let others : List PlainScript = filter (on_port p) (passed_scripts passed all (before ++ b ∷ []) bs) in
    calls_first (b.port == p) name script others
    ∙ ap (λ calls. calls ++ calls_under name others)
    (of_block passed all before b p name (b.port == p) (bytes_eq b.name name) (λ e. eqb-true b.port p e)
    (λ e. bytes_are b.name name e))
    ∙ ap (λ calls. calls_for mine (steps_on p name before) (here p name b) ++ calls)
    (under_name passed all (before ++ b ∷ []) bs p name)
    ∙ ap (λ first. calls_for mine (steps_on p name before) (here p name b) ++ calls_for mine first (steps_on p name bs))
    (steps_last p name before b)
    ∙ sym (calls_for_more mine (steps_on p name before) (here p name b) (steps_on p name bs))
    ∙ ap (λ count. calls_for mine (steps_on p name before) count) (sym (steps_first p name b bs))

pub calls_are_passed :
    (passed : Passed) (phases : List BlockPhase) (p : ℕ) (name : List ℕ)
    → calls_under name (scripts_over p (passed_phases passed phases))
    ≡ calls_for (by_caller (number_on p (blocks_of phases) name) (passed p)) 0 (steps_on p name (blocks_of phases))
calls_are_passed passed phases p name =
    ap (calls_under name) (over_phases passed (blocks_of phases) [] phases p)
    ∙ under_name passed (blocks_of phases) [] (blocks_of phases) p name
