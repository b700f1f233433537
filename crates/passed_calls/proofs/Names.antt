-- The numbers of callers in the session that was played.
use Rattle.std.proofs.Common.{◌≡◌, ℕ, Bool, true, false, cond, List, [], ◌∷◌, ◌++◌}
use Rattle.std.proofs.Common.{map, refl, sym, ap, ◌∙◌, append_assoc, append-nil}
use Rattle.std.specs.Prelude.{◌==◌, filter, fold}
use Rattle.std.proofs.lemmas.List.Elements.{filter-append}
use Rattle.tty_calls.specs.Sessions.{PlainScript, with_name, names_of, scripts_over}
use Rattle.passed_calls.specs.Blocks.{Block, bare, blocks_on, names_on}
use Rattle.passed_calls.specs.Derived.{Passed, BlockPhase, blocks_of, passed_script}
use Rattle.passed_calls.specs.Derived.{passed_scripts, passed_phases_after, passed_phases}

abbrev pub name_of : PlainScript → List ℕ
name_of s = s.name

abbrev pub on_port : ℕ → PlainScript → Bool
on_port p s = s.port == p

-- the names of scripts depend on their names alone
pub fold_names : (names : List (List ℕ)) (scripts : List PlainScript)
    → fold (λ ns s. with_name ns s.name) names scripts ≡ fold with_name names (map name_of scripts)
fold_names names [] = refl
fold_names names (s ∷ ss) = fold_names (with_name names s.name) ss

pub names_by_names : (xs ys : List PlainScript) → map name_of xs ≡ map name_of ys → names_of xs ≡ names_of ys
names_by_names xs ys e = fold_names [] xs ∙ ap (λ names. fold with_name [] names) e ∙ sym (fold_names [] ys)

-- scripts of two lists of blocks
pub scripts_append : (passed : Passed) (all before xs ys : List Block)
    → passed_scripts passed all before (xs ++ ys)
    ≡ passed_scripts passed all before xs ++ passed_scripts passed all (before ++ xs) ys
scripts_append passed all before [] ys = ap (λ b. passed_scripts passed all b ys) (sym (append-nil before))
scripts_append passed all before (x ∷ xs) ys =
    ap (λ rest. passed_script passed all before x ∷ rest)
    (scripts_append passed all (before ++ x ∷ []) xs ys
    ∙ ap (λ b. passed_scripts passed all (before ++ x ∷ []) xs ++ passed_scripts passed all b ys)
    (append_assoc before (x ∷ []) xs))

-- the scripts of a port over the phases are those of all blocks
pub over_phases : (passed : Passed) (all before : List Block) (phases : List BlockPhase) (p : ℕ)
    → scripts_over p (passed_phases_after passed all before phases)
    ≡ filter (on_port p) (passed_scripts passed all before (blocks_of phases))
over_phases passed all before [] p = refl
over_phases passed all before (phase ∷ phases) p =
    ap (λ rest. filter (on_port p) (passed_scripts passed all before phase.blocks) ++ rest)
    (over_phases passed all (before ++ phase.blocks) phases p)
    ∙ sym (filter-append (on_port p) (passed_scripts passed all before phase.blocks)
    (passed_scripts passed all (before ++ phase.blocks) (blocks_of phases)))
    ∙ ap (filter (on_port p)) (sym (scripts_append passed all before phase.blocks (blocks_of phases)))

one_name :
    (b : Bool) (s : PlainScript) (block : Block) (ss : List PlainScript) (blocks : List Block) → s.name ≡ block.name
    → map name_of ss ≡ map name_of (map bare blocks)
    → map name_of (cond b (s ∷ ss) ss) ≡ map name_of (map bare (cond b (block ∷ blocks) blocks))
one_name true s block ss blocks same rest = ap (λ n. n ∷ map name_of ss) same ∙ ap (λ ns. block.name ∷ ns) rest
one_name false s block ss blocks same rest = rest

pub names_of_blocks : (passed : Passed) (all before blocks : List Block) (p : ℕ)
    → map name_of (filter (on_port p) (passed_scripts passed all before blocks))
    ≡ map name_of (map bare (blocks_on p blocks))
names_of_blocks passed all before [] p = refl
names_of_blocks passed all before (b ∷ bs) p =
    one_name (b.port == p) (passed_script passed all before b) b
    (filter (on_port p) (passed_scripts passed all (before ++ b ∷ []) bs)) (blocks_on p bs) refl
    (names_of_blocks passed all (before ++ b ∷ []) bs p)

pub names_stay : (passed : Passed) (phases : List BlockPhase) (p : ℕ)
    → names_of (scripts_over p (passed_phases passed phases)) ≡ names_on p (blocks_of phases)
names_stay passed phases p =
    ap names_of (over_phases passed (blocks_of phases) [] phases p)
    ∙ names_by_names (filter (on_port p) (passed_scripts passed (blocks_of phases) [] (blocks_of phases)))
    (map bare (blocks_on p (blocks_of phases)))
    (names_of_blocks passed (blocks_of phases) [] (blocks_of phases) p)
