-- The steps of a script among those of its caller.
use Rattle.std.proofs.Common.{◌≡◌, ◌<◌, ℕ, zero, suc, ◌+◌, ◌==◌, Bool, true, false, cond, List, [], ◌∷◌, ◌++◌}
use Rattle.std.proofs.Common.{Option, Some, if◌then◌else◌, length, map, filter, refl, sym, ap, ◌∙◌, arith}
use Rattle.std.proofs.Common.{append_assoc, length-append}
use Rattle.std.specs.Prelude.{fold, slice_get}
use Rattle.std.specs.Str.{bytes_eq}
use Rattle.std.proofs.lemmas.Bool.{eq-eqb, ne_eqb}
use Rattle.std.proofs.lemmas.List.{map-append}
use Rattle.std.proofs.lemmas.List.Elements.{filter-append}
use Rattle.std.proofs.lemmas.List.Sums.{sum_by-cons, sum_by-append}
use Rattle.std.proofs.lemmas.Slice.Eq.{bytes_eq-Decides}
use Rattle.tty_calls.specs.Sessions.{PlainScript, with_name}
use Rattle.passed_calls.specs.Blocks.{Block, bare, blocks_on, names_on, steps_under}
use Rattle.passed_calls.specs.Scripts.{CallerScript, block_of, calls_named, numbered_call}
use Rattle.derived_session.proofs.Places.{all_names, names_both}

-- ---- the blocks of a port's scripts

module _ {C : Type 0} where
  abbrev pub own_blocks : ℕ → List (CallerScript C) → List Block
  own_blocks p scripts = blocks_on p (map block_of scripts)

  abbrev pub own_scripts : ℕ → List (CallerScript C) → List (CallerScript C)
  own_scripts p scripts = filter (λ s. s.port == p) scripts

  one_block : (b : Bool) (s : CallerScript C) (bs : List Block) (ss : List (CallerScript C))
      → bs ≡ map block_of ss
      → cond b (block_of s ∷ bs) bs ≡ map block_of (cond b (s ∷ ss) ss)
  one_block true s bs ss e = ap (λ (xs : List Block). block_of s ∷ xs) e
  one_block false s bs ss e = e

  pub blocks_of_own : (p : ℕ) (ss : List (CallerScript C)) → own_blocks p ss ≡ map block_of (own_scripts p ss)
  blocks_of_own p [] = refl
  blocks_of_own p (s ∷ ss) = one_block (s.port == p) s (own_blocks p ss) (own_scripts p ss) (blocks_of_own p ss)

  pub blocks_both : (p : ℕ) (xs ys : List (CallerScript C))
      → own_blocks p (xs ++ ys) ≡ own_blocks p xs ++ own_blocks p ys
  blocks_both p xs ys =
      ap (blocks_on p) (map-append block_of xs ys)
      ∙ filter-append (λ (b : Block). b.port == p) (map block_of xs) (map block_of ys)

  pub block_here : (s : CallerScript C) → own_blocks s.port (s ∷ []) ≡ block_of s ∷ []
  block_here s = ap (λ (b : Bool). cond b (block_of s ∷ []) []) (eq-eqb s.port s.port refl)

  pub block_elsewhere : (p : ℕ) (s : CallerScript C) → (s.port ≡ p → ⊥) → own_blocks p (s ∷ []) ≡ []
  block_elsewhere p s other = ap (λ (b : Bool). cond b (block_of s ∷ []) []) (ne_eqb s.port p other)

  -- ---- the calls under a name

  abbrev pub named : List ℕ → List (CallerScript C) → List C
  named name ss = calls_named (Some name) ss

  one_length : (b : Bool) (calls : List C) → length (if b then calls else []) ≡ (if b then length calls else 0)
  one_length true calls = refl
  one_length false calls = refl

  pub named_length : (name : List ℕ) (ss : List (CallerScript C))
      → length (named name ss) ≡ steps_under name (map block_of ss)
  named_length name [] = refl
  named_length name (s ∷ ss) = omega (
    arith,
    one_length (bytes_eq s.name name) s.calls,
    named_length name ss,
    length-append (if bytes_eq s.name name then s.calls else []) (named name ss),
    sum_by-cons (λ (b : Block). if bytes_eq b.name name then b.steps else 0) (block_of s) (map block_of ss),
  )

  pub named_append : (name : List ℕ) (xs ys : List (CallerScript C))
      → named name (xs ++ ys) ≡ named name xs ++ named name ys
  named_append name [] ys = refl
  named_append name (x ∷ xs) ys =
      let here : List C = if bytes_eq x.name name then x.calls else [] in
      ap (λ (cs : List C). here ++ cs) (named_append name xs ys)
      ∙ sym (append_assoc here (named name xs) (named name ys))

  get_later : (xs ys : List C) (i : ℕ) → slice_get (xs ++ ys) (length xs + i) ≡ slice_get ys i
  get_later [] ys i = (let same : 0 + i ≡ i = omega arith in ap (λ (n : ℕ). slice_get ys n) same)
  get_later (x ∷ xs) ys i = (let same : suc (length xs) + i ≡ suc (length xs + i) = omega arith in
      ap (λ (n : ℕ). slice_get (x ∷ (xs ++ ys)) n) same ∙ get_later xs ys i)

  get_first : (xs ys : List C) (i : ℕ) → i < length xs → slice_get (xs ++ ys) i ≡ slice_get xs i
  get_first [] ys i lt = absurd (omega (arith, lt))
  get_first (x ∷ xs) ys zero lt = refl
  get_first (x ∷ xs) ys (suc i) lt = get_first xs ys i (omega (arith, lt))

  -- a call of a script, by the steps that its caller has before
  pub call_of_script : (names : List (List ℕ)) (before behind : List (CallerScript C)) (s : CallerScript C) (c i : ℕ)
      → slice_get names c ≡ Some s.name
      → i < length s.calls
      → numbered_call names (own_scripts s.port (before ++ s ∷ behind)) c
      (steps_under s.name (own_blocks s.port before) + i)
      ≡ slice_get s.calls i
  call_of_script names before behind s c i is lt =
      let p = s.port in
      let first = own_scripts p before in
      let later = own_scripts p behind in
      let whole : own_scripts p (before ++ s ∷ behind) ≡ first ++ s ∷ later =
      filter-append (λ (x : CallerScript C). x.port == p) before (s ∷ behind)
      ∙ ap (λ (b : Bool). first ++ cond b (s ∷ later) later) (eq-eqb p p refl) in
      let here : named s.name (s ∷ later) ≡ s.calls ++ named s.name later =
      ap (λ (b : Bool). (if b then s.calls else []) ++ named s.name later) ((bytes_eq-Decides s.name s.name).1 refl) in
      let calls : named s.name (own_scripts p (before ++ s ∷ behind))
      ≡ named s.name first ++ (s.calls ++ named s.name later) =
      ap (named s.name) whole
      ∙ (named_append s.name first (s ∷ later) ∙ ap (λ (cs : List C). named s.name first ++ cs) here) in
      let steps : steps_under s.name (own_blocks p before) ≡ length (named s.name first) =
      ap (steps_under s.name) (blocks_of_own p before) ∙ sym (named_length s.name first) in
      ap
      (λ (o : Option (List ℕ)).
      slice_get (calls_named o (own_scripts p (before ++ s ∷ behind))) (steps_under s.name (own_blocks p before) + i))
      is
      ∙ (ap (λ (cs : List C). slice_get cs (steps_under s.name (own_blocks p before) + i)) calls
      ∙ (ap (λ (n : ℕ). slice_get (named s.name first ++ (s.calls ++ named s.name later)) (n + i)) steps
      ∙ (get_later (named s.name first) (s.calls ++ named s.name later) i
      ∙ get_first s.calls (named s.name later) i lt)))

-- ---- names

abbrev pub block_names : List Block → List (List ℕ)
block_names bs = map (λ (b : Block). b.name) bs

fold_bare : (names : List (List ℕ)) (bs : List Block)
    → fold (λ ns (s : PlainScript). with_name ns s.name) names (map bare bs) ≡ all_names names (block_names bs)
fold_bare names [] = refl
fold_bare names (b ∷ bs) = fold_bare (with_name names b.name) bs

pub names_are : (p : ℕ) (bs : List Block) → names_on p bs ≡ all_names [] (block_names (blocks_on p bs))
names_are p bs = fold_bare [] (blocks_on p bs)

pub names_more : {C : Type 0} (p : ℕ) (xs ys : List (CallerScript C))
    → names_on p (map block_of (xs ++ ys))
    ≡ all_names (names_on p (map block_of xs)) (block_names (own_blocks p ys))
names_more p xs ys =
    names_are p (map block_of (xs ++ ys))
    ∙ (ap (λ (bs : List Block). all_names [] (block_names bs)) (blocks_both p xs ys)
    ∙ (ap (all_names []) (map-append (λ (b : Block). b.name) (own_blocks p xs) (own_blocks p ys))
    ∙ (names_both [] (block_names (own_blocks p xs)) (block_names (own_blocks p ys))
    ∙ ap (λ (ns : List (List ℕ)). all_names ns (block_names (own_blocks p ys))) (sym (names_are p (map block_of xs))))))

pub steps_more : {C : Type 0} (name : List ℕ) (p : ℕ) (xs ys : List (CallerScript C))
    → steps_under name (own_blocks p (xs ++ ys))
    ≡ steps_under name (own_blocks p xs) + steps_under name (own_blocks p ys)
steps_more name p xs ys =
    ap (steps_under name) (blocks_both p xs ys)
    ∙ sum_by-append (λ (b : Block). if bytes_eq b.name name then b.steps else 0) (own_blocks p xs) (own_blocks p ys)
