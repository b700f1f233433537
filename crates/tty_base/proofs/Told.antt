-- What is told of a source or a sink, over a further piece.
use Rattle.std.proofs.Common.{◌≡◌, ◌↔◌, Ok, Err, ℕ, List, [], Option, Some, None, ◌++◌, ◌+◌}
use Rattle.std.proofs.Common.{◌≤◌, take, drop, length, IfSome, sym, ◌∙◌, ap, arith, append_assoc}
use Rattle.std.proofs.Common.{length-append, length-drop, length-take, append-nil, subst}
use Rattle.std.proofs.Math.Seq.{take-add, drop-length}
use Rattle.std.proofs.lemmas.List.{drop-drop, length-take-le, take-append-le, take-append-drop}
use Rattle.tty_base.specs.Outside.{Gives, LeavesRest, TookCount}

-- a sink that was given a front of the bytes and then some of the others
pub written_more : (first before after : Option (List ℕ)) (bytes piece : List ℕ) (at k : ℕ)
    → piece ≡ drop at bytes
    → IfSome first (λ b. before ≡ Some (b ++ take at bytes))
    → IfSome before (λ b. after ≡ Some (b ++ take k piece))
    → IfSome first (λ b. after ≡ Some (b ++ take (at + k) bytes))
written_more None before after bytes piece at k is h more = tt
written_more (Some b) before after bytes piece at k is h more =
    let told : after ≡ Some ((b ++ take at bytes) ++ take k piece) =
    subst (λ (o : Option (List ℕ)). IfSome o (λ b. after ≡ Some (b ++ take k piece))) h more in
    let front : take at bytes ++ take k piece ≡ take (at + k) bytes =
    ap (λ xs. take at bytes ++ take k xs) is ∙ sym (take-add at k bytes) in
    told ∙ ap Some (append_assoc b (take at bytes) (take k piece) ∙ ap (λ xs. b ++ xs) front)

-- what was read so far, where the source tells it
pub record IsReadOf (text bytes : List ℕ) (left : Option (List ℕ)) : Type 0 where
  pub within : length text ≤ length bytes
  pub front : text ≡ take (length text) bytes
  pub rest : left ≡ Some (drop (length text) bytes)

-- a further piece of k bytes was read into the buffer
pub read_more : (first before after : Option (List ℕ)) (text buffer : List ℕ) (k : ℕ)
    → k ≤ length buffer
    → IfSome first (λ bytes. IsReadOf text bytes before)
    → IfSome before (λ bytes. Gives k bytes buffer after)
    → IfSome first (λ bytes. IsReadOf (text ++ take k buffer) bytes after)
read_more None before after text buffer k fits h more = tt
read_more (Some bytes) before after text buffer k fits h more =
    let n = length text in
    let gives : Gives k (drop n bytes) buffer after =
    subst (λ (o : Option (List ℕ)). IfSome o (λ bytes. Gives k bytes buffer after)) h.rest more in
    let added : length (text ++ take k buffer) ≡ n + k =
    length-append text (take k buffer) ∙ ap (λ m. n + m) (length-take-le k buffer fits) in
    let here : text ++ take k buffer ≡ take (n + k) bytes =
    ap (λ xs. xs ++ take k buffer) h.front ∙ ap (λ xs. take n bytes ++ xs) gives.1 ∙ sym (take-add n k bytes) in
    record {
      within = omega (arith, h.within, gives.0, added, length-drop n bytes);
      front = here ∙ ap (λ m. take m bytes) (sym added);
      rest = gives.2 ∙ ap Some (drop-drop k n bytes ∙ ap (λ m. drop m bytes) (sym added));
    }

-- a further piece, at the front of a longer list
pub read_front : (first before after : Option (List ℕ)) (text buffer more new : List ℕ) (k : ℕ)
    → k ≤ length buffer
    → new ≡ text ++ take k (buffer ++ more)
    → IfSome first (λ bytes. IsReadOf text bytes before)
    → IfSome before (λ bytes. Gives k bytes buffer after)
    → IfSome first (λ bytes. IsReadOf new bytes after)
read_front first before after text buffer more new k fits is h gives =
    subst (λ (xs : List ℕ). IfSome first (λ bytes. IsReadOf xs bytes after))
    (sym (is ∙ ap (λ xs. text ++ xs) (take-append-le k buffer more fits)))
    (read_more first before after text buffer k fits h gives)

-- a list with a part of another one added
pub length_more : (text new xs : List ℕ) (k : ℕ) → new ≡ text ++ take k xs → length new ≤ length text + k
length_more text new xs k is =
    omega (arith, ap (λ (ys : List ℕ). length ys) is, length-append text (take k xs), length-take k xs)

-- at the end of input all was read
pub read_whole : (first before after : Option (List ℕ)) (text buffer : List ℕ) (k : ℕ)
    → k ≡ 0
    → IfSome first (λ bytes. IsReadOf text bytes before)
    → IfSome before (λ bytes. bytes ≡ [])
    → IfSome before (λ bytes. Gives k bytes buffer after)
    → IfSome first (λ bytes. (text ≡ bytes) × (after ≡ Some []))
read_whole None before after text buffer k none h end gives = tt
read_whole (Some bytes) before after text buffer k none h end gives =
    let n = length text in
    let over : drop n bytes ≡ [] = subst (λ (o : Option (List ℕ)). IfSome o (λ rest. rest ≡ [])) h.rest end in
    let left : Gives k (drop n bytes) buffer after =
    subst (λ (o : Option (List ℕ)). IfSome o (λ rest. Gives k rest buffer after)) h.rest gives in
    let all : take n bytes ++ [] ≡ bytes = ap (λ xs. take n bytes ++ xs) (sym over) ∙ take-append-drop n bytes in
    (h.front ∙ sym (append-nil (take n bytes)) ∙ all, left.2 ∙ ap Some (ap (λ m. drop m (drop n bytes)) none ∙ over))

-- what was read whole leaves the end of it, and is no text that is too long
pub rest_of_all : (first after : Option (List ℕ)) (text : List ℕ)
    → IfSome first (λ bytes. (text ≡ bytes) × (after ≡ Some []))
    → IfSome first (λ bytes. LeavesRest bytes after)
rest_of_all None after text all = tt
rest_of_all (Some bytes) after text all = (length bytes, omega arith, all.1 ∙ ap Some (sym (drop-length bytes)))

pub no_more_than : {P : Type 0} (first after : Option (List ℕ)) (text : List ℕ) (limit : ℕ)
    → (P → ⊥)
    → length text ≤ limit
    → IfSome first (λ bytes. (text ≡ bytes) × (after ≡ Some []))
    → IfSome first (λ bytes. P ↔ TookCount (limit + 1) bytes after)
no_more_than None after text limit never short all = tt
no_more_than (Some bytes) after text limit never short all = (
  λ p. absurd (never p),
  λ took.
      let left : length bytes ≡ 0 + (limit + 1) =
      subst (λ (o : Option (List ℕ)). TookCount (limit + 1) bytes o) all.1 took in
      absurd (omega (arith, left, short, ap (λ (xs : List ℕ). length xs) all.0)),
)

pub Ok≢Err : {A E : Type 0} (a : A) (e : E) → Ok a ≡ Err e → ⊥
Ok≢Err a e is = absurd (cc)
