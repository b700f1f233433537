-- Parts that are counted and added to.
use Rattle.std.proofs.Common.{◌≡◌, ℕ, suc, zero, ◌+◌, ◌<◌, List, [], ◌∷◌, ◌++◌, length, take, drop}
use Rattle.std.proofs.Common.{get_or, sym, ◌∙◌, ap, arith, append_assoc, append-nil, slice_set}
use Rattle.std.proofs.lemmas.List.{take_more}
use Rattle.tty_base.specs.declared.lines.LineStep.{LineStep}
use Rattle.line_steps.specs.declared.LinePart.{LinePart}
use Rattle.line_steps.specs.Steps.{steps_of, steps_in}

-- the steps of the parts before, and of the next one
pub one_part_more : (parts : List LinePart) (i : ℕ) (next : LinePart) → i < length parts
    → get_or parts i next ≡ next → steps_in (take (i + 1) parts) ≡ steps_in (take i parts) ++ steps_of next
one_part_more parts i next lt here =
    ap steps_in (take_more parts i next lt ∙ ap (λ p. take i parts ++ p ∷ []) here) ∙ all (take i parts) next
  where
    all : (ps : List LinePart) (p : LinePart) → steps_in (ps ++ p ∷ []) ≡ steps_in ps ++ steps_of p
    all [] p = append-nil (steps_of p)
    all (q ∷ ps) p = ap (λ xs. steps_of q ++ xs) (all ps p) ∙ sym (append_assoc (steps_of q) (steps_in ps) (steps_of p))

-- the steps of the parts before, of this one, and of those behind it
pub steps_around : (parts : List LinePart) (i : ℕ) (here : LinePart) → i < length parts → get_or parts i here ≡ here
    → steps_in parts ≡ steps_in (take i parts) ++ (steps_of here ++ steps_in (drop (suc i) parts))
steps_around [] i here lt is = absurd (omega arith)
steps_around (p ∷ ps) zero here lt is = ap (λ q. steps_of q ++ steps_in ps) is
steps_around (p ∷ ps) (suc i) here lt is =
    ap (λ xs. steps_of p ++ xs) (steps_around ps i here (omega arith) is)
    ∙ sym (append_assoc (steps_of p) (steps_in (take i ps)) (steps_of here ++ steps_in (drop (suc i) ps)))

-- steps that are added to the last part are added to all
pub last_part_longer : (parts : List LinePart) (n : ℕ) (default new : LinePart) (more : List LineStep)
    → length parts ≡ suc n
    → steps_of new ≡ steps_of (get_or parts n default) ++ more
    → steps_in (slice_set parts n new) ≡ steps_in parts ++ more
last_part_longer [] n default new more count longer = absurd (omega arith)
last_part_longer (p ∷ []) zero default new more count longer =
    append-nil (steps_of new) ∙ longer ∙ ap (λ xs. xs ++ more) (sym (append-nil (steps_of p)))
last_part_longer (p ∷ []) (suc n) default new more count longer = absurd (omega arith)
last_part_longer (p ∷ q ∷ ps) zero default new more count longer = absurd (omega arith)
last_part_longer (p ∷ q ∷ ps) (suc n) default new more count longer =
    ap (λ xs. steps_of p ++ xs) (last_part_longer (q ∷ ps) n default new more (omega arith) longer)
    ∙ sym (append_assoc (steps_of p) (steps_in (q ∷ ps)) more)
