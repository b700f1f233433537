-- One draw more, and one line more.
use Rattle.std.proofs.Common.{◌≡◌, ℕ, refl, ◌+◌, ◌*◌, map, List, [], ◌∷◌, ◌++◌, sym, ap, ◌∙◌, arith, add-one}
use Rattle.std.specs.List.{range_with_len}
use Rattle.line_steps.specs.declared.LineSteps.{LineSteps}
use Rattle.std.proofs.lemmas.List.FromFn.{map-range_with_len_more}
use Rattle.tty_base.specs.declared.lines.LineStep.{LineStep}
use Rattle.session_gen.proofs.ListLemmas.{map-more}
use Rattle.session_gen.specs.Draws.{next_number, number_after, high_byte, draw, rx, drawn_line}

pub number_after-zero : (number : ℕ) → number_after number 0 ≡ number
unfolding number_after
number_after-zero number = refl

pub number_after-more : (number draws next : ℕ)
    → draws + 1 ≡ next
    → number_after number next ≡ next_number (number_after number draws)
unfolding number_after
number_after-more number draws next e = ap (number_after number) (sym e ∙ add-one draws)

drawn_line-more : (number first count k : ℕ)
    → first + count ≡ k
    → drawn_line number first (count + 1) ≡ drawn_line number first count ++ rx (draw number k) ∷ []
unfolding drawn_line
drawn_line-more number first count k e = map-range_with_len_more (λ k. rx (draw number k)) first count k e

-- a line that was begun, with the byte of the next draw
pub record IsBegun (seed first count number : ℕ) (line : List LineStep) : Type 0 where
  pub number_is : number ≡ number_after seed (first + count)
  pub line_is : line ≡ drawn_line seed first count

pub IsBegun-none : (seed first number : ℕ) → number ≡ number_after seed first → IsBegun seed first 0 number []
unfolding drawn_line
IsBegun-none seed first number e = record { number_is = e ∙ ap (number_after seed) (omega arith); line_is = refl }

pub IsBegun-more : (seed first count number next : ℕ) (line : List LineStep)
    → IsBegun seed first count number line
    → next ≡ next_number number
    → IsBegun seed first (count + 1) next (line ++ rx (high_byte next) ∷ [])
IsBegun-more seed first count number next line begun e =
    let after : next ≡ number_after seed (first + (count + 1)) =
    e
    ∙ ap next_number begun.number_is
    ∙ sym (number_after-more seed (first + count) (first + (count + 1)) (omega arith)) in
    let last : next ≡ number_after seed (first + count + 1) = after ∙ ap (number_after seed) (omega arith) in
    record {
      number_is = after;
      line_is = ap (λ (begun : List LineStep). begun ++ rx (high_byte next) ∷ []) begun.line_is
          ∙ ap (λ (x : ℕ). drawn_line seed first count ++ rx (high_byte x) ∷ []) last
          ∙ sym (drawn_line-more seed first count (first + count) refl);
    }

-- ---- the lines of several ports

pub record AreBegun (seed first count number : ℕ) (lines : List LineSteps) : Type 0 where
  pub number_is : number ≡ number_after seed (first + 4000 * count)
  pub lines_are : map (λ line. line.items) lines
      ≡ map (λ port. drawn_line seed (first + 4000 * port) 4000) (range_with_len 0 count)

pub AreBegun-none : (seed first number : ℕ) → number ≡ number_after seed first → AreBegun seed first 0 number []
AreBegun-none seed first number e = record { number_is = e ∙ ap (number_after seed) (omega arith); lines_are = refl }

pub AreBegun-more : (seed first count number next : ℕ) (lines : List LineSteps) (line : LineSteps)
    → AreBegun seed first count number lines
    → ((seed first : ℕ) → number ≡ number_after seed first → line.items ≡ drawn_line seed first 4000)
    → ((seed first : ℕ) → number ≡ number_after seed first → next ≡ number_after seed (first + 4000))
    → AreBegun seed first (count + 1) next (lines ++ line ∷ [])
AreBegun-more seed first count number next lines line begun drawn after =
    let items : line.items ≡ drawn_line seed (first + 4000 * count) 4000 =
    drawn seed (first + 4000 * count) begun.number_is in
    record {
      number_is = after seed (first + 4000 * count) begun.number_is ∙ ap (number_after seed) (omega arith);
      lines_are = map-more (λ (line : LineSteps). line.items) (λ port. drawn_line seed (first + 4000 * port) 4000)
          0 count count lines line
          (omega arith) begun.lines_are items;
    }
