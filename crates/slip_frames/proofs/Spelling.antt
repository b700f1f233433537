-- What a piece spells, and what one byte more does to it.
use Rattle.std.proofs.Common.{◌≡◌, ℕ, eqb, Bool, true, false, cond, List, [], ◌∷◌}
use Rattle.std.proofs.Common.{◌++◌, refl, sym, ap, ◌∙◌, subst, inl, inr, ◌↔◌}
use Rattle.std.proofs.lemmas.Bool.{ne_eqb, cases_eq}
use Rattle.slip_frames.specs.Slip.{end, esc, esc_end, esc_esc}
use Rattle.slip_frames.specs.Slip.{Spells, nothing, escape_alone, escaped_end, escaped_escape}
use Rattle.slip_frames.specs.Slip.{escaped_other, itself, byte_after_escape, text_of}
use Rattle.slip_frames.specs.Decoding.{ends_in_escape}

-- a text after one byte more of its piece: escaped says that it follows an ESC, and is_escape that it is one
abbrev pub text_after : List ℕ → Bool → Bool → ℕ → List ℕ
text_after text escaped is_escape c =
    cond escaped (text ++ byte_after_escape c ∷ []) (cond is_escape text (text ++ c ∷ []))

first_byte : (t u : Bool) (b c : ℕ)
    → cond t (byte_after_escape c ∷ []) (b ∷ cond u [] (c ∷ [])) ≡ text_after (cond t [] (b ∷ [])) t u c
first_byte true u b c = refl
first_byte false true b c = refl
first_byte false false b c = refl

text_after-cons : (b : ℕ) (text : List ℕ) (e u : Bool) (c : ℕ) → b ∷ text_after text e u c ≡ text_after (b ∷ text) e u c
text_after-cons b text true u c = refl
text_after-cons b text false true c = refl
text_after-cons b text false false c = refl

-- what a piece with one byte more spells
pub text_of-push : (piece : List ℕ) (c : ℕ)
    → text_of (piece ++ c ∷ []) ≡ text_after (text_of piece) (ends_in_escape piece) (eqb c esc) c
text_of-push [] c = refl
text_of-push (b ∷ []) c = first_byte (eqb b esc) (eqb c esc) b c
text_of-push (b ∷ d ∷ piece) c =
    elim (eqb b esc)
    as (λ t.
    cond t (byte_after_escape d ∷ text_of (piece ++ c ∷ [])) (b ∷ text_of ((d ∷ piece) ++ c ∷ []))
    ≡ text_after (cond t (byte_after_escape d ∷ text_of piece) (b ∷ text_of (d ∷ piece)))
    (cond t (ends_in_escape piece) (ends_in_escape (d ∷ piece))) (eqb c esc) c) [
      | true ↦
          ap (λ (x : List ℕ). byte_after_escape d ∷ x) (text_of-push piece c)
          ∙ text_after-cons (byte_after_escape d) (text_of piece) (ends_in_escape piece) (eqb c esc) c
      | false ↦
          ap (λ (x : List ℕ). b ∷ x) (text_of-push (d ∷ piece) c)
          ∙ text_after-cons b (text_of (d ∷ piece)) (ends_in_escape (d ∷ piece)) (eqb c esc) c
    ]

pub ends_in_escape-push : (piece : List ℕ) (c : ℕ)
    → ends_in_escape (piece ++ c ∷ []) ≡ cond (ends_in_escape piece) false (eqb c esc)
ends_in_escape-push [] c = refl
ends_in_escape-push (b ∷ []) c =
    elim (eqb b esc) as (λ t. cond t false (eqb c esc) ≡ cond t false (eqb c esc)) [ true ↦ refl | false ↦ refl ]
ends_in_escape-push (b ∷ d ∷ piece) c =
    elim (eqb b esc)
    as (λ t.
    cond t (ends_in_escape (piece ++ c ∷ [])) (ends_in_escape ((d ∷ piece) ++ c ∷ []))
    ≡ cond (cond t (ends_in_escape piece) (ends_in_escape (d ∷ piece))) false (eqb c esc)) [
      | true ↦ ends_in_escape-push piece c
      | false ↦ ends_in_escape-push (d ∷ piece) c
    ]

-- ---- the relation and the function

text-plain : (b : ℕ) (piece : List ℕ) → eqb b esc ≡ false → text_of (b ∷ piece) ≡ b ∷ text_of piece
text-plain b [] e = rw e refl
text-plain b (c ∷ piece) e = rw e refl

pub text_from_Spells : (piece bytes : List ℕ) → Spells piece bytes → bytes ≡ text_of piece
text_from_Spells _ _ nothing = refl
text_from_Spells _ _ escape_alone = refl
text_from_Spells _ _ (escaped_end piece bytes s) = ap (λ (x : List ℕ). end ∷ x) (text_from_Spells piece bytes s)
text_from_Spells _ _ (escaped_escape piece bytes s) = ap (λ (x : List ℕ). esc ∷ x) (text_from_Spells piece bytes s)
text_from_Spells _ _ (escaped_other b piece bytes n m s) =
    rw (ne_eqb b esc_end n, ne_eqb b esc_esc m) (ap (λ (x : List ℕ). b ∷ x) (text_from_Spells piece bytes s))
text_from_Spells _ _ (itself b piece bytes n s) =
    ap (λ (x : List ℕ). b ∷ x) (text_from_Spells piece bytes s) ∙ sym (text-plain b piece (ne_eqb b esc n))

escaped_spells : (b : ℕ) (piece : List ℕ)
    → Spells piece (text_of piece)
    → Spells (esc ∷ b ∷ piece) (byte_after_escape b ∷ text_of piece)
escaped_spells b piece s =
    elim (cases_eq b esc_end) [
      | inl e ↦ subst (λ (c : ℕ). Spells (esc ∷ c ∷ piece) (byte_after_escape c ∷ text_of piece)) (sym e)
          (escaped_end piece (text_of piece) s)
      | inr n ↦ elim (cases_eq b esc_esc) [
        | inl e ↦ subst (λ (c : ℕ). Spells (esc ∷ c ∷ piece) (byte_after_escape c ∷ text_of piece)) (sym e)
            (escaped_escape piece (text_of piece) s)
        | inr m ↦ rw (ne_eqb b esc_end n, ne_eqb b esc_esc m) (escaped_other b piece (text_of piece) n m s)
      ]
    ]

plain_spells : (b : ℕ) (piece : List ℕ)
    → (b ≡ esc → ⊥)
    → Spells piece (text_of piece)
    → Spells (b ∷ piece) (text_of (b ∷ piece))
plain_spells b piece n s = subst (λ (x : List ℕ). Spells (b ∷ piece) x) (sym (text-plain b piece (ne_eqb b esc n)))
    (itself b piece (text_of piece) n s)

alone_spells : (b : ℕ) → b ≡ esc → Spells (b ∷ []) (text_of (b ∷ []))
alone_spells b e = subst (λ (c : ℕ). Spells (c ∷ []) (text_of (c ∷ []))) (sym e) escape_alone

pair_spells : (b c : ℕ) (piece : List ℕ)
    → b ≡ esc
    → Spells piece (text_of piece)
    → Spells (b ∷ c ∷ piece) (text_of (b ∷ c ∷ piece))
pair_spells b c piece e s =
    subst (λ (d : ℕ). Spells (d ∷ c ∷ piece) (text_of (d ∷ c ∷ piece))) (sym e) (escaped_spells c piece s)

pub Spells_text : (piece : List ℕ) → Spells piece (text_of piece)
Spells_text [] = nothing
Spells_text (b ∷ []) = elim (cases_eq b esc) [ inl e ↦ alone_spells b e | inr n ↦ plain_spells b [] n nothing ]
Spells_text (b ∷ c ∷ piece) = elim (cases_eq b esc) [
  | inl e ↦ pair_spells b c piece e (Spells_text piece)
  | inr n ↦ plain_spells b (c ∷ piece) n (Spells_text (c ∷ piece))
]

pub Spells_iff : (piece bytes : List ℕ) → Spells piece bytes ↔ (bytes ≡ text_of piece)
Spells_iff piece bytes =
    (text_from_Spells piece bytes, λ e. subst (λ (x : List ℕ). Spells piece x) (sym e) (Spells_text piece))
