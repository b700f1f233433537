-- The words of the verbs of a session of consoles.
use Rattle.std.proofs.Common.{◌≡◌, ℕ, ◌⊎◌, inl, inr, Bool, true}
use Rattle.std.proofs.Common.{false, cond, if◌then◌else◌, Option, None, Some, List, [], ◌∷◌}
use Rattle.std.proofs.Common.{refl, sym, ◌∙◌, ap}
use Rattle.std.specs.Prelude.{codes}
use Rattle.std.specs.Str.{bytes_eq}
use Rattle.std.specs.Option.{option_or}
use Rattle.std.proofs.lemmas.Slice.Eq.{bytes_eq-Decides}
use Rattle.text_lines.specs.Values.{choice_of}
use Rattle.session_text.specs.Verbs.{is_call, verb_of as session_verb_of}
use Rattle.vt_text.specs.declared.verbs.VtVerb.{VtVerb}
use Rattle.vt_text.specs.declared.verbs.VtVerb.TheVariants as vt
use Rattle.vt_text.specs.Verbs.{verb_text, item_verbs, verb_of}

chosen : {X : Type 0} (b : Bool) (y x : X) (rest : Option X)
    → cond b (Some y) rest ≡ Some x
    → ((b ≡ true) × (y ≡ x)) ⊎ (rest ≡ Some x)
chosen true y x rest h = inl (refl, cc)
chosen false y x rest h = inr h

choice_found : {X : Type 0} (text_of : X → List ℕ) (xs : List X) (word : List ℕ) (x : X)
    → choice_of text_of xs word ≡ Some x
    → word ≡ text_of x
choice_found text_of [] word x h = cc
choice_found {X} text_of (y ∷ xs) word x h =
    elim (chosen (bytes_eq word (text_of y)) y x (choice_of text_of xs word) h) [
      | inl here ↦ (bytes_eq-Decides word (text_of y)).0 here.0 ∙ ap text_of here.1
      | inr later ↦ choice_found text_of xs word x later
    ]

or_found : {X : Type 0} (a b : Option X) (x : X) → option_or a b ≡ Some x → (a ≡ Some x) ⊎ (b ≡ Some x)
or_found None b x h = inr h
or_found (Some y) b x h = inl h

call_is : (b : Bool) (v : VtVerb) → (if b then Some vt.Call else None) ≡ Some v → v ≡ vt.Call
call_is true v h = cc
call_is false v h = absurd (cc)

pub word_by : (word : List ℕ) (v : VtVerb) → verb_of word ≡ Some v → (v ≡ vt.Call → ⊥) → word ≡ verb_text v
word_by word v h never =
    elim (or_found (choice_of verb_text item_verbs word)
    (if is_call (session_verb_of 1 word) then Some vt.Call else None) v h) [
      | inl found ↦ choice_found verb_text item_verbs word v found
      | inr other ↦ absurd (never (call_is (is_call (session_verb_of 1 word)) v other))
    ]

not_by : (word w : List ℕ) (b : Bool) → bytes_eq word w ≡ b → (word ≡ w → ⊥) → b ≡ false
not_by word w true e never = absurd (never ((bytes_eq-Decides word w).0 e))
not_by word w false e never = refl

pub no_word : (word w : List ℕ) → (word ≡ w → ⊥) → bytes_eq word w ≡ false
no_word word w never = not_by word w (bytes_eq word w) refl never

pub phase_no_call : (word : List ℕ) → verb_of word ≡ Some vt.Call → word ≡ codes "phase" → ⊥
phase_no_call word h e = let k : Some vt.Phase ≡ Some vt.Call = ap verb_of (sym e) ∙ h in cc

pub end_no_call : (word : List ℕ) → verb_of word ≡ Some vt.Call → word ≡ codes "end" → ⊥
end_no_call word h e = let k : Some vt.End ≡ Some vt.Call = ap verb_of (sym e) ∙ h in cc
