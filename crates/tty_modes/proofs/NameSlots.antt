-- A name's place in its list, by its slot.
use Rattle.std.proofs.Common.{◌≡◌, ◌<◌, ℕ, zero, suc, true, false, ltb, List, [], ◌∷◌, length, get_or}
use Rattle.std.proofs.Common.{Option, Some, None, IfSome, refl, sym, ap, ◌∙◌, arith, bytes_eq}
use Rattle.std.specs.List.{list_all}
use Rattle.std.proofs.lemmas.Bool.Decides.{Decides-ltb}
use Rattle.std.proofs.lemmas.Slice.Eq.{bytes_eq-Decides}
use Rattle.tty_modes.specs.declared.slots.TheConstants.{FLAG_SLOTS, CHARACTER_SLOTS}
use Rattle.tty_modes.specs.Names.{flag_names, character_names}
use Rattle.tty_modes.specs.Slots.{slot_of}
use Rattle.tty_modes.specs.Reading.{place_of}
use Rattle.tty_modes.proofs.WordTexts.{at_each, both_true, place_found}

-- the name at each place is found there, and its slot has its place
pub record IsSlotted (names : List (List ℕ)) (slots : List ℕ) : Type 0 where
  pub found : (place : ℕ) → place < length names → place_of names (get_or names place []) ≡ Some place
  pub slot : (place : ℕ) → place < length names → get_or slots (slot_of (get_or names place [])) 0 ≡ place

-- the place of a name that stands there
pub slot_hit : (names : List (List ℕ)) (slots : List ℕ) (text name : List ℕ) (place : ℕ)
    → IsSlotted names slots
    → place < length names
    → text ≡ get_or names place []
    → bytes_eq text name ≡ true
    → Some place ≡ place_of names name
slot_hit names slots text name place slotted within named same =
    sym (slotted.found place within) ∙ ap (place_of names) (sym named ∙ (bytes_eq-Decides text name).0 same)

missed : (names : List (List ℕ)) (slots : List ℕ) (text name : List ℕ) (place : ℕ) (o : Option ℕ)
    → IsSlotted names slots
    → place ≡ get_or slots (slot_of name) 0
    → text ≡ get_or names place []
    → bytes_eq text name ≡ false
    → IfSome o (λ k. (k < length names) × (get_or names k [] ≡ name))
    → None ≡ o
missed names slots text name place None slotted near named other found = refl
missed names slots text name place (Some k) slotted near named other found =
    let at : place ≡ k = near ∙ ap (λ n. get_or slots (slot_of n) 0) (sym found.1) ∙ slotted.slot k found.0 in
    let same : text ≡ name = named ∙ ap (λ p. get_or names p []) at ∙ found.1 in
    let equal : bytes_eq text name ≡ true = (bytes_eq-Decides text name).1 same in
    absurd (cc)

-- a name that does not stand where its slot says stands nowhere
pub slot_miss : (names : List (List ℕ)) (slots : List ℕ) (text name : List ℕ) (place : ℕ)
    → IsSlotted names slots
    → place ≡ get_or slots (slot_of name) 0
    → text ≡ get_or names place []
    → bytes_eq text name ≡ false
    → None ≡ place_of names name
slot_miss names slots text name place slotted near named other =
    missed names slots text name place (place_of names name) slotted near named other (place_found names name)

pub flags_slotted : IsSlotted flag_names FLAG_SLOTS
flags_slotted = record {
  found = λ place within. at_each (λ k. place_of flag_names (get_or flag_names k []) ≡ Some k) 0 29
      (refl, (refl, (refl, (refl, (refl, (refl, (refl, (refl, (refl, (refl, (refl, (refl, (refl, (refl, (refl, (refl, (refl, (refl, (refl, (refl, (refl, (refl, (refl, (refl, (refl, (refl, (refl, (refl, (refl, tt)))))))))))))))))))))))))))))
      place (omega arith) (omega arith);
  slot = λ place within. at_each (λ k. get_or FLAG_SLOTS (slot_of (get_or flag_names k [])) 0 ≡ k) 0 29
      (refl, (refl, (refl, (refl, (refl, (refl, (refl, (refl, (refl, (refl, (refl, (refl, (refl, (refl, (refl, (refl, (refl, (refl, (refl, (refl, (refl, (refl, (refl, (refl, (refl, (refl, (refl, (refl, (refl, tt)))))))))))))))))))))))))))))
      place (omega arith) (omega arith);
}

pub characters_slotted : IsSlotted character_names CHARACTER_SLOTS
characters_slotted = record {
  found = λ place within. at_each (λ k. place_of character_names (get_or character_names k []) ≡ Some k) 0 15
      (refl, (refl, (refl, (refl, (refl, (refl, (refl, (refl, (refl, (refl, (refl, (refl, (refl, (refl, (refl, tt)))))))))))))))
      place (omega arith) (omega arith);
  slot = λ place within. at_each (λ k. get_or CHARACTER_SLOTS (slot_of (get_or character_names k [])) 0 ≡ k) 0 15
      (refl, (refl, (refl, (refl, (refl, (refl, (refl, (refl, (refl, (refl, (refl, (refl, (refl, (refl, (refl, tt)))))))))))))))
      place (omega arith) (omega arith);
}

pub entries_below : (most : ℕ) (entries : List ℕ) (slot : ℕ)
    → 0 < most
    → list_all (λ entry. ltb entry most) entries ≡ true
    → get_or entries slot 0 < most
entries_below most [] slot above e = above
entries_below most (entry ∷ entries) zero above e =
    (Decides-ltb entry most).0 (both_true (ltb entry most) (list_all (λ entry. ltb entry most) entries) e).0
entries_below most (entry ∷ entries) (suc slot) above e =
    entries_below most entries slot above (both_true (ltb entry most) (list_all (λ entry. ltb entry most) entries) e).1

pub flag_slots_small : (slot : ℕ) → get_or FLAG_SLOTS slot 0 < 29
flag_slots_small slot = entries_below 29 FLAG_SLOTS slot (omega arith) refl

pub character_slots_small : (slot : ℕ) → get_or CHARACTER_SLOTS slot 0 < 15
character_slots_small slot = entries_below 15 CHARACTER_SLOTS slot (omega arith) refl
