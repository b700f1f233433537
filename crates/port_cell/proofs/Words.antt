-- The reference word in its parts, and what each step does to it.
use Rattle.std.proofs.Common.{◌≡◌, ◌⊎◌, ℕ, zero, suc, ◌+◌, ◌*◌, ◌<◌, ◌≤◌, []}
use Rattle.std.proofs.Common.{◌∷◌, bit_and, bit_or, inl, inr, refl, arith}
use Rattle.std.specs.Int.Bits.{or_add_and}
use Rattle.std.proofs.lemmas.Nat.{and-not, and_comm}
use Rattle.std.proofs.lemmas.Nat.Bits.{and_pow}
use Rattle.port_cell.specs.Word.{CHANGING, word_of, generation_in, changing_in, users_in}

pub zero_or_one : (n : ℕ) → n ≤ 1 → (n ≡ 0) ⊎ (n ≡ 1)
zero_or_one zero le = inl refl
zero_or_one (suc zero) le = inr refl
zero_or_one (suc (suc n)) le = absurd (omega arith)

pub none_or_some : (n : ℕ) → (n ≡ 0) ⊎ (0 < n)
none_or_some zero = inl refl
none_or_some (suc n) = inr (omega arith)

pub three : (a b c x y z : ℕ) → a ≡ x → b ≡ y → c ≡ z → a ∷ b ∷ c ∷ [] ≡ x ∷ y ∷ z ∷ []
three a b c x y z e f g = cc

module _ (n g m c : ℕ) (is : n ≡ word_of g m c) (bit : m ≤ 1) (few : c < CHANGING) where
  pub generation_is : generation_in n ≡ g
  generation_is = omega arith

  pub changing_is : changing_in n ≡ m
  changing_is = omega arith

  pub users_is : users_in n ≡ c
  users_is = omega arith

  the_bit : bit_and n CHANGING ≡ m * CHANGING
  the_bit = let e = and_pow n 31 in let i = changing_is in omega arith

  pub or_bit : bit_or n CHANGING ≡ word_of g 1 c
  or_bit = let o = or_add_and n CHANGING in let e = the_bit in omega arith

  pub and_not_bit : n < 18446744073709551616 → bit_and n 18446744071562067967 ≡ word_of g 0 c
  and_not_bit fits =
      let e : bit_and 18446744071562067967 n + bit_and CHANGING n ≡ n =
      and-not 64 CHANGING n (omega arith) (omega arith) in
      let a = and_comm n 18446744071562067967 in
      let b = and_comm n CHANGING in
      let d = the_bit in
      omega arith
