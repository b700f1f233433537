use Rattle.std.proofs.Common.{◌≡◌, ◌∙◌, ◌<◌, ◌^◌, ◌&&◌, ℕ, true, false, List, eqb, refl, ap, sym}
use Rattle.std.specs.Bool.{Decides}
use Rattle.std.specs.Str.{bytes_eq}
use Rattle.std.proofs.lemmas.Bool.Decides.{Decides-eqb, Decides-and, Decides-like, Decides-at, same_from_decides}
use Rattle.std.proofs.lemmas.Slice.Eq.{bytes_eq-Decides}
use Rattle.tty_modes.specs.Bits.{flags_of, bits_of, bits_of-flags_of}
use Rattle.tty_modes.specs.Settings.{Settings, same_modes, same_modes-Decides}
use Rattle.tty_modes.proofs.settings.ModesPartialEq.eq.Goals as goal
use Rattle.tty_modes.proofs.settings.ModesPartialEq.eq.Goals.{Else-eq, After-eq-then-eq}

seen : ℕ → List ℕ → Settings
unfolding flags_of
seen bits characters = record { flags = flags_of 29 bits; characters = characters }

-- two modes are the same exactly where their bits and characters are
compared : (a b : ℕ) (xs ys : List ℕ)
    → a < 2 ^ 29
    → b < 2 ^ 29
    → Decides (eqb a b && bytes_eq xs ys) (seen a xs ≡ seen b ys)
unfolding seen
compared a b xs ys a_fits b_fits =
    Decides-like (eqb a b && bytes_eq xs ys)
    (λ h. λ i. record { flags = flags_of 29 (h.0 i); characters = h.1 i })
    (λ e. (
      sym (bits_of-flags_of 29 a a_fits) ∙ ap (λ m. bits_of m.flags) e ∙ bits_of-flags_of 29 b b_fits,
      ap (λ m. m.characters) e,
    ))
    (Decides-and (eqb a b) (bytes_eq xs ys) (Decides-eqb a b) (bytes_eq-Decides xs ys))

-- what the fields' comparisons answer together
answered : (a b : ℕ) (xs ys : List ℕ)
    → a < 2 ^ 29
    → b < 2 ^ 29
    → (m n : Settings)
    → seen a xs ≡ m
    → seen b ys ≡ n
    → (eqb a b && bytes_eq xs ys) ≡ same_modes m n
answered a b xs ys a_fits b_fits m n m_is n_is =
    same_from_decides (eqb a b && bytes_eq xs ys) (same_modes m n)
    (Decides-like (eqb a b && bytes_eq xs ys) (λ e. sym m_is ∙ e ∙ n_is) (λ e. m_is ∙ e ∙ sym n_is)
    (compared a b xs ys a_fits b_fits))
    (same_modes-Decides m n)

same_then : (c : After-eq-then-eq) → c.eq-then-eq.result ≡ same_modes c.args.self.now c.args.other.now
unfolding seen
same_then c =
    let yes : eqb c.self.inside.bits.0 c.other.inside.bits.0 ≡ true = sym c.eq.ensures ∙ c.if-eq.true in
    let both :
    (eqb c.self.inside.bits.0 c.other.inside.bits.0 && bytes_eq c.self.inside.characters c.other.inside.characters)
    ≡ bytes_eq c.self.inside.characters c.other.inside.characters = rw yes refl in
    c.eq-then-eq.ensures ∙ sym both
    ∙ answered c.self.inside.bits.0 c.other.inside.bits.0 c.self.inside.characters c.other.inside.characters
    c.self.invariant.fits c.other.invariant.fits
    c.args.self.now c.args.other.now c.self.view_is c.other.view_is

same_else : (c : Else-eq) → c.eq.result ≡ same_modes c.args.self.now c.args.other.now
unfolding seen
same_else c =
    let no : eqb c.self.inside.bits.0 c.other.inside.bits.0 ≡ false = sym c.eq.ensures ∙ c.if-eq.false in
    let both : (eqb c.self.inside.bits.0 c.other.inside.bits.0
    && bytes_eq c.self.inside.characters c.other.inside.characters) ≡ false = rw no refl in
    c.if-eq.false ∙ sym both
    ∙ answered c.self.inside.bits.0 c.other.inside.bits.0 c.self.inside.characters c.other.inside.characters
    c.self.invariant.fits c.other.invariant.fits
    c.args.self.now c.args.other.now c.self.view_is c.other.view_is

pub returns-then-eq-clause-value : goal.returns-then-eq-clause-value
returns-then-eq-clause-value c = same_then c

pub returns-then-eq-clause-same : goal.returns-then-eq-clause-same
returns-then-eq-clause-same c =
    Decides-at c.eq-then-eq.result (same_modes c.args.self.now c.args.other.now) (same_then c)
    (same_modes-Decides c.args.self.now c.args.other.now)

pub returns-else-eq-clause-value : goal.returns-else-eq-clause-value
returns-else-eq-clause-value c = same_else c

pub returns-else-eq-clause-same : goal.returns-else-eq-clause-same
returns-else-eq-clause-same c =
    Decides-at c.eq.result (same_modes c.args.self.now c.args.other.now) (same_else c)
    (same_modes-Decides c.args.self.now c.args.other.now)
