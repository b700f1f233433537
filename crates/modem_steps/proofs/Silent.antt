-- No caller of a port is called `carrier`: so none of that name has a call.
use Rattle.std.proofs.Common.{◌≡◌, inl, inr, ℕ, zero, suc, ◌+◌, ◌<◌, ◌≤◌, ◌==◌, Bool, true, false, cond}
use Rattle.std.proofs.Common.{Some, List, [], ◌∷◌, ◌++◌, length, map, refl, sym, ap, ◌∙◌, if◌then◌else◌, subst, arith}
use Rattle.std.specs.Prelude.{◌||◌, All, filter, flat_map}
use Rattle.std.specs.List.{range_with_len}
use Rattle.std.specs.Str.{bytes_eq}
use Rattle.std.proofs.lemmas.Bool.{cases_lt, cond-false, eq-eqb, false≢true, ne_eqb, or_left, or_parts, or_right}
use Rattle.std.proofs.lemmas.List.{map-append}
use Rattle.std.proofs.lemmas.List.Elements.{All-nil, All-cons, All-head, All-tail, filter-append}
use Rattle.std.proofs.lemmas.List.Folds.{list_any-append}
use Rattle.std.proofs.lemmas.Grind.{flat_map-append}
use Rattle.tty_calls.specs.Sessions.{PlainScript}
use Rattle.legal_runs.proofs.NameLemmas.{same_name}
use Rattle.play_base.proofs.NameLemmas.{HaveOwnNames, eq_name, has_name, own_names}
use Rattle.passed_calls.specs.Blocks.{Block, bare, blocks_on}
use Rattle.passed_calls.specs.Scripts.{CallerScript, block_of, calls_named}
use Rattle.passed_calls.specs.Within.{IsBlockPhaseWithin}
use Rattle.passed_calls.proofs.Mixed.{bare_names}
use Rattle.modem_text.specs.Sessions.{ModemCall, ModemPhase, carrier_block, carrier_name, pins_on}
use Rattle.modem_text.specs.Within.{block_phase_of}
use Rattle.modem_steps.specs.Derived.{scripts_over}

other_script : (s : PlainScript) (ss : List PlainScript)
    → has_name ss s.name ≡ false
    → has_name ss carrier_name ≡ true
    → (b : Bool)
    → bytes_eq s.name carrier_name ≡ b
    → b ≡ false
other_script s ss none there true e = absurd (false≢true
    (sym none ∙ ap (λ (n : List ℕ). has_name ss n) (eq_name s.name carrier_name e) ∙ there))
other_script s ss none there false e = refl

none_of_both : (a b : Bool) → a ≡ false → b ≡ false → (a || b) ≡ false
none_of_both true b h k = absurd (false≢true (sym h))
none_of_both false b h k = k

any_behind : (xs ys : List PlainScript) → has_name ys carrier_name ≡ true → has_name (xs ++ ys) carrier_name ≡ true
any_behind xs ys there =
    list_any-append (λ (s : PlainScript). bytes_eq s.name carrier_name) xs ys
    ∙ or_right (has_name xs carrier_name) (has_name ys carrier_name) there

own_apart : (xs ys : List PlainScript)
    → HaveOwnNames (xs ++ ys)
    → has_name ys carrier_name ≡ true
    → has_name xs carrier_name ≡ false
own_apart [] ys h there = refl
own_apart (s ∷ xs) ys h there =
    none_of_both (bytes_eq s.name carrier_name) (has_name xs carrier_name)
    (other_script s (xs ++ ys) h.0 (any_behind xs ys there) (bytes_eq s.name carrier_name) refl)
    (own_apart xs ys h.1 there)

carrier_there : (f : ℕ → ℕ) (p a n : ℕ)
    → a ≤ p
    → p < a + n
    → has_name (map bare (blocks_on p (map (λ q. carrier_block (f q) q) (range_with_len a n)))) carrier_name ≡ true
carrier_there f p a zero low high = absurd (omega (arith, low, high))
carrier_there f p a (suc n) low high = either (a == p) refl
    (blocks_on p (map (λ q. carrier_block (f q) q) (range_with_len (a + 1) n)))
    (λ other. carrier_there f p (a + 1) n (omega (arith, low, other)) (omega (arith, high)))
  where
    either : (t : Bool)
        → (a == p) ≡ t
        → (bs : List Block)
        → ((a ≡ p → ⊥) → has_name (map bare bs) carrier_name ≡ true)
        → has_name (map bare (cond t (carrier_block (f a) a ∷ bs) bs)) carrier_name ≡ true
    either true e bs h = or_left (bytes_eq carrier_name carrier_name) (has_name (map bare bs) carrier_name)
        (same_name carrier_name)
    either false e bs h = h (λ same. absurd (false≢true (sym e ∙ eq-eqb a p same)))

-- then it has no calls that are another's
silent : (p : ℕ) (ss : List (CallerScript ModemCall))
    → has_name (map bare (blocks_on p (map block_of ss))) carrier_name ≡ false
    → calls_named (Some carrier_name) (filter (λ s. s.port == p) ss) ≡ []
silent p [] h = refl
silent p (s ∷ ss) h =
    either (s.port == p) (blocks_on p (map block_of ss)) (filter (λ x. x.port == p) ss) h (silent p ss)
  where
    own_none : (b : Bool) (calls more : List ModemCall)
        → b ≡ false
        → more ≡ []
        → (if b then calls else []) ++ more ≡ []
    own_none true calls more e h = absurd (false≢true (sym e))
    own_none false calls more e h = h

    either : (t : Bool) (bs : List Block) (xs : List (CallerScript ModemCall))
        → has_name (map bare (cond t (block_of s ∷ bs) bs)) carrier_name ≡ false
        → (has_name (map bare bs) carrier_name ≡ false → calls_named (Some carrier_name) xs ≡ [])
        → calls_named (Some carrier_name) (cond t (s ∷ xs) xs) ≡ []
    either true bs xs none h =
        let parts = or_parts (bytes_eq s.name carrier_name) (has_name (map bare bs) carrier_name) none in
        own_none (bytes_eq s.name carrier_name) s.calls (calls_named (Some carrier_name) xs) parts.0 (h parts.1)
    either false bs xs none h = h none

all_front : {X : Type 0} (P : X → Type 0) (xs ys : List X) → All P (xs ++ ys) → All P xs
all_front P [] ys h = All-nil P
all_front P (x ∷ xs) ys h =
    All-cons P x xs (All-head P x (xs ++ ys) h) (all_front P xs ys (All-tail P x (xs ++ ys) h))

past_ports : (ports p : ℕ) (ss : List (CallerScript ModemCall))
    → ports ≤ p
    → All (λ (b : Block). b.port < ports) (map block_of ss)
    → filter (λ s. s.port == p) ss ≡ []
past_ports ports p [] past h = refl
past_ports ports p (s ∷ ss) past h =
    cond-false (s.port == p) (s ∷ filter (λ x. x.port == p) ss) (filter (λ x. x.port == p) ss)
    (ne_eqb s.port p
    (λ e. omega (arith, past, e, All-head (λ (b : Block). b.port < ports) (block_of s) (map block_of ss) h)))
    ∙ past_ports ports p ss past (All-tail (λ (b : Block). b.port < ports) (block_of s) (map block_of ss) h)

module _ (ports p : ℕ) (phase : ModemPhase) (within : IsBlockPhaseWithin ports (block_phase_of ports phase)) where
  abbrev own_blocks : List Block
  own_blocks = map block_of phase.callers

  abbrev last_blocks : List Block
  last_blocks = map (λ q. carrier_block (length (pins_on q phase)) q) (range_with_len 0 ports)

  on_port : p < ports → has_name (map bare (blocks_on p own_blocks)) carrier_name ≡ false
  on_port below =
      let all = blocks_on p (own_blocks ++ last_blocks) in
      let parted : map bare all ≡ map bare (blocks_on p own_blocks) ++ map bare (blocks_on p last_blocks) =
      ap (λ (bs : List Block). map bare bs) (filter-append (λ (b : Block). b.port == p) own_blocks last_blocks)
      ∙ map-append bare (blocks_on p own_blocks) (blocks_on p last_blocks) in
      own_apart (map bare (blocks_on p own_blocks)) (map bare (blocks_on p last_blocks))
      (subst HaveOwnNames parted (own_names (map bare all) (within.own_names p ∙ sym (bare_names all))))
      (carrier_there (λ q. length (pins_on q phase)) p 0 ports (omega arith) (omega (arith, below)))

  pub silent_in : calls_named (Some carrier_name) (filter (λ s. s.port == p) phase.callers) ≡ []
  silent_in =
      elim (cases_lt p ports) [
        | inl below ↦ silent p phase.callers (on_port below)
        | inr past ↦ ap (λ (ss : List (CallerScript ModemCall)). calls_named (Some carrier_name) ss)
            (past_ports ports p phase.callers past
            (all_front (λ (b : Block). b.port < ports) own_blocks last_blocks within.blocks))
      ]

pub silent_over : (ports p : ℕ) (phases : List ModemPhase)
    → All (IsBlockPhaseWithin ports) (map (block_phase_of ports) phases)
    → calls_named (Some carrier_name) (scripts_over p phases) ≡ []
silent_over ports p [] h = refl
silent_over ports p (phase ∷ phases) h =
    flat_map-append (λ (s : CallerScript ModemCall). if bytes_eq s.name carrier_name then s.calls else [])
    (filter (λ s. s.port == p) phase.callers) (scripts_over p phases)
    ∙ ap (λ (cs : List ModemCall). cs ++ calls_named (Some carrier_name) (scripts_over p phases))
    (silent_in ports p phase
    (All-head (IsBlockPhaseWithin ports) (block_phase_of ports phase) (map (block_phase_of ports) phases) h))
    ∙ silent_over ports p phases
    (All-tail (IsBlockPhaseWithin ports) (block_phase_of ports phase) (map (block_phase_of ports) phases) h)
