-- The names of a port's callers, as they are learned.
use Rattle.std.proofs.Common.{◌≡◌, ◌≢◌, inl, inr, ℕ, suc, zero, ◌+◌, ◌<◌, ◌≤◌, ◌==◌, Bool}
use Rattle.std.proofs.Common.{true, false, cond, if◌then◌else◌, List, [], ◌∷◌, ◌++◌, map}
use Rattle.std.proofs.Common.{flat_map, drop, get_or, take, length, refl, sym, ◌∙◌, ap, arith}
use Rattle.std.specs.Prelude.{fold, slice_index_or}
use Rattle.std.specs.List.{range_with_len}
use Rattle.std.proofs.lemmas.Bool.{cases_eq}
use Rattle.std.proofs.lemmas.Bool.Decides.{nat_tests}
use Rattle.tty_calls.specs.Sessions.{PlainScript, PlainPhase, PlainSession, phase_of, script_of, with_name}
use Rattle.tty_calls.specs.declared.sessions.Phase.{Phase}
use Rattle.tty_calls.specs.declared.sessions.Script.{Script}
use Rattle.passed_calls.specs.declared.placed.PlacedCall.{PlacedCall}
use Rattle.passed_calls.specs.Blocks.{Block, bare, blocks_on, names_on}
use Rattle.passed_calls.specs.Scripts.{block_of, count_in, mixed, mixed_scripts}
use Rattle.modem_text.specs.Sessions.{ModemPhase, PlainPart, blocks_in, carrier_block, carrier_name}
use Rattle.modem_text.specs.Sessions.{no_part, phase_blocks, phase_with, session_with}
use Rattle.passed_calls.specs.Scripts.{phases_with}
use Rattle.job_text.specs.Sessions.{blocks_in as job_blocks, phase_with as job_phase_with}
use Rattle.job_text.specs.Sessions.{session_with as job_session_with}
use Rattle.job_text.specs.declared.sessions.PortProc.{PortProc}
use Rattle.job_text.specs.declared.calls.OwnCall.{OwnCall as JobOwn}
use Rattle.further_report.specs.Printing.{learned, learned_over, learned_with_carrier}
use Rattle.further_report.proofs.Lines.{next_item}

-- names after those of a port's blocks
abbrev pub learn : (names : List (List ℕ)) → (p : ℕ) → List Block → List (List ℕ)
learn names p blocks = fold (λ ns s. with_name ns s.name) names (map bare (blocks_on p blocks))

learn_if : (b : Bool) (names : List (List ℕ)) (x : Block) (xs : List Block)
    → fold (λ ns s. with_name ns s.name) names (map bare (cond b (x ∷ xs) xs))
    ≡ fold (λ ns s. with_name ns s.name) (if b then with_name names x.name else names) (map bare xs)
learn_if true names x xs = refl
learn_if false names x xs = refl

learn_cons : (names : List (List ℕ)) (p : ℕ) (x : Block) (xs : List Block)
    → learn names p (x ∷ xs) ≡ learn (if x.port == p then with_name names x.name else names) p xs
learn_cons names p x xs = learn_if (x.port == p) names x (blocks_on p xs)

pub learn_both : (names : List (List ℕ)) (p : ℕ) (xs ys : List Block)
    → learn names p (xs ++ ys) ≡ learn (learn names p xs) p ys
learn_both names p [] ys = refl
learn_both names p (x ∷ xs) ys =
    learn_cons names p x (xs ++ ys)
    ∙ learn_both (if x.port == p then with_name names x.name else names) p xs ys
    ∙ ap (λ (ns : List (List ℕ)). learn ns p ys) (sym (learn_cons names p x xs))

pub learned_both : (names : List (List ℕ)) (p : ℕ) (xs ys : List PlainScript)
    → learned names p (xs ++ ys) ≡ learned (learned names p xs) p ys
learned_both names p [] ys = refl
learned_both names p (x ∷ xs) ys = learned_both (if x.port == p then with_name names x.name else names) p xs ys

-- the callers of a phase
learn_scripts : {C : Type 0} (names : List (List ℕ)) (p k : ℕ) (scripts : List PlainScript)
    (placed : List (PlacedCall C))
    → learn names p (map block_of (mixed_scripts k scripts placed)) ≡ learned names p scripts
learn_scripts names p k [] placed = refl
learn_scripts names p k (s ∷ ss) placed =
    let rest = drop (count_in k placed) placed in
    learn_cons names p
    (record { port = s.port; name = s.name; steps = length (mixed 0 s.calls (take (count_in k placed) placed)) })
    (map block_of (mixed_scripts (k + 1) ss rest))
    ∙ learn_scripts (if s.port == p then with_name names s.name else names) p (k + 1) ss rest

-- the caller that hangs a port up
abbrev hangers : (from n : ℕ) → List Block
hangers from n = map (λ q. carrier_block 0 q) (range_with_len from n)

learn_carrier_if : (b : Bool) (names : List (List ℕ))
    → b ≡ false
    → (if b then with_name names carrier_name else names) ≡ names
learn_carrier_if true names e = cc
learn_carrier_if false names e = refl

learn_none : (names : List (List ℕ)) (p from n : ℕ) → p < from → learn names p (hangers from n) ≡ names
learn_none names p from zero lt = refl
learn_none names p from (suc n) lt =
    let other : (from == p) ≡ false = grind (arith, nat_tests) in
    learn_cons names p (carrier_block 0 from) (hangers (from + 1) n)
    ∙ ap (λ (ns : List (List ℕ)). learn ns p (hangers (from + 1) n)) (learn_carrier_if (from == p) names other)
    ∙ learn_none names p (from + 1) n (omega arith)

same_is : (n : ℕ) → (n == n) ≡ true
same_is n = grind (arith, nat_tests)

other_is : (n m : ℕ) → n ≢ m → (n == m) ≡ false
other_is n m h = grind (arith, nat_tests)

learn_carrier : (names : List (List ℕ)) (p from n : ℕ)
    → from ≤ p
    → p < from + n
    → learn names p (hangers from n) ≡ with_name names carrier_name
learn_carrier names p from zero le lt = absurd (omega arith)
learn_carrier names p from (suc n) le lt = elim (cases_eq from p) [
  | inl same ↦
      learn_cons names p (carrier_block 0 from) (hangers (from + 1) n)
      ∙ ap (λ (b : Bool). learn (if b then with_name names carrier_name else names) p (hangers (from + 1) n))
      (ap (λ (m : ℕ). from == m) (sym same) ∙ same_is from)
      ∙ learn_none (with_name names carrier_name) p (from + 1) n (omega arith)
  | inr other ↦
      learn_cons names p (carrier_block 0 from) (hangers (from + 1) n)
      ∙ ap (λ (ns : List (List ℕ)). learn ns p (hangers (from + 1) n))
      (learn_carrier_if (from == p) names (other_is from p other))
      ∙ learn_carrier names p (from + 1) n (omega (arith, other)) (omega arith)
]

-- the callers of a phase with modem lines
pub learn_phase : (names : List (List ℕ)) (p ports : ℕ) (phase : PlainPhase) (part : PlainPart)
    → p < ports
    → learn names p (phase_blocks (λ q. 0) ports (phase_with ports phase part))
    ≡ with_name (learned names p phase.callers) carrier_name
learn_phase names p ports phase part lt =
    learn_both names p (map block_of (mixed_scripts 0 phase.callers part.own)) (hangers 0 ports)
    ∙ ap (λ (ns : List (List ℕ)). learn ns p (hangers 0 ports)) (learn_scripts names p 0 phase.callers part.own)
    ∙ learn_carrier (learned names p phase.callers) p 0 ports (omega arith) (omega (arith, lt))

-- the callers of all phases with modem lines
names_after : (names : List (List ℕ)) (p ports i : ℕ) (parts : List PlainPart) (phases : List PlainPhase)
    → p < ports
    → learned_with_carrier names p phases
    ≡ learn names p (flat_map (phase_blocks (λ q. 0) ports) (phases_with (phase_with ports) no_part parts i phases))
names_after names p ports i parts [] lt = refl
names_after names p ports i parts (phase ∷ phases) lt =
    let with_part : ModemPhase = phase_with ports phase (slice_index_or parts i no_part) in
    let rest : List Block =
    flat_map (phase_blocks (λ q. 0) ports) (phases_with (phase_with ports) no_part parts (i + 1) phases) in
    names_after (with_name (learned names p phase.callers) carrier_name) p ports (i + 1) parts phases lt
    ∙ ap (λ (ns : List (List ℕ)). learn ns p rest)
    (sym (learn_phase names p ports phase (slice_index_or parts i no_part) lt))
    ∙ sym (learn_both names p (phase_blocks (λ q. 0) ports with_part) rest)

pub modem_names : (session : PlainSession) (parts : List PlainPart) (p : ℕ) → p < session.ports
    → learned_with_carrier [] p session.phases ≡ names_on p (blocks_in (session_with session parts))
modem_names session parts p lt = names_after [] p session.ports 0 parts session.phases lt

-- the callers of all phases of processes
job_names_after : (names : List (List ℕ)) (p i : ℕ) (parts : List (List (PlacedCall JobOwn))) (phases : List PlainPhase)
    → learned_over names p phases
    ≡ learn names p (flat_map (λ phase. map block_of phase.callers) (phases_with job_phase_with [] parts i phases))
job_names_after names p i parts [] = refl
job_names_after names p i parts (phase ∷ phases) =
    let own : List (PlacedCall JobOwn) = slice_index_or parts i [] in
    let rest : List Block =
    flat_map (λ phase. map block_of phase.callers) (phases_with job_phase_with [] parts (i + 1) phases) in
    job_names_after (learned names p phase.callers) p (i + 1) parts phases
    ∙ ap (λ (ns : List (List ℕ)). learn ns p rest) (sym (learn_scripts names p 0 phase.callers own))
    ∙ sym (learn_both names p (map block_of (mixed_scripts 0 phase.callers own)) rest)

pub job_names : (session : PlainSession) (procs : List PortProc) (parts : List (List (PlacedCall JobOwn))) (p : ℕ)
    → learned_over [] p session.phases ≡ names_on p (job_blocks (job_session_with session procs parts))
job_names session procs parts p = job_names_after [] p 0 parts session.phases

-- ---- loops that learn them

pub learned_more : (names new all : List (List ℕ)) (p i : ℕ) (scripts : List Script) (x : Script)
    → i < length scripts
    → x ≡ get_or scripts i x
    → new ≡ learned names p (script_of x ∷ [])
    → learned names p (map script_of (drop i scripts)) ≡ all
    → learned new p (map script_of (drop (i + 1) scripts)) ≡ all
learned_more names new all p i scripts x lt at put left =
    ap (λ (ns : List (List ℕ)). learned ns p (map script_of (drop (i + 1) scripts))) put
    ∙ ap (λ (ss : List Script). learned names p (map script_of ss)) (sym (next_item scripts i x lt at))
    ∙ left

pub over_more : (names new all : List (List ℕ)) (p i : ℕ) (phases : List Phase) (x : Phase) (callers : List Script)
    → i < length phases
    → x ≡ get_or phases i x
    → callers ≡ x.callers.items
    → new ≡ learned names p (map script_of callers)
    → learned_over names p (map phase_of (drop i phases)) ≡ all
    → learned_over new p (map phase_of (drop (i + 1) phases)) ≡ all
over_more names new all p i phases x callers lt at are put left =
    ap (λ (ns : List (List ℕ)). learned_over ns p (map phase_of (drop (i + 1) phases)))
    (put ∙ ap (λ (ss : List Script). learned names p (map script_of ss)) are)
    ∙ ap (λ (ps : List Phase). learned_over names p (map phase_of ps)) (sym (next_item phases i x lt at))
    ∙ left

pub carrier_more : (names mid new all : List (List ℕ)) (name : List ℕ) (p i : ℕ) (phases : List Phase) (x : Phase)
    (callers : List Script)
    → i < length phases
    → x ≡ get_or phases i x
    → callers ≡ x.callers.items
    → mid ≡ learned names p (map script_of callers)
    → name ≡ carrier_name
    → new ≡ with_name mid name
    → learned_with_carrier names p (map phase_of (drop i phases)) ≡ all
    → learned_with_carrier new p (map phase_of (drop (i + 1) phases)) ≡ all
carrier_more names mid new all name p i phases x callers lt at are put is set left =
    let rest : List PlainPhase = map phase_of (drop (i + 1) phases) in
    ap (λ (ns : List (List ℕ)). learned_with_carrier ns p rest)
    (set
    ∙ ap (λ (n : List ℕ). with_name mid n) is
    ∙ ap (λ (ns : List (List ℕ)). with_name ns carrier_name)
    (put ∙ ap (λ (ss : List Script). learned names p (map script_of ss)) are))
    ∙ ap (λ (ps : List Phase). learned_with_carrier names p (map phase_of ps)) (sym (next_item phases i x lt at))
    ∙ left
