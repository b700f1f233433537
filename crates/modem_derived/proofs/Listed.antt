-- Ports and phases, one after the other.
use Rattle.std.proofs.Common.{◌≡◌, ◌<◌, ℕ, suc, ◌+◌}
use Rattle.std.proofs.Common.{List, [], ◌∷◌, ◌++◌, length, map, Vec, Global, get_or}
use Rattle.std.proofs.Common.{sym, ◌∙◌, arith}
use Rattle.std.specs.Prelude.{All, drop, slice_index_or, take}
use Rattle.std.specs.List.{range_with_len}
use Rattle.std.proofs.lemmas.List.Elements.{All-nil, All-cons, All-head, All-tail, All-weaker}
use Rattle.tty_calls.specs.declared.journals.PortRun.{PortRun}
use Rattle.tty_calls.specs.Sessions.{PlainPhase, PlainScript, PlainSession, names_of, scripts_over as plain_over}
use Rattle.passed_calls.specs.declared.placed.PlacedCall.{PlacedCall}
use Rattle.passed_calls.specs.Blocks.{Block}
use Rattle.passed_calls.specs.Scripts.{block_of, count_in, mixed, mixed_scripts, phases_with}
use Rattle.passed_calls.specs.Within.{IsBlockPhaseWithin}
use Rattle.derived_session.specs.declared.passed.FurtherBlock.{FurtherBlock}
use Rattle.derived_session.specs.declared.passed.PassedDown.{PassedDown}
use Rattle.derived_session.proofs.Listed.{AreListed}
use Rattle.modem_text.specs.declared.sessions.ModemPart.{ModemPart}
use Rattle.modem_text.specs.declared.items.OwnCall.{OwnCall}
use Rattle.modem_text.specs.Sessions.{PlainPart, carrier_block, no_part, phase_with, pins_on, session_with}
use Rattle.modem_text.specs.Within.{IsModemSessionWithin, block_phase_of}
use Rattle.modem_text.specs.Events.{ModemLog, events_on}
use Rattle.modem_derived.specs.Blocks.{AreCarriers, block_of_further, carriers_in, pins_of}
use Rattle.modem_derived.specs.Walked.{all_down, down_on}
use Rattle.modem_derived.proofs.Carried.{IsCarrier, are_carriers}
use Rattle.passed_ports.proofs.Joining.{run_at}

-- ---- the blocks of `carrier`

abbrev pub IsCarried : (ports : ℕ) → List ModemPart → ℕ → List FurtherBlock → Type 0
IsCarried ports parts k bs = map block_of_further bs ≡ carriers_in ports (slice_index_or (map pins_of parts) k [])

pub carried : (ports count : ℕ) (parts : List ModemPart) (carriers : List (List FurtherBlock))
    → AreListed (IsCarried ports parts) count carriers
    → AreCarriers ports count parts carriers
carried ports count parts carriers h = record { many = h.many; each = h.each }

all_at : {X : Type 0} (P : X → Type 0) (xs : List X) (d : X)
    → ((i : ℕ) → i < length xs → P (slice_index_or xs i d))
    → All P xs
all_at P [] d h = All-nil P
all_at P (x ∷ xs) d h = All-cons P x xs (h 0 (omega arith)) (all_at P xs d (λ i lt. h (suc i) (omega (arith, lt))))

all_vecs : (P : List FurtherBlock → Type 0) (vs : List (Vec FurtherBlock Global))
    → All P (map (λ (v : Vec FurtherBlock Global). v.items) vs)
    → All (λ v. P v.items) vs
all_vecs P [] h = All-nil (λ (v : Vec FurtherBlock Global). P v.items)
all_vecs P (v ∷ vs) h =
    All-cons (λ (w : Vec FurtherBlock Global). P w.items) v vs (h 0 v.items (omega arith))
    (all_vecs P vs (λ k d lt. h (suc k) d (omega (arith, lt))))

-- each is on a port
pub on_ports : (ports count : ℕ) (parts : List ModemPart) (vs : List (Vec FurtherBlock Global))
    → AreCarriers ports count parts (map (λ v. v.items) vs)
    → All (λ blocks. All (λ b. b.port < ports) blocks.items) vs
on_ports ports count parts vs h =
    all_vecs (λ (bs : List FurtherBlock). All (λ (b : FurtherBlock). b.port < ports) bs) vs
    (all_at (λ (bs : List FurtherBlock). All (λ (b : FurtherBlock). b.port < ports) bs)
    (map (λ (v : Vec FurtherBlock Global). v.items) vs) []
    (λ k lt.
    All-weaker (λ (b : FurtherBlock). IsCarrier ports (block_of_further b)) (λ (b : FurtherBlock). b.port < ports)
    (λ b is. is.0)
    (slice_index_or (map (λ (v : Vec FurtherBlock Global). v.items) vs) k [])
    (are_carriers ports (slice_index_or (map pins_of parts) k [])
    (slice_index_or (map (λ (v : Vec FurtherBlock Global). v.items) vs) k [])
    (h.each k (omega (arith, lt, h.many))))))

-- ---- what ports were passed

abbrev pub IsDown : PlainSession → ModemLog → List PortRun → ℕ → List PassedDown → Type 0
IsDown session log runs p ds = ds ≡ down_on session log runs p

pub is_down : (session : PlainSession) (log : ModemLog) (runs : List PortRun) (p : ℕ) (names : List (List ℕ))
    (run : PortRun) (ds : List PassedDown)
    → p < length runs
    → run ≡ get_or runs p run
    → names ≡ names_of (plain_over p session.phases)
    → ds ≡ all_down names (events_on p log) run.journal.items
    → IsDown session log runs p ds
is_down session log runs p names run ds lt at known is =
    is ∙ λ i. all_down (known i) (events_on p log) (sym (run_at runs p run lt at) i)

-- ---- what the session asks of its derivation

scripts_within : (ports k : ℕ) (scripts : List PlainScript) (placed : List (PlacedCall OwnCall)) (rest : List Block)
    → All (λ b. b.port < ports) (map block_of (mixed_scripts k scripts placed) ++ rest)
    → All (λ s. s.port < ports) scripts
scripts_within ports k [] placed rest h = All-nil (λ (s : PlainScript). s.port < ports)
scripts_within ports k (s ∷ ss) placed rest h =
    All-cons (λ (x : PlainScript). x.port < ports) s ss
    (All-head (λ (b : Block). b.port < ports)
    (record { port = s.port; name = s.name; steps = length (mixed 0 s.calls (take (count_in k placed) placed)) })
    (map block_of (mixed_scripts (k + 1) ss (drop (count_in k placed) placed)) ++ rest) h)
    (scripts_within ports (k + 1) ss (drop (count_in k placed) placed) rest
    (All-tail (λ (b : Block). b.port < ports)
    (record { port = s.port; name = s.name; steps = length (mixed 0 s.calls (take (count_in k placed) placed)) })
    (map block_of (mixed_scripts (k + 1) ss (drop (count_in k placed) placed)) ++ rest) h))

phases_within : (ports n : ℕ) (parts : List PlainPart) (phases : List PlainPhase)
    → All (IsBlockPhaseWithin ports) (map (block_phase_of ports)
    (phases_with (phase_with ports) no_part parts n phases))
    → All (λ phase. All (λ s. s.port < ports) phase.callers) phases
phases_within ports n parts [] h =
    All-nil (λ (phase : PlainPhase). All (λ (s : PlainScript). s.port < ports) phase.callers)
phases_within ports n parts (phase ∷ phases) h =
    let part = slice_index_or parts n no_part in
    let made = phase_with ports phase part in
    let later = map (block_phase_of ports) (phases_with (phase_with ports) no_part parts (n + 1) phases) in
    All-cons (λ (x : PlainPhase). All (λ (s : PlainScript). s.port < ports) x.callers) phase phases
    (scripts_within ports 0 phase.callers part.own
    (map (λ p. carrier_block (length (pins_on p made)) p) (range_with_len 0 ports))
    (All-head (IsBlockPhaseWithin ports) (block_phase_of ports made) later h).blocks)
    (phases_within ports (n + 1) parts phases
    (All-tail (IsBlockPhaseWithin ports) (block_phase_of ports made) later h))

pub scripts_on_ports : (base : PlainSession) (parts : List PlainPart)
    → IsModemSessionWithin (session_with base parts)
    → All (λ phase. All (λ s. s.port < base.ports) phase.callers) base.phases
scripts_on_ports base parts h = phases_within base.ports 0 parts base.phases h.blocks.each
