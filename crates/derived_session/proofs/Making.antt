-- Scripts and phases that are made one after the other.
use Rattle.std.proofs.Common.{◌≡◌, ◌<◌, inl, inr, ℕ, zero, suc, ◌+◌, List, [], ◌∷◌, ◌++◌, length, map, drop, take}
use Rattle.std.proofs.Common.{Vec, Global, get_or, refl, sym, ap, ◌∙◌, subst, arith, append_assoc, append-nil}
use Rattle.std.proofs.Common.{length-append, drop-cons}
use Rattle.std.proofs.Common.{add-one}
use Rattle.std.specs.Prelude.{All, slice_index_or}
use Rattle.std.proofs.lemmas.Bool.{cases_eq}
use Rattle.std.proofs.lemmas.List.{length-set, map-append}
use Rattle.std.proofs.lemmas.List.Elements.{All-append, All-cons, All-head, All-nil, All-tail}
use Rattle.tty_calls.specs.declared.sessions.Phase.{Phase}
use Rattle.tty_calls.specs.declared.sessions.Script.{Script}
use Rattle.tty_calls.specs.Sessions.{PlainScript, PlainPhase, PlainSession, phase_of, script_of}
use Rattle.passed_calls.specs.Derived.{passed_phases}
use Rattle.passed_calls.specs.declared.placed.PlacedCall.{PlacedCall}
use Rattle.passed_calls.specs.Scripts.{AnyCall, CallerScript, count_in, mixed, mixed_scripts}
use Rattle.derived_session.specs.declared.passed.PassedDown.{PassedDown}
use Rattle.derived_session.specs.declared.passed.FurtherBlock.{FurtherBlock}
use Rattle.derived_session.specs.Steps.{CallerStep, StepsPhase, steps_in, steps_with, further_steps, phase_steps}
use Rattle.derived_session.specs.Steps.{phases_steps}
use Rattle.derived_session.specs.Steps.{block_phase_of, derived_of, passings_of, scripts_in}
use Rattle.derived_session.specs.Making.{PortState, IsFirstPort, AreFirstPorts, port_at, script_made}
use Rattle.derived_session.specs.Making.{script_after, ports_then, ports_after, scripts_made, phase_made, phases_made}

pub next_item : {A : Type 0} (xs : List A) (i : ℕ) (x : A)
    → i < length xs
    → x ≡ get_or xs i x
    → drop i xs ≡ x ∷ drop (i + 1) xs
next_item xs i x h at =
    drop-cons xs i x h ∙ ap (λ y. y ∷ drop (suc i) xs) (sym at) ∙ ap (λ n. x ∷ drop n xs) (sym (add-one i))

-- ---- scripts

-- the scripts so far, the ports, and the scripts that are left
pub record Making (first : List PlainScript) (from : List PortState) (all : List (CallerScript CallerStep))
    (made : List PlainScript) (ports : List PortState) (left : List (CallerScript CallerStep)) : Type 0 where
  pub scripts : made ++ scripts_made ports left ≡ first ++ scripts_made from all
  pub after : ports_after ports left ≡ ports_after from all
  pub many : length ports ≡ length from

module _ (first : List PlainScript) (from : List PortState) (all : List (CallerScript CallerStep)) where
  pub making_first : Making first from all first from all
  making_first = record { scripts = refl; after = refl; many = refl }

  making_one : (made new : List PlainScript) (ports next : List PortState) (s : CallerScript CallerStep)
      (left : List (CallerScript CallerStep))
      → new ≡ made ++ script_made (port_at ports s.port) s ∷ []
      → next ≡ ports_then ports s
      → Making first from all made ports (s ∷ left)
      → Making first from all new next left
  making_one made new ports next s left put are h = record {
    scripts =
        ap (λ (ms : List PlainScript). ms ++ scripts_made next left) put
        ∙ (append_assoc made (script_made (port_at ports s.port) s ∷ []) (scripts_made next left)
        ∙ (ap
        (λ (ps : List PortState). made ++ (script_made (port_at ports s.port) s ∷ scripts_made ps left)) are
        ∙ h.scripts));
    after = ap (λ (ps : List PortState). ports_after ps left) are ∙ h.after;
    many =
        ap (λ (ps : List PortState). length ps) are
        ∙ (length-set ports s.port (script_after (port_at ports s.port) s) ∙ h.many);
  }

  pub making_done : (made : List PlainScript) (ports : List PortState) (left : List (CallerScript CallerStep))
      → left ≡ []
      → Making first from all made ports left
      → (made ≡ first ++ scripts_made from all) × (ports ≡ ports_after from all)
  making_done made ports left none h = (
    sym (append-nil made)
        ∙ (ap (λ (ss : List (CallerScript CallerStep)). made ++ scripts_made ports ss) (sym none) ∙ h.scripts),
    ap (λ (ss : List (CallerScript CallerStep)). ports_after ports ss) (sym none) ∙ h.after,
  )

  -- one of a block of which the port sees no call
  pub making_further : (items new : List Script) (ports next : List PortState) (others : List FurtherBlock) (i : ℕ)
      (b : FurtherBlock) (s : Script)
      → i < length others
      → b ≡ get_or others i b
      → new ≡ items ++ s ∷ []
      → script_of s ≡ script_made (port_at ports b.port) (further_steps b)
      → next ≡ ports_then ports (further_steps b)
      → Making first from all (map script_of items) ports (map further_steps (drop i others))
      → Making first from all (map script_of new) next (map further_steps (drop (i + 1) others))
  making_further items new ports next others i b s lt at put is are h =
      making_one (map script_of items) (map script_of new) ports next (further_steps b)
      (map further_steps (drop (i + 1) others))
      (ap (map script_of) put
      ∙ (map-append script_of items (s ∷ [])
      ∙ ap (λ (x : PlainScript). map script_of items ++ x ∷ []) is)) are
      (subst (λ (bs : List FurtherBlock). Making first from all (map script_of items) ports (map further_steps bs))
      (next_item others i b lt at) h)

  -- one with the calls that are placed in it
  pub making_script : {C : Type 0} (items new : List Script) (ports next : List PortState) (scripts : List Script)
      (rest later : List (PlacedCall C)) (k count : ℕ) (x s : Script) (own : List (PlacedCall C))
      → k < length scripts
      → x ≡ get_or scripts k x
      → count ≡ count_in k rest
      → own ≡ take count rest
      → later ≡ drop count rest
      → new ≡ items ++ s ∷ []
      → script_of s ≡ script_made (port_at ports x.port) (steps_with (script_of x) own)
      → next ≡ ports_then ports (steps_with (script_of x) own)
      → Making first from all (map script_of items) ports
      (map steps_in (mixed_scripts k (map script_of (drop k scripts)) rest))
      → Making first from all (map script_of new) next
      (map steps_in (mixed_scripts (k + 1) (map script_of (drop (k + 1) scripts)) later))
  making_script {C} items new ports next scripts rest later k count x s own lt at few mine rests put is are h =
      let one : CallerScript (AnyCall C) =
      record { port = x.port; name = x.name.bytes; calls = mixed 0 x.calls.items own } in
      let left : map steps_in (mixed_scripts k (map script_of (drop k scripts)) rest)
      ≡ steps_with (script_of x) own
      ∷ map steps_in (mixed_scripts (k + 1) (map script_of (drop (k + 1) scripts)) later) =
      ap (λ (ss : List Script). map steps_in (mixed_scripts k (map script_of ss) rest)) (next_item scripts k x lt at)
      ∙ (ap
      (λ (n : ℕ).
      steps_with (script_of x) (take n rest)
      ∷ map steps_in (mixed_scripts (k + 1) (map script_of (drop (k + 1) scripts)) (drop n rest)))
      (sym few)
      ∙ (ap
      (λ (os : List (PlacedCall C)).
      steps_with (script_of x) os
      ∷ map steps_in (mixed_scripts (k + 1) (map script_of (drop (k + 1) scripts)) (drop count rest)))
      (sym mine)
      ∙ ap
      (λ (os : List (PlacedCall C)).
      steps_with (script_of x) own
      ∷ map steps_in (mixed_scripts (k + 1) (map script_of (drop (k + 1) scripts)) os))
      (sym rests))) in
      making_one (map script_of items) (map script_of new) ports next (steps_with (script_of x) own)
      (map steps_in (mixed_scripts (k + 1) (map script_of (drop (k + 1) scripts)) later))
      (ap (map script_of) put
      ∙ (map-append script_of items (s ∷ [])
      ∙ ap (λ (y : PlainScript). map script_of items ++ y ∷ []) is)) are
      (subst (λ (ss : List (CallerScript CallerStep)). Making first from all (map script_of items) ports ss) left h)

-- two lists of scripts, one behind the other
pub scripts_both : (ports : List PortState) (xs ys : List (CallerScript CallerStep))
    → scripts_made ports (xs ++ ys) ≡ scripts_made ports xs ++ scripts_made (ports_after ports xs) ys
scripts_both ports [] ys = refl
scripts_both ports (x ∷ xs) ys =
    ap (λ (ms : List PlainScript). script_made (port_at ports x.port) x ∷ ms) (scripts_both (ports_then ports x) xs ys)

pub after_both : (ports : List PortState) (xs ys : List (CallerScript CallerStep))
    → ports_after ports (xs ++ ys) ≡ ports_after (ports_after ports xs) ys
after_both ports [] ys = refl
after_both ports (x ∷ xs) ys = after_both (ports_then ports x) xs ys

pub after_many : (ports : List PortState) (ss : List (CallerScript CallerStep))
    → length (ports_after ports ss) ≡ length ports
after_many ports [] = refl
after_many ports (s ∷ ss) =
    after_many (ports_then ports s) ss ∙ length-set ports s.port (script_after (port_at ports s.port) s)

-- ---- ports at the beginning

at_front : (xs : List PortState) (x : PortState) (i : ℕ) → i < length xs → port_at (xs ++ x ∷ []) i ≡ port_at xs i
at_front [] x i lt = absurd (omega (arith, lt))
at_front (y ∷ ys) x zero lt = refl
at_front (y ∷ ys) x (suc i) lt = at_front ys x i (omega (arith, lt))

at_last : (xs : List PortState) (x : PortState) → port_at (xs ++ x ∷ []) (length xs) ≡ x
at_last [] x = refl
at_last (y ∷ ys) x = at_last ys x

pub one_more_port : (n : ℕ) (passed : List (List PassedDown)) (ports next : List PortState) (own : List PassedDown)
    (t : PortState)
    → AreFirstPorts n passed ports
    → own ≡ slice_index_or passed n []
    → next ≡ ports ++ t ∷ []
    → IsFirstPort own t
    → AreFirstPorts (n + 1) passed next
one_more_port n passed ports next own t before mine more now =
    subst (λ (ps : List PortState). AreFirstPorts (n + 1) passed ps) (sym more)
    (record {
      many = length-append ports (t ∷ []) ∙ ap (λ (m : ℕ). m + 1) before.many;
      each = λ p lt. elim (cases_eq p n) [
        | inl same ↦
            subst (λ (x : PortState). IsFirstPort (slice_index_or passed p []) x)
            (sym (ap (port_at (ports ++ t ∷ [])) (same ∙ sym before.many) ∙ at_last ports t))
            (subst (λ (ds : List PassedDown). IsFirstPort ds t)
            (mine ∙ ap (λ (m : ℕ). slice_index_or passed m []) (sym same)) now)
        | inr other ↦
            (let front : p < n = omega (arith, lt, other) in
            subst (λ (x : PortState). IsFirstPort (slice_index_or passed p []) x)
            (sym (at_front ports t p (omega (arith, front, before.many)))) (before.each p front))
      ];
    })

-- ---- phases

-- the phases so far, the ports, and the phases that are left
pub record MakingPhases (from : List PortState) (all : List StepsPhase) (made : List PlainPhase)
    (ports : List PortState) (left : List StepsPhase) : Type 0 where
  pub phases : made ++ phases_made ports left ≡ phases_made from all
  pub many : length ports ≡ length from

pub phases_more : {C : Type 0} (from : List PortState) (all : List StepsPhase) (items new : List Phase)
    (ports next : List PortState) (placed : List (List (PlacedCall C))) (others : List (List FurtherBlock))
    (phases : List Phase) (k : ℕ) (x made : Phase) (own : List (PlacedCall C)) (blocks : List FurtherBlock)
    → k < length phases
    → x ≡ get_or phases k x
    → own ≡ slice_index_or placed k []
    → blocks ≡ slice_index_or others k []
    → new ≡ items ++ made ∷ []
    → phase_of made ≡ phase_made ports (phase_steps (phase_of x) own blocks)
    → next ≡ ports_after ports (phase_steps (phase_of x) own blocks).callers
    → MakingPhases from all (map phase_of items) ports (phases_steps placed others k (map phase_of (drop k phases)))
    → MakingPhases from all (map phase_of new) next
    (phases_steps placed others (k + 1) (map phase_of (drop (k + 1) phases)))
phases_more {C} from all items new ports next placed others phases k x made own blocks lt at mine theirs put is are h =
    let one = phase_steps (phase_of x) own blocks in
    let rest = phases_steps placed others (k + 1) (map phase_of (drop (k + 1) phases)) in
    let left : phases_steps placed others k (map phase_of (drop k phases)) ≡ one ∷ rest =
    ap (λ (ps : List Phase). phases_steps placed others k (map phase_of ps)) (next_item phases k x lt at)
    ∙ (ap (λ (os : List (PlacedCall C)). phase_steps (phase_of x) os (slice_index_or others k []) ∷ rest) (sym mine)
    ∙ ap (λ (bs : List FurtherBlock). phase_steps (phase_of x) own bs ∷ rest) (sym theirs)) in
    record {
      phases =
          ap (λ (ps : List Phase). map phase_of ps ++ phases_made next rest) put
          ∙ (ap (λ (ms : List PlainPhase). ms ++ phases_made next rest) (map-append phase_of items (made ∷ []))
          ∙ (append_assoc (map phase_of items) (phase_of made ∷ []) (phases_made next rest)
          ∙ (ap (λ (m : PlainPhase). map phase_of items ++ m ∷ phases_made next rest) is
          ∙ (ap (λ (ps : List PortState). map phase_of items ++ phase_made ports one ∷ phases_made ps rest) are
          ∙ (ap (λ (ss : List StepsPhase). map phase_of items ++ phases_made ports ss) (sym left) ∙ h.phases)))));
      many = ap (λ (ps : List PortState). length ps) are ∙ (after_many ports one.callers ∙ h.many);
    }

pub phases_done : (from : List PortState) (all : List StepsPhase) (made : List PlainPhase) (ports : List PortState)
    (left : List StepsPhase)
    → left ≡ []
    → MakingPhases from all made ports left
    → made ≡ phases_made from all
phases_done from all made ports left none h =
    sym (append-nil made)
    ∙ (ap (λ (ss : List StepsPhase). made ++ phases_made ports ss) (sym none) ∙ h.phases)

-- ---- what is known of each

pub each_of : {A : Type 0} (P : A → Type 0) (xs : List A) (i : ℕ) (x : A)
    → All P xs
    → i < length xs
    → x ≡ get_or xs i x
    → P x
each_of P [] i x h lt at = absurd (omega (arith, lt))
each_of P (y ∷ ys) zero x h lt at = subst P (sym at) (All-head P y ys h)
each_of P (y ∷ ys) (suc i) x h lt at = each_of P ys i x (All-tail P y ys h) (omega (arith, lt)) at

pub at_port : (ports : List PortState) (i : ℕ) (t : PortState) → i < length ports → get_or ports i t ≡ port_at ports i
at_port [] i t lt = absurd (omega (arith, lt))
at_port (x ∷ xs) zero t lt = refl
at_port (x ∷ xs) (suc i) t lt = at_port xs i t (omega (arith, lt))

pub unmapped : (n : ℕ) (xs : List Script)
    → All (λ (s : PlainScript). s.port < n) (map script_of xs)
    → All (λ (s : Script). s.port < n) xs
unmapped n [] h = All-nil (λ (s : Script). s.port < n)
unmapped n (x ∷ xs) h = All-cons (λ (s : Script). s.port < n) x xs
    (All-head (λ (s : PlainScript). s.port < n) (script_of x) (map script_of xs) h)
    (unmapped n xs (All-tail (λ (s : PlainScript). s.port < n) (script_of x) (map script_of xs) h))

pub phase_known : (P : PlainPhase → Type 0) (xs : List Phase) (i : ℕ) (x : Phase)
    → All P (map phase_of xs)
    → i < length xs
    → x ≡ get_or xs i x
    → P (phase_of x)
phase_known P [] i x h lt at = absurd (omega (arith, lt))
phase_known P (y ∷ ys) zero x h lt at =
    subst (λ (z : Phase). P (phase_of z)) (sym at) (All-head P (phase_of y) (map phase_of ys) h)
phase_known P (y ∷ ys) (suc i) x h lt at =
    phase_known P ys i x (All-tail P (phase_of y) (map phase_of ys) h) (omega (arith, lt)) at

-- the blocks of a place, which are none where no more is said
abbrev Blocks : Type 0
Blocks = Vec FurtherBlock Global

abbrev pub AreOnPorts : (ports : ℕ) → List FurtherBlock → Type 0
AreOnPorts n blocks = All (λ (b : FurtherBlock). b.port < n) blocks

pub blocks_known : (n : ℕ) (xs : List Blocks) (k : ℕ)
    → All (λ (v : Blocks). AreOnPorts n v.items) xs
    → AreOnPorts n (slice_index_or (map (λ (v : Blocks). v.items) xs) k [])
blocks_known n [] k h = All-nil (λ (b : FurtherBlock). b.port < n)
blocks_known n (x ∷ xs) zero h = All-head (λ (v : Blocks). AreOnPorts n v.items) x xs h
blocks_known n (x ∷ xs) (suc k) h = blocks_known n xs k (All-tail (λ (v : Blocks). AreOnPorts n v.items) x xs h)

abbrev IsOn : ℕ → CallerScript CallerStep → Type 0
IsOn n s = s.port < n

scripts_good : {C : Type 0} (n k : ℕ) (ss : List PlainScript) (placed : List (PlacedCall C))
    → All (λ (s : PlainScript). s.port < n) ss
    → All (IsOn n) (map steps_in (mixed_scripts k ss placed))
scripts_good n k [] placed h = All-nil (IsOn n)
scripts_good {C} n k (s ∷ ss) placed h =
    let own = take (count_in k placed) placed in
    let rest = drop (count_in k placed) placed in
    All-cons (IsOn n) (steps_with {C = C} s own) (map steps_in (mixed_scripts (k + 1) ss rest))
    (All-head (λ (x : PlainScript). x.port < n) s ss h)
    (scripts_good n (k + 1) ss rest (All-tail (λ (x : PlainScript). x.port < n) s ss h))

others_good : (n : ℕ) (bs : List FurtherBlock) → AreOnPorts n bs → All (IsOn n) (map further_steps bs)
others_good n [] h = All-nil (IsOn n)
others_good n (b ∷ bs) h = All-cons (IsOn n) (further_steps b) (map further_steps bs)
    (All-head (λ (x : FurtherBlock). x.port < n) b bs h)
    (others_good n bs (All-tail (λ (x : FurtherBlock). x.port < n) b bs h))

pub steps_good : {C : Type 0} (n k : ℕ) (phases : List PlainPhase) (placed : List (List (PlacedCall C)))
    (others : List Blocks)
    → All (λ (phase : PlainPhase). All (λ (s : PlainScript). s.port < n) phase.callers) phases
    → All (λ (v : Blocks). AreOnPorts n v.items) others
    → All (λ (phase : StepsPhase). All (IsOn n) phase.callers)
    (phases_steps placed (map (λ (v : Blocks). v.items) others) k phases)
steps_good n k [] placed others h on = All-nil (λ (phase : StepsPhase). All (IsOn n) phase.callers)
steps_good {C} n k (phase ∷ phases) placed others h on =
    let lists = map (λ (v : Blocks). v.items) others in
    let own = slice_index_or placed k [] in
    let blocks = slice_index_or lists k [] in
    All-cons (λ (x : StepsPhase). All (IsOn n) x.callers) (phase_steps phase own blocks)
    (phases_steps placed lists (k + 1) phases)
    (All-append (IsOn n) (map (steps_in {C = C}) (mixed_scripts 0 phase.callers own)) (map further_steps blocks)
    (scripts_good n 0 phase.callers own
    (All-head (λ (x : PlainPhase). All (λ (s : PlainScript). s.port < n) x.callers) phase phases h))
    (others_good n blocks (blocks_known n others k on)))
    (steps_good n (k + 1) phases placed others
    (All-tail (λ (x : PlainPhase). All (λ (s : PlainScript). s.port < n) x.callers) phase phases h) on)

-- scripts, and behind them others
pub both_made : (from mid : List PortState) (xs ys : List (CallerScript CallerStep))
    (none first second last : List Script)
    → none ≡ []
    → map script_of first ≡ map script_of none ++ scripts_made from xs
    → second ≡ first
    → mid ≡ ports_after from xs
    → map script_of last ≡ map script_of second ++ scripts_made mid ys
    → map script_of last ≡ scripts_made from (xs ++ ys)
both_made from mid xs ys none first second last empty scripts same behind others =
    others
    ∙ (ap (λ (ss : List Script). map script_of ss ++ scripts_made mid ys) same
    ∙ (ap (λ (ms : List PlainScript). ms ++ scripts_made mid ys)
    (scripts ∙ ap (λ (ss : List Script). map script_of ss ++ scripts_made from xs) empty)
    ∙ (ap (λ (ps : List PortState). scripts_made from xs ++ scripts_made ps ys) behind
    ∙ sym (scripts_both from xs ys))))

pub derived_is : (session : PlainSession) (phases : List StepsPhase) (passed : List (List PassedDown)) (flips : List ℕ)
    (made : List PlainPhase)
    → flips ≡ session.flips
    → made ≡ passed_phases (passings_of (scripts_in phases) passed) (map block_phase_of phases)
    → record { version = session.version; ports = session.ports; flips = flips; phases = made }
    ≡ derived_of session phases passed
derived_is session phases passed flips made same are =
    λ i. record { version = session.version; ports = session.ports; flips = same i; phases = are i }
