-- A caller is to make a call: the one that it has begun, or one that it passes down behind all that it has passed.
use Rattle.std.proofs.Common.{◌≡◌, ◌≤◌, ◌<◌, inl, inr, ℕ, ◌+◌, ◌==◌, ◌||◌, Bool, true, false}
use Rattle.std.proofs.Common.{List, [], ◌∷◌, ◌++◌, Some, length}
use Rattle.std.proofs.Common.{refl, sym, ap, ◌∙◌, subst, arith, append-nil, length-append}
use Rattle.std.specs.Prelude.{All, slice_get}
use Rattle.std.proofs.lemmas.Bool.{cases_eq, false≢true, ne_eqb, eq-eqb}
use Rattle.tty_calls.specs.declared.sessions.Script.{Script}
use Rattle.tty_calls.specs.Limits.{IsCallWithin}
use Rattle.tty_calls.specs.Plain.{PlainCall, PlainEntry, is_caller}
use Rattle.tty_terminal.specs.Runs.{KnowsMore}
use Rattle.passed_calls.specs.Derived.{Passing, BlockPhase, AreInSteps, all_calls}
use Rattle.passed_calls.specs.Within.{AreBlocksWithin}
use Rattle.port_core.specs.Ports.{PortValue, call_in}
use Rattle.play_base.specs.Roles.{Scene}
use Rattle.play_base.specs.Scenes.{HasAnyOrder, IsOfSceneIn}
use Rattle.one_thread.specs.Turns.{role_numbers, standing_at, Adds, IsPossible}
use Rattle.play_base.specs.declared.roles.Role.{Role}
use Rattle.one_thread.specs.declared.after_line.Stand.{Stand}
use Rattle.one_thread.specs.declared.after_line.Turn.TheVariants as turn
use Rattle.legal_runs.proofs.NameLemmas.{get_past}
use Rattle.order_laws.specs.Begun.{begun_at, begun_with}
use Rattle.order_laws.specs.Later.{ComesBy}
use Rattle.order_laws.specs.Passed.{begin_of, IsOfBlocks, AreUpTo, PassesMore}
use Rattle.order_laws.specs.Witness.{scene_on, IsPlayingIn, IsCallingIn}
use Rattle.order_laws.proofs.BegunBefore.{begun_same}
use Rattle.order_laws.proofs.PassedGrowing.{calls_all}
use Rattle.order_laws.proofs.InOrders.{made_begun, passed_is_next}
use Rattle.order_laws.proofs.Nexts.{next_of_call}
use Rattle.order_laws.proofs.Passings.{all_more, in_steps_more}
use Rattle.order_laws.proofs.Steps.{tail, tail_none, tail_one, none_at, in_steps_below}

-- ---- a port of the scene comes to another one of it

pub comes : (s : Scene) (v w : PortValue) (part : List PlainEntry)
    → IsOfSceneIn HasAnyOrder s v
    → IsOfSceneIn HasAnyOrder s w
    → w.journal ≡ v.journal ++ part
    → KnowsMore (call_in v.kept) (call_in w.kept)
    → ComesBy v w part
comes s v w part was now added grows = record {
  added = added;
  grows = grows;
  counts = now.counts ∙ sym was.counts;
  capacity = now.capacity ∙ sym was.capacity;
}

pub kept_grows : (v w : PortValue) → w.kept ≡ v.kept → KnowsMore (call_in v.kept) (call_in w.kept)
kept_grows v w same = subst (λ ks. KnowsMore (call_in v.kept) (call_in ks)) (sym same) (λ c step call is. is)

-- ---- who has begun a call, or is to make one

or_left : (a b : Bool) → a ≡ true → (a || b) ≡ true
or_left true b e = refl
or_left false b e = absurd (false≢true e)

or_right : (a b : Bool) → a ≡ false → (a || b) ≡ b
or_right true b e = absurd (false≢true (sym e))
or_right false b e = refl

pub begun_elsewhere_too : (v : PortValue) (c x : ℕ) → (x ≡ c → ⊥) → begun_with v c x ≡ begun_at v x
begun_elsewhere_too v c x other = or_right (x == c) (begun_at v x) (ne_eqb x c other)

pub begun_here : (v : PortValue) (c : ℕ) → begun_with v c c ≡ true
begun_here v c = or_left (c == c) (begun_at v c) (eq-eqb c c refl)

-- what each caller has passed down: what was logged, and behind it the call that it has begun
abbrev pub with_next : (logged : ℕ → List Passing) → (next : ℕ → Passing) → (begun : ℕ → Bool) → ℕ → List Passing
with_next logged next begun c = logged c ++ tail (begun c) (next c)

-- .. and one passing more of one caller
abbrev pub and_then : (mine : ℕ → List Passing) → (c : ℕ) → Passing → ℕ → List Passing
and_then mine c m x = mine x ++ tail (x == c) m

pub passes_then : (mine : ℕ → List Passing) (c : ℕ) (m : Passing) → PassesMore c m mine (and_then mine c m)
passes_then mine c m = record {
  own = ap (λ (t : List Passing). mine c ++ t) (tail_one (c == c) m (eq-eqb c c refl));
  others = λ x other.
      ap (λ (t : List Passing). mine x ++ t) (tail_none (x == c) m (ne_eqb x c other)) ∙ append-nil (mine x);
}

-- who has begun none has passed what was logged
pub rests_at : (logged : ℕ → List Passing) (next : ℕ → Passing) (v : PortValue) (c : ℕ)
    → begun_at v c ≡ false
    → with_next logged next (begun_at v) c ≡ logged c
rests_at logged next v c rest =
    ap (λ (t : List Passing). logged c ++ t) (tail_none (begun_at v c) (next c) rest) ∙ append-nil (logged c)

-- behind an entry of a caller its call has begun, and the others have what they had
pub begun_then : (s : Scene) (old new : PortValue) (adds : Adds s old new) (logged : ℕ → List Passing)
    (next : ℕ → Passing) (c : ℕ)
    → begun_at new c ≡ true
    → ((x : ℕ) → (x ≡ c → ⊥) → is_caller adds.entry.who x ≡ false)
    → (x : ℕ)
    → with_next logged next (begun_with old c) x ≡ with_next logged next (begun_at new) x
begun_then s old new adds logged next c begun others x =
    ap (λ (b : Bool). logged x ++ tail b (next x)) (elim (cases_eq x c) [
      | inl same ↦ subst (λ (y : ℕ). begun_with old c y ≡ begun_at new y) (sym same) (begun_here old c ∙ sym begun)
      | inr other ↦ begun_elsewhere_too old c x other ∙ sym (begun_same s old new adds x (others x other))
    ])

-- ---- the next call

module _ (HasOrder : Scene → List PlainEntry → Type 0) (first : Scene) (phases : List BlockPhase)
    (scripts : Scene → List Script) (roles : List Role) (start : PortValue) (ticks : ℕ) where
  abbrev p : ℕ
  p = first.port

  abbrev Plays : (mine : ℕ → List Passing) → PortValue → Stand → Type 0
  Plays mine v stand = IsPlayingIn HasOrder first phases scripts roles start mine v ticks stand

  abbrev Calls : (more : ℕ → List Passing) → PortValue → Stand → (place : ℕ) → PlainCall → Type 0
  Calls more v stand place call = IsCallingIn HasOrder first phases scripts roles start more v ticks stand place call

  -- the same passings of each caller
  pub plays_as : (mine more : ℕ → List Passing) (v : PortValue) (stand : Stand)
      → ((c : ℕ) → mine c ≡ more c)
      → Plays mine v stand
      → Plays more v stand
  plays_as mine more v stand same h =
      subst (λ (ms : ℕ → List Passing). Plays ms v stand) (λ i. λ c. same c i) h

  pub calls_as : (mine more : ℕ → List Passing) (v : PortValue) (stand : Stand) (place : ℕ) (call : PlainCall)
      → ((c : ℕ) → mine c ≡ more c)
      → Calls mine v stand place call
      → Calls more v stand place call
  calls_as mine more v stand place call same h =
      subst (λ (ms : ℕ → List Passing). Calls ms v stand place call) (λ i. λ c. same c i) h

  -- one that is passed down at a step behind those of all that its caller has passed
  pub more_is_next : (mine more : ℕ → List Passing) (m : Passing) (v : PortValue) (stand : Stand) (place : ℕ) (r : Role)
      (call : PlainCall)
      → Plays mine v stand
      → IsPossible v (role_numbers roles) stand.going (turn.Call place)
      → slice_get roles place ≡ Some r
      → begun_at v r.number ≡ false
      → IsOfBlocks p phases first.session
      → AreBlocksWithin first.session.ports first.session.flips phases
      → PassesMore r.number m mine more
      → m.caller ≡ r.number
      → m.calls ≡ call ∷ []
      → IsCallWithin call
      → All (λ (x : Passing). x.step < m.step) (mine r.number)
      → begin_of p phases v.terminal.phase r.number ≤ m.step
      → m.step < begin_of p phases (v.terminal.phase + 1) r.number
      → Calls more v stand place call
  more_is_next mine more m v stand place r call h possible at rest blocks limits passes caller one good before low
      high =
      let c = r.number in
      let last : ℕ → ℕ = begin_of p phases (v.terminal.phase + 1) in
      let own_steps : AreInSteps 0 (last c) (more c) =
      subst (λ (xs : List Passing). AreInSteps 0 (last c) xs) (sym passes.own)
      (in_steps_more 0 m.step (last c) (mine c) m (omega arith) (omega arith) high
      (in_steps_below 0 (last c) m.step (mine c) (h.up_to c) before)) in
      let up_to : AreUpTo p phases v.terminal.phase more =
      λ x. elim (cases_eq x c) [
        | inl same ↦ subst (λ (y : ℕ). AreInSteps 0 (last y) (more y)) (sym same) own_steps
        | inr other ↦
            subst (λ (xs : List Passing). AreInSteps 0 (last x) xs) (sym (passes.others x other)) (h.up_to x)
      ] in
      passed_is_next first phases scripts roles start mine more m v ticks stand place r call h possible at rest blocks
      limits passes caller one good (none_at (mine c) m.step before) low up_to

  -- the next one of a caller that has begun none
  pub next_begins : (logged : ℕ → List Passing) (next : ℕ → Passing) (v : PortValue) (stand : Stand) (place : ℕ)
      (r : Role) (call : PlainCall)
      → Plays (with_next logged next (begun_at v)) v stand
      → IsPossible v (role_numbers roles) stand.going (turn.Call place)
      → slice_get roles place ≡ Some r
      → begun_at v r.number ≡ false
      → IsOfBlocks p phases first.session
      → AreBlocksWithin first.session.ports first.session.flips phases
      → (next r.number).caller ≡ r.number
      → (next r.number).calls ≡ call ∷ []
      → IsCallWithin call
      → All (λ (x : Passing). x.step < (next r.number).step) (logged r.number)
      → begin_of p phases v.terminal.phase r.number ≤ (next r.number).step
      → (next r.number).step < begin_of p phases (v.terminal.phase + 1) r.number
      → Calls (with_next logged next (begun_with v r.number)) v stand place call
  next_begins logged next v stand place r call h possible at rest blocks limits caller one good before low high =
      let c = r.number in
      let m = next c in
      let mine = with_next logged next (begun_at v) in
      let more = with_next logged next (begun_with v c) in
      let own_mine : mine c ≡ logged c = rests_at logged next v c rest in
      more_is_next mine more m v stand place r call h possible at rest blocks limits
      (record {
        own = ap (λ (t : List Passing). logged c ++ t) (tail_one (begun_with v c c) m (begun_here v c))
            ∙ ap (λ (xs : List Passing). xs ++ m ∷ []) (sym own_mine);
        others = λ x other. ap (λ (b : Bool). logged x ++ tail b (next x)) (begun_elsewhere_too v c x other);
      }) caller one good
      (subst (λ (xs : List Passing). All (λ (x : Passing). x.step < m.step) xs) (sym own_mine) before) low high

  -- .. or of one that has begun it
  pub next_continues : (logged : ℕ → List Passing) (next : ℕ → Passing) (v : PortValue) (stand : Stand) (place : ℕ)
      (r : Role) (call : PlainCall)
      → Plays (with_next logged next (begun_at v)) v stand
      → slice_get roles place ≡ Some r
      → begun_at v r.number ≡ true
      → (next r.number).calls ≡ call ∷ []
      → Calls (with_next logged next (begun_with v r.number)) v stand place call
  next_continues logged next v stand place r call h at begun one =
      let c = r.number in
      let m = next c in
      let ms = logged c in
      let mine = with_next logged next (begun_at v) in
      let more = with_next logged next (begun_with v c) in
      let s = scene_on p h.has.session in
      let plays = (h.each.each s h.has.like h.has.agrees).plays in
      let step = (standing_at v c).next in
      let are : all_calls (mine c) ≡ all_calls ms ++ call ∷ [] =
      ap (λ (t : List Passing). all_calls (ms ++ t)) (tail_one (begun_at v c) m begun)
      ∙ (all_more ms m ∙ ap (λ (cs : List PlainCall). all_calls ms ++ cs) one) in
      let made : length (all_calls (mine c)) ≡ step + 1 =
      h.made c ∙ made_begun (standing_at v c).begun step begun in
      let longer : length (all_calls (mine c)) ≡ length (all_calls ms) + 1 =
      ap (λ (cs : List PlainCall). length cs) are ∙ length-append (all_calls ms) (call ∷ []) in
      let behind : step ≡ length (all_calls ms) + 0 = omega (arith, made, longer) in
      let known =
      calls_all p v.terminal.phase phases mine h.has.session c step h.has.by h.up_to
      ∙ (ap (λ (cs : List PlainCall). slice_get cs step) are ∙ get_past (all_calls ms) (call ∷ []) step 0 behind) in
      let same : (x : ℕ) → mine x ≡ more x =
      λ x. ap (λ (b : Bool). logged x ++ tail b (next x)) (elim (cases_eq x c) [
        | inl own_one ↦
            subst (λ (y : ℕ). begun_at v y ≡ begun_with v c y) (sym own_one) (begun ∙ sym (begun_here v c))
        | inr other ↦ sym (begun_elsewhere_too v c x other)
      ]) in
      calls_as mine more v stand place call same (record {
        each = h.each;
        has = h.has;
        up_to = h.up_to;
        role = r;
        at_place = at;
        own = made;
        others = λ x other. h.made x;
        next = next_of_call s (scripts s) roles v stand place r call plays at known
            ((plays.callers.in_roles place r at).calling begun);
      })
