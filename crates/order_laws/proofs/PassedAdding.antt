-- A session in which one passing more was made is like the first one.
use Rattle.std.proofs.Common.{◌≡◌, ◌≤◌, ℕ, Bool, true, false, cond, ◌==◌, List, [], ◌∷◌, ◌++◌}
use Rattle.std.proofs.Common.{length, if◌then◌else◌, refl, sym, ap, ◌∙◌, subst, arith, append-nil}
use Rattle.std.specs.Prelude.{All}
use Rattle.std.proofs.lemmas.Bool.{eqb-true}
use Rattle.std.proofs.lemmas.List.Elements.{All-nil, All-cons, All-append, filter-append}
use Rattle.tty_calls.specs.Plain.{PlainCall}
use Rattle.tty_calls.specs.Limits.{IsCallWithin, IsWithinLimits}
use Rattle.tty_calls.specs.Sessions.{PlainSession}
use Rattle.passed_calls.specs.Derived.{Passing, Passed, BlockPhase, by_caller, calls_at}
use Rattle.legal_runs.specs.Legal.{flip_on}
use Rattle.legal_runs.specs.Order.{is_of_consoles}
use Rattle.play_base.specs.Roles.{Scene}
use Rattle.order_laws.specs.Agreed.{IsLike}
use Rattle.order_laws.specs.Passed.{IsPassedBy, IsOfBlocks, passed_more}
use Rattle.passed_calls.specs.Within.{ArePassedWithin}
use Rattle.passed_calls.specs.Within.{AreBlocksWithin}
use Rattle.order_laws.specs.Witness.{scene_on}
use Rattle.order_laws.proofs.Blocks.{of_blocks, same_shape}
use Rattle.order_laws.proofs.Passings.{at_more}

abbrev AllWithin : List Passing → Type 0
AllWithin ms = All (λ m. All IsCallWithin m.calls) ms

one_within : (m : Passing) (call : PlainCall) → m.calls ≡ call ∷ [] → IsCallWithin call → All IsCallWithin m.calls
one_within m call one good = subst (λ (cs : List PlainCall). All IsCallWithin cs) (sym one)
    (All-cons IsCallWithin call [] good (All-nil IsCallWithin))

all_more : (b : Bool) (ms : List Passing) (m : Passing)
    → All IsCallWithin m.calls
    → AllWithin ms
    → AllWithin (if b then ms ++ m ∷ [] else ms)
all_more true ms m good h = All-append (λ (x : Passing). All IsCallWithin x.calls) ms (m ∷ []) h
    (All-cons (λ (x : Passing). All IsCallWithin x.calls) m [] good
    (All-nil (λ (x : Passing). All IsCallWithin x.calls)))
all_more false ms m good h = h

-- at most one for each step
single_step : (b : Bool) (xs calls : List PlainCall)
    → length xs ≤ 1
    → length calls ≤ 1
    → (b ≡ true → xs ≡ [])
    → length (xs ++ (if b then calls else [])) ≤ 1
single_step true xs calls few one none = subst (λ (ys : List PlainCall). length (ys ++ calls) ≤ 1) (sym (none refl)) one
single_step false xs calls few one none = subst (λ (ys : List PlainCall). length ys ≤ 1) (sym (append-nil xs)) few

single_own : (ms : List Passing) (m : Passing) (step : ℕ)
    → length m.calls ≤ 1
    → length (calls_at ms step) ≤ 1
    → calls_at ms m.step ≡ []
    → length (calls_at (ms ++ m ∷ []) step) ≤ 1
single_own ms m step one few none =
    subst (λ (cs : List PlainCall). length cs ≤ 1) (sym (at_more ms m step))
    (single_step (m.step == step) (calls_at ms step) m.calls few one
    (λ e. ap (λ (n : ℕ). calls_at ms n) (sym (eqb-true m.step step e)) ∙ none))

single_caller : (b : Bool) (ms : List Passing) (m : Passing) (step : ℕ)
    → length m.calls ≤ 1
    → length (calls_at ms step) ≤ 1
    → (b ≡ true → calls_at ms m.step ≡ [])
    → length (calls_at (ms ++ cond b (m ∷ []) []) step) ≤ 1
single_caller true ms m step one few none = single_own ms m step one few (none refl)
single_caller false ms m step one few none =
    subst (λ (xs : List Passing). length (calls_at xs step) ≤ 1) (sym (append-nil ms)) few

single_port : (b : Bool) (c : ℕ) (ms : List Passing) (m : Passing) (step : ℕ)
    → length m.calls ≤ 1
    → length (calls_at (by_caller c ms) step) ≤ 1
    → (b ≡ true → calls_at (by_caller m.caller ms) m.step ≡ [])
    → length (calls_at (by_caller c (if b then ms ++ m ∷ [] else ms)) step) ≤ 1
single_port true c ms m step one few none =
    subst (λ (xs : List Passing). length (calls_at xs step) ≤ 1)
    (sym (filter-append (λ (x : Passing). x.caller == c) ms (m ∷ [])))
    (single_caller (m.caller == c) (by_caller c ms) m step one few
    (λ e. ap (λ (d : ℕ). calls_at (by_caller d ms) m.step) (sym (eqb-true m.caller c e)) ∙ none refl))
single_port false c ms m step one few none = few

pub more_within : (p : ℕ) (m : Passing) (call : PlainCall) (passed : Passed)
    → ArePassedWithin passed
    → m.calls ≡ call ∷ []
    → IsCallWithin call
    → calls_at (by_caller m.caller (passed p)) m.step ≡ []
    → ArePassedWithin (passed_more p m passed)
more_within p m call passed h one good none =
    let few : length m.calls ≤ 1 = omega (arith, ap (λ (cs : List PlainCall). length cs) one) in
    record {
      calls = λ q. all_more (q == p) (passed q) m (one_within m call one good) (h.calls q);
      single = λ q c step. single_port (q == p) c (passed q) m step few (h.single q c step)
          (λ e. ap (λ (i : ℕ). calls_at (by_caller m.caller (passed i)) m.step) (eqb-true q p e) ∙ none);
    }

pub like_first : (first : Scene) (phases : List BlockPhase) (mine : ℕ → List Passing) (session : PlainSession)
    → IsOfBlocks first.port phases first.session
    → IsPassedBy first.port phases mine session
    → is_of_consoles session ≡ is_of_consoles first.session
    → flip_on first.port session ≡ flip_on first.port first.session
    → IsWithinLimits session
    → IsLike first (scene_on first.port session)
like_first first phases mine session blocks by consoles flip limits =
    let here = of_blocks first.port phases mine session by in
    record {
      port = refl;
      shape = same_shape first.port phases first.session session consoles flip blocks here;
      ticks = here.ticks ∙ sym blocks.ticks;
      limits = limits;
    }

pub blocks_same : (ports : ℕ) (flips : List ℕ) (n : ℕ) (ns : List ℕ) (phases : List BlockPhase)
    → n ≡ ports
    → ns ≡ flips
    → AreBlocksWithin ports flips phases
    → AreBlocksWithin n ns phases
blocks_same ports flips n ns phases a b h = subst (λ (x : ℕ). AreBlocksWithin x ns phases) (sym a)
    (subst (λ (xs : List ℕ). AreBlocksWithin ports xs phases) (sym b) h)
