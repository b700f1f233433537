-- Operators as they are written, and as plain data.
use Rattle.std.proofs.Common.{◌≡◌, ℕ, ◌-◌, ◌<◌, zero, suc, List, [], ◌∷◌, ◌++◌, length, get_or, set, map, ap}
use Rattle.std.proofs.Common.{sym, ◌∙◌, arith, Bool, true, false, if◌then◌else◌, nat_lt, Some, refl, ◌||◌}
use Rattle.std.specs.List.{list_any}
use Rattle.std.proofs.lemmas.List.{length-map}
use Rattle.tty_base.specs.Sizes.{MOST_OPERATORS}
use Rattle.session_text.specs.declared.faults.Reason.TheVariants.{Order, Limit}
use Rattle.vt_text.specs.declared.sessions.OpCall.{OpCall}
use Rattle.vt_text.specs.declared.sessions.OpScript.{OpScript}
use Rattle.vt_text.specs.Sessions.{PlainOperator, operator_of, operators_of}
use Rattle.vt_text.specs.Items.{with_op_call, is_named, once_fault, wrong_unless}

-- the operator with a call more
abbrev pub more : OpCall → PlainOperator → PlainOperator
more call o = record o { calls = o.calls ++ call ∷ [] }

op_added : (call : OpCall) (xs : List OpScript) (d x : OpScript) (last : ℕ)
    → suc last ≡ length xs
    → operator_of x ≡ more call (operator_of (get_or xs last d))
    → operators_of (set xs last x) ≡ with_op_call call (operators_of xs)
op_added call [] d x last n e = absurd (omega arith)
op_added call (y ∷ []) d x zero n e = ap (λ (o : PlainOperator). o ∷ []) e
op_added call (y ∷ []) d x (suc last) n e = absurd (omega (arith, n))
op_added call (y ∷ z ∷ ys) d x zero n e = absurd (omega (arith, n))
op_added call (y ∷ z ∷ ys) d x (suc last) n e =
    ap (λ (os : List PlainOperator). operator_of y ∷ os) (op_added call (z ∷ ys) d x last (omega (arith, n)) e)

pub op_pushed : (call : OpCall) (xs : List OpScript) (d x : OpScript)
    → 0 < length xs
    → operator_of x ≡ more call (operator_of (get_or xs (length xs - 1) d))
    → operators_of (set xs (length xs - 1) x) ≡ with_op_call call (operators_of xs)
op_pushed call xs d x some e = op_added call xs d x (length xs - 1) (omega (arith, some)) e

-- ---- an operator stands once

list_any-map : {X Y : Type 0} (p : Y → Bool) (f : X → Y) (xs : List X)
    → list_any p (map f xs) ≡ list_any (λ x. p (f x)) xs
list_any-map p f [] = refl
list_any-map p f (x ∷ xs) = ap (λ b. p (f x) || b) (list_any-map p f xs)

pub named_among : (xs : List OpScript) (name : List ℕ)
    → list_any (is_named name) (operators_of xs) ≡ list_any (λ (o : OpScript). is_named name (operator_of o)) xs
named_among xs name = list_any-map (is_named name) operator_of xs

once_if : (xs : List OpScript) (name : List ℕ) (b c : Bool)
    → b ≡ list_any (is_named name) (operators_of xs)
    → b ≡ c
    → (if c then Some Order else wrong_unless Limit (nat_lt (length (operators_of xs)) MOST_OPERATORS))
    ≡ once_fault (operators_of xs) name
once_if xs name b c e f =
    ap (λ (t : Bool). if t then Some Order else wrong_unless Limit (nat_lt (length (operators_of xs)) MOST_OPERATORS))
    (sym f ∙ e)

pub once_stood : (xs : List OpScript) (name : List ℕ) (b : Bool)
    → b ≡ list_any (is_named name) (operators_of xs)
    → b ≡ true
    → Some Order ≡ once_fault (operators_of xs) name
once_stood xs name b e f = once_if xs name b true e f

pub once_room : (xs : List OpScript) (name : List ℕ) (b : Bool)
    → b ≡ list_any (is_named name) (operators_of xs)
    → b ≡ false
    → wrong_unless Limit (nat_lt (length xs) MOST_OPERATORS) ≡ once_fault (operators_of xs) name
once_room xs name b e f =
    ap (λ (n : ℕ). wrong_unless Limit (nat_lt n MOST_OPERATORS)) (sym (length-map xs operator_of))
    ∙ once_if xs name b false e f
