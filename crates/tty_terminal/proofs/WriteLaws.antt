-- What a write comes to, by how many of its bytes fit.
use Rattle.std.proofs.Common.{◌≡◌, ◌≢◌, ℕ, ◌+◌, List, Bool, true, false, ◌==◌, nat_lt}
use Rattle.std.proofs.Common.{if◌then◌else◌, length, refl, sym, ◌∙◌, ap, subst}
use Rattle.std.proofs.lemmas.Bool.{eqb-true, eq-eqb, false≢true}
use Rattle.tty_base.specs.declared.counters.Errno.{Errno}
use Rattle.tty_base.specs.declared.counters.Errno.TheVariants.{EAGAIN}
use Rattle.tty_calls.specs.declared.answers.Answer.TheVariants.{Count, Refused}
use Rattle.tty_calls.specs.Plain.{count_is}
use Rattle.n_tty.specs.States.{NTtyState}
use Rattle.n_tty.specs.Writing.{piece_size}
use Rattle.ldisc_switch.specs.declared.discipline.Disc.TheVariants as disc
use Rattle.tty_terminal.specs.declared.callers.CallerState.{CallerState}
use Rattle.tty_terminal.specs.declared.rooms.Met.{Met}
use Rattle.tty_terminal.specs.declared.rooms.Met.TheVariants as met
use Rattle.tty_terminal.specs.Terminals.{Terminal}
use Rattle.tty_terminal.specs.Outcomes.{Outcome, waits, takes, gives, refuses, tells}
use Rattle.tty_terminal.specs.Transfers.{has_parts, write_refusal, with_piece_posted, write_outcome}
use Rattle.tty_terminal.specs.Meeting.{Meets, left_before_rule}
use Rattle.tty_terminal.proofs.RoomLaws.{through, none_of_some}

taken_branch : (b : Bool) (x y : Outcome) → b ≡ true → (if b then x else y) ≡ x
taken_branch true x y e = refl
taken_branch false x y e = absurd (false≢true e)

refusal_case : (t : Terminal) (s : CallerState) (errno : Errno) (b : Bool)
    → Meets (if b then tells (count_is s.taken) t else refuses errno t)
    (met.Gives (if b then Count s.taken else Refused errno))
refusal_case t s errno true = refl
refusal_case t s errno false = refl

refusal_left : (t : Terminal) (s : CallerState) (errno : Errno) (b : Bool)
    → left_before_rule (if b then tells (count_is s.taken) t else refuses errno t) t ≡ t
refusal_left t s errno true = refl
refusal_left t s errno false = refl

-- none of some bytes fits
none_fits : (t : Terminal) (s : CallerState) (nonblock : Bool) (rest : List ℕ) (tty : NTtyState) (n : ℕ)
    → piece_size t.modes tty t.output rest ≡ n → (length rest == 0) ≡ false → nat_lt 0 n ≡ false
    → write_outcome t s nonblock rest (disc.Tty tty) ≡ (if nonblock then write_refusal t s EAGAIN else waits)
none_fits t s nonblock rest tty n is some none =
    let fit = piece_size t.modes tty t.output rest in
    let nothing : nat_lt 0 fit ≡ false = ap (λ (k : ℕ). nat_lt 0 k) is ∙ none in
    through (fit == length rest) _ _ (none_of_some (length rest) fit some nothing) ∙ through (nat_lt 0 fit) _ _ nothing

pub refused_met : (t : Terminal) (s : CallerState) (nonblock : Bool) (rest : List ℕ) (tty : NTtyState) (n : ℕ)
    (result : Met)
    → piece_size t.modes tty t.output rest ≡ n
    → (length rest == 0) ≡ false
    → nat_lt 0 n ≡ false
    → nonblock ≡ true
    → result ≡ met.Gives (if has_parts s then Count s.taken else Refused EAGAIN)
    → Meets (write_outcome t s nonblock rest (disc.Tty tty)) result
refused_met t s nonblock rest tty n result is some none nb given =
    let o =
    none_fits t s nonblock rest tty n is some none ∙ taken_branch nonblock (write_refusal t s EAGAIN) waits nb in
    subst (λ (x : Outcome). Meets x result) (sym o)
    (subst (λ (r : Met). Meets (write_refusal t s EAGAIN) r) (sym given) (refusal_case t s EAGAIN (has_parts s)))

pub waiting_met : (t : Terminal) (s : CallerState) (nonblock : Bool) (rest : List ℕ) (tty : NTtyState) (n : ℕ)
    (result : Met)
    → piece_size t.modes tty t.output rest ≡ n
    → (length rest == 0) ≡ false
    → nat_lt 0 n ≡ false
    → nonblock ≡ false
    → result ≡ met.Waits
    → Meets (write_outcome t s nonblock rest (disc.Tty tty)) result
waiting_met t s nonblock rest tty n result is some none nb given =
    let o = none_fits t s nonblock rest tty n is some none ∙ through nonblock (write_refusal t s EAGAIN) waits nb in
    subst (λ (x : Outcome). Meets x result) (sym o) (subst (λ (r : Met). Meets waits r) (sym given) tt)

none_left : (t : Terminal) (s : CallerState) (nonblock : Bool)
    → left_before_rule (if nonblock then write_refusal t s EAGAIN else waits) t ≡ t
none_left t s true = refusal_left t s EAGAIN (has_parts s)
none_left t s false = refl

pub nothing_left : (t : Terminal) (s : CallerState) (nonblock : Bool) (rest : List ℕ) (tty : NTtyState) (n : ℕ)
    → piece_size t.modes tty t.output rest ≡ n → (length rest == 0) ≡ false → nat_lt 0 n ≡ false
    → t ≡ left_before_rule (write_outcome t s nonblock rest (disc.Tty tty)) t
nothing_left t s nonblock rest tty n is some none =
    sym (ap (λ (o : Outcome). left_before_rule o t) (none_fits t s nonblock rest tty n is some none)
    ∙ none_left t s nonblock)

-- all that are left fit
whole_fits : (t : Terminal) (s : CallerState) (nonblock : Bool) (rest : List ℕ) (tty : NTtyState) (n : ℕ)
    → piece_size t.modes tty t.output rest ≡ n
    → n ≡ length rest
    → write_outcome t s nonblock rest (disc.Tty tty)
    ≡ gives (count_is (s.taken + n)) false (with_piece_posted t tty rest)
whole_fits t s nonblock rest tty n is all =
    let fit = piece_size t.modes tty t.output rest in
    taken_branch (fit == length rest) _ _ (eq-eqb fit (length rest) (is ∙ all))
    ∙ ap (λ (k : ℕ). gives (count_is (s.taken + k)) false (with_piece_posted t tty rest)) is

pub whole_met : (t : Terminal) (s : CallerState) (nonblock : Bool) (rest : List ℕ) (tty : NTtyState) (n : ℕ)
    (result : Met)
    → piece_size t.modes tty t.output rest ≡ n
    → n ≡ length rest
    → result ≡ met.Gives (Count (s.taken + n))
    → Meets (write_outcome t s nonblock rest (disc.Tty tty)) result
whole_met t s nonblock rest tty n result is all given =
    subst (λ (x : Outcome). Meets x result) (sym (whole_fits t s nonblock rest tty n is all))
    (subst (λ (r : Met). Meets (gives (count_is (s.taken + n)) false (with_piece_posted t tty rest)) r) (sym given)
    refl)

-- some, and not all
not_all : (a b : ℕ) (x : Bool) → (a == b) ≡ x → (a ≡ b → ⊥) → x ≡ false
not_all a b true e h = absurd (h (eqb-true a b e))
not_all a b false e h = refl

part_fits : (t : Terminal) (s : CallerState) (nonblock : Bool) (rest : List ℕ) (tty : NTtyState) (n : ℕ)
    → piece_size t.modes tty t.output rest ≡ n → nat_lt 0 n ≡ true → n ≢ length rest
    → write_outcome t s nonblock rest (disc.Tty tty) ≡ takes n (with_piece_posted t tty rest)
part_fits t s nonblock rest tty n is some part =
    let fit = piece_size t.modes tty t.output rest in
    through (fit == length rest) _ _ (not_all fit (length rest) (fit == length rest) refl (λ e. part (sym is ∙ e)))
    ∙ (taken_branch (nat_lt 0 fit) _ _ (ap (λ (k : ℕ). nat_lt 0 k) is ∙ some)
    ∙ ap (λ (k : ℕ). takes k (with_piece_posted t tty rest)) is)

pub part_met : (t : Terminal) (s : CallerState) (nonblock : Bool) (rest : List ℕ) (tty : NTtyState) (n : ℕ)
    (result : Met)
    → piece_size t.modes tty t.output rest ≡ n
    → nat_lt 0 n ≡ true
    → n ≢ length rest
    → result ≡ met.Takes n
    → Meets (write_outcome t s nonblock rest (disc.Tty tty)) result
part_met t s nonblock rest tty n result is some part given =
    subst (λ (x : Outcome). Meets x result) (sym (part_fits t s nonblock rest tty n is some part))
    (subst (λ (r : Met). Meets (takes n (with_piece_posted t tty rest)) r) (sym given) refl)

posted_case : (t : Terminal) (s : CallerState) (nonblock : Bool) (fit left : ℕ) (after : Terminal) (all : Bool)
    (rest : Outcome)
    → left_before_rule
    (if all then gives (count_is (s.taken + fit)) false after else if true then takes fit after else rest) t ≡ after
posted_case t s nonblock fit left after true rest = refl
posted_case t s nonblock fit left after false rest = refl

-- whether all or some fit, they are posted
pub posted_left : (t : Terminal) (s : CallerState) (nonblock : Bool) (rest : List ℕ) (tty : NTtyState) (n : ℕ)
    → piece_size t.modes tty t.output rest ≡ n → nat_lt 0 n ≡ true
    → with_piece_posted t tty rest ≡ left_before_rule (write_outcome t s nonblock rest (disc.Tty tty)) t
posted_left t s nonblock rest tty n is some =
    let fit = piece_size t.modes tty t.output rest in
    let after = with_piece_posted t tty rest in
    let other : Outcome = if nonblock then write_refusal t s EAGAIN else waits in
    sym (ap (λ (b : Bool). left_before_rule
    (if fit == length rest then gives (count_is (s.taken + fit)) false after else if b then takes fit after else other)
    t)
    (ap (λ (k : ℕ). nat_lt 0 k) is ∙ some)
    ∙ posted_case t s nonblock fit (length rest) after (fit == length rest) other)
