-- The lines of signals: nothing of the room behind a name is told.
use Rattle.std.proofs.Common.{◌≡◌, ℕ, zero, suc, ◌+◌, ◌<◌, ◌==◌, Bool, true, false, cond, if◌then◌else◌, List}
use Rattle.std.proofs.Common.{[], ◌∷◌, ◌++◌, length, map, drop, get_or, refl, sym, ◌∙◌, ap, arith, append_assoc}
use Rattle.std.specs.List.{range_with_len}
use Rattle.std.specs.Prelude.{codes, decimal, filter, slice_index_or}
use Rattle.job_control.specs.declared.answers.Target.{Target}
use Rattle.job_control.specs.declared.answers.Target.TheVariants.{Group, Process, Nobody}
use Rattle.job_control.specs.declared.processes.JobSignal.{JobSignal}
use Rattle.job_control.specs.declared.processes.Proc.{Proc}
use Rattle.job_print.specs.Lines.{name_at, signal_line, signal_text}
use Rattle.session_print.specs.Lines.{newline}
use Rattle.passed_calls.specs.declared.logs.Logged.{Logged}
use Rattle.job_text.specs.declared.logs.JobEvent.{JobEvent as KeptJob}
use Rattle.job_text.specs.declared.sessions.PortProc.{PortProc}
use Rattle.job_text.specs.Events.{JobEvent, JobLog, event_of, logged_of, own, passed, passed_down, sent}
use Rattle.job_text.specs.Sessions.{bare, procs_on}
use Rattle.further_report.specs.Jobs.{signal_in, signals_on}
use Rattle.further_report.proofs.Lines.{next_item}

-- a process of whose name nothing is said but its bytes
abbrev named : Proc → Proc
named proc = record proc { name = record { bytes = proc.name.bytes; spare = [] } }

bare_if : (b : Bool) (q : PortProc) (qs rs : List PortProc) → map (λ r. r.proc) rs ≡ map named (map (λ r. r.proc) qs)
    → map (λ r. r.proc) (cond b (bare q ∷ rs) rs) ≡ map named (map (λ r. r.proc) (cond b (q ∷ qs) qs))
bare_if true q qs rs e = ap (λ (l : List Proc). named q.proc ∷ l) e
bare_if false q qs rs e = e

bare_procs : (p : ℕ) (procs : List PortProc) → procs_on p (map bare procs) ≡ map named (procs_on p procs)
bare_procs p [] = refl
bare_procs p (q ∷ qs) =
    bare_if (q.port == p) q (filter (λ r. r.port == p) qs) (filter (λ r. r.port == p) (map bare qs)) (bare_procs p qs)

name_same : (procs : List Proc) (place : ℕ) → name_at (map named procs) place ≡ name_at procs place
name_same [] zero = refl
name_same [] (suc n) = refl
name_same (x ∷ xs) zero = refl
name_same (x ∷ xs) (suc n) = name_same xs n

line_same : (p : ℕ) (procs : List Proc) (signal : JobSignal) (target : Target)
    → signal_line p (map named procs) signal target ≡ signal_line p procs signal target
line_same p procs signal (Group group) = refl
line_same p procs signal (Process place) =
    ap (λ (name : List ℕ).
    codes "job " ++ (decimal p ++ (codes " " ++ (signal_text signal ++ ((codes " process " ++ name) ++ newline)))))
    (name_same procs place)
line_same p procs signal Nobody = refl

signal_same : (p : ℕ) (procs : List Proc) (e : JobEvent) → signal_in p (map named procs) e ≡ signal_in p procs e
signal_same p procs (own c step answer) = refl
signal_same p procs (passed c step answer) = refl
signal_same p procs (passed_down c h) = refl
signal_same p procs (sent signal target) = line_same p procs signal target

signals_same : (p : ℕ) (procs : List Proc) (log : JobLog) → signals_on p (map named procs) log ≡ signals_on p procs log
signals_same p procs [] = refl
signals_same p procs (l ∷ ls) =
    ap (λ (line : List ℕ). (if l.port == p then line else []) ++ signals_on p (map named procs) ls)
    (signal_same p procs l.event)
    ∙ ap (λ (lines : List ℕ). (if l.port == p then signal_in p procs l.event else []) ++ lines)
    (signals_same p procs ls)

at_range : {A : Type 0} (f : ℕ → A) (d : A) (from n k : ℕ)
    → k < n
    → slice_index_or (map f (range_with_len from n)) k d ≡ f (from + k)
at_range f d from zero k lt = absurd (omega arith)
at_range f d from (suc n) zero lt = ap f (omega arith)
at_range f d from (suc n) (suc k) lt =
    let there : (from + 1) + k ≡ from + suc k = omega arith in
    at_range f d (from + 1) n k (omega arith) ∙ ap f there

-- the signals of a port, by its processes as they are kept
pub signals_told : (ports p : ℕ) (procs : List PortProc) (log : JobLog)
    → p < ports
    → signals_on p (procs_on p procs) log
    ≡ signals_on p (slice_index_or (map (λ q. procs_on q (map bare procs)) (range_with_len 0 ports)) p []) log
signals_told ports p procs log lt =
    let here : 0 + p ≡ p = omega arith in
    sym (signals_same p (procs_on p procs) log)
    ∙ ap (λ (ps : List Proc). signals_on p ps log)
    (sym (bare_procs p procs)
    ∙ ap (λ (q : ℕ). procs_on q (map bare procs)) (sym here)
    ∙ sym (at_range (λ q. procs_on q (map bare procs)) [] 0 ports p lt))

-- ---- loops over them

pub signal_more : (text new first : List ℕ) (p i : ℕ) (procs : List Proc) (log : List (Logged KeptJob))
    (x : Logged KeptJob)
    → i < length log
    → x ≡ get_or log i x
    → new ≡ text ++ (if x.port == p then signal_in p procs (event_of x.event) else [])
    → text ++ signals_on p procs (map logged_of (drop i log)) ≡ first
    → new ++ signals_on p procs (map logged_of (drop (i + 1) log)) ≡ first
signal_more text new first p i procs log x lt at put left =
    let one : List ℕ = if x.port == p then signal_in p procs (event_of x.event) else [] in
    let rest : List ℕ = signals_on p procs (map logged_of (drop (i + 1) log)) in
    ap (λ (l : List ℕ). l ++ rest) put
    ∙ append_assoc text one rest
    ∙ ap (λ (ls : List (Logged KeptJob)). text ++ signals_on p procs (map logged_of ls)) (sym (next_item log i x lt at))
    ∙ left
