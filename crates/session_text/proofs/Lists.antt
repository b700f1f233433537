-- Lists of what the reader keeps, seen as plain data.
use Rattle.std.proofs.Common.{◌≡◌, ℕ, ◌+◌, ◌-◌, ◌<◌, Bool, List, [], ◌∷◌, ◌++◌, ◌||◌, length, map, take, drop}
use Rattle.std.proofs.Common.{replicate, Result, Ok, Err, OnOk, refl, ap, sym, ◌∙◌, arith, get_or, set, zero, suc}
use Rattle.std.specs.List.{list_any}
use Rattle.tty_calls.specs.Plain.{PlainCall}
use Rattle.tty_calls.specs.Sessions.{PlainScript, script_of}
use Rattle.tty_calls.specs.declared.sessions.Script.{Script}
use Rattle.std.proofs.lemmas.List.{map-set, get_or-map, take-append-le, take_all, map-append, replicate_more}
use Rattle.tty_calls.specs.declared.kept_calls.Calls.{Calls}
use Rattle.session_text.specs.declared.stands.Key.{Key}
use Rattle.session_text.specs.Drafts.{with_call}
use Rattle.session_text.specs.Stands.{same_key}
use Rattle.session_text.specs.Views.{key_of}

pub list_any-map : {X Y : Type 0} (p : Y → Bool) (f : X → Y) (xs : List X)
    → list_any p (map f xs) ≡ list_any (λ x. p (f x)) xs
list_any-map p f [] = refl
list_any-map p f (x ∷ xs) = ap (λ b. p (f x) || b) (list_any-map p f xs)

-- the last caller has a call more
pub call_added : (call : PlainCall) (scripts : List Script) (d script : Script) (last : ℕ)
    → last + 1 ≡ length scripts
    → script_of script
    ≡ record (script_of (get_or scripts last d)) { calls = (script_of (get_or scripts last d)).calls ++ call ∷ [] }
    → map script_of (set scripts last script) ≡ with_call call (map script_of scripts)
call_added call [] d script last n e = absurd (omega (arith, n))
call_added call (first ∷ []) d script zero n e = ap (λ (s : PlainScript). s ∷ []) e
call_added call (first ∷ []) d script (suc last) n e = absurd (omega (arith, n))
call_added call (first ∷ other ∷ scripts) d script zero n e = absurd (omega (arith, n))
call_added call (first ∷ other ∷ scripts) d script (suc last) n e =
    ap (λ (xs : List PlainScript). script_of first ∷ xs)
    (call_added call (other ∷ scripts) d script last (omega (arith, n)) e)

-- .. as its script is written
pub call_pushed : (call : PlainCall) (scripts : List Script) (d : Script) (calls : Calls)
    → 0 < length scripts
    → calls.items ≡ (get_or scripts (length scripts - 1) d).calls.items ++ call ∷ []
    → map script_of
    (set scripts (length scripts - 1) (record (get_or scripts (length scripts - 1) d) { calls = calls }))
    ≡ with_call call (map script_of scripts)
call_pushed call scripts d calls some more =
    let last = get_or scripts (length scripts - 1) d in
    call_added call scripts d (record last { calls = calls }) (length scripts - 1) (omega (arith, some))
    (ap (λ (cs : List PlainCall). record (script_of last) { calls = cs }) more)

-- .. as a list shows it whose elements the slice is
pub call_written : {T E : Type 0} (r : Result T E) (n : ℕ) (old slice new : List Script) (told call : PlainCall)
    → n ≡ length new
    → slice ≡ old
    → told ≡ call
    → OnOk r (map script_of new ≡ with_call told (map script_of slice))
    → OnOk r (map script_of (take n (new ++ drop (length new) old)) ≡ with_call call (map script_of old))
call_written (Err e) n old slice new told call all whole is h = tt
call_written (Ok t) n old slice new told call all whole is h =
    ap (map script_of)
    (take-append-le n new (drop (length new) old) (omega (arith, all)) ∙ take_all n new (omega (arith, all)))
    ∙ (h
    ∙ (ap (λ (c : PlainCall). with_call c (map script_of slice)) is
    ∙ ap (λ (ss : List Script). with_call call (map script_of ss)) whole))

-- one more, of which nothing is kept yet
pub one_more_empty : {X Y : Type 0} (f : X → List Y) (n : ℕ) (xs new : List X) (x : X)
    → new ≡ xs ++ x ∷ []
    → f x ≡ []
    → map f xs ≡ replicate n []
    → map f new ≡ replicate (n + 1) []
one_more_empty {X} {Y} f n xs new x added none h =
    ap (map f) added
    ∙ (map-append f xs (x ∷ [])
    ∙ (ap (λ (l : List Y). map f xs ++ l ∷ []) none
    ∙ (ap (λ (ls : List (List Y)). ls ++ [] ∷ []) h ∙ replicate_more n [])))

-- a port's line goes on
pub line_added : {X Y : Type 0} (f : X → List Y) (lines : List X) (port : ℕ) (d line : X) (steps : List Y)
    → port < length lines
    → f line ≡ f (get_or lines port d) ++ steps
    → map f (set lines port line) ≡ set (map f lines) port (get_or (map f lines) port [] ++ steps)
line_added {X} {Y} f lines port d line steps within e =
    map-set f lines port line
    ∙ ap (set (map f lines) port) (e ∙ ap (λ (xs : List Y). xs ++ steps) (sym (get_or-map f lines port d [] within)))

-- a caller is looked for by its name and port
pub key_found : (b : Bool) (keys slice : List Key) (name word : List ℕ) (port number : ℕ)
    → b ≡ list_any (λ key. same_key name port (key_of key)) slice
    → slice ≡ keys
    → name ≡ word
    → port ≡ number
    → b ≡ list_any (same_key word number) (map key_of keys)
key_found b keys slice name word port number h e₁ e₂ e₃ =
    h
    ∙ ap (list_any (λ key. same_key name port (key_of key))) e₁
    ∙ ap (λ (n : List ℕ). list_any (λ key. same_key n port (key_of key)) keys) e₂
    ∙ ap (λ (p : ℕ). list_any (λ key. same_key word p (key_of key)) keys) e₃
    ∙ sym (list_any-map (same_key word number) key_of keys)
