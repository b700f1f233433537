-- What the table of processes answers, against a look through all of them.
use Rattle.std.proofs.Common.{◌≡◌, ℕ, ◌+◌, Bool, true, false, cond, ◌||◌}
use Rattle.std.proofs.Common.{List, [], ◌∷◌, ◌++◌, Option, None, Some, length, map, append-nil, refl, sym, ap, subst}
use Rattle.std.proofs.Common.{◌∙◌}
use Rattle.std.specs.Prelude.{◌==◌, All, IsTrue, count_by, filter, is_some, slice_index_or, if◌then◌else◌}
use Rattle.std.specs.List.{list_any, position_from}
use Rattle.std.specs.Str.{bytes_eq}
use Rattle.std.proofs.lemmas.Bool.{both_ways, eqb-true, false≢true}
use Rattle.std.proofs.lemmas.Iterator.Adapters.{position_from-zero}
use Rattle.std.proofs.lemmas.List.{length-map, map-append}
use Rattle.std.proofs.lemmas.List.Elements.{All-nil, All-cons, All-head, All-tail, All-append, filter-append}
use Rattle.std.proofs.lemmas.List.Folds.{list_any-append}
use Rattle.std.proofs.lemmas.List.Sums.{length-filter}
use Rattle.std.proofs.lemmas.Slice.Eq.{bytes_eq-Decides}
use Rattle.text_lines.specs.Values.{is_name}
use Rattle.tty_calls.specs.Sessions.{number_in}
use Rattle.job_text.specs.declared.blocks.Block.{Block}
use Rattle.job_text.specs.declared.blocks.Block.TheVariants as block
use Rattle.job_text.specs.declared.leaders.Leaders.{Leaders}
use Rattle.job_text.specs.declared.sessions.PortProc.{PortProc}
use Rattle.job_text.specs.Procs.{place_named}
use Rattle.job_text.specs.Reading.{JobsReading, exits}
use Rattle.job_text.specs.Sessions.{bare}
use Rattle.job_text.specs.Tables.{IsTable, exited_by, is_led, leads, learned, names_on}

abbrev name_of : PortProc → List ℕ
name_of q = q.proc.name.bytes

abbrev is_named : List ℕ → PortProc → Bool
is_named name q = bytes_eq q.proc.name.bytes name

abbrev on_port : ℕ → PortProc → Bool
on_port p q = q.port == p

abbrev HasName : PortProc → Type 0
HasName q = IsTrue (is_name q.proc.name.bytes)

-- ---- a process is found by its name

not_true : (x : Bool) → (x ≡ true → ⊥) → x ≡ false
not_true true no_way = absurd (no_way refl)
not_true false no_way = refl

turned_by : (a b : List ℕ) (t : Bool) → bytes_eq a b ≡ t → bytes_eq b a ≡ t
turned_by a b true h = (bytes_eq-Decides b a).1 (sym ((bytes_eq-Decides a b).0 h))
turned_by a b false h =
    not_true (bytes_eq b a) (λ k. false≢true (sym h ∙ (bytes_eq-Decides a b).1 (sym ((bytes_eq-Decides b a).0 k))))

turned : (a b : List ℕ) → bytes_eq a b ≡ bytes_eq b a
turned a b = turned_by b a (bytes_eq b a) refl

named : (name : List ℕ) (i : ℕ) (qs : List PortProc)
    → position_from (bytes_eq name) i (map name_of qs) ≡ position_from (is_named name) i qs
named name i [] = refl
named name i (q ∷ qs) =
    ap (λ (b : Bool). cond b (Some i) (position_from (bytes_eq name) (i + 1) (map name_of qs)))
    (turned name q.proc.name.bytes)
    ∙ ap (λ (o : Option ℕ). cond (is_named name q) (Some i) o) (named name (i + 1) qs)

number_is : (name : List ℕ) (qs : List PortProc)
    → number_in (map name_of qs) name ≡ position_from (is_named name) 0 qs
number_is name qs = position_from-zero (bytes_eq name) (map name_of qs) ∙ named name 0 qs

place_is : (procs : List PortProc) (names : List (List (List ℕ))) (leaders : Leaders) (p : ℕ) (name : List ℕ)
    → IsTable procs names leaders
    → number_in (slice_index_or names p []) name ≡ place_named procs p name
place_is procs names leaders p name table =
    ap (λ (ns : List (List ℕ)). number_in ns name) (table.names_are p) ∙ number_is name (filter (on_port p) procs)

-- .. and no process has a name that is none
unnamed : (name : List ℕ) (q : PortProc) → is_name name ≡ false → HasName q → is_named name q ≡ false
unnamed name q none good = not_true (is_named name q)
    (λ k. both_ways (is_name name) none
    (subst (λ (n : List ℕ). is_name n ≡ true) ((bytes_eq-Decides q.proc.name.bytes name).0 k) good))

passed_over : (here : Bool) (name : List ℕ) (i : ℕ) (q : PortProc) (qs : List PortProc)
    → is_named name q ≡ false
    → position_from (is_named name) i qs ≡ None
    → position_from (is_named name) (i + 1) qs ≡ None
    → position_from (is_named name) i (cond here (q ∷ qs) qs) ≡ None
passed_over true name i q qs other now later =
    ap (λ (b : Bool). cond b (Some i) (position_from (is_named name) (i + 1) qs)) other ∙ later
passed_over false name i q qs other now later = now

none_named : (name : List ℕ) (p i : ℕ) (qs : List PortProc)
    → is_name name ≡ false
    → All HasName qs
    → position_from (is_named name) i (filter (on_port p) qs) ≡ None
none_named name p i [] none all = refl
none_named name p i (q ∷ qs) none all =
    let rest = All-tail HasName q qs all in
    passed_over (on_port p q) name i q (filter (on_port p) qs) (unnamed name q none (All-head HasName q qs all))
    (none_named name p i qs none rest) (none_named name p (i + 1) qs none rest)

no_place : (procs : List PortProc) (names : List (List (List ℕ))) (leaders : Leaders) (p : ℕ) (name : List ℕ)
    → IsTable procs names leaders
    → is_name name ≡ false
    → None ≡ place_named procs p name
no_place procs names leaders p name table none = sym (none_named name p 0 procs none table.are_names)

-- ---- how many there are

count_is : (procs : List PortProc) (names : List (List (List ℕ))) (leaders : Leaders) (p : ℕ)
    → IsTable procs names leaders
    → length (slice_index_or names p []) ≡ count_by (on_port p) procs
count_is procs names leaders p table =
    ap (λ (ns : List (List ℕ)). length ns) (table.names_are p)
    ∙ length-map (filter (on_port p) procs) name_of
    ∙ length-filter (on_port p) procs

-- ---- the table as it grows

none_by : (t : Bool) (i : ℕ) (rest : Option ℕ) (any : Bool)
    → cond t (Some i) rest ≡ None
    → (rest ≡ None → any ≡ false)
    → (t || any) ≡ false
none_by true i rest any e later = absurd (cc)
none_by false i rest any e later = later e

none_any : (test : List ℕ → Bool) (i : ℕ) (names : List (List ℕ))
    → position_from test i names ≡ None
    → list_any test names ≡ false
none_any test i [] e = refl
none_any test i (name ∷ names) e = none_by (test name) i (position_from test (i + 1) names) (list_any test names) e
    (λ f. none_any test (i + 1) names f)

is_new : (procs : List PortProc) (p port : ℕ) (name : List ℕ)
    → place_named procs port name ≡ None
    → (port == p) ≡ true
    → list_any (bytes_eq name) (names_on p procs) ≡ false
is_new procs p port name first here = none_any (bytes_eq name) 0 (names_on p procs)
    (named name 0 (filter (on_port p) procs)
    ∙ subst (λ (n : ℕ). place_named procs n name ≡ None) (eqb-true port p here) first)

learned_is : (here : Bool) (names : List (List ℕ)) (q : PortProc)
    → (here ≡ true → list_any (bytes_eq q.proc.name.bytes) names ≡ false)
    → learned here names q.proc.name.bytes ≡ names ++ map name_of (cond here (q ∷ []) [])
learned_is true names q new =
    ap (λ (b : Bool). if b then names else names ++ q.proc.name.bytes ∷ []) (new refl)
learned_is false names q new = sym (append-nil names)

names_more : (p : ℕ) (procs : List PortProc) (q : PortProc)
    → names_on p (procs ++ q ∷ []) ≡ names_on p procs ++ map name_of (cond (on_port p q) (q ∷ []) [])
names_more p procs q =
    ap (λ (qs : List PortProc). map name_of qs) (filter-append (on_port p) procs (q ∷ []))
    ∙ map-append name_of (filter (on_port p) procs) (filter (on_port p) (q ∷ []))

or_false : (b : Bool) → b ≡ (b || false)
or_false true = refl
or_false false = refl

one_more : (procs : List PortProc) (q : PortProc) (names new_names : List (List (List ℕ)))
    (leaders new_leaders : Leaders)
    → IsTable procs names leaders
    → HasName q
    → place_named procs q.port q.proc.name.bytes ≡ None
    → ((p : ℕ)
    → slice_index_or new_names p [] ≡ learned (q.port == p) (slice_index_or names p []) q.proc.name.bytes)
    → ((p s : ℕ) → is_led new_leaders p s ≡ (is_led leaders p s || leads p s q))
    → IsTable (procs ++ q ∷ []) new_names new_leaders
one_more procs q names new_names leaders new_leaders table has first learns led = record {
  names_are = λ p.
      learns p
      ∙ ap (λ (ns : List (List ℕ)). learned (q.port == p) ns q.proc.name.bytes) (table.names_are p)
      ∙ learned_is (q.port == p) (names_on p procs) q (λ here. is_new procs p q.port q.proc.name.bytes first here)
      ∙ sym (names_more p procs q);
  leaders_are = λ p s.
      led p s
      ∙ ap (λ (b : Bool). b || leads p s q) (table.leaders_are p s)
      ∙ ap (λ (b : Bool). list_any (leads p s) procs || b) (or_false (leads p s q))
      ∙ sym (list_any-append (leads p s) procs (q ∷ []));
  are_names = All-append HasName procs (q ∷ []) table.are_names (All-cons HasName q [] has (All-nil HasName));
}

-- ---- what the functions of the table do

pub place_found : (procs view : List PortProc) (names given : List (List (List ℕ))) (leaders : Leaders) (p : ℕ)
    (name bytes : List ℕ) (r : Option ℕ)
    → IsTable procs names leaders
    → procs ≡ view
    → given ≡ names
    → bytes ≡ name
    → r ≡ number_in (slice_index_or given p []) bytes
    → r ≡ place_named view p name
place_found procs view names given leaders p name bytes r table seen lent is found =
    found
    ∙ ap (λ (ns : List (List (List ℕ))). number_in (slice_index_or ns p []) bytes) lent
    ∙ ap (λ (n : List ℕ). number_in (slice_index_or names p []) n) is
    ∙ place_is procs names leaders p name table
    ∙ ap (λ (ps : List PortProc). place_named ps p name) seen

pub not_found : (procs view : List PortProc) (names : List (List (List ℕ))) (leaders : Leaders) (p : ℕ)
    (name : List ℕ) (t : Bool)
    → IsTable procs names leaders
    → procs ≡ view
    → t ≡ is_name name
    → t ≡ false
    → None ≡ place_named view p name
not_found procs view names leaders p name t table seen is none =
    no_place procs names leaders p name table (sym is ∙ none)
    ∙ ap (λ (ps : List PortProc). place_named ps p name) seen

pub count_found : (procs view : List PortProc) (names given : List (List (List ℕ))) (leaders : Leaders) (p q r : ℕ)
    → IsTable procs names leaders
    → procs ≡ view
    → given ≡ names
    → q ≡ p
    → r ≡ length (slice_index_or given q [])
    → r ≡ count_by (on_port p) view
count_found procs view names given leaders p q r table seen lent same is =
    is
    ∙ ap (λ (ns : List (List (List ℕ))). length (slice_index_or ns q [])) lent
    ∙ ap (λ (n : ℕ). length (slice_index_or names n [])) same
    ∙ count_is procs names leaders p table
    ∙ ap (λ (ps : List PortProc). count_by (on_port p) ps) seen

grown_list : (procs room new_procs view : List PortProc) (proc : PortProc)
    → map bare procs ≡ view
    → room ≡ procs
    → new_procs ≡ room ++ proc ∷ []
    → map bare new_procs ≡ view ++ bare proc ∷ []
grown_list procs room new_procs view proc seen same is =
    ap (λ (ps : List PortProc). map bare ps) is
    ∙ map-append bare room (proc ∷ [])
    ∙ ap (λ (ps : List PortProc). map bare ps ++ bare proc ∷ []) same
    ∙ ap (λ (ps : List PortProc). ps ++ bare proc ∷ []) seen

pub grown : (procs room new_procs view : List PortProc) (proc : PortProc) (names new_names : List (List (List ℕ)))
    (leaders room_leaders new_leaders : Leaders) (port : ℕ)
    → IsTable (map bare procs) names leaders
    → map bare procs ≡ view
    → room ≡ procs
    → new_procs ≡ room ++ proc ∷ []
    → IsTrue (is_name proc.proc.name.bytes)
    → place_named view proc.port proc.proc.name.bytes ≡ None
    → port ≡ proc.port
    → ((p : ℕ)
    → slice_index_or new_names p [] ≡ learned (port == p) (slice_index_or names p []) proc.proc.name.bytes)
    → ((p s : ℕ) → is_led room_leaders p s ≡ is_led leaders p s)
    → ((p s : ℕ) → is_led new_leaders p s ≡ (is_led room_leaders p s || leads p s proc))
    → IsTable (map bare new_procs) new_names new_leaders
grown procs room new_procs view proc names new_names leaders room_leaders new_leaders port table seen same is
    has first here learns room_led led =
    subst (λ (ps : List PortProc). IsTable ps new_names new_leaders)
    (sym (grown_list procs room new_procs (map bare procs) proc refl same is))
    (one_more (map bare procs) (bare proc) names new_names leaders new_leaders table has
    (subst (λ (ps : List PortProc). place_named ps proc.port proc.proc.name.bytes ≡ None) (sym seen) first)
    (λ p.
    learns p
    ∙ ap (λ (n : ℕ). learned (n == p) (slice_index_or names p []) proc.proc.name.bytes) here)
    (λ p s. led p s ∙ ap (λ (b : Bool). b || leads p s proc) (room_led p s)))

-- ---- the reader's part

pub not_stood : (o : Option ℕ) (b : Bool) → (is_some o || b) ≡ false → o ≡ None
not_stood None b e = refl
not_stood (Some place) b e = absurd (cc)

pub exits_is : (b : Block) (r : JobsReading)
    → (let x : JobsReading = record r {
      open_block = (exited_by b r.exited).block;
      exited = (exited_by b r.exited).exited;
    } in x)
    ≡ exits b r
exits_is (block.Caller process) r = refl
exits_is block.Exited r = refl
exits_is block.Another r = refl
