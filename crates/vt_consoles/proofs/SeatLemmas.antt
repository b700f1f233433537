-- What a turn adds to what a seat knows.
use Rattle.std.specs.Prelude.{IfOk, IfErr, OnErr}
use Rattle.std.proofs.Common.{◌≡◌, ℕ, ◌+◌, List, [], ◌∷◌, ◌++◌, map, append-nil, false, inl, arith}
use Rattle.std.proofs.Common.{Option, Some, is_some, Result, Ok, Err, refl, sym, ap, subst, ◌∙◌}
use Rattle.std.proofs.lemmas.List.{map-append}
use Rattle.port_cell.specs.declared.kept.Stamped.{Stamped}
use Rattle.port_cell.specs.Entries.{generation_of, entries_by, Keeps, AddsBy}
use Rattle.port_cell.specs.Views.{bit_of, raises_of}
use Rattle.port_cell.specs.Knowledge.{number_of, name_of as seat_name, list_seen}
use Rattle.port_cell.specs.Knowledge.{own_entries, is_raised, generation_installed, MayNote}
use Rattle.port_cell.specs.Seats.{in_hand, IsNew, AllNew, EachSeat}
use Rattle.port_cell.proofs.OwnEntries.{entries_by_kept, entries_by_added}
use Rattle.vt_consoles.specs.declared.entries.VtEntry.{VtEntry}
use Rattle.vt_consoles.specs.declared.entries.VtEvent.{VtEvent}
use Rattle.vt_consoles.specs.declared.kept_board.BoardName.{BoardName}
use Rattle.vt_consoles.specs.declared.shared.SharedBoard.{SharedBoard}
use Rattle.vt_consoles.specs.Runs.{NamesRightly}
use Rattle.vt_consoles.specs.Boards.{BoardState, HasRoom, Adds, active_on, with_entry}
use Rattle.vt_consoles.specs.Histories.{stamped, history_of, name_of, board_with}
use Rattle.vt_consoles.proofs.RunLemmas.{no_generation}
use Rattle.vt_consoles.specs.Seats.{BoardSeat, Makes, MakesNone}
use Rattle.vt_consoles.specs.Shared.{IsHere, AreHere, table_of, name_of_board}

entries_back : (entries : List VtEntry)
    → map (λ (x : Stamped VtEvent). record { seat = x.seat; event = x.what })
    (map (λ (e : VtEntry). stamped e.seat e.event) entries) ≡ entries
entries_back [] = refl
entries_back (e ∷ entries) = ap (λ (l : List VtEntry). e ∷ l) (entries_back entries)

-- a board is told by its name and its history
pub board_back : (b : BoardState) → board_with (name_of b) (history_of b) ≡ b
board_back b = λ i. record { consoles = b.consoles; limit = b.limit; entries = entries_back b.entries i }

history_with : (b : BoardState) (n : ℕ) (event : VtEvent)
    → history_of (with_entry b n event) ≡ history_of b ++ stamped n event ∷ []
history_with b n event =
    map-append (λ (e : VtEntry). stamped e.seat e.event) b.entries (record { seat = n; event = event } ∷ [])

pub adds_history : (n : ℕ) (event : VtEvent) (b w : BoardState)
    → Adds n event b w
    → history_of w ≡ history_of b ++ stamped n event ∷ []
adds_history n event b w h = ap history_of h.adds ∙ history_with b n event

-- what a call of the board adds to its history, and that its name stays
pub adds_either : {A E : Type 0} (r : Result A E) (n : ℕ) (event : A → VtEvent) (b w : BoardState)
    → IfOk r (λ x. Adds n (event x) b w)
    → OnErr r (w ≡ b)
    → AddsBy n (history_of b) (history_of w)
adds_either (Ok x) n event b w h k = (stamped n (event x) ∷ [], adds_history n (event x) b w h, (refl, tt))
adds_either (Err d) n event b w h k = ([], ap history_of k ∙ sym (append-nil (history_of b)), tt)

pub named_either : {A E : Type 0} (r : Result A E) (n : ℕ) (event : A → VtEvent) (b w : BoardState)
    → IfOk r (λ x. Adds n (event x) b w)
    → OnErr r (w ≡ b)
    → name_of w ≡ name_of b
named_either (Ok x) n event b w h k = ap name_of h.adds
named_either (Err d) n event b w h k = ap name_of k

own_now : (n : ℕ) (s : BoardSeat) (xs : List (Stamped VtEvent))
    → number_of s ≡ n
    → list_seen s ≡ xs
    → own_entries s ≡ entries_by n xs
own_now n s xs number seen = ap (λ (k : ℕ). entries_by k (list_seen s)) number ∙ ap (entries_by n) seen

-- What the seat with this number found in its turn, and has seen behind it: the board before it and after it.
pub record Turned (name : BoardName) (n : ℕ) (old new : BoardSeat) (b w : BoardState) : Type 0 where
  pub named : name_of b ≡ name
  pub was : number_of old ≡ n
  pub now : number_of new ≡ n
  pub keeps : Keeps n (list_seen old) (history_of b)
  pub seen : list_seen new ≡ history_of w

board_found : (name : BoardName) (b : BoardState) → name_of b ≡ name → board_with name (history_of b) ≡ b
board_found name b named = subst (λ (m : BoardName). board_with m (history_of b) ≡ b) named (board_back b)

pub made : (name : BoardName) (n : ℕ) (event : VtEvent) (old new : BoardSeat) (b w : BoardState)
    → Turned name n old new b w
    → Adds n event b w
    → Makes name n event old new
made name n event old new b w t h =
    let same : board_with name (history_of b) ≡ b = board_found name b t.named in
    let added : list_seen new ≡ history_of b ++ stamped n event ∷ [] = t.seen ∙ adds_history n event b w h in
    let by : AddsBy n (history_of b) (history_of b ++ stamped n event ∷ []) =
    (stamped n event ∷ [], refl, (refl, tt)) in
    record {
      before = history_of b;
      found = t.keeps;
      rightly = subst (λ (x : BoardState). NamesRightly x.consoles (active_on x) event) (sym same) h.rightly;
      room = subst HasRoom (sym same) h.room;
      added = added;
      own =
          own_now n new (history_of b ++ stamped n event ∷ []) t.now added
          ∙ entries_by_added n (history_of b) (history_of b ++ stamped n event ∷ []) by
          ∙ ap (λ (xs : List (Stamped VtEvent)). xs ++ stamped n event ∷ [])
          (entries_by_kept n (list_seen old) (history_of b) t.keeps ∙ sym (own_now n old (list_seen old) t.was refl));
    }

pub made_none : (name : BoardName) (n : ℕ) (old new : BoardSeat) (b w : BoardState)
    → Turned name n old new b w
    → w ≡ b
    → MakesNone n old new
made_none name n old new b w t same =
    let seen : list_seen new ≡ history_of b = t.seen ∙ ap history_of same in
    record {
      found = subst (Keeps n (list_seen old)) (sym seen) t.keeps;
      own =
          own_now n new (history_of b) t.now seen
          ∙ entries_by_kept n (list_seen old) (history_of b) t.keeps
          ∙ sym (own_now n old (list_seen old) t.was refl);
    }

-- where nothing was added, the seat has seen the board that it found
pub board_seen : (name : BoardName) (n : ℕ) (old new : BoardSeat) (b w : BoardState)
    → Turned name n old new b w
    → w ≡ b
    → b ≡ board_with name (list_seen new)
board_seen name n old new b w t same =
    sym (board_found name b t.named) ∙ ap (board_with name) (sym (t.seen ∙ ap history_of same))

some_name : (x y : BoardName) (o : Option BoardName) → o ≡ Some x → o ≡ Some y → y ≡ x
some_name x y o h k = cc

-- the board that a turn of the seat with the number n found has the name that the seat knows
pub found_name : (name : BoardName) (s : BoardSeat) (b : BoardState)
    → seat_name s ≡ Some name
    → seat_name s ≡ Some (name_of b)
    → name_of b ≡ name
found_name name s b h k = some_name name (name_of b) (seat_name s) h k

-- ---- seats of a new shared board

is_here : (p : SharedBoard) (xs : List (Stamped VtEvent)) (n : ℕ) (s : BoardSeat)
    → IsNew (table_of p) (name_of_board p) xs n s
    → IsHere p n s × (list_seen s ≡ xs)
is_here p xs n s h =
    let me = h.1.1 in (
      record {
        seat = record {
          table = h.0;
          named = ap (λ m. is_some m.0.name) me;
          hand = ap (λ m. m.1) me ∙ sym (ap (λ m. in_hand m.0.turn) me);
        };
        number = ap (λ m. m.0.number) me;
        named = ap (λ m. m.0.name) me;
        free = ap (λ m. m.0.user) me;
        no_turn = ap (λ m. m.0.turn) me;
      },
      ap (λ m. m.0.seen) me,
    )

pub are_here : (p : SharedBoard) (xs : List (Stamped VtEvent)) (n : ℕ) (ss : List BoardSeat)
    → AllNew (table_of p) (name_of_board p) xs n ss
    → AreHere p xs n ss
are_here p xs n [] h = tt
are_here p xs n (s ∷ ss) h = (is_here p xs n s h.0, are_here p xs (n + 1) ss h.1)

pub each_both : (P Q R : BoardSeat → Type 0)
    → ((s : BoardSeat) → P s → Q s → R s)
    → (ss : List BoardSeat)
    → EachSeat P ss
    → EachSeat Q ss
    → EachSeat R ss
each_both P Q R f [] h k = tt
each_both P Q R f (s ∷ ss) h k = (f s h.0 k.0, each_both P Q R f ss h.1 k.1)

-- ---- the generation is always 0

pub installed_same : (s : BoardSeat) (b : BoardState)
    → is_raised s ≡ false
    → generation_of (list_seen s) ≡ 0
    → generation_of (history_of b) ≡ generation_installed s
installed_same s b low zero =
    let bit : raises_of s.me.0 ≡ 0 = ap bit_of low in
    let none : generation_of (history_of b) ≡ 0 = no_generation b.entries in omega arith

pub may_note : (s : BoardSeat) (b : BoardState)
    → is_raised s ≡ false
    → generation_of (list_seen s) ≡ 0
    → MayNote s (generation_of (history_of b))
may_note s b low zero = inl (installed_same s b low zero)

-- ---- one turn

-- the board that the seat with this number found in its turn, and what it knows since
pub record IsTurn (p : SharedBoard) (n : ℕ) (old now : BoardSeat) (b : BoardState) : Type 0 where
  pub named : name_of b ≡ name_of_board p
  pub was : number_of old ≡ n
  pub keeps : Keeps n (list_seen old) (history_of b)
  pub number : number_of now ≡ n
  pub knows : seat_name now ≡ Some (name_of b)
  pub seen : list_seen now ≡ history_of b

pub is_turn : (p : SharedBoard) (n : ℕ) (old now : BoardSeat) (v b : BoardState)
    → IsHere p n old
    → seat_name old ≡ Some (name_of v)
    → Keeps (number_of old) (list_seen old) (history_of v)
    → number_of now ≡ number_of old
    → seat_name now ≡ seat_name old
    → list_seen now ≡ history_of v
    → b ≡ v
    → IsTurn p n old now b
is_turn p n old now v b here named keeps number name seen same =
    subst (IsTurn p n old now) (sym same)
    (record {
      named = found_name (name_of_board p) old v here.named named;
      was = here.number;
      keeps = subst (λ (k : ℕ). Keeps k (list_seen old) (history_of v)) here.number keeps;
      number = number ∙ here.number;
      knows = name ∙ named;
      seen = seen;
    })

pub name_after : (p : SharedBoard) (n : ℕ) (old now : BoardSeat) (b w : BoardState)
    → IsTurn p n old now b
    → name_of w ≡ name_of b
    → seat_name now ≡ Some (name_of w)
name_after p n old now b w t e = t.knows ∙ ap (λ (x : BoardName). Some x) (sym e)

pub list_after : (p : SharedBoard) (n : ℕ) (old now : BoardSeat) (b w : BoardState)
    → IsTurn p n old now b
    → AddsBy n (history_of b) (history_of w)
    → AddsBy (number_of now) (list_seen now) (history_of w)
list_after p n old now b w t adds =
    subst (λ (k : ℕ). AddsBy k (list_seen now) (history_of w)) (sym t.number)
    (subst (λ (l : List (Stamped VtEvent)). AddsBy n l (history_of w)) (sym t.seen) adds)

pub zero_after : (p : SharedBoard) (n : ℕ) (old now : BoardSeat) (b : BoardState)
    → IsTurn p n old now b
    → generation_of (list_seen now) ≡ 0
zero_after p n old now b t = ap generation_of t.seen ∙ no_generation b.entries

pub turned : (p : SharedBoard) (n : ℕ) (old now new : BoardSeat) (b w : BoardState)
    → IsTurn p n old now b
    → number_of new ≡ number_of now
    → list_seen new ≡ history_of w
    → Turned (name_of_board p) n old new b w
turned p n old now new b w t number seen =
    record { named = t.named; was = t.was; now = number ∙ t.number; keeps = t.keeps; seen = seen }

-- what a call comes to, by what it does to the board
pub each_made : {A E : Type 0} (r : Result A E) (name : BoardName) (n : ℕ) (event : A → VtEvent) (old new : BoardSeat)
    (b w : BoardState)
    → Turned name n old new b w
    → IfOk r (λ x. Adds n (event x) b w)
    → IfOk r (λ x. Makes name n (event x) old new)
each_made (Ok x) name n event old new b w t h = made name n (event x) old new b w t h
each_made (Err d) name n event old new b w t h = tt

pub each_none : {A E : Type 0} (r : Result A E) (name : BoardName) (n : ℕ) (old new : BoardSeat) (b w : BoardState)
    → Turned name n old new b w
    → OnErr r (w ≡ b)
    → OnErr r (MakesNone n old new)
each_none (Ok x) name n old new b w t h = tt
each_none (Err d) name n old new b w t h = made_none name n old new b w t h

-- why it was refused, by the board that the seat has seen
pub each_refused : {A E : Type 0} (r : Result A E) (name : BoardName) (n : ℕ) (old new : BoardSeat) (b w : BoardState)
    (P : BoardState → E → Type 0)
    → Turned name n old new b w
    → OnErr r (w ≡ b)
    → IfErr r (P b)
    → IfErr r (P (board_with name (list_seen new)))
each_refused (Ok x) name n old new b w P t h k = tt
each_refused (Err d) name n old new b w P t h k =
    subst (λ (x : BoardState). P x d) (board_seen name n old new b w t h) k
