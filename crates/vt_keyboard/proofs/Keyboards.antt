-- What the keyboard's thread comes to on all consoles.
use Rattle.std.proofs.Common.{◌≡◌, ℕ, zero, suc, ◌<◌, List, [], ◌∷◌, Some, Result}
use Rattle.std.proofs.Common.{Ok, Err, length, take, refl, sym, subst, ◌∙◌, arith}
use Rattle.std.specs.Prelude.{OnOk, OnErr, Option, None, slice_get, slice_index_or}
use Rattle.std.proofs.lemmas.Option.{slice_get_within, slice_get-get_or}
use Rattle.tty_base.specs.declared.characters.Flagged.{Flagged}
use Rattle.tty_base.specs.declared.lines.LineStep.{LineStep}
use Rattle.tty_base.specs.declared.lines.LineStep.TheVariants.{Trigger}
use Rattle.uart_line.specs.LineState.{LineState, HasDone}
use Rattle.uart_line.specs.GoodSteps.{good_steps}
use Rattle.uart_line.specs.Received.{closed_script}
use Rattle.word_ring.specs.Ends.{PutterState}
use Rattle.tty_port.specs.declared.shared.SharedPort.{SharedPort}
use Rattle.many_threads.proofs.PartLemmas.{puts_more}
use Rattle.vt_consoles.specs.Seats.{BoardSeat}
use Rattle.vt_account.specs.Keyed.{key_line, keys_to}
use Rattle.vt_keyboard.specs.declared.console_ends.KeySeats.{KeySeats}
use Rattle.vt_keyboard.specs.Keying.{BeginsKeys, CanTakeAll, ChangesAll, DoesSteps, EndsKeys, PressesFirst, PressesKeys}
use Rattle.vt_keyboard.specs.Consoles.{CanEndIf, CanKeyAll, ConsoleComesIf, EndsAt}
use Rattle.vt_keyboard.specs.Consoles.{EndsIf, PairsAll, PlaysKeyboard}
use Rattle.vt_keyboard.proofs.Pressing.{does_more}

-- whatever the keyboard was answered, it pressed some keys
pub some_keys : {A E : Type 0} (r : Result A E) (n first : ℕ) (keys : List ℕ) (old new : BoardSeat)
    (lines noted : List LineState) (ends now : List (PutterState Flagged))
    → OnOk r (PressesKeys n first keys old new lines noted ends now)
    → OnErr r (PressesFirst n first keys old new lines noted ends now)
    → (ks : List ℕ) × PressesKeys n first ks old new lines noted ends now
some_keys (Ok x) n first keys old new lines noted ends now ok err = (keys, ok)
some_keys (Err d) n first keys old new lines noted ends now ok err = (take err.0 keys, err.2)

-- so many keys can be taken once they have begun
pub begun_can : (consoles n : ℕ) (ports : List (Option SharedPort)) (seats : List (Option KeySeats))
    (lines l1 : List LineState) (ends e1 : List (PutterState Flagged))
    → CanKeyAll consoles n ports seats lines ends
    → ChangesAll BeginsKeys lines l1 ends e1
    → CanTakeAll consoles n l1 e1
begun_can consoles n ports seats lines l1 ends e1 can begun = record {
  lines_of = begun.lines_of ∙ can.lines_of;
  ends_of = begun.ends_of ∙ can.ends_of;
  each = λ p m f at_m at_f.
      let lt : p < length lines = omega (arith, slice_get_within l1 p m at_m, begun.lines_of) in
      let lt' : p < length ends = omega (arith, slice_get_within e1 p f at_f, begun.ends_of) in
      let l = slice_index_or lines p m in
      let e = slice_index_or ends p f in
      let at_l : slice_get lines p ≡ Some l = slice_get-get_or lines p m lt in
      let at_e : slice_get ends p ≡ Some e = slice_get-get_or ends p f lt' in
      (begun.each p l m e f at_l at_m at_e at_f).can n (can.room p l at_l);
}

get_at : {X : Type 0} (xs : List X) (p : ℕ) → p < length xs → (x : X) × (slice_get xs p ≡ Some x)
get_at [] p lt = absurd (omega (arith, lt))
get_at (x ∷ xs) zero lt = (x, refl)
get_at (x ∷ xs) (suc p) lt = get_at xs p (omega (arith, lt))

-- what the steps of a line put leaves its end to come
can_if : (port : Option SharedPort) (s : Option KeySeats) (steps : List LineStep) (l m : LineState)
    (e f : PutterState Flagged)
    → (before : List LineStep) × HasDone l before
    → DoesSteps steps l m e f
    → CanEndIf port s e
    → CanEndIf port s f
can_if None s steps l m e f begins does was = tt
can_if (Some p) None steps l m e f begins does was = tt
can_if (Some p) (Some s) steps l m e f begins does was = record {
  line = record {
    here = was.line.here;
    not_over = was.line.not_over;
    ring = does.ring ∙ was.line.ring;
    sent = puts_more _ _ _ _ _ _ _ _ _ _ was.line.sent (does.hands_over begins.0 begins.1);
  };
  clock = was.clock;
}

-- a line that did its keys, and came to its end where its port is shared
comes_if : (port : Option SharedPort) (keys : List ℕ) (s t : Option KeySeats) (l m : LineState)
    (e g f : PutterState Flagged)
    → DoesSteps (closed_script (key_line keys)) l m e g
    → EndsIf port s t g f
    → ConsoleComesIf port keys s t l m e f
comes_if None keys s t l m e g f does over =
    subst (λ (x : PutterState Flagged). DoesSteps (closed_script (key_line keys)) l m e x) (sym over.1) does
comes_if (Some p) keys None t l m e g f does over =
    subst (λ (x : PutterState Flagged). DoesSteps (closed_script (key_line keys)) l m e x) (sym over.1) does
comes_if (Some p) keys (Some s) None l m e g f does over = absurd over
comes_if (Some p) keys (Some s) (Some t) l m e g f does over =
    record { line = over.line (key_line keys) l m e does; clock = over.clock }

module _ (consoles n first : ℕ) (keys : List ℕ) (old new : BoardSeat) (lines l1 l2 l3 : List LineState)
    (ends e1 e2 e3 : List (PutterState Flagged)) (lines_of : length l2 ≡ length lines)
    (ends_of : length e2 ≡ length ends) (begun : ChangesAll BeginsKeys lines l1 ends e1)
    (pressed : PressesKeys n first keys old new l1 l2 e1 e2) (ended : ChangesAll EndsKeys l2 l3 e2 e3) where
  pub did_all : (p : ℕ) (l m : LineState) (e f : PutterState Flagged)
      → slice_get lines p ≡ Some l
      → slice_get l3 p ≡ Some m
      → slice_get ends p ≡ Some e
      → slice_get e3 p ≡ Some f
      → DoesSteps (closed_script (key_line (keys_to p keys pressed.went))) l m e f
  did_all p l m e f at_l at_m at_e at_f =
      let in_lines = slice_get_within lines p l at_l in
      let in_ends = slice_get_within ends p e at_e in
      let lt1 : p < length l1 = omega (arith, in_lines, begun.lines_of) in
      let lt2 : p < length l2 = omega (arith, in_lines, lines_of) in
      let le1 : p < length e1 = omega (arith, in_ends, begun.ends_of) in
      let le2 : p < length e2 = omega (arith, in_ends, ends_of) in
      let a = slice_index_or l1 p l in
      let b = slice_index_or l2 p l in
      let c = slice_index_or e1 p e in
      let d = slice_index_or e2 p e in
      let at_a : slice_get l1 p ≡ Some a = slice_get-get_or l1 p l lt1 in
      let at_b : slice_get l2 p ≡ Some b = slice_get-get_or l2 p l lt2 in
      let at_c : slice_get e1 p ≡ Some c = slice_get-get_or e1 p e le1 in
      let at_d : slice_get e2 p ≡ Some d = slice_get-get_or e2 p e le2 in
      let mine = keys_to p keys pressed.went in
      let begins = (begun.each p l a e c at_l at_a at_e at_c).does in
      let takes = pressed.take p a b c d at_a at_b at_c at_d in
      let ends_it = ended.each p b m d f at_b at_m at_d at_f in
      does_more (key_line mine) (closed_script []) l b m e d f
      (does_more (Trigger 1 ∷ []) (good_steps mine) l a b e c d begins takes) ends_it

  -- the lines and clocks can end behind the keys
  pub can_end_all : (ports : List (Option SharedPort)) (seats : List (Option KeySeats)) (count : ℕ)
      → CanKeyAll consoles count ports seats lines ends
      → (p : ℕ) (port : Option SharedPort) (s : Option KeySeats) (f : PutterState Flagged)
      → slice_get ports p ≡ Some port
      → slice_get seats p ≡ Some s
      → slice_get e3 p ≡ Some f
      → CanEndIf port s f
  can_end_all ports seats count can p port s f at_port at_s at_f =
      let inside = slice_get_within ports p port at_port in
      let some_line : p < length lines = omega (arith, inside, can.ports_of, can.lines_of) in
      let some_end : p < length ends = omega (arith, inside, can.ports_of, can.ends_of) in
      let some_third : p < length l3 = omega (arith, some_line, lines_of, ended.lines_of) in
      let l = get_at lines p some_line in
      let e = get_at ends p some_end in
      let m = get_at l3 p some_third in
      can_if port s (closed_script (key_line (keys_to p keys pressed.went))) l.0 m.0 e.0 f
      (can.begins p l.0 e.0 l.1 e.1).done (did_all p l.0 m.0 e.0 f l.1 m.1 e.1 at_f)
      (can.can_end p port s e.0 at_port at_s e.1)

  pub plays_keyboard : (ports : List (Option SharedPort)) (seats seated : List (Option KeySeats))
      (now : List (PutterState Flagged)) (count : ℕ)
      → CanKeyAll consoles count ports seats lines ends
      → PairsAll (EndsAt ports) seats seated e3 now
      → PlaysKeyboard n first keys old new ports seats seated lines l3 ends now
  plays_keyboard ports seats seated now count can over = record {
    went = pressed.went;
    each_key = pressed.each_key;
    makes = pressed.makes;
    seats_of = over.firsts;
    lines_of = ended.lines_of ∙ lines_of;
    ends_of = over.seconds ∙ (ended.ends_of ∙ ends_of);
    comes = λ p port s t l m e f at_port at_s at_t at_l at_m at_e at_f.
        let third : p < length e3 = omega (arith, slice_get_within ends p e at_e, ends_of, ended.ends_of) in
        let g = slice_index_or e3 p e in
        let at_g : slice_get e3 p ≡ Some g = slice_get-get_or e3 p e third in
        comes_if port (keys_to p keys pressed.went) s t l m e g f (did_all p l m e g at_l at_m at_e at_g)
        (over.each p s t g f at_s at_t at_g at_f port at_port);
  }

-- what was pressed first comes to what is played first
pub plays_first : {A E : Type 0} (r : Result A E) (P : List ℕ → Type 0) (Q : List ℕ → Type 0) (keys : List ℕ)
    → ((ks : List ℕ) → P ks → Q ks)
    → OnErr r ((count : ℕ) × (count < length keys) × P (take count keys))
    → OnErr r ((count : ℕ) × (count < length keys) × Q (take count keys))
plays_first (Ok x) P Q keys f h = tt
plays_first (Err d) P Q keys f h = (h.0, h.1, f (take h.0 keys) h.2)
