-- The column of N_TTY is that of all that it has posted.
use Rattle.std.proofs.Common.{◌≡◌, ℕ, Bool, true, false, if◌then◌else◌, List, []}
use Rattle.std.proofs.Common.{◌∷◌, ◌++◌, refl, sym, ap, subst, ◌∙◌, append_assoc}
use Rattle.std.proofs.lemmas.List.{append-nil}
use Rattle.tty_base.specs.declared.characters.Flagged.{Flagged}
use Rattle.tty_modes.specs.Settings.{Settings, has_flag}
use Rattle.tty_modes.specs.declared.places.TheConstants.{ICANON}
use Rattle.opost_out.specs.Column.{PostedByte, column_after, column_of, posted_text_under}
use Rattle.opost_out.proofs.Columns.{column_after-append}
use Rattle.n_tty.specs.States.{NTtyState, fresh_tty, on_port}
use Rattle.n_tty.specs.Storing.{with_plain_input, plain_piece, after_recast}
use Rattle.n_tty.specs.Receiving.{after_character}
use Rattle.ldisc_switch.specs.declared.discipline.Disc.{Disc}
use Rattle.ldisc_switch.specs.declared.discipline.Disc.TheVariants as disc
use Rattle.ldisc_switch.specs.Happenings.{Conditions, Happening, character, read, write, flush}
use Rattle.ldisc_switch.specs.Happenings.{mode_change, ixoff_rule, packet_take, after_one, after_all}
use Rattle.ldisc_switch.specs.Posted.{new_tally, character_echo, text_at, text_of_all}
use Rattle.ldisc_switch.proofs.TakingLemmas.{taken_tells}

-- the column is that of this text; of N_SLIP nothing is said
abbrev ColumnIs : Disc → List PostedByte → Type 0
ColumnIs (disc.Tty tty) text = tty.column ≡ column_of text
ColumnIs (disc.Slip slip) text = Unit {0}

more_text : (text more : List PostedByte) (before after : ℕ)
    → before ≡ column_of text
    → after ≡ column_after before more
    → after ≡ column_of (text ++ more)
more_text text more before after h moved =
    moved ∙ ap (λ (column : ℕ). column_after column more) h ∙ sym (column_after-append 0 text more)

no_text : (text : List PostedByte) (column : ℕ) → column ≡ column_of text → column ≡ column_of (text ++ [])
no_text text column h = more_text text [] column column h refl

heard_column : (tty : NTtyState) (conditions : Conditions) (c : Flagged)
    → (after_character conditions.modes conditions.tick c (on_port tty conditions.output conditions.tally)).tty.column
    ≡ column_after tty.column (posted_text_under conditions.modes (character_echo conditions c tty))
heard_column tty conditions c = (taken_tells conditions.modes conditions.tick c.flag c.byte tty
    conditions.output conditions.tally new_tally new_tally refl).column_is

one_of_four : (v w : Bool) (tty plain ended : NTtyState) → plain.column ≡ tty.column → ended.column ≡ tty.column
    → (if v then (if w then tty else plain) else (if w then ended else tty)).column ≡ tty.column
one_of_four true true tty plain ended same_plain same_ended = refl
one_of_four true false tty plain ended same_plain same_ended = same_plain
one_of_four false true tty plain ended same_plain same_ended = same_ended
one_of_four false false tty plain ended same_plain same_ended = refl

recast_column : (old new : Settings) (tty : NTtyState) → (after_recast old new tty).column ≡ tty.column
recast_column old new tty =
    one_of_four (has_flag old ICANON) (has_flag new ICANON) tty (with_plain_input tty)
    (record tty { items = plain_piece tty.items }) refl refl

column_at : (state : Disc) (text : List PostedByte) (event : Happening)
    → ColumnIs state text
    → ColumnIs (after_one state event) (text ++ text_at state event)
column_at (disc.Tty tty) text (character conditions c) h =
    more_text text _ tty.column _ h (heard_column tty conditions c)
column_at (disc.Tty tty) text (read modes n) h = no_text text tty.column h
column_at (disc.Tty tty) text (write modes output bytes) h = more_text text _ tty.column _ h refl
column_at (disc.Tty tty) text flush h = no_text text tty.column h
column_at (disc.Tty tty) text (mode_change old new) h = more_text text [] tty.column _ h (recast_column old new tty)
column_at (disc.Tty tty) text ixoff_rule h = no_text text tty.column h
column_at (disc.Tty tty) text packet_take h = no_text text tty.column h
column_at (disc.Slip slip) text (character conditions c) h = tt
column_at (disc.Slip slip) text (read modes n) h = tt
column_at (disc.Slip slip) text (write modes output bytes) h = tt
column_at (disc.Slip slip) text flush h = tt
column_at (disc.Slip slip) text (mode_change old new) h = tt
column_at (disc.Slip slip) text ixoff_rule h = tt
column_at (disc.Slip slip) text packet_take h = tt

column_at_all : (state : Disc) (text : List PostedByte) (events : List Happening)
    → ColumnIs state text
    → ColumnIs (after_all state events) (text ++ text_of_all state events)
column_at_all state text [] h = subst (λ (list : List PostedByte). ColumnIs state list) (sym (append-nil text)) h
column_at_all state text (event ∷ events) h =
    subst (λ (list : List PostedByte). ColumnIs (after_all (after_one state event) events) list)
    (append_assoc text (text_at state event) (text_of_all (after_one state event) events))
    (column_at_all (after_one state event) (text ++ text_at state event) events (column_at state text event h))

pub column_of_posted : (tty : NTtyState) (events : List Happening)
    → disc.Tty tty ≡ after_all (disc.Tty fresh_tty) events
    → tty.column ≡ column_of (text_of_all (disc.Tty fresh_tty) events)
column_of_posted tty events h =
    subst (λ (state : Disc). ColumnIs state (text_of_all (disc.Tty fresh_tty) events)) (sym h)
    (column_at_all (disc.Tty fresh_tty) [] events refl)
