-- The first words of lines.
use Rattle.std.specs.Prelude.{ℕ, List, [], ◌∷◌, Option, None, Some, codes, if◌then◌else◌}
use Rattle.std.specs.Option.{option_or}
use Rattle.text_lines.specs.Values.{choice_of}
use Rattle.session_text.specs.Verbs.{is_call, verb_of as session_verb_of}
use Rattle.vt_text.specs.declared.verbs.VtVerb.{VtVerb}
use Rattle.vt_text.specs.declared.verbs.VtVerb.TheVariants.{Header, Consoles, Phase, Caller, Keys}
use Rattle.vt_text.specs.declared.verbs.VtVerb.TheVariants.{Operator, Activate, State, End, Call}

-- what each is written as; a call is written as its own verb
abbrev pub verb_text : VtVerb → List ℕ
verb_text Header = codes "vt-session"
verb_text Consoles = codes "consoles"
verb_text Phase = codes "phase"
verb_text Caller = codes "caller"
verb_text Keys = codes "keys"
verb_text Operator = codes "operator"
verb_text Activate = codes "activate"
verb_text State = codes "state"
verb_text End = codes "end"
verb_text Call = []

abbrev pub item_verbs : List VtVerb
item_verbs = Header ∷ Consoles ∷ Phase ∷ Caller ∷ Keys ∷ Operator ∷ Activate ∷ State ∷ End ∷ []

-- the verb that a word is, if it is one
abbrev pub verb_of : List ℕ → Option VtVerb
verb_of word =
    option_or (choice_of verb_text item_verbs word) (if is_call (session_verb_of 1 word) then Some Call else None)
