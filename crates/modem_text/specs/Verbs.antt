-- The first words of the lines that a session with modem lines has beside those of every session.
use Rattle.std.specs.Prelude.{ℕ, List, [], ◌∷◌, Option, codes}
use Rattle.text_lines.specs.Values.{choice_of}
use Rattle.modem_text.specs.declared.verbs.ModemVerb.{ModemVerb}
use Rattle.modem_text.specs.declared.verbs.ModemVerb.TheVariants.{Modem, Dcd, Dsr, Cts, Ri, Mget, Mset}
use Rattle.modem_text.specs.declared.verbs.ModemVerb.TheVariants.{Mbis, Mbic, Softcar, Getcar, Hupcl, Msr}

-- what each is written as
abbrev pub verb_text : ModemVerb → List ℕ
verb_text Modem = codes "modem"
verb_text Dcd = codes "dcd"
verb_text Dsr = codes "dsr"
verb_text Cts = codes "cts"
verb_text Ri = codes "ri"
verb_text Mget = codes "mget"
verb_text Mset = codes "mset"
verb_text Mbis = codes "mbis"
verb_text Mbic = codes "mbic"
verb_text Softcar = codes "softcar"
verb_text Getcar = codes "getcar"
verb_text Hupcl = codes "hupcl"
verb_text Msr = codes "msr"

abbrev pub all_verbs : List ModemVerb
all_verbs = Modem ∷ Dcd ∷ Dsr ∷ Cts ∷ Ri ∷ Mget ∷ Mset ∷ Mbis ∷ Mbic ∷ Softcar ∷ Getcar ∷ Hupcl ∷ Msr ∷ []

-- the verb that a word is, if it is one
abbrev pub verb_of : List ℕ → Option ModemVerb
verb_of word = choice_of verb_text all_verbs word
