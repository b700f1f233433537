-- A list for proofs alone owns nothing, as the machine has it.
use Rattle.std.proofs.Common.{List, [], ◌∷◌, refl}
use seplogic.Ra.Ura.{Ura}
use mir.Val.{Val, vstruct, vnil}
use base.Fml.{ftrue}
use types.Logic.{Logic}
use types.Kit.{Item, Goal, Step, step, ‵, ◌$◌, fjoin, fpack, feq_i}
use denote.RattleType.{Valss}
use denote.Steps.{nothing}
use denote.Struct.Struct.{within}
use denote.Struct.Owning.{shape}
use Rattle.tty_device.specs.Kept.{Taken}
use Rattle.tty_device.specs.contracts.taken.TakenChars as chars

abbrev pub empty_val : Val
empty_val = vstruct vnil

module _ {M : Type 1} {𝓤 : Ura M} {𝓛 : Logic 𝓤} {K : Type 0} {Γ : List (Item 𝓤)} {G : Goal 𝓤 𝓛.H} where
  pub taken_in : K → (xs : List Taken)
      → Step K 𝓛 (‵ ((chars.the_row).own_val (record { items = xs }) (empty_val ∷ [])) ∷ Γ) G (‵ ftrue ∷ Γ) G
  taken_in t xs = step (λ s.
      nothing t $ feq_i t (List Val) (empty_val ∷ []) (empty_val ∷ []) refl $ fjoin t $
      fpack t (Valss []) (within (shape chars.the_type) tt (empty_val ∷ [])) tt $ fjoin t $ s)
