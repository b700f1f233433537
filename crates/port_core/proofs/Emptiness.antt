-- A list for proofs alone owns nothing, as the machine has it.
use Rattle.std.proofs.Common.{List, [], ◌∷◌, refl}
use seplogic.Ra.Ura.{Ura}
use mir.Val.{Val, vstruct, vnil}
use base.Fml.{ftrue}
use types.Logic.{Logic}
use types.Kit.{Item, Goal, Step, step, ‵, ◌$◌, fjoin, fpack, feq_i}
use denote.RattleType.{Valss}
use denote.Steps.{nothing}
use denote.Struct.Struct.{within}
use denote.Struct.Owning.{shape}
use Rattle.port_core.specs.Ports.{PlainKept}
use Rattle.port_core.specs.contracts.asked.AskedCalls as asked

abbrev pub empty_val : Val
empty_val = vstruct vnil

module _ {M : Type 1} {𝓤 : Ura M} {𝓛 : Logic 𝓤} {K : Type 0} {Γ : List (Item 𝓤)} {G : Goal 𝓤 𝓛.H} where
  pub asked_in : K → (ks : List PlainKept)
      → Step K 𝓛 (‵ ((asked.the_row).own_val (record { items = ks }) (empty_val ∷ [])) ∷ Γ) G (‵ ftrue ∷ Γ) G
  asked_in t ks = step (λ s.
      nothing t $ feq_i t (List Val) (empty_val ∷ []) (empty_val ∷ []) refl $ fjoin t $
      fpack t (Valss []) (within (shape asked.the_type) tt (empty_val ∷ [])) tt $ fjoin t $ s)
