-- What owns the putting end of a port through a pointer, as the machine has it.
use Rattle.std.proofs.Common.{◌≡◌, List, [], ◌∷◌, ◌++◌, refl, ap, ◌∙◌, Option}
use seplogic.Ra.Ura.{Ura}
use mir.Val.{Val, vstruct, of_list}
use types.Logic.{Logic}
use types.Kit.{Item, Goal, Seq, Step, step, ‵, ◌$◌, drop, fsplit, fjoin, fpick, fpack, feq_i, feq_l}
use denote.RattleType.{Valss}
use denote.Builtin.{RawPtr}
use denote.RawPtr.{Ptr, ptr_val}
use denote.Steps.{nothing}
use denote.Struct.Struct.{within}
use denote.Struct.Owning.{shape}
use Rattle.tty_device.specs.Lines.{PutEnd}
use Rattle.tty_c.specs.Owning.{end_owns}
use Rattle.tty_c.specs.contracts.lines.LineSlot as slot
use Rattle.tty_c.proofs.Machine.{slot_val}

module _ {M : Type 1} {𝓤 : Ura M} {𝓛 : Logic 𝓤} {K : Type 0} {Γ : List (Item 𝓤)} {G : Goal 𝓤 𝓛.H} where
  pub slot_out : K → (d : (slot.the_row).Denot) (vs : List Val)
      → (vs ≡ slot_val d.at ∷ [] → Seq K 𝓛 (‵ (end_owns d.end d.at) ∷ Γ) G)
      → Seq K 𝓛 (‵ ((slot.the_row).own_val d vs) ∷ Γ) G
  slot_out t d vs k =
      fsplit t $ fpick t (λ parts. fsplit t $ feq_l t (λ whole. fsplit t $ feq_l t (λ pointer. drop t $
      k (whole ∙ ap (λ (ws : List Val). vstruct (of_list (ws ++ [])) ∷ []) pointer))))

  pub slot_in : K → (at : Ptr) (end : Option PutEnd)
      → Step K 𝓛 (‵ ((slot.the_row).own_val (record { at = at; end = end }) (slot_val at ∷ [])) ∷ Γ) G
      (‵ (end_owns end at) ∷ Γ) G
  slot_in t at end = step (λ s. let v : Val = slot_val at in
      nothing t
      $ feq_i t (List Val) (ptr_val at ∷ []) (ptr_val at ∷ []) refl
      $ fjoin t
      $ feq_i t (List Val) (v ∷ []) (v ∷ []) refl
      $ fjoin t
      $
      fpack t (Valss (RawPtr ∷ [])) (within (shape slot.the_type) (at, tt) (v ∷ [])) (ptr_val at ∷ [], tt)
      $ fjoin t
      $ s)
