-- What owns a terminal through a pointer, as the machine has it: a `Loose` is a pointer and an allocator, a `Slot` a
-- pointer.
--     loose_out, loose_in      a `Loose` is [the value in memory, with the right to free it; the allocator]
--     slot_out, slot_in        a `Slot` is [what it owns beside its pointer]
use Rattle.std.proofs.Common.{◌≡◌, ℕ, List, [], ◌∷◌, ◌++◌, refl, ap, ◌∙◌, lit<, Option}
use mathlib.Core.Bool.{true, ◌&&◌}
use lib.Dec.{T}
use seplogic.Ra.Ura.{Ura}
use mir.Syntax.{impl, tnil, dnil, ty_ptr}
use mir.Raw.{raw as bare}
use mir.Val.{Val, vptr, vstruct, vcons, vnil, of_list, has_ty, WT}
use base.Logic.{never, fst∗}
use types.Logic.{Logic, sem}
use types.Kit.{Item, Goal, Seq, Step, step, ‵, ◌$◌, move, drop, fsplit, fjoin, fpick, fpack, feq_i, feq_l}
use denote.RattleType.{RattleType, Valss}
use denote.Builtin.{RawPtr}
use denote.Memory.{lone}
use denote.RawPtr.{Ptr, block_ptr, null_ptr, ptr_val, in_a_block}
use denote.Steps.{nothing}
use denote.Param.{layout}
use denote.Param.Laws.{Laws}
use denote.Struct.Struct.{within}
use denote.Struct.Owning.{shape}
use Rattle.core.specs.declared.alloc.Allocator.{Ghosts}
use Rattle.core.proofs.alloc.Calls.{Al, handle_tells}
use Rattle.core.proofs.cell.Inside.{Good}
use Rattle.std_alloc.specs.Box.Ownership.{box_owns}
use Rattle.std_alloc.proofs.ResultValues.{and_tt}
use Rattle.tty_embed.specs.Embedded.{Embedded}
use Rattle.tty_c.specs.Owning.{slot_owns}
use Rattle.tty_c.specs.contracts.loose.Loose as loose
use Rattle.tty_c.specs.contracts.slot.Slot as slot

abbrev pub pair_val : Val → Val → Val
pair_val v w = vstruct (vcons v (vcons w vnil))

abbrev pub slot_val : Ptr → Val
slot_val at = vstruct (vcons (ptr_val at) vnil)

pub ptr_good : (at : Ptr) → Good ty_ptr (ptr_val at)
ptr_good null_ptr = (tt, record { fits = lit< tt })
ptr_good (block_ptr b o) = (tt, tt)

pub slot_good : (at : Ptr) → T (has_ty ty_ptr (ptr_val at) && true) × WT (slot_val at)
slot_good at = (and_tt (has_ty ty_ptr (ptr_val at)) (ptr_good at).0, ((ptr_good at).1, tt))

module _ (R Z : RattleType) (L : Laws Z) (g : Ghosts Z.Denot) where
  abbrev pub Loosened : RattleType
  Loosened = loose.the_row R Z g

  abbrev pub allocator : Al
  allocator = record { row = Z; laws = L; g = g; d = impl [] tnil dnil; drops = impl [] tnil dnil }

  pub pair_good : (b o : ℕ) (h : Val) → Good (layout Z) h → T (has_ty (layout Z) h && true) × WT (pair_val (vptr b o) h)
  pair_good b o h fits = (and_tt (has_ty (layout Z) h) fits.0, (tt, (fits.1, tt)))

  module _ {M : Type 1} {𝓤 : Ura M} {𝓛 : Logic 𝓤} {K : Type 0} {Γ : List (Item 𝓤)} {G : Goal 𝓤 𝓛.H} where
    pub loose_out : K → (d : Loosened.Denot) (vs : List Val)
        → ((b o : ℕ) (h : Val)
        → vs ≡ pair_val (vptr b o) h ∷ []
        → Good (layout Z) h
        → Seq K 𝓛
        (‵ (box_owns (g.dealloc_token d.alloc) R (block_ptr b o) d.value) ∷ ‵ (Z.own_val d.alloc (h ∷ [])) ∷ Γ) G)
        → Seq K 𝓛 (‵ (Loosened.own_val d vs) ∷ Γ) G
    loose_out t d vs k =
        fsplit t
        $ fpick t (λ parts.
        fsplit t
        $ feq_l t
        (λ whole. fsplit t $ feq_l t (λ pointer. fsplit t $ handle_tells allocator t d.alloc parts.1.0 (λ h alloc fits.
        move t (1 ∷ []) $ drop t $ move t (1 ∷ []) $
        in_a_block t d.at (λ p. box_owns (g.dealloc_token d.alloc) R p d.value)
        (fst∗ 𝓤 (never 𝓤) (sem 𝓛 (g.dealloc_token d.alloc (bare (lone R.mir)) null_ptr))) (λ b o at.
        k b o h
        (whole
        ∙ ap (λ (ws : List Val). vstruct (of_list (ws ++ (parts.1.0 ++ []))) ∷ [])
        (pointer ∙ ap (λ (p : Ptr). ptr_val p ∷ []) at)
        ∙ ap (λ (ws : List Val). vstruct (of_list (vptr b o ∷ (ws ++ []))) ∷ []) alloc) fits)))))

    pub loose_in : K → (b o : ℕ) (h : Val) (a : Z.Denot) (x : R.Denot)
        → Step K 𝓛
        (‵ (Loosened.own_val (record { at = block_ptr b o; alloc = a; value = x }) (pair_val (vptr b o) h ∷ [])) ∷ Γ) G
        (‵ (box_owns (g.dealloc_token a) R (block_ptr b o) x) ∷ ‵ (Z.own_val a (h ∷ [])) ∷ Γ) G
    loose_in t b o h a x = step (λ s. let v : Val = pair_val (vptr b o) h in
        nothing t
        $ move t (2 ∷ 0 ∷ [])
        $ fjoin t
        $ feq_i t (List Val) (vptr b o ∷ []) (vptr b o ∷ []) refl
        $ fjoin t
        $ feq_i t (List Val) (v ∷ []) (v ∷ []) refl
        $ fjoin t
        $
        fpack t (Valss (RawPtr ∷ Z ∷ [])) (within (shape (loose.the_type R Z g)) (block_ptr b o, (a, tt)) (v ∷ []))
        (vptr b o ∷ [], (h ∷ [], tt))
        $ fjoin t
        $ s)

module _ {M : Type 1} {𝓤 : Ura M} {𝓛 : Logic 𝓤} {K : Type 0} {Γ : List (Item 𝓤)} {G : Goal 𝓤 𝓛.H} where
  pub slot_out : K → (d : (slot.the_row).Denot) (vs : List Val)
      → (vs ≡ slot_val d.at ∷ [] → Seq K 𝓛 (‵ (slot_owns d.tty d.at) ∷ Γ) G)
      → Seq K 𝓛 (‵ ((slot.the_row).own_val d vs) ∷ Γ) G
  slot_out t d vs k =
      fsplit t $ fpick t (λ parts. fsplit t $ feq_l t (λ whole. fsplit t $ feq_l t (λ pointer. drop t $
      k (whole ∙ ap (λ (ws : List Val). vstruct (of_list (ws ++ [])) ∷ []) pointer))))

  pub slot_in : K → (at : Ptr) (tty : Option Embedded)
      → Step K 𝓛 (‵ ((slot.the_row).own_val (record { at = at; tty = tty }) (slot_val at ∷ [])) ∷ Γ) G
      (‵ (slot_owns tty at) ∷ Γ) G
  slot_in t at tty = step (λ s. let v : Val = slot_val at in
      nothing t
      $ feq_i t (List Val) (ptr_val at ∷ []) (ptr_val at ∷ []) refl
      $ fjoin t
      $ feq_i t (List Val) (v ∷ []) (v ∷ []) refl
      $ fjoin t
      $
      fpack t (Valss (RawPtr ∷ [])) (within (shape slot.the_type) (at, tt) (v ∷ [])) (ptr_val at ∷ [], tt)
      $ fjoin t
      $ s)
