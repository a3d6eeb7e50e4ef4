-- The machine value of a `HousePointer`. Assumes `Logic`.
use Rattle.std.proofs.Common.{◌≡◌, List, [], ◌∷◌, ◌++◌, refl, subst, lit<}
use Rattle.std.specs.Prelude.{Option}
use seplogic.Ra.Ura.{Ura}
use mir.Val.{Val, vstruct, vcons, vnil, of_list}
use types.Logic.{Logic}
use types.Kit.{Item, Goal, Seq, Step, step, ‵, ◌$◌, drop, fsplit, fjoin, fpick, fpack, feq_i, feq_l}
use denote.RattleType.{Valss}
use denote.Builtin.{RawPtr}
use denote.RawPtr.{Ptr, block_ptr, null_ptr, ptr_val}
use denote.Steps.{nothing}
use denote.Param.{layout}
use denote.Struct.Struct.{within}
use denote.Struct.Owning.{shape}
use Rattle.core.proofs.cell.Inside.{Good}
use Rattle.clear_embedded.specs.Owned.{may_free, owned}
use Rattle.clear_embedded.specs.contracts.house_pointer.HousePointer as pointer
use Rattle.clear_embedded.specs.contracts.answering_house.AnsweringHouse as house

abbrev pub one : Val → Val
one v = vstruct (vcons v vnil)

pub held_good : (p : Ptr) → Good (layout pointer.the_row) (one (ptr_val p))
held_good (block_ptr b o) = (tt, (tt, tt))
held_good null_ptr = (tt, (record { fits = lit< tt }, tt))

module _ {M : Type 1} {𝓤 : Ura M} {𝓛 : Logic 𝓤} {K : Type 0} {Γ : List (Item 𝓤)} {G : Goal 𝓤 𝓛.H} where
  pub held_in : K → (p : Ptr) (s : Option house.the_row.Denot)
      → Step K 𝓛 (‵ (pointer.the_row.own_val (record { at = p; standing = s }) (one (ptr_val p) ∷ [])) ∷ Γ) G (‵ (owned may_free house.the_row p s) ∷ Γ) G
  held_in t p s = step (λ k. let v : Val = one (ptr_val p) in
      nothing t $ feq_i t (List Val) (ptr_val p ∷ []) (ptr_val p ∷ []) refl $ fjoin t $ feq_i t (List Val) (v ∷ []) (v ∷ []) refl $ fjoin t $
      fpack t (Valss (RawPtr ∷ [])) (within (shape pointer.the_type) (p, tt) (v ∷ [])) (ptr_val p ∷ [], tt) $ fjoin t $ k)

  pub held_out : K → (d : pointer.the_row.Denot) (vs : List Val)
      → (vs ≡ one (ptr_val d.at) ∷ [] → Seq K 𝓛 (‵ (owned may_free house.the_row d.at d.standing) ∷ Γ) G)
      → Seq K 𝓛 (‵ (pointer.the_row.own_val d vs) ∷ Γ) G
  held_out t d vs k = fsplit t $ fpick t (λ vss. fsplit t $ feq_l t (λ ev. fsplit t $ feq_l t (λ ep. drop t $
      k (subst (λ (ps : List Val). vs ≡ vstruct (of_list (ps ++ [])) ∷ []) ep ev))))
