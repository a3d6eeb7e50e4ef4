-- `none` makes the struct of a pointer that owns nothing.
use Rattle.std.proofs.Common.{[], ◌∷◌, refl}
use Rattle.std.specs.Prelude.{None}
use base.Fml.{ftrue}
use types.Kit.{‵, raw, ◌$◌, ◌∵◌, !, qed, drop, join, suffices, done}
use types.Run.{no_more, and_then, returns, enter}
use types.ByLocal.{alloc_all, pass_all, free_all, look_at, get, sets}
use types.Part.{agg}
use denote.Exit.{yes}
use denote.Signature.{plain}
use denote.RawPtr.{RawPtr, ptr_val, rawptr_vals, rawptr_Tells, rawptr_Lawful}
use denote.Steps.{nothing}
use denote.Triple.Entry.{on_entry}
use denote.Triple.Walked.{Stays, stay_dropped, walk_of, says, ends_at, Goes-dropped}
use Rattle.std.proofs.raw_atomic.Walks.{proved}
use Rattle.clear_embedded.proofs.PointerValues.{one, held_good, held_in}
use Rattle.clear_embedded.specs.contracts.house_pointer.HousePointer.none as f
use Rattle.clear_embedded.proofs.house_pointer.HousePointer.none.Statement.{statement}
use Rattle.clear_embedded.proofs.house_pointer.HousePointer.none.Code as code

abbrev stayed : Stays f.ended.signature.params f.ended.kept
stayed = (stay_dropped _ yes, tt)

pub none_spec : {M : Type 1} → statement M
none_spec 𝓤 𝓛 𝓜 𝓡 wired =
    let c = f.clauses 𝓛 𝓜.mem 𝓡.returns in let W = walk_of 𝓛 f.ended stayed c in
    proved 𝓛 f.ended stayed c 𝓜 𝓡 (Goes-dropped 𝓛 0 (plain (λ _. RawPtr)) yes (λ κs x w. refl), tt)
    f.Key.name code.function (code.unfolded 𝓤 𝓛.H 𝓜 𝓡 wired)
    (λ κs. (rawptr_vals, tt)) (λ κs. (rawptr_Tells, tt)) (λ κs qs bounds a n are.
    let p = a.0 in let y : W.Ghost = ((κs, qs, bounds, a, (rawptr_vals p, tt)), n) in
    qed 𝓛 (raw (on_entry 𝓛 f.signature κs qs a y.0.4) ∷ ‵ ftrue ∷ []) ∵ drop ! $ drop ! $
    enter ! _ _ _ _ _ $ alloc_all ! (λ l. pass_all ! refl ((rawptr_Lawful 𝓛).typed p _ refl) $
    sets ! (agg ! (and_then ! (get ! refl) (no_more !))) refl (held_good p) $
    returns ! (look_at ! 0 refl) $ free_all ! refl $
    suffices ! _ (ends_at 𝓛 f.ended stayed c y (one (ptr_val p)) (record { at = p; standing = None }) (tt, tt) (tt, tt)) $
    says ! refl $ nothing ! $ held_in ! p None $ nothing ! $ nothing ! $ join ! $ nothing ! $ done !))
