use Rattle.std.proofs.Common.{rules, List, Vec, Global, map, subst, sym}
use Rattle.std.proofs.lemmas.List.Elements.{All-map}
use Rattle.shared_house.specs.Points.{AreAdmitted, AreAllAdmitted}
use Rattle.shared_house.specs.declared.call.Call.{Call}
use Rattle.checks.proofs.shared.changes.tell_with_order.Goals as goal

pub certify-certified-requires : goal.certify-certified-requires
certify-certified-requires g c = (
  search rules,
  subst (λ (l : List (Vec Call Global)). AreAllAdmitted c.args.config.now (map (λ (calls : Vec Call Global). calls.items) l)) (sym c.as_slice-3.ensures.value)
      (All-map (AreAdmitted c.args.config.now) (λ (calls : Vec Call Global). calls.items) c.args.gathered.now.calls.items c.requires),
)
