-- What follows from the event of a verdict.
use Rattle.std.proofs.Common.{◌≡◌, List, [], ◌∷◌, refl, Option, None, Some}
use Rattle.ocpi_types.specs.declared.refusal.Refusal.{Refusal}
use Rattle.plain_house.specs.declared.event.Event.{Event}
use Rattle.plain_house.specs.Verdict.{Verdict, Case, refused_for, unless}

-- no case holds
abbrev pub NoneHolds : List Case → Type 0
NoneHolds [] = Unit {0}
NoneHolds (case ∷ cases) = (case ≡ None) × NoneHolds cases

-- where an event is added, no case holds, and it is the verdict's
pub unless_event : (cases : List Case) (verdict : Verdict) (e : Event) → (unless cases verdict).event ≡ Some e → NoneHolds cases × (verdict.event ≡ Some e)
unless_event [] verdict e h = (tt, h)
unless_event (None ∷ cases) verdict e h = let rest = unless_event cases verdict e h in ((refl, rest.0), rest.1)
unless_event (Some reply ∷ cases) verdict e h = absurd (cc)

pub no_refusal : (found : Option Refusal) → refused_for found ≡ None → found ≡ None
no_refusal None h = refl
no_refusal (Some refusal) h = absurd (cc)
