-- Legal lists, one event after another.
use Rattle.std.proofs.Common.{◌≡◌, List, [], ◌∷◌, ◌++◌, Bool, true, false, refl, sym, subst, Option, None, Some}
use Rattle.ocpi_types.specs.declared.config.Config.{Config}
use Rattle.cdr_checks.specs.Admission.{IsAdmitted}
use Rattle.cdr_checks.specs.declared.request.Command.{Command}
use Rattle.plain_house.specs.declared.event.Event.{Event}
use Rattle.plain_house.specs.Known.{known}
use Rattle.plain_house.specs.House.{verdict, events_after, Does}
use Rattle.plain_house.specs.Legal.{IsGiven, IsLegal}
use Rattle.plain_house.specs.Replies.{Reply, is_no_memory, with_event}
use Rattle.plain_house.proofs.GrownLemmas.{given_before, given_empty, given_push}

pub legal_before : (config : Config) (before later : List Event) → IsLegal config (before ++ later) → IsLegal config before
unfolding IsLegal
legal_before config before later legal = given_before (IsGiven config) before later legal

-- ---- one event more

pub legal_empty : (config : Config) → IsLegal config []
unfolding IsLegal
legal_empty config = given_empty (IsGiven config)

pub legal_push : (config : Config) (events : List Event) (e : Event) → IsLegal config events → IsGiven config events e → IsLegal config (events ++ e ∷ [])
unfolding IsLegal
legal_push config events e legal given = given_push (IsGiven config) events e legal given

pub legal_after : (config : Config) (events : List Event) (told : Command) → IsLegal config events → IsAdmitted config told → IsLegal config (events_after config events told)
legal_after config events told legal admitted = by (verdict config (known events) told).event refl
  where
    by : (added : Option Event) → (verdict config (known events) told).event ≡ added → IsLegal config (with_event events added)
    by None e = legal
    by (Some event) e = legal_push config events event legal (told, admitted, e)

-- what a reply leaves
pub legal_given : (config : Config) (events : List Event) (told : Command) (reply : Reply) (now : List Event) (lacking : Bool) → is_no_memory reply ≡ lacking
    → IsLegal config events → IsAdmitted config told → Does config events told reply now → IsLegal config now
legal_given config events told reply now true e legal admitted does = subst (IsLegal config) (sym (does.refused e).1) legal
legal_given config events told reply now false e legal admitted does = subst (IsLegal config) (sym (does.told e).1) (legal_after config events told legal admitted)
