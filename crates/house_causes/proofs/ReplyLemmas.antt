-- The reply whose cause has a reason.
use Rattle.std.proofs.Common.{◌≡◌, ◌∙◌, List, Option, Some, None, Result, Ok, Err, sym, ap, option_map}
use Rattle.ocpi_types.specs.declared.config.Config.{Config}
use Rattle.ocpi_types.specs.declared.refusal.Refusal.{Refusal}
use Rattle.cdr_checks.specs.declared.request.Authorize.{Authorize}
use Rattle.cdr_checks.specs.declared.request.Command.{Command}
use Rattle.plain_house.specs.declared.answer.Answer.{Answer}
use Rattle.plain_house.specs.declared.answer.Answer.TheVariants as answer
use Rattle.plain_house.specs.declared.event.Event.{Event}
use Rattle.house_causes.specs.Causes.{authorize_in, cause_of, not_covered, refused}
use Rattle.house_causes.specs.HouseCause.{refusal_by}
use Rattle.house_causes.specs.Laws.{cause_after, said_by_house}
use Rattle.house_causes.specs.Tokens.{blocked}
use Rattle.house_causes.specs.declared.house_cause.HouseCause.{HouseCause}
use Rattle.house_causes.proofs.SaidLemmas.{causes_say}

-- ---- the reply of a cause

module _ (config : Config) (events : List Event) (asked : Command) where
  -- a cause that is a refusal's is that of this refusal
  reply_of_cause : (reply : Result Answer Refusal) (cause : HouseCause) (why : Refusal) → cause_of config events asked reply ≡ Some cause
      → refusal_by cause.reason ≡ Some why → reply ≡ Err why
  reply_of_cause (Err other) cause why h says =
      let e : Some other ≡ Some why = sym (causes_say config events asked other cause h) ∙ says in
      let same : other ≡ why = cc in
      ap (λ (r : Refusal). Err r) same
  reply_of_cause (Ok answer.Blocked) cause why h says = of_blocked (authorize_in asked) h
    where
      of_blocked : (ask : Option Authorize) → option_map (λ it. blocked it) ask ≡ Some cause → Ok answer.Blocked ≡ Err why
      of_blocked None e = absurd (cc)
      of_blocked (Some it) e =
          let same : blocked it ≡ cause = cc in
          absurd (let no : None ≡ Some why = ap (λ (c : HouseCause). refusal_by c.reason) same ∙ says in cc)
  reply_of_cause (Ok (answer.NoCredit over)) cause why h says =
      let same : not_covered over ≡ cause = cc in
      absurd (let no : None ≡ Some why = ap (λ (c : HouseCause). refusal_by c.reason) same ∙ says in cc)
  reply_of_cause (Ok answer.Stored) cause why h says = absurd (cc)
  reply_of_cause (Ok answer.Unchanged) cause why h says = absurd (cc)
  reply_of_cause (Ok (answer.Allowed reference)) cause why h says = absurd (cc)
  reply_of_cause (Ok (answer.Released amount)) cause why h says = absurd (cc)
  reply_of_cause (Ok (answer.Accepted amount period)) cause why h says = absurd (cc)
  reply_of_cause (Ok (answer.Repeated amount period)) cause why h says = absurd (cc)
  reply_of_cause (Ok (answer.Closed period positions)) cause why h says = absurd (cc)
  reply_of_cause (Ok (answer.Settled amount)) cause why h says = absurd (cc)
  reply_of_cause (Ok (answer.Exposure holds debts limit)) cause why h says = absurd (cc)
  reply_of_cause (Ok (answer.Found amount period credited)) cause why h says = absurd (cc)
  reply_of_cause (Ok (answer.Statement rows)) cause why h says = absurd (cc)

  -- where the command is refused otherwise, it is not refused for the reason
  pub not_for_this : (cause other : HouseCause) (why : Refusal) → refusal_by cause.reason ≡ Some why → (said_by_house config events asked ≡ Err why → ⊥)
      → cause_after config events asked ≡ Some other → other.reason ≡ cause.reason → ⊥
  not_for_this cause other why says unlike h same =
      unlike (reply_of_cause (said_by_house config events asked) other why h (ap refusal_by same ∙ says))

  -- the same refusal's cause, if that refusal has a cause of another reason
  pub refused_so : (cause other : HouseCause) (why : Refusal) → refusal_by cause.reason ≡ Some why
      → cause_after config events asked ≡ Some other → other.reason ≡ cause.reason → refused config events asked why ≡ Some other
  refused_so cause other why says h same =
      sym (ap (cause_of config events asked) (reply_of_cause (said_by_house config events asked) other why h (ap refusal_by same ∙ says))) ∙ h
