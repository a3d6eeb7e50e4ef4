-- What the answers of calls promise.
use Rattle.std.proofs.Common.{◌≡◌, ◌≤◌, ◌+◌, ◌≤ℤ◌, ◌+ℤ◌, ◌&&◌, ◌==◌, ℕ, ℤ, pos, List, [], ◌∷◌, append-nil, Bool, true, false, refl, sym, ap, ap₂, ◌∙◌, subst, arith, if◌then◌else◌, Option, None, Some, Result, Ok, Err}
use Rattle.std.specs.List.{list_all}
use Rattle.std.proofs.lemmas.Int.{ints}
use Rattle.ocpi_types.specs.declared.refusal.Refusal.{Refusal}
use Rattle.ocpi_types.specs.declared.refusal.Refusal.TheVariants as refusal
use Rattle.ocpi_types.specs.declared.refusal.Store.{Store}
use Rattle.ocpi_types.specs.declared.refusal.Store.TheVariants as store
use Rattle.ocpi_types.specs.declared.party.Party.{Party}
use Rattle.ocpi_types.specs.Config.{has_currency_among, limit_of}
use Rattle.cdr_checks.specs.declared.request.Command.TheVariants as command
use Rattle.netting_positions.specs.declared.obligation.Obligation.{Obligation}
use Rattle.netting_positions.specs.declared.positions.NetPosition.{NetPosition}
use Rattle.netting_positions.specs.Laws.{NetPositionsAreBalanced, PartiesAreDifferent}
use Rattle.netting_positions.specs.Netting.{IsBalanced, are_among, is_among, is_configured, parties}
use Rattle.plain_house.specs.declared.answer.Answer.{Answer}
use Rattle.plain_house.specs.declared.answer.Answer.TheVariants as answer
use Rattle.plain_house.specs.declared.answer.Replied.{Replied}
use Rattle.plain_house.specs.declared.event.Event.TheVariants as event
use Rattle.plain_house.specs.Exposure.{debts_of, holds_of, of_provider}
use Rattle.plain_house.specs.Full.{are_periods_full, first_full, is_order_full}
use Rattle.plain_house.specs.House.{positions_in, verdict}
use Rattle.plain_house.specs.LegalEntries.{IsLegalAccount, LegalAccountsKeepLimits}
use Rattle.plain_house.specs.Obligations.{obligations}
use Rattle.plain_house.specs.Replies.{stamped}
use Rattle.plain_house.specs.Verdict.{accepts, refused_at, unless}
use Rattle.shared_house.specs.Laws.{ClosesBalance, ExposuresAreWithinLimits}

-- the answer is that of the verdict
pub told_answer : (replied : Replied) (at : ℕ) (reply : Result Answer Refusal) → Ok replied ≡ stamped at reply → reply ≡ Ok replied.answer
told_answer replied at (Ok a) h = let same : replied ≡ record { at = at; answer = a } = cc in ap (λ (x : Answer). Ok x) (sym (ap (λ (r : Replied). r.answer) same))
told_answer replied at (Err refusal) h = absurd (cc)

-- ---- exposures

pub exposures_within : LegalAccountsKeepLimits → ExposuresAreWithinLimits
exposures_within law config ask least replied holds debts limit returns is =
    let told = returns.told refl in
    let keeps = law config told.known.account [] (subst (IsLegalAccount config) (sym (append-nil told.known.account)) told.account) in
    let within = keeps.provider ask.provider ask.currency in
    let answered = told_answer replied told.known.point (verdict config told.known (command.Exposure ask)).reply told.reply_is in
    parts (holds_of (of_provider ask.provider ask.currency) told.known.account) (debts_of (of_provider ask.provider ask.currency) told.known.account) (limit_of config ask.provider ask.currency)
    (ok_is _ _ answered ∙ is) within
  where
    ok_is : (a b : Answer) → (let x : Result Answer Refusal = Ok a in let y : Result Answer Refusal = Ok b in x ≡ y) → a ≡ b
    ok_is a b h = let same : a ≡ b = cc in same

    parts : (h d l : ℕ) → answer.Exposure (pos h) (pos d) (pos l) ≡ answer.Exposure holds debts limit → h + d ≤ l → (holds +ℤ debts) ≤ℤ limit
    parts h d l same within =
        let hs : pos h ≡ holds = cc in
        let ds : pos d ≡ debts = cc in
        let ls : pos l ≡ limit = cc in
        subst (λ (x : ℤ). (x +ℤ debts) ≤ℤ limit) hs (subst (λ (x : ℤ). (pos h +ℤ x) ≤ℤ limit) ds (subst (λ (x : ℤ). (pos h +ℤ pos d) ≤ℤ x) ls (omega (arith, ints, within))))

-- ---- closes

module _ (period current : ℕ) (positions : List NetPosition) where
  closed_by_cases : (is_current : Bool) (full : Option Store) (found : ℕ) (shown : List NetPosition)
      → (unless ((if is_current then None else Some (Err (refusal.NotCurrent current))) ∷ refused_at full ∷ []) (accepts (answer.Closed period positions) (event.Closed period))).reply ≡ Ok (answer.Closed found shown)
      → (period ≡ found) × (positions ≡ shown)
  closed_by_cases true None found shown h =
      let same : answer.Closed period positions ≡ answer.Closed found shown = cc in
      let first : period ≡ found = cc in
      let second : positions ≡ shown = cc in
      (first, second)
  closed_by_cases true (Some what) found shown h = absurd (cc)
  closed_by_cases false full found shown h = absurd (cc)

both_are : (a b : Bool) → (a && b) ≡ true → (a ≡ true) × (b ≡ true)
both_are true true h = (refl, refl)
both_are true false h = absurd (cc)
both_are false b h = absurd (cc)

among : (parties : List Party) (currencies : List (List ℕ)) (os : List Obligation) → list_all (is_configured parties currencies) os ≡ true → are_among parties os ≡ true
among parties currencies [] h = refl
among parties currencies (o ∷ os) h =
    let parts = both_are (is_configured parties currencies o) (list_all (is_configured parties currencies) os) h in
    let first = both_are (is_among parties o.operator && is_among parties o.provider) (has_currency_among currencies o.currency) parts.0 in
    ap₂ ◌&&◌ first.0 (among parties currencies os parts.1)

pub closes_are_balanced : NetPositionsAreBalanced → PartiesAreDifferent → ClosesBalance
closes_are_balanced balanced different config close least replied period positions is_config returns is =
    let told = returns.told refl in
    let read = told.books refl in
    let answered = told_answer replied told.known.point (verdict config told.known (command.Close close)).reply told.reply_is in
    let found = closed_by_cases close.period told.known.period (positions_in config told.known.book close.period) (close.period == told.known.period)
    (first_full ((store.Order, is_order_full config told.known.point) ∷ (store.Periods, are_periods_full config told.known.period) ∷ []))
    period positions (answered ∙ ap (λ (x : Answer). Ok x) is) in (
      sym found.0,
      subst IsBalanced found.1
          (balanced (parties config) config.currencies (obligations close.period told.known.book) (different config is_config.distinct.operators is_config.distinct.providers)
          (among (parties config) config.currencies (obligations close.period told.known.book) (read.netted.configured close.period))),
    )
