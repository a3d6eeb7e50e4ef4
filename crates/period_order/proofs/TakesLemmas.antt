-- What is within a credit limit can be put.
use Rattle.std.proofs.Common.{◌≡◌, ◌≤◌, ◌^◌, ◌+◌, ℕ, pos, List, [], ◌∷◌, ◌++◌, Bool, true, false, nat_lt, if◌then◌else◌, refl, Option, None, Some, arith}
use Rattle.std.specs.Option.{option_or}
use Rattle.std.proofs.lemmas.Bool.{ltb-false}
use Rattle.ocpi_types.specs.declared.config.Config.{Config}
use Rattle.ocpi_types.specs.declared.refusal.Refusal.TheVariants as refusal
use Rattle.ocpi_types.specs.Config.{hold_of, limit_of, pair_limit_of}
use Rattle.cdr_checks.specs.declared.request.Authorize.{Authorize}
use Rattle.plain_house.specs.declared.entry.AccountEntry.{AccountEntry}
use Rattle.plain_house.specs.declared.entry.AccountEntry.TheVariants as account
use Rattle.plain_house.specs.declared.entry.Charge.{Charge}
use Rattle.plain_house.specs.declared.over_limit.OverLimit.{OverLimit}
use Rattle.plain_house.specs.Exposure.{exposure_of, of_pair, of_provider}
use Rattle.plain_house.specs.House.{over_credit}
use Rattle.plain_house.specs.OverLimit.{over, over_if_any}
use Rattle.plain_house.specs.Posting.{above, above_if_any, over_limit}

-- no exposure above the limit is found
within : {X : Type 0} (limit exposure : ℕ) (found : X) → (if nat_lt limit exposure then Some found else None) ≡ None → limit ≤ 10 ^ 15 → exposure ≤ 10 ^ 15
within {X} limit exposure found h most = by (nat_lt limit exposure) refl h
  where
    by : (b : Bool) → nat_lt limit exposure ≡ b → (if b then Some found else None) ≡ None → exposure ≤ 10 ^ 15
    by true e g = absurd (cc)
    by false e g = let below = ltb-false limit exposure e in omega (arith, below, most)

first_none : {X : Type 0} (one other : Option X) → option_or one other ≡ None → one ≡ None
first_none None other h = refl
first_none (Some x) other h = absurd (cc)

pub hold_within : (config : Config) (ask : Authorize) (entries : List AccountEntry) → over_credit config ask entries ≡ None
    → limit_of config ask.provider ask.currency ≤ 10 ^ 15
    → exposure_of (of_provider ask.provider ask.currency) entries + hold_of config ask.provider ask.currency ≤ 10 ^ 15
hold_within config ask entries h most =
    let limit = limit_of config ask.provider ask.currency in
    let hold = hold_of config ask.provider ask.currency in
    let exposure = exposure_of (of_provider ask.provider ask.currency) entries + hold in
    let found : OverLimit = record { exposure = pos exposure; limit = pos limit; pair = false } in
    within limit exposure found
    (first_none (over limit exposure false)
    (over_if_any (pair_limit_of config ask.operator ask.provider ask.currency) (exposure_of (of_pair ask.operator ask.provider ask.currency) entries + hold)) h)
    most

pub charge_within : (config : Config) (charge : Charge) (entries : List AccountEntry) → over_limit config charge entries ≡ None
    → limit_of config charge.provider charge.currency ≤ 10 ^ 15
    → exposure_of (of_provider charge.provider charge.currency) (entries ++ account.Charge charge ∷ []) ≤ 10 ^ 15
charge_within config charge entries h most =
    let limit = limit_of config charge.provider charge.currency in
    let exposure = exposure_of (of_provider charge.provider charge.currency) (entries ++ account.Charge charge ∷ []) in
    within limit exposure (refusal.OverLimit (pos exposure) (pos limit) false)
    (first_none (above limit exposure false)
    (above_if_any (pair_limit_of config charge.operator charge.provider charge.currency) (exposure_of (of_pair charge.operator charge.provider charge.currency) (entries ++ account.Charge charge ∷ []))) h)
    most
