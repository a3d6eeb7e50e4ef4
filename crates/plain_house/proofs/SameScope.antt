-- What depends on a party's folded text alone is the same for the same party.
use Rattle.std.proofs.Common.{◌≡◌, ℕ, List, Bool, true, false, ◌&&◌, ◌==◌, ◌+◌, refl, sym, ap, ◌∙◌, find, Option, option_map, option_and_then, unwrap_or, filter}
use Rattle.std.specs.Cmp.Lexicographic.{pointwise, same_text}
use Rattle.ocpi_json.specs.Folded.{folded, same_folded}
use Rattle.ocpi_types.specs.declared.party.Party.{Party}
use Rattle.ocpi_types.specs.declared.config.Config.{Config}
use Rattle.ocpi_types.specs.Party.{same_party}
use Rattle.ocpi_types.specs.Config.{row_in, limit_of, pair_limit_of}
use Rattle.ocpi_types.specs.Currency.{same_currency}
use Rattle.plain_house.specs.declared.entry.AccountEntry.{AccountEntry}
use Rattle.plain_house.specs.Exposure.{charges, exposure_of, is_owed, of_pair, of_provider, open_holds, total_charged, total_held}

pub record FoldedParty : Type 0 where
  pub country_code : List ℕ
  pub party_id : List ℕ

-- a provider's account in a currency
pub record FoldedAccount : Type 0 where
  pub provider : FoldedParty
  pub currency : List ℕ

abbrev pub folded_party : Party → FoldedParty
folded_party party = record { country_code = folded party.country_code; party_id = folded party.party_id }

abbrev pub folded_account : Party → List ℕ → FoldedAccount
folded_account provider currency = record { provider = folded_party provider; currency = currency }

abbrev pub is_party_of : FoldedParty → Party → Bool
is_party_of one party = pointwise ◌==◌ (folded party.country_code) one.country_code && pointwise ◌==◌ (folded party.party_id) one.party_id

abbrev pub limit_by : Config → FoldedAccount → ℕ
limit_by config account =
    unwrap_or (option_map (λ row. row.limit) (option_and_then (row_in account.currency) (find (λ provider. is_party_of account.provider provider.party) config.providers))) 0

abbrev pub pair_limit_by : Config → FoldedParty → FoldedAccount → Option ℕ
pair_limit_by config operator account =
    option_map (λ row. row.limit)
    (find (λ row. is_party_of operator row.operator && is_party_of account.provider row.provider && same_currency row.currency account.currency) config.pair_limits)

-- the exposure of an account, of the operators that pass a test
abbrev pub exposure_by : (Party → Bool) → FoldedAccount → List AccountEntry → ℕ
exposure_by test account entries =
    total_held (filter (λ hold. test hold.operator && is_party_of account.provider hold.provider && same_currency hold.currency account.currency) (open_holds entries))
    + total_charged (filter (λ charge. (test charge.operator && is_party_of account.provider charge.provider && same_currency charge.currency account.currency) && is_owed entries charge) (charges entries))

pub both_are : (a b : Bool) → (a && b) ≡ true → (a ≡ true) × (b ≡ true)
both_are true b h = (refl, h)
both_are false b h = absurd (Prim.cc)

pub same_folded_party : (a b : Party) → same_party a b ≡ true → folded_party a ≡ folded_party b
same_folded_party a b h =
    let parts = both_are (same_folded a.country_code b.country_code) (same_folded a.party_id b.party_id) h in
    let party : List ℕ → List ℕ → FoldedParty = λ country_code party_id. record { country_code = country_code; party_id = party_id } in
    ap (λ (text : List ℕ). party text (folded a.party_id)) (same_text (folded a.country_code) (folded b.country_code) (sym parts.0))
    ∙ ap (λ (text : List ℕ). party (folded b.country_code) text) (same_text (folded a.party_id) (folded b.party_id) (sym parts.1))

pub same_folded_account : (a b : Party) (c d : List ℕ) → (same_party a b && same_currency c d) ≡ true → folded_account a c ≡ folded_account b d
same_folded_account a b c d h =
    let parts = both_are (same_party a b) (same_currency c d) h in
    let account : FoldedParty → List ℕ → FoldedAccount = λ provider currency. record { provider = provider; currency = currency } in
    ap (λ (provider : FoldedParty). account provider c) (same_folded_party a b parts.0)
    ∙ ap (λ (currency : List ℕ). account (folded_party b) currency) (same_text c d (sym parts.1))

-- the provider's limit and exposure
pub same_limit : (config : Config) (a b : Party) (c d : List ℕ) → folded_account a c ≡ folded_account b d → limit_of config a c ≡ limit_of config b d
same_limit config a b c d same = ap (λ (account : FoldedAccount). limit_by config account) same

pub same_exposure : (entries : List AccountEntry) (a b : Party) (c d : List ℕ) → folded_account a c ≡ folded_account b d
    → exposure_of (of_provider a c) entries ≡ exposure_of (of_provider b d) entries
same_exposure entries a b c d same = ap (λ (account : FoldedAccount). exposure_by (λ operator. true) account entries) same

-- the same of a pair
pub same_pair_limit : (config : Config) (o p a b : Party) (c d : List ℕ) → folded_party o ≡ folded_party p → folded_account a c ≡ folded_account b d
    → pair_limit_of config o a c ≡ pair_limit_of config p b d
same_pair_limit config o p a b c d their same =
    ap (λ (operator : FoldedParty). pair_limit_by config operator (folded_account a c)) their
    ∙ ap (λ (account : FoldedAccount). pair_limit_by config (folded_party p) account) same

pub same_pair_exposure : (entries : List AccountEntry) (o p a b : Party) (c d : List ℕ) → folded_party o ≡ folded_party p → folded_account a c ≡ folded_account b d
    → exposure_of (of_pair o a c) entries ≡ exposure_of (of_pair p b d) entries
same_pair_exposure entries o p a b c d their same =
    ap (λ (operator : FoldedParty). exposure_by (is_party_of operator) (folded_account a c) entries) their
    ∙ ap (λ (account : FoldedAccount). exposure_by (is_party_of (folded_party p)) account entries) same

-- an exposure in another spelling of its provider
pub in_any_spelling : (entries : List AccountEntry) (a b : Party) (currency : List ℕ) → same_party a b ≡ true
    → exposure_of (of_provider a currency) entries ≡ exposure_of (of_provider b currency) entries
in_any_spelling entries a b currency h =
    ap (λ (provider : FoldedParty). exposure_by (λ operator. true) (record { provider = provider; currency = currency }) entries) (same_folded_party a b h)
