-- No provider gets a hold twice under the same reference.
use Rattle.std.proofs.Common.{◌≡◌, ◌∙◌, ◌≤◌, ◌<◌, ◌^◌, ℕ, ◌+◌, List, [], ◌∷◌, ◌++◌, true, cond, Option, Some, None, refl, sym, ap, ap₂, arith, count_by, find, length, option_map, unwrap_or}
use Rattle.std.proofs.lemmas.List.Sums.{count_by-le-length, sum_by-append, sum_by-cons}
use Rattle.ocpi_json.specs.Folded.{folded, same_folded}
use Rattle.ocpi_types.specs.Config.{provider_of}
use Rattle.ocpi_types.specs.Party.{same_party}
use Rattle.ocpi_types.specs.SameTariff.{folded_party}
use Rattle.ocpi_types.specs.declared.config.Config.{Config}
use Rattle.ocpi_types.specs.declared.config.Provider.{Provider}
use Rattle.ocpi_types.specs.declared.party.Party.{Party}
use Rattle.cdr_checks.specs.declared.request.Command.{Command}
use Rattle.cdr_checks.specs.declared.request.Command.TheVariants as command
use Rattle.plain_house.specs.Entries.{account_entries}
use Rattle.plain_house.specs.House.{is_hold_of, next_reference, provider_as_configured, reference_text}
use Rattle.plain_house.specs.Inner.Scanned.{event_is_hold_of}
use Rattle.plain_house.specs.Known.{Known, known}
use Rattle.plain_house.specs.Legal.{IsGiven, IsGivenBy}
use Rattle.plain_house.specs.declared.event.Event.{Event}
use Rattle.plain_house.specs.declared.event.Event.TheVariants as event
use Rattle.plain_house.specs.declared.event.Hold.{Hold}
use Rattle.plain_house.proofs.EntriesLemmas.{holds_of_in_events}
use Rattle.plain_house.proofs.EventLemmas.{Gives, GivesPost, event_has}
use Rattle.plain_house.proofs.OwnEntries.{party_along}
use Rattle.provider_account.proofs.References.{folded_reference, folded_same, same_folded_party, same_number, spelled}

module _ (base : Config) (known : Known) where
  -- a hold has the provider's next reference
  abbrev IsNext : Event → Type 0
  IsNext (event.Tariff tariff) = Unit {0}
  IsNext (event.Token token) = Unit {0}
  IsNext (event.Authorised hold) = hold.reference ≡ next_reference base hold.provider known.account
  IsNext (event.Released release) = Unit {0}
  IsNext (event.Cdr cdr cost) = Unit {0}
  IsNext (event.Credit cdr amount) = Unit {0}
  IsNext (event.Settled settlement) = Unit {0}
  IsNext (event.Closed period) = Unit {0}

  gives_next : (done : Command) → Gives base known IsNext done
  gives_next (command.PutTariff tariff) = λ room. tt
  gives_next (command.PutToken token) = λ room. tt
  gives_next (command.Authorize ask) = λ room covered. refl
  gives_next (command.Release release) = λ room. tt
  gives_next (command.Post checked) = by checked.cost
    where
      by : (cost : Option ℕ) → GivesPost base known IsNext checked.cdr cost
      by None = λ amount unknown taken room account. tt
      by (Some cost) = λ unknown registered room account within. tt
  gives_next (command.Close close) = λ current. tt
  gives_next (command.Settle settlement) = λ room. tt
  gives_next (command.Exposure ask) = tt
  gives_next (command.Find find) = tt
  gives_next (command.Statement ask) = tt

  is_next : (hold : Hold) → IsGivenBy base known (event.Authorised hold) → hold.reference ≡ next_reference base hold.provider known.account
  is_next hold (done, admitted, adds) = event_has base known IsNext (event.Authorised hold) done (gives_next done) adds

-- the same provider is configured in one way
configured_alike : (base : Config) (a b : Party) → same_party a b ≡ true → folded_party (provider_as_configured base a) ≡ folded_party (provider_as_configured base b)
configured_alike base a b h =
    let same : provider_of base a ≡ provider_of base b = λ i. find (λ provider. party_along provider.party a b h i) base.providers in
    ap (λ (o : Option Provider). folded_party (unwrap_or (option_map (λ provider. provider.party) o) a)) same ∙ by (provider_of base b)
  where
    by : (o : Option Provider) → folded_party (unwrap_or (option_map (λ provider. provider.party) o) a) ≡ folded_party (unwrap_or (option_map (λ provider. provider.party) o) b)
    by None = same_folded_party a b h
    by (Some provider) = refl

hold_of_same : (a b : Party) → same_party a b ≡ true → (e : Event) → event_is_hold_of a e ≡ event_is_hold_of b e
hold_of_same a b h (event.Tariff tariff) = refl
hold_of_same a b h (event.Token token) = refl
hold_of_same a b h (event.Authorised hold) = party_along hold.provider a b h
hold_of_same a b h (event.Released release) = refl
hold_of_same a b h (event.Cdr cdr cost) = refl
hold_of_same a b h (event.Credit cdr amount) = refl
hold_of_same a b h (event.Settled settlement) = refl
hold_of_same a b h (event.Closed period) = refl

module _ (base : Config) (before : List Event) (one : Hold) (between : List Event) (other : Hold)
    (small : length (before ++ event.Authorised one ∷ between) + 1 < 2 ^ 64)
    (given_one : IsGiven base before (event.Authorised one)) (given_other : IsGiven base (before ++ event.Authorised one ∷ between) (event.Authorised other))
    (provider : same_party one.provider other.provider ≡ true) where
  abbrev later : List Event
  later = before ++ event.Authorised one ∷ between

  counted : count_by (event_is_hold_of other.provider) later
      ≡ count_by (event_is_hold_of other.provider) before + (cond (same_party one.provider other.provider) 1 0 + count_by (event_is_hold_of other.provider) between)
  counted =
      sum_by-append (λ e. cond (event_is_hold_of other.provider e) 1 0) before (event.Authorised one ∷ between)
      ∙ ap (λ n. count_by (event_is_hold_of other.provider) before + n) (sum_by-cons (λ e. cond (event_is_hold_of other.provider e) 1 0) (event.Authorised one) between)

  text_of : (hold : Hold) (l : List Event) → IsGiven base l (event.Authorised hold)
      → hold.reference ≡ reference_text (provider_as_configured base hold.provider) (count_by (event_is_hold_of hold.provider) l + 1)
  text_of hold l given =
      is_next base (known l) hold given
      ∙ ap (λ n. reference_text (provider_as_configured base hold.provider) (n + 1)) (holds_of_in_events hold.provider l)

  pub other_reference : same_folded one.reference other.reference ≡ true → ⊥
  other_reference h =
      let m = count_by (event_is_hold_of one.provider) before + 1 in
      let n = count_by (event_is_hold_of other.provider) later + 1 in
      let same_count : count_by (event_is_hold_of one.provider) before ≡ count_by (event_is_hold_of other.provider) before =
      (λ i. count_by (λ e. hold_of_same one.provider other.provider provider e i) before) in
      let most_one : count_by (event_is_hold_of other.provider) before ≤ length before = count_by-le-length (event_is_hold_of other.provider) before in
      let most : count_by (event_is_hold_of other.provider) later ≤ length later = count_by-le-length (event_is_hold_of other.provider) later in
      let more : count_by (event_is_hold_of other.provider) later
      ≡ count_by (event_is_hold_of other.provider) before + (1 + count_by (event_is_hold_of other.provider) between) =
      counted ∙ ap (λ b. count_by (event_is_hold_of other.provider) before + (cond b 1 0 + count_by (event_is_hold_of other.provider) between)) provider in
      let small_m : m < 2 ^ 64 = omega (arith, same_count, more, most, small) in
      let small_n : n < 2 ^ 64 = omega (arith, most, small) in
      let texts : folded one.reference ≡ folded other.reference = folded_same one.reference other.reference h in
      let spelled_one : spelled (folded_party (provider_as_configured base one.provider)) m ≡ spelled (folded_party (provider_as_configured base other.provider)) n =
      sym (folded_reference (provider_as_configured base one.provider) m small_m) ∙ ap folded (sym (text_of one before given_one)) ∙ texts
      ∙ ap folded (text_of other later given_other) ∙ folded_reference (provider_as_configured base other.provider) n small_n in
      let same_spelled = ap (λ (party : Party). spelled party m) (sym (configured_alike base one.provider other.provider provider)) ∙ spelled_one in
      let equal : m ≡ n = same_number (folded_party (provider_as_configured base other.provider)) m n small_m small_n same_spelled in
      absurd (omega (arith, same_count, more, equal))
