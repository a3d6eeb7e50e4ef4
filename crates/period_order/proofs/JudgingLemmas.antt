-- What a configuration and one that may judge for it have in common.
use Rattle.std.proofs.Common.{◌≡◌, ℕ, ◌+◌, List, [], ◌∷◌, ◌++◌, Bool, true, false, not, cond, refl, sym, ap, ap₂, subst, ◌∙◌, Option, None, Some, is_some, option_map, unwrap_or, find, filter, map, length, position}
use Rattle.std.specs.List.{position_or_len}
use Rattle.ocpi_types.specs.declared.config.Config.{Config}
use Rattle.ocpi_types.specs.declared.config.Operator.{Operator}
use Rattle.ocpi_types.specs.declared.party.Party.{Party}
use Rattle.ocpi_types.specs.Config.{operator_among}
use Rattle.ocpi_types.specs.Party.{same_party}
use Rattle.cdr_checks.specs.declared.request.Command.{Command}
use Rattle.cdr_checks.specs.Parties.{HasParties}
use Rattle.netting_positions.specs.Netting.{net_positions, parties}
use Rattle.operator_book.specs.State.{PlainBook}
use Rattle.provider_account.specs.State.{PlainAccount}
use Rattle.plain_house.specs.declared.answer.Answer.TheVariants as answer
use Rattle.plain_house.specs.declared.entry.BookEntry.{BookEntry}
use Rattle.plain_house.specs.declared.event.Event.{Event}
use Rattle.plain_house.specs.declared.event.Event.TheVariants as event
use Rattle.plain_house.specs.Known.{known}
use Rattle.plain_house.specs.Legal.{CommandsKeepListsLegal, IsGivenBy, IsLegal}
use Rattle.plain_house.specs.Obligations.{obligations}
use Rattle.plain_house.specs.Replies.{with_event}
use Rattle.plain_house.specs.Verdict.{accepts}
use Rattle.period_order.specs.declared.decided.Outcome.{Outcome}
use Rattle.period_order.specs.declared.decided.Outcome.TheVariants as outcome
use Rattle.period_order.specs.declared.order_entry.OrderEntry.TheVariants as entry
use Rattle.period_order.specs.declared.order_entry.Place.{Place}
use Rattle.period_order.specs.Decided.{account_length, book_length, event_of, order_with, verdict_with, with_entry}
use Rattle.period_order.specs.Judging.{ConfigurationsJudgeForThemselves, MayJudge}
use Rattle.period_order.specs.Order.{PlainOrder}
use Rattle.period_order.specs.Places.{operator_number, order_entry, provider_number}
use Rattle.period_order.proofs.NumberLemmas.{first_place}

pub judge_for_themselves : ConfigurationsJudgeForThemselves
judge_for_themselves config = record { adds = λ known event given. given; operators = refl; providers = refl; currencies = refl }

-- ---- by the parties alone

module _ {X : Type 0} (party_of : X → Party) (test : Party → Bool) where
  same_found : (xs : List X) → is_some (find (λ x. test (party_of x)) xs) ≡ is_some (find test (map party_of xs))
  same_found [] = refl
  same_found (x ∷ xs) = by (test (party_of x)) (same_found xs)
    where
      by : (b : Bool) → is_some (find (λ x. test (party_of x)) xs) ≡ is_some (find test (map party_of xs))
          → is_some (cond b (Some x) (find (λ x. test (party_of x)) xs)) ≡ is_some (cond b (Some (party_of x)) (find test (map party_of xs)))
      by true rest = refl
      by false rest = rest

  same_place : (xs : List X) → position_or_len (λ x. test (party_of x)) xs ≡ position_or_len test (map party_of xs)
  same_place [] = refl
  same_place (x ∷ xs) = ap (λ n. cond (not (test (party_of x))) (1 + n) 0) (same_place xs)

  same_number : (xs : List X) → unwrap_or (position (λ x. test (party_of x)) xs) (length xs) ≡ position_or_len test (map party_of xs)
  same_number xs = first_place (λ x. test (party_of x)) xs ∙ same_place xs

module _ (config base : Config) (judges : MayJudge config base) where
  -- ---- numbers

  operator_numbers : (party : Party) → operator_number config party ≡ operator_number base party
  operator_numbers party =
      ap (λ (operators : List Operator). unwrap_or (position (λ operator. same_party operator.party party) operators) (length operators)) judges.operators

  provider_numbers : (party : Party) → provider_number config party ≡ provider_number base party
  provider_numbers party =
      same_number (λ provider. provider.party) (λ other. same_party other party) config.providers
      ∙ ap (position_or_len (λ other. same_party other party)) judges.providers
      ∙ sym (same_number (λ provider. provider.party) (λ other. same_party other party) base.providers)

  pub has_parties : (told : Command) → HasParties config told → HasParties base told
  has_parties told has = record {
    operator = λ operator own. sym (ap (λ (operators : List Operator). is_some (operator_among operators operator)) judges.operators) ∙ has.operator operator own;
    provider = λ provider own.
        same_found (λ provider. provider.party) (λ other. same_party other provider) base.providers
        ∙ sym (ap (λ (names : List Party). is_some (find (λ other. same_party other provider) names)) judges.providers)
        ∙ sym (same_found (λ provider. provider.party) (λ other. same_party other provider) config.providers)
        ∙ has.provider provider own;
  }

  -- ---- the order

  abbrev at_place : ℕ → ℕ → Place
  at_place number entries = record { party = number; entry = entries }

  same_entry : (book account : ℕ) (e : Event) → order_entry config book account e ≡ order_entry base book account e
  same_entry book account (event.Tariff tariff) = ap (λ n. entry.InBook (at_place n book)) (operator_numbers tariff.operator)
  same_entry book account (event.Token token) = ap (λ n. entry.InAccount (at_place n account)) (provider_numbers token.provider)
  same_entry book account (event.Authorised hold) = ap (λ n. entry.InAccount (at_place n account)) (provider_numbers hold.provider)
  same_entry book account (event.Released release) = ap (λ n. entry.InAccount (at_place n account)) (provider_numbers release.provider)
  same_entry book account (event.Cdr cdr cost) =
      ap₂ (λ n m. entry.InBoth (at_place n book) (at_place m account)) (operator_numbers cdr.operator) (provider_numbers cdr.cdr_token.provider)
  same_entry book account (event.Credit cdr amount) =
      ap₂ (λ n m. entry.InBoth (at_place n book) (at_place m account)) (operator_numbers cdr.operator) (provider_numbers cdr.cdr_token.provider)
  same_entry book account (event.Settled settlement) = ap (λ n. entry.InAccount (at_place n account)) (provider_numbers settlement.provider)
  same_entry book account (event.Closed period) = refl

  pub same_order : (book : Option PlainBook) (account : Option PlainAccount) (order : PlainOrder) (reached : Outcome)
      → order_with config book account order reached ≡ order_with base book account order reached
  same_order book account order reached = by (event_of reached)
    where
      by : (e : Option Event) → with_entry order (option_map (order_entry config (book_length book) (account_length account)) e)
          ≡ with_entry order (option_map (order_entry base (book_length book) (account_length account)) e)
      by None = refl
      by (Some e) = ap (λ one. with_entry order (Some one)) (same_entry (book_length book) (account_length account) e)

  -- ---- net positions

  same_parties : parties config ≡ parties base
  same_parties =
      ap₂ (λ (operators : List Operator) (names : List Party).
      map (λ operator. operator.party) operators ++ filter (λ party. not (is_some (operator_among operators party))) names)
      judges.operators judges.providers

  pub same_verdict : (entries : List BookEntry) (reached : Outcome) → verdict_with config entries reached ≡ verdict_with base entries reached
  same_verdict entries (outcome.Replied reply added) = refl
  same_verdict entries (outcome.Closed period) =
      ap₂ (λ parties currencies. accepts (answer.Closed period (net_positions parties currencies (obligations period entries))) (event.Closed period))
      same_parties judges.currencies
  same_verdict entries (outcome.Stated ask) = refl

  -- ---- the list

  pub legal_with : CommandsKeepListsLegal → (events : List Event) (e : Event) → IsLegal base events → IsGivenBy config (known events) e → IsLegal base (events ++ e ∷ [])
  legal_with laws events e legal given =
      let under = judges.adds (known events) e given in
      subst (IsLegal base) (ap (with_event events) under.2) (laws base events under.0 legal under.1)
