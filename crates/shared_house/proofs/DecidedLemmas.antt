-- What a decision is by the verdict, and what it adds to a book or an account that it does not look into: nothing.
use Rattle.std.proofs.Common.{◌≡◌, ◌||◌, List, [], Bool, true, false, refl, sym, ap, ◌∙◌, Option, None, Some, is_some}
use Rattle.ocpi_types.specs.declared.config.Config.{Config}
use Rattle.ocpi_types.specs.declared.party.Party.{Party}
use Rattle.cdr_checks.specs.declared.request.Command.{Command}
use Rattle.cdr_checks.specs.Parties.{operator_of_command, provider_of_command}
use Rattle.operator_book.specs.State.{PlainBook}
use Rattle.provider_account.specs.State.{PlainAccount}
use Rattle.plain_house.specs.declared.entry.AccountEntry.{AccountEntry}
use Rattle.plain_house.specs.declared.entry.BookEntry.{BookEntry}
use Rattle.plain_house.specs.declared.event.Event.{Event}
use Rattle.plain_house.specs.declared.event.Event.TheVariants as event
use Rattle.plain_house.specs.House.{verdict}
use Rattle.plain_house.specs.Own.{IsOfCommand}
use Rattle.plain_house.specs.Verdict.{Verdict}
use Rattle.period_order.specs.declared.decided.Outcome.{Outcome}
use Rattle.period_order.specs.declared.decided.Outcome.TheVariants as outcome
use Rattle.period_order.specs.Decided.{AreOfAccount, AreOfBook, Collects, Decides, event_of, is_close_command, is_statement_command, seen, verdict_with}
use Rattle.period_order.specs.Order.{PlainOrder}
use Rattle.shared_house.specs.Calls.{is_collecting}
use Rattle.shared_house.specs.Inner.HouseLaws.{HouseLaws}
use Rattle.shared_house.specs.Inner.Outcomes.{reply_in}
use Rattle.shared_house.specs.Inner.Tallies.{tally_of, tally_of_event}

-- ---- entries

abbrev pub entries_of : Option PlainBook → List BookEntry
entries_of None = []
entries_of (Some book) = book.entries

abbrev pub others_of : Option PlainAccount → List AccountEntry
others_of None = []
others_of (Some account) = account.entries

of_book : (book : Option PlainBook) → AreOfBook book (entries_of book)
of_book None = tt
of_book (Some book) = refl

of_account : (account : Option PlainAccount) → AreOfAccount account (others_of account)
of_account None = tt
of_account (Some account) = refl

-- ---- verdicts

verdict_event : (config : Config) (entries : List BookEntry) (outcome : Outcome) → (verdict_with config entries outcome).event ≡ event_of outcome
verdict_event config entries (outcome.Replied reply event) = refl
verdict_event config entries (outcome.Closed period) = refl
verdict_event config entries (outcome.Stated ask) = refl

module _ (laws : HouseLaws) (config : Config) (order : PlainOrder) (told : Command) (outcome : Outcome) where
  -- with any entries that are those of the book and of the account, where they are given
  pub verdict_of : (book : Option PlainBook) (account : Option PlainAccount) → Decides config book account order told outcome
      → (entries : List BookEntry) (others : List AccountEntry) → AreOfBook book entries → AreOfAccount account others
      → verdict config (seen entries others order) told ≡ verdict_with config entries outcome
  verdict_of book account decides entries others b a =
      sym (laws.outcomes config (seen entries others order) told) ∙ ap (verdict_with config entries) (sym (decides.outcome_is entries others b a))

  pub verdict_is : (book : Option PlainBook) (account : Option PlainAccount) → Decides config book account order told outcome
      → verdict config (seen (entries_of book) (others_of account) order) told ≡ verdict_with config (entries_of book) outcome
  verdict_is book account decides = verdict_of book account decides (entries_of book) (others_of account) (of_book book) (of_account account)

  pub event_is : (book : Option PlainBook) (account : Option PlainAccount) → Decides config book account order told outcome
      → (verdict config (seen (entries_of book) (others_of account) order) told).event ≡ event_of outcome
  event_is book account decides = ap (λ (v : Verdict). v.event) (verdict_is book account decides) ∙ verdict_event config (entries_of book) outcome

-- ---- what is not looked into

lost : (o : Option Party) (p : Party) → o ≡ Some p → is_some o ≡ false → ⊥
lost None p e h = absurd (cc)
lost (Some q) p e h = absurd (cc)

no_book : (told : Command) (e : Event) → IsOfCommand told e → is_some (operator_of_command told) ≡ false → ((tally_of_event (Some e)).books ≡ 0) × ((tally_of_event (Some e)).amount ≡ 0)
no_book told (event.Tariff tariff) is h = absurd (lost (operator_of_command told) tariff.operator is.0 h)
no_book told (event.Token token) is h = (refl, refl)
no_book told (event.Authorised hold) is h = (refl, refl)
no_book told (event.Released release) is h = (refl, refl)
no_book told (event.Cdr cdr cost) is h = absurd (lost (operator_of_command told) cdr.operator is.0 h)
no_book told (event.Credit cdr amount) is h = absurd (lost (operator_of_command told) cdr.operator is.0 h)
no_book told (event.Settled settlement) is h = (refl, refl)
no_book told (event.Closed period) is h = (refl, refl)

no_account : (told : Command) (e : Event) → IsOfCommand told e → is_some (provider_of_command told) ≡ false → ((tally_of_event (Some e)).accounts ≡ 0) × ((tally_of_event (Some e)).amount ≡ 0)
no_account told (event.Tariff tariff) is h = (refl, refl)
no_account told (event.Token token) is h = absurd (lost (provider_of_command told) token.provider is.1 h)
no_account told (event.Authorised hold) is h = absurd (lost (provider_of_command told) hold.provider is.1 h)
no_account told (event.Released release) is h = absurd (lost (provider_of_command told) release.provider is.1 h)
no_account told (event.Cdr cdr cost) is h = absurd (lost (provider_of_command told) cdr.cdr_token.provider is.1 h)
no_account told (event.Credit cdr amount) is h = absurd (lost (provider_of_command told) cdr.cdr_token.provider is.1 h)
no_account told (event.Settled settlement) is h = absurd (lost (provider_of_command told) settlement.provider is.1 h)
no_account told (event.Closed period) is h = (refl, refl)

module _ (laws : HouseLaws) (config : Config) (book : Option PlainBook) (account : Option PlainAccount) (order : PlainOrder) (told : Command) (outcome : Outcome)
    (decides : Decides config book account order told outcome) where
  pub adds_no_book : is_some (operator_of_command told) ≡ false → ((tally_of outcome).books ≡ 0) × ((tally_of outcome).amount ≡ 0)
  adds_no_book h = by (event_of outcome) (event_is laws config order told outcome book account decides)
    where
      by : (e : Option Event) → (verdict config (seen (entries_of book) (others_of account) order) told).event ≡ e → ((tally_of_event e).books ≡ 0) × ((tally_of_event e).amount ≡ 0)
      by None g = (refl, refl)
      by (Some e) g = no_book told e (laws.their config (seen (entries_of book) (others_of account) order) told e g) h

  pub adds_no_account : is_some (provider_of_command told) ≡ false → ((tally_of outcome).accounts ≡ 0) × ((tally_of outcome).amount ≡ 0)
  adds_no_account h = by (event_of outcome) (event_is laws config order told outcome book account decides)
    where
      by : (e : Option Event) → (verdict config (seen (entries_of book) (others_of account) order) told).event ≡ e → ((tally_of_event e).accounts ≡ 0) × ((tally_of_event e).amount ≡ 0)
      by None g = (refl, refl)
      by (Some e) g = no_account told e (laws.their config (seen (entries_of book) (others_of account) order) told e g) h

-- ---- commands that collect nothing

pub is_replied : (told : Command) (outcome : Outcome) → Collects told outcome → is_collecting told ≡ false → is_some (reply_in outcome) ≡ true
is_replied told (outcome.Replied reply event) collects alone = refl
is_replied told (outcome.Closed period) collects alone = absurd (neither (is_close_command told) (is_statement_command told) collects alone)
  where
    neither : (a b : Bool) → a ≡ true → (a || b) ≡ false → ⊥
    neither true b h k = absurd (cc)
    neither false b h k = absurd (cc)
is_replied told (outcome.Stated ask) collects alone = absurd (neither (is_close_command told) (is_statement_command told) collects alone)
  where
    neither : (a b : Bool) → b ≡ true → (a || b) ≡ false → ⊥
    neither true b h k = absurd (cc)
    neither false true h k = absurd (cc)
    neither false false h k = absurd (cc)
