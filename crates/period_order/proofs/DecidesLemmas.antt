-- A decision by what is known of it.
use Rattle.std.proofs.Common.{◌≡◌, ℕ, List, Option, None, Some, refl, sym, ap, ap₂, subst, ◌∙◌}
use Rattle.ocpi_types.specs.declared.cdr.Cdr.{Cdr}
use Rattle.ocpi_types.specs.declared.config.Config.{Config}
use Rattle.cdr_checks.specs.Checked.{Checked}
use Rattle.cdr_checks.specs.declared.request.Command.TheVariants as command
use Rattle.operator_book.specs.State.{PlainBook}
use Rattle.provider_account.specs.State.{PlainAccount}
use Rattle.plain_house.specs.declared.entry.BookEntry.{BookEntry}
use Rattle.plain_house.specs.declared.event.Event.{Event}
use Rattle.plain_house.specs.declared.event.Event.TheVariants as event
use Rattle.plain_house.specs.House.{post_of}
use Rattle.plain_house.specs.Own.{EventsAreOfTheirCommand, IsOfCommand}
use Rattle.period_order.specs.declared.decided.Outcome.{Outcome}
use Rattle.period_order.specs.Decided.{AccountTakesAny, BookTakes, BookTakesAny, Collects, Decides, event_of, replied_by, seen}
use Rattle.period_order.specs.Order.{PlainOrder, current_of}

-- a post adds no tariff version
post_takes : (entries : List BookEntry) (checked : Checked) (e : Event) → IsOfCommand (command.Post checked) e → BookTakes entries e
post_takes entries checked (event.Tariff tariff) its = absurd (let none : Some checked.cdr.cdr_token.provider ≡ None = its.1 in cc)
post_takes entries checked (event.Token token) its = tt
post_takes entries checked (event.Authorised hold) its = tt
post_takes entries checked (event.Released release) its = tt
post_takes entries checked (event.Cdr cdr cost) its = tt
post_takes entries checked (event.Credit cdr amount) its = tt
post_takes entries checked (event.Settled settlement) its = tt
post_takes entries checked (event.Closed period) its = tt

-- a post, by the CDR and its cost
pub post_decides : EventsAreOfTheirCommand → (config : Config) (book : PlainBook) (account : PlainAccount) (order : PlainOrder) (checked : Checked) (cdr : Cdr) (cost : Option ℕ) (outcome : Outcome)
    → cdr ≡ checked.cdr → checked.cost ≡ cost → outcome ≡ replied_by (post_of config (seen book.entries account.entries order) cdr cost)
    → AccountTakesAny (Some account) (current_of order) (event_of outcome)
    → Decides config (Some book) (Some account) order (command.Post checked) outcome
post_decides their config book account order checked cdr cost outcome c k h takes =
    record {
      outcome_is = λ entries others e f. result ∙ sym (ap₂ (λ l m. replied_by (post_of config (seen l m order) checked.cdr checked.cost)) e f);
      collects = subst (λ (x : Outcome). Collects (command.Post checked) x) (sym result) tt;
      in_book = by (post_of config (seen book.entries account.entries order) checked.cdr checked.cost).event refl;
      in_account = takes;
    }
  where
    result : outcome ≡ replied_by (post_of config (seen book.entries account.entries order) checked.cdr checked.cost)
    result =
        h ∙ ap (λ (x : Cdr). replied_by (post_of config (seen book.entries account.entries order) x cost)) c
        ∙ ap (λ (x : Option ℕ). replied_by (post_of config (seen book.entries account.entries order) checked.cdr x)) (sym k)

    by : (o : Option Event) → (post_of config (seen book.entries account.entries order) checked.cdr checked.cost).event ≡ o → BookTakesAny (Some book) (event_of outcome)
    by None e = subst (λ (x : Option Event). BookTakesAny (Some book) x) (sym (ap event_of result ∙ e)) tt
    by (Some added) e =
        subst (λ (x : Option Event). BookTakesAny (Some book) x) (sym (ap event_of result ∙ e))
        (post_takes book.entries checked added (their config (seen book.entries account.entries order) (command.Post checked) added e))
