-- A world that holds is one whose order names the events in books and accounts.
use Rattle.std.proofs.Common.{◌≡◌, ℕ, List, [], ◌∷◌, ◌++◌, refl, sym, ap, ap₂, subst, ◌∙◌, map, append-nil, Option, None, Some, slice_get}
use Rattle.std.specs.Option.{option_and_then, option_map_or}
use Rattle.ocpi_types.specs.declared.config.Config.{Config}
use Rattle.cdr_checks.specs.declared.request.Command.{Command}
use Rattle.plain_house.specs.declared.entry.AccountEntry.{AccountEntry}
use Rattle.plain_house.specs.declared.entry.BookEntry.{BookEntry}
use Rattle.plain_house.specs.declared.event.Event.{Event}
use Rattle.period_order.specs.Resolved.{accounts_of}
use Rattle.period_order.specs.Resolves.{OrdersResolve, Resolves}
use Rattle.period_order.specs.Places.{order_of}
use Rattle.period_order.specs.declared.order_entry.OrderEntry.{OrderEntry}
use Rattle.house_core.specs.declared.running_call.RunningCall.{RunningCall}
use Rattle.house_core.specs.Calls.{due_in_account, due_in_book}
use Rattle.house_core.specs.Events.{whole_account, whole_book}
use Rattle.house_core.specs.Inner.Sound.{Holds}
use Rattle.house_core.specs.Locks.{Lock}
use Rattle.house_core.specs.OneHouse.{HoldsEvents, NothingIsDue}
use Rattle.house_core.specs.World.{PlainWorld}

-- where nothing is due, what is whole is what stands there
module _ {E : Type 0} (due : RunningCall → List E) (calls : List RunningCall) (none : (n : ℕ) (call : RunningCall) → slice_get calls n ≡ Some call → due call ≡ []) where
  whole_one : (lock : Lock E) → lock.entries ++ option_map_or due (option_and_then (slice_get calls) lock.holder) [] ≡ lock.entries
  whole_one lock = ap (λ (l : List E). lock.entries ++ l) (by lock.holder) ∙ append-nil lock.entries
    where
      found : (n : ℕ) (o : Option RunningCall) → slice_get calls n ≡ o → option_map_or due o [] ≡ []
      found n None e = refl
      found n (Some call) e = none n call e

      by : (o : Option ℕ) → option_map_or due (option_and_then (slice_get calls) o) [] ≡ []
      by None = refl
      by (Some n) = found n (slice_get calls n) refl

  all_whole : (locks : List (Lock E)) → map (λ (lock : Lock E). lock.entries ++ option_map_or due (option_and_then (slice_get calls) lock.holder) []) locks ≡ map (λ (lock : Lock E). lock.entries) locks
  all_whole [] = refl
  all_whole (lock ∷ locks) = ap₂ ◌∷◌ (whole_one lock) (all_whole locks)

module _ (config : Config) (commands : List Command) (events : List Event) (world : PlainWorld) (holds : Holds config commands events world) (resolve : OrdersResolve) where
  abbrev books : List (List BookEntry)
  books = map (whole_book world.calls) world.books

  abbrev accounts : List (List AccountEntry)
  accounts = map (whole_account world.calls) world.accounts

  named : Resolves books accounts world.order events
  named =
      subst (λ (o : List OrderEntry). Resolves books accounts o events) (sym holds.kept.order_is)
      (subst (λ (a : List (List AccountEntry)). Resolves books a (order_of config events) events) (sym holds.kept.accounts_are)
      (subst (λ (b : List (List BookEntry)). Resolves b (accounts_of config events) (order_of config events) events) (sym holds.kept.books_are) (resolve config events holds.kept.legal)))

  settled : NothingIsDue world.calls → Resolves (map (λ (lock : Lock BookEntry). lock.entries) world.books) (map (λ (lock : Lock AccountEntry). lock.entries) world.accounts) world.order events
  settled none =
      subst (λ (a : List (List AccountEntry)). Resolves (map (λ (lock : Lock BookEntry). lock.entries) world.books) a world.order events)
      (all_whole due_in_account world.calls
      (λ n call is. (none n call is).1) world.accounts)
      (subst (λ (b : List (List BookEntry)). Resolves b accounts world.order events)
      (all_whole due_in_book world.calls
      (λ n call is. (none n call is).0) world.books)
      named)

  pub holds_events : HoldsEvents config events world
  holds_events = record { kept = holds.kept; named = named; settled = settled }
