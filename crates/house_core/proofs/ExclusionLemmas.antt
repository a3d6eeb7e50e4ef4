-- Locks and the calls that have them, behind every list of steps.
use Rattle.std.proofs.Common.{ℕ, List, sym, ◌∙◌, Option}
use Rattle.std.proofs.lemmas.Option.{same_Some}
use Rattle.ocpi_types.specs.declared.config.Config.{Config}
use Rattle.cdr_checks.specs.declared.request.Command.{Command}
use Rattle.plain_house.specs.Legal.{EmptyListsAreLegal}
use Rattle.plain_house.specs.declared.event.Event.{Event}
use Rattle.house_core.specs.declared.running_call.RunningCall.{RunningCall}
use Rattle.house_core.specs.Calls.{held_account, held_book}
use Rattle.house_core.specs.Holders.{Agree, AreExclusive, NoTwoHave}
use Rattle.house_core.specs.Inner.HouseLaws.{HouseLaws}
use Rattle.house_core.specs.Inner.Sound.{Holds}
use Rattle.house_core.specs.Laws.{LocksAreExclusive}
use Rattle.house_core.specs.Locks.{Lock}
use Rattle.house_core.specs.World.{PlainWorld}
use Rattle.house_core.proofs.OneHouseLemmas.{holds_after}

-- a lock has one holder
one_has : {E : Type 0} (held : RunningCall → Option ℕ) (locks : List (Lock E)) (calls : List RunningCall) → Agree held locks calls → NoTwoHave held calls
one_has held locks calls agree one another lock call other here there holds too =
    same_Some one another (sym (agree.holding one call lock here holds) ∙ agree.holding another other lock there too)

pub exclusive : (config : Config) (commands : List Command) (events : List Event) (world : PlainWorld) → Holds config commands events world → AreExclusive world
exclusive config commands events world holds = record {
  books = holds.books;
  accounts = holds.accounts;
  one_to_a_book = one_has held_book world.books world.calls holds.books;
  one_to_an_account = one_has held_account world.accounts world.calls holds.accounts;
}

pub locks_exclude : HouseLaws → EmptyListsAreLegal → LocksAreExclusive
locks_exclude laws empty config commands steps is_config admitted = exclusive config commands _ _ (holds_after config commands laws is_config empty admitted steps)
