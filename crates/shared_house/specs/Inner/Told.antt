-- What is so of a command once it has its place, and of its reply.
use Rattle.std.specs.Prelude.{◌≡◌, ℕ, Option}
use Rattle.ocpi_types.specs.declared.config.Config.{Config}
use Rattle.cdr_checks.specs.declared.request.Command.{Command}
use Rattle.operator_book.specs.State.{PlainBook}
use Rattle.provider_account.specs.State.{PlainAccount}
use Rattle.plain_house.specs.Replies.{Reply}
use Rattle.period_order.specs.declared.decided.Decided.{Decided}
use Rattle.period_order.specs.Decided.{Decides}
use Rattle.period_order.specs.Order.{PlainOrder, current_of, point_of}
use Rattle.shared_house.specs.Calls.{Returns, event_count}
use Rattle.shared_house.specs.Inner.Outcomes.{with_room}

-- by the book and the account that it looks into, if any, some order decides so
pub record IsPlaced (config : Config) (book : Option PlainBook) (account : Option PlainAccount) (command : Command) (decided : Decided) : Type 0 where
  pub order : PlainOrder
  pub point_is : decided.point ≡ point_of order
  pub period_is : decided.period ≡ current_of order
  pub decides : Decides config book account (with_room order) command decided.outcome

-- what is told, and that so many events are told
pub record IsRight (config : Config) (told : Command) (least events : ℕ) (result : Reply) : Type 0 where
  pub returns : Returns config told least result
  pub counted : event_count result ≡ events
