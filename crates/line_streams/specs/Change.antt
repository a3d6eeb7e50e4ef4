-- What a stream does for a request or a change of the configuration.
use Rattle.std.specs.Prelude.{◌≡◌, ◌⊎◌, ℕ, Bool, true, false, List, [], ◌++◌, None, Err, codes, decimal, length}
use Rattle.ocpi_types.specs.declared.config.Config.{Config}
use Rattle.ocpi_types.specs.Config.{is_hub}
use Rattle.ocpi_types.specs.declared.refusal.Refusal.{Refusal}
use Rattle.ocpi_types.specs.declared.refusal.Refusal.TheVariants as refusal
use Rattle.cdr_checks.specs.Admission.{admission}
use Rattle.cdr_checks.specs.declared.request.Request.{Request}
use Rattle.plain_house.specs.declared.event.Event.{Event}
use Rattle.plain_house.specs.Legal.{IsLegal}
use Rattle.house_statements.specs.Order.{event_name}
use Rattle.request_lines.specs.AnswerText.{answer_text}
use Rattle.request_lines.specs.Script.{list_with, reply_to}
use Rattle.new_configuration.specs.Loosened.{loosened}
use Rattle.new_configuration.specs.TakenOver.{IsFirstOtherwise}
use Rattle.line_streams.specs.declared.asked.Asked.{Asked}
use Rattle.line_streams.specs.declared.asked.Asked.TheVariants as asked

-- ---- houses

-- events, the configuration in force, and the configuration under which the events are legal: the one in force, or a looser one
pub record StreamHouse : Type 0 where
  pub base : Config
  pub config : Config
  pub events : List Event

-- a house in which each event is legal under the configuration in force
abbrev pub under : Config → List Event → StreamHouse
under config events = record { base = config; config = config; events = events }

-- ---- texts

-- the answer to a change that is made, with the number of events so far
abbrev pub configured_text : ℕ → List ℕ
configured_text at = codes "{\"status_code\":1000,\"answer\":\"Configured\",\"at\":" ++ decimal at ++ codes "}\n"

-- the number, from 0, and the name of an event
abbrev pub event_text : ℕ → List ℕ → List ℕ
event_text number name = codes ",\"event\":" ++ (decimal number ++ (codes ",\"kind\":\"" ++ (name ++ codes "\"}\n")))

-- the same of a change whose limits are below what this event, the first such, has led to
abbrev pub lowered_text : ℕ → ℕ → List ℕ → List ℕ
lowered_text at number name = codes "{\"status_code\":1000,\"answer\":\"Configured\",\"at\":" ++ (decimal at ++ event_text number name)

-- the refusal of a change under which this event would come out otherwise
abbrev pub otherwise_text : ℕ → ℕ → List ℕ → List ℕ
otherwise_text at number name =
    codes "{\"status_code\":2000,\"refusal\":\"ComesOutOtherwise\",\"number\":29,\"at\":" ++ (decimal at ++ event_text number name)

-- a refusal before the house is asked
abbrev pub refused_text : Config → Refusal → List ℕ
refused_text config why = answer_text config (Err (record { at = None; refusal = why }))

-- the refusal of a line whose request id was given to another line
abbrev pub used_text : List ℕ
used_text = codes "{\"status_code\":2000,\"refusal\":\"RequestIdUsed\",\"number\":30}\n"

-- ---- changes

-- all events come out again under the configuration
pub record IsConfigured (house : StreamHouse) (config : Config) (text : List ℕ) (now : StreamHouse) : Type 0 where
  pub legal : IsLegal config house.events
  pub now_is : now ≡ under config house.events
  pub text_is : text ≡ configured_text (length house.events)

-- one of them would not, but all do once the configuration is loosened: later commands are judged by the configuration
pub record IsLowered (house : StreamHouse) (config : Config) (text : List ℕ) (now : StreamHouse) : Type 0 where
  pub number : ℕ
  pub first : IsFirstOtherwise config house.events number
  pub legal : IsLegal (loosened config) house.events
  pub now_is : now ≡ record { base = loosened config; config = config; events = house.events }
  pub text_is : text ≡ lowered_text (length house.events) number (event_name first.event)

-- one of them would not, however loose the configuration is: nothing changes
pub record IsKeptAsItIs (house : StreamHouse) (config : Config) (text : List ℕ) (now : StreamHouse) : Type 0 where
  pub number : ℕ
  pub first : IsFirstOtherwise (loosened config) house.events number
  pub now_is : now ≡ house
  pub text_is : text ≡ otherwise_text (length house.events) number (event_name first.event)

abbrev pub IsChanged : StreamHouse → Config → List ℕ → StreamHouse → Type 0
IsChanged house config text now =
    IsConfigured house config text now ⊎ (IsLowered house config text now ⊎ IsKeptAsItIs house config text now)

-- only a hub of the configuration in force changes it
abbrev pub ByHub : Bool → StreamHouse → Config → List ℕ → StreamHouse → Type 0
ByHub true house config text now = IsChanged house config text now
ByHub false house config text now = (text ≡ refused_text house.config refusal.NotYours) × (now ≡ house)

-- ---- requests

-- a request is answered as a script answers it, under the configuration in force
pub record IsReplied (house : StreamHouse) (request : Request) (text : List ℕ) (now : StreamHouse) : Type 0 where
  pub text_is : text ≡ answer_text house.config (reply_to house.config house.events (admission house.config request))
  pub now_is : now ≡ record {
    base = house.base;
    config = house.config;
    events = list_with house.config house.events (admission house.config request);
  }

-- what is asked for is done, and this is its answer
abbrev pub IsDone : StreamHouse → Asked → List ℕ → StreamHouse → Type 0
IsDone house (asked.Request request) text now = IsReplied house request text now
IsDone house (asked.Change change) text now = ByHub (is_hub house.config change.platform) house change.config text now
