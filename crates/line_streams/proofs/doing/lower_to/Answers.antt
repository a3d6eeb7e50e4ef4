use Rattle.std.proofs.Common.{arith, Some, ◌≡◌, inl, inr, refl, sym, ap, ap₂, subst, ◌∙◌, ℕ, List, length}
use Rattle.std.specs.Prelude.{slice_get}
use Rattle.ocpi_types.specs.declared.config.Config.{Config}
use Rattle.plain_house.specs.declared.event.Event.{Event}
use Rattle.plain_house.specs.Legal.{IsLegal}
use Rattle.plain_house.specs.State.{State}
use Rattle.house_statements.specs.Order.{event_name}
use Rattle.new_configuration.specs.Loosened.{loosened}
use Rattle.new_configuration.specs.TakenOver.{IsFirstOtherwise}
use Rattle.line_streams.specs.Change.{IsChanged, StreamHouse, lowered_text, otherwise_text}
use Rattle.line_streams.specs.Given.{IsNamedOtherwise}
use Rattle.line_streams.specs.State.{shown_house}
use Rattle.line_streams.proofs.StreamLemmas.{event_at, first_at, within}
use Rattle.line_streams.proofs.doing.lower_to.Goals as goal

-- a house of these events, shown under a configuration
shown_as : (config now base loose : Config) (house : State) (events all : List Event) → now ≡ config → house ≡ record { config = base; events = events } → base ≡ loose
    → events ≡ all → shown_house now house ≡ record { base = loose; config = config; events = all }
shown_as config now base loose house events all configs houses bases lists =
    ap₂ (λ (g : Config) (h : State). shown_house g h) configs houses
    ∙ ap₂ (λ (b : Config) (l : List Event). let it : StreamHouse = record { base = b; config = config; events = l } in it) bases lists

pub returns-in-Ok-clause-ok : goal.returns-in-Ok-clause-ok
returns-in-Ok-clause-ok c =
    let change = c.args.change in
    let first = c.requires.outside in
    let events = c.requires.events in
    let loose = c.in_ok-loosened.ensures in
    let named : c.name_at-kind.result.now ≡ event_name first.event =
    c.name_at-kind.ensures first.event (ap (λ (l : List Event). slice_get l c.args.outside) events ∙ event_at c.args.house.now.events change c.args.outside first) in
    inr (inl (record {
      number = c.args.outside;
      first = first;
      legal = subst (IsLegal (loosened change)) events (subst (λ (g : Config). IsLegal g c.args.events.now) loose c.in-Ok.ensures.legal);
      now_is = shown_as change c.in_ok-new-in-Ok.field-0 c.in_ok-loosened.field-0 (loosened change) c.in-Ok.new c.args.events.now c.args.house.now.events c.in_ok-new-in-Ok.ensures
          c.in-Ok.ensures.ok loose events;
      text_is = ap₂ (λ (n : ℕ) (t : List ℕ). lowered_text n c.args.outside t) (ap length events) named;
    }))

pub returns-in-Ok-clause-given : goal.returns-in-Ok-clause-given
returns-in-Ok-clause-given c =
    let change = c.args.change in
    let first = c.requires.outside in
    let events = c.requires.events in
    let named : c.name_at-kind.result.now ≡ event_name first.event =
    c.name_at-kind.ensures first.event (ap (λ (l : List Event). slice_get l c.args.outside) events ∙ event_at c.args.house.now.events change c.args.outside first) in (
      ap length events,
      (first, named),
      subst (IsLegal (loosened change)) events (subst (λ (g : Config). IsLegal g c.args.events.now) c.in_ok-loosened.ensures c.in-Ok.ensures.legal),
    )

pub name_at-kind-requires-in-Err-Otherwise : goal.name_at-kind-requires-in-Err-Otherwise
name_at-kind-requires-in-Err-Otherwise c =
    let first = c.in-Err-Otherwise.ensures.otherwise c.in-Err-Otherwise.event c.in-Err-Otherwise.field-0-is in
    omega (arith, within c.args.events.now c.in_ok-loosened.field-0 c.in-Err-Otherwise.event first, c.in-Err-Otherwise.event-is)

-- the event that would come out otherwise under the loosened configuration, by its kind
named_otherwise : (change loose : Config) (events all : List Event) (number : ℕ) (kind : List ℕ) → IsFirstOtherwise loose events number → events ≡ all
    → loose ≡ loosened change → ((event : Event) → slice_get events number ≡ Some event → kind ≡ event_name event)
    → IsNamedOtherwise (loosened change) all number kind
named_otherwise change loose events all number kind found lists configs named =
    let first = first_at events all loose (loosened change) number lists configs found in
    (first, named first.event (ap (λ (l : List Event). slice_get l number) lists ∙ event_at all (loosened change) number first))

-- the same, as the answer says it
otherwise_kept : (house : StreamHouse) (change loose : Config) (events : List Event) (number : ℕ) (kind : List ℕ) → IsFirstOtherwise loose events number → events ≡ house.events
    → loose ≡ loosened change → ((event : Event) → slice_get events number ≡ Some event → kind ≡ event_name event)
    → IsChanged house change (otherwise_text (length events) number kind) house
otherwise_kept house change loose events number kind found lists configs named =
    let it = named_otherwise change loose events house.events number kind found lists configs named in
    inr (inr (record {
      number = number;
      first = it.0;
      now_is = refl;
      text_is = ap₂ (λ (n : ℕ) (t : List ℕ). otherwise_text n number t) (ap length lists) it.1;
    }))

pub returns-in-Err-Otherwise-clause-ok : goal.returns-in-Err-Otherwise-clause-ok
returns-in-Err-Otherwise-clause-ok c =
    let found = subst (λ (n : ℕ). IsFirstOtherwise c.in_ok-loosened.field-0 c.args.events.now n) (sym c.in-Err-Otherwise.event-is)
    (c.in-Err-Otherwise.ensures.otherwise c.in-Err-Otherwise.event c.in-Err-Otherwise.field-0-is) in
    otherwise_kept (shown_house c.args.in_force.now.config c.args.house.now) c.args.change c.in_ok-loosened.field-0 c.args.events.now _ c.name_at-kind-in-Err-Otherwise.result.now found
    c.requires.events c.in_ok-loosened.ensures c.name_at-kind-in-Err-Otherwise.ensures

pub returns-in-Err-Otherwise-clause-given : goal.returns-in-Err-Otherwise-clause-given
returns-in-Err-Otherwise-clause-given c =
    let found = subst (λ (n : ℕ). IsFirstOtherwise c.in_ok-loosened.field-0 c.args.events.now n) (sym c.in-Err-Otherwise.event-is)
    (c.in-Err-Otherwise.ensures.otherwise c.in-Err-Otherwise.event c.in-Err-Otherwise.field-0-is) in (
      ap length c.requires.events,
      named_otherwise c.args.change c.in_ok-loosened.field-0 c.args.events.now c.args.house.now.events _ c.name_at-kind-in-Err-Otherwise.result.now found
          c.requires.events c.in_ok-loosened.ensures c.name_at-kind-in-Err-Otherwise.ensures,
    )
