-- What is reported of a change of the configuration before it is asked for.
use Rattle.std.specs.Prelude.{◌≡◌, ℕ, pos, ◌⊎◌, List, ◌++◌, codes, decimal, length}
use Rattle.exact_money.specs.Amount.{amount_text}
use Rattle.ocpi_types.specs.Party.{party_text}
use Rattle.ocpi_types.specs.declared.config.Config.{Config}
use Rattle.plain_house.specs.Legal.{IsLegal}
use Rattle.plain_house.specs.declared.event.Event.{Event}
use Rattle.plain_house.specs.declared.event.Event.TheVariants as event
use Rattle.house_statements.specs.Order.{event_name}
use Rattle.new_configuration.specs.Loosened.{loosened}
use Rattle.new_configuration.specs.TakenOver.{IsFirstOtherwise}

-- what an event holds, in words
unfoldable pub held_text : Event → List ℕ
held_text (event.Tariff tariff) = codes "tariff " ++ (tariff.id ++ (codes " of " ++ party_text tariff.operator))
held_text (event.Token token) = codes "token " ++ (token.uid ++ (codes " of " ++ party_text token.provider))
held_text (event.Authorised hold) =
    codes "hold " ++ (hold.reference ++ (codes " of " ++ (party_text hold.provider ++ (codes " was " ++ (amount_text (pos hold.amount) ++ (codes " " ++ hold.currency))))))
held_text (event.Released release) = codes "hold " ++ (release.reference ++ (codes " of " ++ party_text release.provider))
held_text (event.Cdr cdr cost) =
    codes "CDR " ++ (cdr.id ++ (codes " of " ++ (party_text cdr.operator ++ (codes " cost " ++ (amount_text (pos cost) ++ (codes " " ++ cdr.currency))))))
held_text (event.Credit cdr amount) = codes "Credit CDR " ++ (cdr.id ++ (codes " of " ++ party_text cdr.operator))
held_text (event.Settled settlement) =
    codes "period " ++ (decimal settlement.period ++ (codes " of " ++ (party_text settlement.provider ++ (codes " in " ++ settlement.currency))))
held_text (event.Closed period) = codes "period " ++ decimal period

abbrev pub taken_text : ℕ → List ℕ
taken_text events = codes "the change would be taken; events: " ++ (decimal events ++ codes "\n")

-- the event of this number, from 0, forbids the change
abbrev pub forbidden_text : ℕ → Event → List ℕ
forbidden_text number event =
    codes "the change would be refused; event " ++ (decimal number ++ (codes " " ++ (event_name event ++ (codes ": " ++ (held_text event ++ codes "\n")))))

-- the change would be made, with limits below what the event of this number, the first such, has led to
unfoldable pub past_text : ℕ → ℕ → Event → List ℕ
past_text events number event =
    codes "the change would be taken; events: " ++ (decimal events
    ++ (codes "; past it event " ++ (decimal number ++ (codes " " ++ (event_name event ++ (codes ": " ++ (held_text event ++ codes "\n")))))))

-- of these events under another configuration: each comes out again, or each once it is loosened, or a first one does not
abbrev pub IsReported : Config → List Event → List ℕ → ℕ → Type 0
IsReported config events text status =
    (IsLegal config events × (text ≡ taken_text (length events)) × (status ≡ 0))
    ⊎ (((number : ℕ) × (first : IsFirstOtherwise config events number) × IsLegal (loosened config) events × (text ≡ past_text (length events) number first.event)
    × (status ≡ 0))
    ⊎ ((number : ℕ) × (first : IsFirstOtherwise (loosened config) events number) × (text ≡ forbidden_text number first.event) × (status ≡ 3)))
