-- A list is legal under a configuration, or has a first event that no admitted command adds.
use Rattle.std.proofs.Common.{◌≡◌, ◌⊎◌, ⊎_elim, inl, inr, ℕ, List, [], ◌∷◌, ◌++◌, refl, sym, ◌∙◌, subst, length, append_assoc}
use Rattle.std.proofs.lemmas.List.{append-nil}
use Rattle.ocpi_types.specs.declared.config.Config.{Config}
use Rattle.plain_house.specs.declared.event.Event.{Event}
use Rattle.plain_house.specs.Known.{known}
use Rattle.plain_house.specs.Legal.{IsLegal}
use Rattle.plain_house.proofs.LegalLemmas.{legal_empty, legal_push}
use Rattle.event_commands.specs.AskedAgain.{AskedAgainIsGiven, HoldsAreAskedAgain}
use Rattle.event_commands.specs.EventCommands.{CommandsAreDetermined}
use Rattle.new_configuration.specs.TakenOver.{IsFirstOtherwise, TakenOverOrRefused}
use Rattle.new_configuration.proofs.GivenLemmas.{given_or_not}

abbrev Outcome : Config → List Event → Type 0
Outcome config events = IsLegal config events ⊎ ((number : ℕ) × IsFirstOtherwise config events number)

module _ (determined : CommandsAreDetermined) (again : AskedAgainIsGiven) (holds : HoldsAreAskedAgain) (config : Config) where
  after_these : (events before later : List Event) → events ≡ before ++ later → IsLegal config before → Outcome config events
  after_these events before [] split legal = inl (subst (IsLegal config) (sym (split ∙ append-nil before)) legal)
  after_these events before (event ∷ later) split legal = ⊎_elim
      (λ given. after_these events (before ++ event ∷ []) later (split ∙ sym (append_assoc before (event ∷ []) later)) (legal_push config before event legal given))
      (λ otherwise. inr (length before, record { before = before; event = event; later = later; split = split; number_is = refl; legal = legal; otherwise = otherwise }))
      (given_or_not determined again holds config (known before) event)

pub taken_over_or_refused : CommandsAreDetermined → AskedAgainIsGiven → HoldsAreAskedAgain → TakenOverOrRefused
taken_over_or_refused determined again holds config events = after_these determined again holds config events [] events refl (legal_empty config)
