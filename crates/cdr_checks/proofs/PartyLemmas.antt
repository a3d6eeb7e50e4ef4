-- An admitted command is of configured parties.
use Rattle.std.proofs.Common.{◌≡◌, List, ℕ, true, is_some, refl, ap, sym, subst, ◌∙◌, Some, None, Result, Ok, Err}
use Rattle.ocpi_types.specs.declared.config.Config.{Config}
use Rattle.ocpi_types.specs.declared.party.Party.{Party}
use Rattle.ocpi_types.specs.Config.{is_hub, is_operator, is_party, is_provider, has_currency, may_act_for}
use Rattle.tariff_elements.specs.Support.{unsupported}
use Rattle.cdr_checks.specs.declared.cause.Cause.{Cause}
use Rattle.cdr_checks.specs.declared.request.Ask.{Ask}
use Rattle.cdr_checks.specs.declared.request.Ask.TheVariants as ask
use Rattle.cdr_checks.specs.declared.request.Command.{Command}
use Rattle.cdr_checks.specs.declared.request.Command.TheVariants as command
use Rattle.cdr_checks.specs.Admission.{IsAdmitted, ask_admission}
use Rattle.cdr_checks.specs.CdrAdmission.{checked_of}
use Rattle.cdr_checks.specs.Checked.{Checked}
use Rattle.cdr_checks.specs.FirstRefusal.{◌>>=◌}
use Rattle.cdr_checks.specs.Law.{IsChecked}
use Rattle.cdr_checks.specs.Parties.{CommandsHaveParties, HasParties, operator_of_command, provider_of_command}
use Rattle.cdr_checks.proofs.AdmissionLemmas.{admission_is, ensured, unless_none}
use Rattle.cdr_checks.proofs.PostLemmas.{checked_has}

abbrev done : Command → Result Command Cause
done accepted = Ok accepted

same_command : (given accepted : Command) → done given ≡ done accepted → given ≡ accepted
same_command given accepted h = cc

abbrev HasOperator : Config → Command → Type 0
HasOperator config accepted = (operator : Party) → operator_of_command accepted ≡ Some operator → is_operator config operator ≡ true

abbrev HasProvider : Config → Command → Type 0
HasProvider config accepted = (provider : Party) → provider_of_command accepted ≡ Some provider → is_provider config provider ≡ true

with_operator : (config : Config) (accepted : Command) (party : Party) → operator_of_command accepted ≡ Some party → is_operator config party ≡ true → HasOperator config accepted
with_operator config accepted party of_accepted known operator h =
    let same : party ≡ operator = (let both : Some party ≡ Some operator = sym of_accepted ∙ h in cc) in
    subst (λ (p : Party). is_operator config p ≡ true) same known

with_provider : (config : Config) (accepted : Command) (party : Party) → provider_of_command accepted ≡ Some party → is_provider config party ≡ true → HasProvider config accepted
with_provider config accepted party of_accepted known provider h =
    let same : party ≡ provider = (let both : Some party ≡ Some provider = sym of_accepted ∙ h in cc) in
    subst (λ (p : Party). is_provider config p ≡ true) same known

no_operator : (config : Config) (accepted : Command) → operator_of_command accepted ≡ None → HasOperator config accepted
no_operator config accepted none operator h = absurd (let both : None ≡ Some operator = sym none ∙ h in cc)

no_provider : (config : Config) (accepted : Command) → provider_of_command accepted ≡ None → HasProvider config accepted
no_provider config accepted none provider h = absurd (let both : None ≡ Some provider = sym none ∙ h in cc)

pub commands_have_parties : CommandsHaveParties
unfolding IsAdmitted
commands_have_parties config accepted admitted = by admitted.0.platform admitted.0.ask (admission_is config admitted.0 accepted admitted.1)
  where
    posted : (platform : List ℕ) (m : Result Checked Cause) → ((checked : Checked) → m ≡ Ok checked → IsChecked config checked)
        → (m >>= λ checked. Ok (command.Post checked)) ≡ Ok accepted → HasParties config accepted
    posted platform (Ok checked) has h =
        let found = has checked refl in
        subst (HasParties config) (same_command (command.Post checked) accepted h)
        (record {
          operator = with_operator config (command.Post checked) checked.cdr.operator refl (ap is_some found.has_operator);
          provider = with_provider config (command.Post checked) checked.cdr.cdr_token.provider refl found.has_provider;
        })
    posted platform (Err why) has h = absurd (cc)

    by : (platform : List ℕ) (asked : Ask) → ask_admission config platform asked ≡ Ok accepted → HasParties config accepted
    by platform (ask.PutTariff tariff) h =
        let one = ensured (is_operator config tariff.operator) _ _ accepted h in
        let two = ensured (may_act_for config platform tariff.operator) _ _ accepted one.1 in
        let three = ensured (has_currency config tariff.currency) _ _ accepted two.1 in
        let four = unless_none (unsupported tariff) _ _ accepted three.1 in
        let given = command.PutTariff tariff in
        subst (HasParties config) (same_command given accepted four.1)
        (record { operator = with_operator config given tariff.operator refl one.0; provider = no_provider config given refl })
    by platform (ask.PutToken token) h =
        let one = ensured (is_provider config token.provider) _ _ accepted h in
        let two = ensured (may_act_for config platform token.provider) _ _ accepted one.1 in
        let given = command.PutToken token in
        subst (HasParties config) (same_command given accepted two.1)
        (record { operator = no_operator config given refl; provider = with_provider config given token.provider refl one.0 })
    by platform (ask.Authorize a) h =
        let one = ensured (is_operator config a.operator) _ _ accepted h in
        let two = ensured (is_provider config a.provider) _ _ accepted one.1 in
        let three = ensured (may_act_for config platform a.operator) _ _ accepted two.1 in
        let four = ensured (has_currency config a.currency) _ _ accepted three.1 in
        let given = command.Authorize a in
        subst (HasParties config) (same_command given accepted four.1)
        (record { operator = no_operator config given refl; provider = with_provider config given a.provider refl two.0 })
    by platform (ask.Release r) h =
        let one = ensured (is_operator config r.operator) _ _ accepted h in
        let two = ensured (is_provider config r.provider) _ _ accepted one.1 in
        let three = ensured (may_act_for config platform r.operator) _ _ accepted two.1 in
        let given = command.Release r in
        subst (HasParties config) (same_command given accepted three.1)
        (record { operator = no_operator config given refl; provider = with_provider config given r.provider refl two.0 })
    by platform (ask.Post cdr) h = posted platform (checked_of config platform cdr) (λ checked e. checked_has config platform cdr checked e) h
    by platform (ask.Close c) h =
        let one = ensured (is_hub config platform) _ _ accepted h in
        let given = command.Close c in
        subst (HasParties config) (same_command given accepted one.1)
        (record { operator = no_operator config given refl; provider = no_provider config given refl })
    by platform (ask.Settle s) h =
        let one = ensured (is_provider config s.provider) _ _ accepted h in
        let two = ensured (is_hub config platform) _ _ accepted one.1 in
        let three = ensured (has_currency config s.currency) _ _ accepted two.1 in
        let given = command.Settle s in
        subst (HasParties config) (same_command given accepted three.1)
        (record { operator = no_operator config given refl; provider = with_provider config given s.provider refl one.0 })
    by platform (ask.Exposure x) h =
        let one = ensured (is_provider config x.provider) _ _ accepted h in
        let two = ensured (may_act_for config platform x.provider) _ _ accepted one.1 in
        let three = ensured (has_currency config x.currency) _ _ accepted two.1 in
        let given = command.Exposure x in
        subst (HasParties config) (same_command given accepted three.1)
        (record { operator = no_operator config given refl; provider = with_provider config given x.provider refl one.0 })
    by platform (ask.Find f) h =
        let one = ensured (is_operator config f.operator) _ _ accepted h in
        let two = ensured (may_act_for config platform f.operator) _ _ accepted one.1 in
        let given = command.Find f in
        subst (HasParties config) (same_command given accepted two.1)
        (record { operator = with_operator config given f.operator refl one.0; provider = no_provider config given refl })
    by platform (ask.Statement s) h =
        let one = ensured (is_party config s.party) _ _ accepted h in
        let two = ensured (may_act_for config platform s.party) _ _ accepted one.1 in
        let given = command.Statement s in
        subst (HasParties config) (same_command given accepted two.1)
        (record { operator = no_operator config given refl; provider = no_provider config given refl })
