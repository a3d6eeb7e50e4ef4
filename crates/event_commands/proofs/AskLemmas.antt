-- A request that is admitted: what it asks for, and the right of its platform.
use Rattle.std.proofs.Common.{◌≡◌, ℕ, List, Bool, true, false, refl, ap, sym, ◌∙◌, Result, Ok, Err}
use Rattle.ocpi_json.specs.declared.name.Name.TheVariants as name
use Rattle.ocpi_types.specs.declared.cdr.Cdr.{Cdr}
use Rattle.ocpi_types.specs.declared.config.Config.{Config}
use Rattle.ocpi_types.specs.Config.{is_hub, is_operator, is_party, is_provider, has_currency, may_act_for, operator_of}
use Rattle.tariff_elements.specs.Support.{unsupported}
use Rattle.cdr_checks.specs.declared.cause.Cause.{Cause}
use Rattle.cdr_checks.specs.declared.request.Ask.{Ask}
use Rattle.cdr_checks.specs.declared.request.Ask.TheVariants as ask
use Rattle.cdr_checks.specs.declared.request.Command.{Command}
use Rattle.cdr_checks.specs.declared.request.Command.TheVariants as command
use Rattle.cdr_checks.specs.declared.request.Request.{Request}
use Rattle.cdr_checks.specs.Admission.{admission, ask_admission, judged}
use Rattle.cdr_checks.specs.Asking.{known_operator, known_party, known_provider, no_operator}
use Rattle.cdr_checks.specs.CdrAdmission.{checked_of, session_cost}
use Rattle.cdr_checks.specs.Cause.{with_refusal}
use Rattle.cdr_checks.specs.Checked.{Checked}
use Rattle.cdr_checks.specs.FirstRefusal.{◌>>=◌, ensure, or_refusal}
use Rattle.cdr_checks.specs.HandedBack.{handed_back}
use Rattle.cdr_checks.specs.Place.{at, inside}
use Rattle.cdr_checks.proofs.AdmissionLemmas.{admission_is, ensured, goes_on, there, unless_none}
use Rattle.event_commands.specs.AskedAgain.{has_right}

-- the request that a command came from
abbrev pub asked_as : Command → Ask
asked_as (command.PutTariff tariff) = ask.PutTariff tariff
asked_as (command.PutToken token) = ask.PutToken token
asked_as (command.Authorize asked) = ask.Authorize asked
asked_as (command.Release release) = ask.Release release
asked_as (command.Post checked) = ask.Post checked.cdr
asked_as (command.Close close) = ask.Close close
asked_as (command.Settle settlement) = ask.Settle settlement
asked_as (command.Exposure asked) = ask.Exposure asked
asked_as (command.Find find) = ask.Find find
asked_as (command.Statement asked) = ask.Statement asked

-- the request is that of the command, and its platform has the right
abbrev pub IsOf : Config → Ask → List ℕ → Command → Type 0
IsOf config asked platform done = (asked ≡ asked_as done) × (has_right config asked platform ≡ true)

module _ {X : Type 0} where
  abbrev accepted : X → Result X Cause
  accepted x = Ok x

  same_value : (one other : X) → accepted one ≡ accepted other → one ≡ other
  same_value one other h = cc

checked_is : (config : Config) (platform : List ℕ) (cdr : Cdr) (checked : Checked) → checked_of config platform cdr ≡ Ok checked
    → (checked.cdr ≡ cdr) × (may_act_for config platform cdr.operator ≡ true)
unfolding checked_of
checked_is config platform cdr checked h =
    let known = there (operator_of config cdr.operator) _ _ checked h in
    let one = ensured (is_provider config cdr.cdr_token.provider) _ _ checked known.2 in
    let two = ensured (may_act_for config platform cdr.operator) _ _ checked one.1 in
    let three = ensured (has_currency config cdr.currency) _ _ checked two.1 in
    let cost = goes_on (session_cost config known.0.zone cdr) _ checked three.1 in
    let same : record { cdr = cdr; zone = known.0.zone; cost = cost.0 } ≡ checked = same_value _ checked cost.2 in
    (sym (ap (λ (c : Checked). c.cdr) same), two.0)

is_of : (config : Config) (asked : Ask) (platform : List ℕ) (given done : Command) → asked ≡ asked_as given → has_right config asked platform ≡ true → accepted given ≡ accepted done
    → IsOf config asked platform done
is_of config asked platform given done is right h = (is ∙ ap asked_as (same_value given done h), right)

of_ask : (config : Config) (platform : List ℕ) (asked : Ask) (done : Command) → ask_admission config platform asked ≡ Ok done → IsOf config asked platform done
of_ask config platform (ask.PutTariff tariff) done h =
    let one = ensured (is_operator config tariff.operator) _ _ done h in
    let two = ensured (may_act_for config platform tariff.operator) _ _ done one.1 in
    let three = ensured (has_currency config tariff.currency) _ _ done two.1 in
    let four = unless_none (unsupported tariff) _ _ done three.1 in
    is_of config (ask.PutTariff tariff) platform (command.PutTariff tariff) done refl two.0 four.1
of_ask config platform (ask.PutToken token) done h =
    let one = ensured (is_provider config token.provider) _ _ done h in
    let two = ensured (may_act_for config platform token.provider) _ _ done one.1 in
    is_of config (ask.PutToken token) platform (command.PutToken token) done refl two.0 two.1
of_ask config platform (ask.Authorize a) done h =
    let one = ensured (is_operator config a.operator) _ _ done h in
    let two = ensured (is_provider config a.provider) _ _ done one.1 in
    let three = ensured (may_act_for config platform a.operator) _ _ done two.1 in
    let four = ensured (has_currency config a.currency) _ _ done three.1 in
    is_of config (ask.Authorize a) platform (command.Authorize a) done refl three.0 four.1
of_ask config platform (ask.Release r) done h =
    let one = ensured (is_operator config r.operator) _ _ done h in
    let two = ensured (is_provider config r.provider) _ _ done one.1 in
    let three = ensured (may_act_for config platform r.operator) _ _ done two.1 in
    is_of config (ask.Release r) platform (command.Release r) done refl three.0 three.1
of_ask config platform (ask.Post cdr) done h =
    let found = goes_on (checked_of config platform cdr) _ done h in
    let its = checked_is config platform cdr found.0 found.1 in
    is_of config (ask.Post cdr) platform (command.Post found.0) done (ap (λ (x : Cdr). ask.Post x) (sym its.0)) its.1 found.2
of_ask config platform (ask.Close c) done h =
    let one = ensured (is_hub config platform) _ _ done h in
    is_of config (ask.Close c) platform (command.Close c) done refl one.0 one.1
of_ask config platform (ask.Settle s) done h =
    let one = ensured (is_provider config s.provider) _ _ done h in
    let two = ensured (is_hub config platform) _ _ done one.1 in
    let three = ensured (has_currency config s.currency) _ _ done two.1 in
    is_of config (ask.Settle s) platform (command.Settle s) done refl two.0 three.1
of_ask config platform (ask.Exposure x) done h =
    let one = ensured (is_provider config x.provider) _ _ done h in
    let two = ensured (may_act_for config platform x.provider) _ _ done one.1 in
    let three = ensured (has_currency config x.currency) _ _ done two.1 in
    is_of config (ask.Exposure x) platform (command.Exposure x) done refl two.0 three.1
of_ask config platform (ask.Find f) done h =
    let one = ensured (is_operator config f.operator) _ _ done h in
    let two = ensured (may_act_for config platform f.operator) _ _ done one.1 in
    is_of config (ask.Find f) platform (command.Find f) done refl two.0 two.1
of_ask config platform (ask.Statement s) done h =
    let one = ensured (is_party config s.party) _ _ done h in
    let two = ensured (may_act_for config platform s.party) _ _ done one.1 in
    is_of config (ask.Statement s) platform (command.Statement s) done refl two.0 two.1

pub of_asked : (config : Config) (request : Request) (done : Command) → admission config request ≡ Ok done → IsOf config request.ask request.platform done
of_asked config request done h = of_ask config request.platform request.ask done (admission_is config request done h)

-- ---- another platform

-- two continuations with the same result for each value have the same after each result
after : {A X : Type 0} (m : Result X Cause) (one other : X → Result A Cause) → ((x : X) → one x ≡ other x) → (m >>= one) ≡ (m >>= other)
after (Ok x) one other same = same x
after (Err why) one other same = refl

-- two tests that hold go on alike, whatever their causes
both_hold : {A : Type 0} (b c : Bool) (why its : Cause) (rest : Result A Cause) → b ≡ true → c ≡ true → (ensure b why >>= λ _. rest) ≡ (ensure c its >>= λ _. rest)
both_hold true true why its rest h k = refl
both_hold true false why its rest h k = absurd (cc)
both_hold false c why its rest h k = absurd (cc)

-- the cause of a missing right names the platform: only platforms with the right get the same result
same_ask : (config : Config) (asked : Ask) (one other : List ℕ) → has_right config asked one ≡ true → has_right config asked other ≡ true
    → ask_admission config one asked ≡ ask_admission config other asked
unfolding checked_of
same_ask config (ask.PutTariff tariff) one other h k = after (known_operator config (at name.Tariff) tariff.operator) _ _ (λ _. both_hold _ _ _ _ _ h k)
same_ask config (ask.PutToken token) one other h k = after (known_provider config (at name.Token) token.provider) _ _ (λ _. both_hold _ _ _ _ _ h k)
same_ask config (ask.Authorize a) one other h k =
    after (known_operator config (at name.Operator) a.operator) _ _ (λ _. after (known_provider config (at name.Provider) a.provider) _ _ (λ _. both_hold _ _ _ _ _ h k))
same_ask config (ask.Release r) one other h k =
    after (known_operator config (at name.Operator) r.operator) _ _ (λ _. after (known_provider config (at name.Provider) r.provider) _ _ (λ _. both_hold _ _ _ _ _ h k))
same_ask config (ask.Post cdr) one other h k =
    ap (λ (m : Result Checked Cause). m >>= λ checked. Ok (command.Post checked))
    (after (or_refusal (no_operator (at name.Cdr) cdr.operator) (operator_of config cdr.operator)) _ _
    (λ operator. after (known_provider config (inside name.Cdr name.CdrToken) cdr.cdr_token.provider) _ _ (λ _. both_hold _ _ _ _ _ h k)))
same_ask config (ask.Close c) one other h k = both_hold _ _ _ _ _ h k
same_ask config (ask.Settle s) one other h k = after (known_provider config (at name.Provider) s.provider) _ _ (λ _. both_hold _ _ _ _ _ h k)
same_ask config (ask.Exposure x) one other h k = after (known_provider config (at name.Provider) x.provider) _ _ (λ _. both_hold _ _ _ _ _ h k)
same_ask config (ask.Find f) one other h k = after (known_operator config (at name.Operator) f.operator) _ _ (λ _. both_hold _ _ _ _ _ h k)
same_ask config (ask.Statement s) one other h k = after (known_party config (at name.Party) s.party) _ _ (λ _. both_hold _ _ _ _ _ h k)

-- a request has the same command or refusal from each platform that has the right
pub same_admission : (config : Config) (asked : Ask) (one other : List ℕ) → has_right config asked one ≡ true → has_right config asked other ≡ true
    → admission config (record { platform = one; ask = asked }) ≡ admission config (record { platform = other; ask = asked })
unfolding admission judged
same_admission config asked one other h k = ap with_refusal (same_ask config asked one other h k)

-- ---- a request that no platform has admitted

pub none_admitted : (config : Config) (asked : Ask) → ((name : List ℕ) → has_right config asked name ≡ false)
    → (platform : List ℕ) (done : Command) → admission config (record { platform = platform; ask = asked }) ≡ Ok done → ⊥
none_admitted config asked none platform done h =
    let right : has_right config asked platform ≡ true = (of_asked config (record { platform = platform; ask = asked }) done h).1 in
    let lacks : has_right config asked platform ≡ false = none platform in
    cc

-- what is handed back is not admitted
abbrev without_request : {X A : Type 0} → Result A (X × Cause) → Result A Cause
without_request (Ok a) = Ok a
without_request (Err refused) = Err refused.1

judged_so : {X A : Type 0} (x : X) (m : Result A Cause) → without_request (handed_back x m) ≡ m
judged_so x (Ok a) = refl
judged_so x (Err why) = refl

pub not_admitted : {X A : Type 0} (x y : X) (m : Result A Cause) (why : Cause) → Err (y, why) ≡ handed_back x m → Err why ≡ m
not_admitted x y m why h = ap without_request h ∙ judged_so x m

pub refused_alike : (config : Config) (asked : Ask) (its : List ℕ) (why : Cause) → has_right config asked its ≡ true
    → Err why ≡ judged config (record { platform = its; ask = asked })
    → (platform : List ℕ) (done : Command) → admission config (record { platform = platform; ask = asked }) ≡ Ok done → ⊥
unfolding judged
refused_alike config asked its why right refused platform done h =
    let request : Request = record { platform = platform; ask = asked } in
    let other : has_right config asked platform ≡ true = (of_asked config request done h).1 in
    let both : Err why ≡ Ok done = refused ∙ same_ask config asked its platform right other ∙ admission_is config request done h in
    absurd (cc)
