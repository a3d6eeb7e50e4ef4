-- A hold asked for again.
use Rattle.std.proofs.Common.{◌≡◌, ℕ, List, [], ◌∷◌, Bool, true, false, refl, ap, sym, subst, ◌∙◌, Option, None, Some, Result, Ok}
use Rattle.ocpi_types.specs.declared.config.Config.{Config}
use Rattle.ocpi_types.specs.declared.party.Party.{Party}
use Rattle.ocpi_types.specs.declared.token.TokenKind.{TokenKind}
use Rattle.ocpi_types.specs.Config.{is_operator, is_provider, has_currency, may_act_for}
use Rattle.cdr_checks.specs.declared.cause.Cause.{Cause}
use Rattle.cdr_checks.specs.declared.request.Ask.{Ask}
use Rattle.cdr_checks.specs.declared.request.Authorize.{Authorize}
use Rattle.cdr_checks.specs.declared.request.Command.{Command}
use Rattle.cdr_checks.specs.declared.request.Command.TheVariants as command
use Rattle.cdr_checks.specs.declared.request.Request.{Request}
use Rattle.cdr_checks.specs.Admission.{IsAdmitted, admission, ask_admission}
use Rattle.cdr_checks.specs.FirstRefusal.{◌>>=◌, ensure}
use Rattle.cdr_checks.proofs.AdmissionLemmas.{admission_is, ensured, is_admission}
use Rattle.plain_house.specs.declared.event.Event.TheVariants as event
use Rattle.plain_house.specs.declared.event.Hold.{Hold}
use Rattle.plain_house.specs.House.{allows, full_for, hold_for, over_credit, unless_covered, unless_valid, verdict}
use Rattle.plain_house.specs.Known.{Known}
use Rattle.plain_house.specs.Tokens.{validity}
use Rattle.plain_house.specs.Verdict.{Verdict, unless}
use Rattle.plain_house.proofs.VerdictLemmas.{unless_event}
use Rattle.event_commands.specs.AskedAgain.{HoldsAreAskedAgain, IsOfValid, has_right, hold_ask}
use Rattle.event_commands.specs.EventCommands.{CommandsAreDetermined, IsAuthorizeOf}
use Rattle.event_commands.proofs.AskLemmas.{IsOf, asked_as, of_asked, same_admission}

abbrev pub authorize_of : Hold → List ℕ → TokenKind → Authorize
authorize_of hold uid kind = record { operator = hold.operator; provider = hold.provider; uid = uid; kind = kind; currency = hold.currency }

is_valid : (v : Option Bool) → unless_valid v ≡ None → v ≡ Some true
is_valid None h = absurd (cc)
is_valid (Some true) h = refl
is_valid (Some false) h = absurd (cc)

-- the parts of an authorisation
parts : (a : Authorize) (hold : Hold) → a.operator ≡ hold.operator → a.provider ≡ hold.provider → a.currency ≡ hold.currency → a ≡ authorize_of hold a.uid a.kind
parts a hold o p q =
    ap (λ (x : Party). with_parts x a.provider a.currency) o ∙ ap (λ (x : Party). with_parts hold.operator x a.currency) p ∙ ap (λ (x : List ℕ). with_parts hold.operator hold.provider x) q
  where
    with_parts : Party → Party → List ℕ → Authorize
    with_parts x y z = record { operator = x; provider = y; uid = a.uid; kind = a.kind; currency = z }

passes : {X : Type 0} (b : Bool) (why : Cause) (rest : Result X Cause) → b ≡ true → (ensure b why >>= λ _. rest) ≡ rest
passes true why rest h = refl
passes false why rest h = absurd (cc)

module _ (config : Config) (platform : List ℕ) (hold : Hold) (uid next : List ℕ) (kind its : TokenKind) (done : Command) where
  any_token_asked : ask_admission config platform (hold_ask hold uid kind) ≡ Ok done → ask_admission config platform (hold_ask hold next its) ≡ Ok (command.Authorize (authorize_of hold next its))
  any_token_asked h =
      let one = ensured (is_operator config hold.operator) _ _ done h in
      let two = ensured (is_provider config hold.provider) _ _ done one.1 in
      let three = ensured (may_act_for config platform hold.operator) _ _ done two.1 in
      let four = ensured (has_currency config hold.currency) _ _ done three.1 in
      passes (is_operator config hold.operator) _ _ one.0 ∙ (passes (is_provider config hold.provider) _ _ two.0
      ∙ (passes (may_act_for config platform hold.operator) _ _ three.0 ∙ passes (has_currency config hold.currency) _ _ four.0))

  -- admitted whatever the token is
  pub any_token : admission config (record { platform = platform; ask = hold_ask hold uid kind }) ≡ Ok done
      → admission config (record { platform = platform; ask = hold_ask hold next its }) ≡ Ok (command.Authorize (authorize_of hold next its))
  any_token h =
      is_admission config (record { platform = platform; ask = hold_ask hold next its }) (command.Authorize (authorize_of hold next its))
      (any_token_asked (admission_is config (record { platform = platform; ask = hold_ask hold uid kind }) done h))

module _ (config : Config) (known : Known) (hold : Hold) (uid : List ℕ) (kind : TokenKind) where
  abbrev tested : Option Bool → Verdict
  tested v =
      unless (unless_valid v ∷ full_for config known hold.provider ∷ unless_covered (over_credit config (authorize_of hold uid kind) known.account) ∷ [])
      (allows (hold_for config (authorize_of hold uid kind) known.account))

  abbrev AddsHold : Type 0
  AddsHold = (verdict config known (command.Authorize (authorize_of hold uid kind))).event ≡ Some (event.Authorised hold)

  was_valid : AddsHold → IsOfValid known hold uid kind
  was_valid h =
      let none = unless_event
      (unless_valid (validity hold.provider uid kind known.account) ∷ full_for config known hold.provider ∷ unless_covered (over_credit config (authorize_of hold uid kind) known.account) ∷ [])
      (allows (hold_for config (authorize_of hold uid kind) known.account)) (event.Authorised hold) h in
      is_valid (validity hold.provider uid kind known.account) none.0.0

  -- so does another valid token
  adds_again : AddsHold → (next : List ℕ) (its : TokenKind) → IsOfValid known hold next its
      → (verdict config known (command.Authorize (authorize_of hold next its))).event ≡ Some (event.Authorised hold)
  adds_again h next its valid = ap (λ (v : Option Bool). (tested v).event) (valid ∙ sym (was_valid h)) ∙ h

abbrev pub command_of : Hold → List ℕ → TokenKind → Command
command_of hold uid kind = command.Authorize (authorize_of hold uid kind)

pub held_again : CommandsAreDetermined → HoldsAreAskedAgain
unfolding IsAdmitted
held_again determined config known hold given =
    let done : Command = given.0 in
    let request : Request = given.1.0 in
    let found : IsOf config request.ask request.platform done = of_asked config request done given.1.1 in
    let its : IsAuthorizeOf hold done = determined config known done (event.Authorised hold) given.2 in
    let uid : List ℕ = its.ask.uid in
    let kind : TokenKind = its.ask.kind in
    let command_is : done ≡ command_of hold uid kind = its.is_it ∙ ap (λ (a : Authorize). command.Authorize a) (parts its.ask hold its.operator its.provider its.currency) in
    let asked_is : request.ask ≡ hold_ask hold uid kind = found.0 ∙ ap asked_as command_is in
    let right : has_right config (hold_ask hold uid kind) request.platform ≡ true = subst (λ (a : Ask). has_right config a request.platform ≡ true) asked_is found.1 in
    let admitted : admission config (record { platform = request.platform; ask = hold_ask hold uid kind }) ≡ Ok (command_of hold uid kind) =
    subst (λ (a : Ask). admission config (record { platform = request.platform; ask = a }) ≡ Ok (command_of hold uid kind)) asked_is
    (subst (λ (t : Command). admission config request ≡ Ok t) command_is given.1.1) in
    let adds : AddsHold config known hold uid kind = subst (λ (t : Command). (verdict config known t).event ≡ Some (event.Authorised hold)) command_is given.2 in
    record {
      some_uid = uid;
      some_kind = kind;
      its_token = was_valid config known hold uid kind adds;
      some_platform = request.platform;
      its_right = right;
      by_each = λ next its platform valid h. record {
        command = command_of hold next its;
        admitted = any_token config platform hold uid next kind its (command_of hold uid kind) (same_admission config (hold_ask hold uid kind) platform request.platform h right ∙ admitted);
        adds = adds_again config known hold uid kind adds next its valid;
      };
    }
