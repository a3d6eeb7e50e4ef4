-- An event asked for again.
use Rattle.std.proofs.Common.{◌≡◌, true, ap, subst, ◌∙◌, Some, Ok}
use Rattle.ocpi_types.specs.declared.cdr.Cdr.{Cdr}
use Rattle.cdr_checks.specs.declared.request.Ask.{Ask}
use Rattle.cdr_checks.specs.declared.request.Ask.TheVariants as ask
use Rattle.cdr_checks.specs.declared.request.Command.{Command}
use Rattle.cdr_checks.specs.declared.request.Request.{Request}
use Rattle.cdr_checks.specs.Admission.{IsAdmitted, admission}
use Rattle.plain_house.specs.declared.event.Event.{Event}
use Rattle.plain_house.specs.declared.event.Event.TheVariants as event
use Rattle.event_commands.specs.AskedAgain.{AskedAgainIsGiven, ask_again, has_right}
use Rattle.event_commands.specs.EventCommands.{CommandsAreDetermined, IsCommandOf}
use Rattle.event_commands.proofs.AskLemmas.{IsOf, asked_as, of_asked, same_admission}

-- the command of an event came from the request that the event says
its_ask : (e : Event) (done : Command) (asked : Ask) → IsCommandOf e done → ask_again e ≡ Some asked → asked_as done ≡ asked
its_ask (event.Tariff tariff) done asked is again = ap asked_as is ∙ some_same (ask.PutTariff tariff) asked again
  where
    some_same : (a b : Ask) → Some a ≡ Some b → a ≡ b
    some_same a b h = cc
its_ask (event.Token token) done asked is again = ap asked_as is ∙ (cc)
its_ask (event.Authorised hold) done asked is again = absurd (cc)
its_ask (event.Released release) done asked is again = ap asked_as is ∙ (cc)
its_ask (event.Cdr cdr cost) done asked is again = ap asked_as is.is_it ∙ ap (λ (x : Cdr). ask.Post x) is.cdr_is ∙ (cc)
its_ask (event.Credit cdr amount) done asked is again = ap asked_as is.is_it ∙ ap (λ (x : Cdr). ask.Post x) is.cdr_is ∙ (cc)
its_ask (event.Settled settlement) done asked is again = ap asked_as is ∙ (cc)
its_ask (event.Closed period) done asked is again = ap asked_as is ∙ (cc)

pub asked_again : CommandsAreDetermined → AskedAgainIsGiven
unfolding IsAdmitted
asked_again determined config known e asked is given =
    let done = given.0 in
    let request : Request = given.1.0 in
    let found : IsOf config request.ask request.platform done = of_asked config request done given.1.1 in
    let same : request.ask ≡ asked = found.0 ∙ its_ask e done asked (determined config known done e given.2) is in
    let right : has_right config asked request.platform ≡ true = subst (λ (a : Ask). has_right config a request.platform ≡ true) same found.1 in
    let its : admission config (record { platform = request.platform; ask = asked }) ≡ Ok done =
    subst (λ (a : Ask). admission config (record { platform = request.platform; ask = a }) ≡ Ok done) same given.1.1 in
    record {
      some_platform = request.platform;
      its_right = right;
      by_each = λ platform h. record { command = done; admitted = same_admission config asked platform request.platform h right ∙ its; adds = given.2 };
    }
