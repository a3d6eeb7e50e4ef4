use Rattle.std.proofs.Common.{◌≢◌, true, List, Some, sym, subst, ◌∙◌}
use Rattle.ocpi_types.specs.declared.party.Party.{Party}
use Rattle.ocpi_types.specs.declared.token.Token.{Token}
use Rattle.plain_house.specs.declared.event.Event.{Event}
use Rattle.plain_house.specs.Entries.{account_entries}
use Rattle.plain_house.specs.Tokens.{validity}
use Rattle.new_configuration.specs.Inner.Attempt.{TokenEndsIn}
use Rattle.new_configuration.specs.Inner.ValidTokens.{HaveValidOf}
use Rattle.new_configuration.specs.declared.holds.Attempt.TheVariants as attempt
use Rattle.new_configuration.proofs.ValidLemmas.{still_have}
use Rattle.new_configuration.proofs.holds.adds_by_one_of.Goals as goal

pub loop-token-preserved : goal.loop-token-preserved
loop-token-preserved c =
    let events : List Event = c.args.house.now.events in
    let provider : Party = c.args.hold.now.provider in
    let token : Token = c.in-Some.token in
    let ends : TokenEndsIn c.args.platforms.now c.loop-token.house.events c.args.hold.now token.uid token.kind c.try_token.new.house.events attempt.InvalidToken =
    subst (TokenEndsIn c.args.platforms.now c.loop-token.house.events c.args.hold.now token.uid token.kind c.try_token.new.house.events) c.in-InvalidToken.is c.in_ok-try_token.ensures.ends in
    record {
      config = c.try_token.ensures.config ∙ sym c.requires.config;
      events = ends.1 ∙ c.loop-token.invariant.events;
      tokens = still_have events provider c.pop.new.self.items token (subst (HaveValidOf events provider) c.in-Some.ensures.items c.loop-token.invariant.tokens)
          (subst (λ (l : List Event). validity provider token.uid token.kind (account_entries l) ≢ Some true) c.loop-token.invariant.events ends.0);
    }
