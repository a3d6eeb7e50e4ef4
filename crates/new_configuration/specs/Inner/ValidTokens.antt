-- The tokens by which holds can be added again.
use Rattle.std.specs.Prelude.{◌≡◌, ℕ, ◌&&◌, true, List, [], ◌∷◌, ◌++◌, Option, Some, None, if◌then◌else◌}
use Rattle.std.specs.Global.{Vec}
use Rattle.std.specs.List.{list_any}
use Rattle.indexmap.specs.IndexMap.{get}
use Rattle.ocpi_types.specs.Party.{same_party}
use Rattle.ocpi_types.specs.declared.party.Party.{Party}
use Rattle.ocpi_types.specs.declared.token.Token.{Token}
use Rattle.ocpi_types.specs.declared.token.TokenKind.{TokenKind}
use Rattle.plain_house.specs.declared.event.Event.{Event}
use Rattle.plain_house.specs.declared.event.Event.TheVariants as event
use Rattle.plain_house.specs.Entries.{account_entries}
use Rattle.plain_house.specs.Tokens.{is_token, validity}
use Rattle.new_configuration.specs.declared.valid_tokens.ValidTokens.{ValidTokens}

abbrev pub items_of : Option (Vec Token) → List Token
items_of None = []
items_of (Some tokens) = tokens.items

abbrev pub tokens_of : ValidTokens → Party → List Token
tokens_of valid provider = items_of (get same_party valid.lists provider)

-- each valid token of the provider is among these
abbrev pub HaveValidOf : List Event → Party → List Token → Type 0
HaveValidOf events provider tokens =
    (uid : List ℕ) (kind : TokenKind) → validity provider uid kind (account_entries events) ≡ Some true → list_any (is_token provider uid kind) tokens ≡ true

-- so it is for each provider
abbrev pub HaveValid : List Event → ValidTokens → Type 0
HaveValid events valid = (provider : Party) → HaveValidOf events provider (tokens_of valid provider)

-- ---- one more event

-- the token is added to those of its provider, if it is valid
abbrev pub KeepsToken : (Party → List Token) → Token → (Party → List Token) → Type 0
KeepsToken before token now =
    (provider : Party) → now provider ≡ (if token.valid && same_party token.provider provider then before provider ++ token ∷ [] else before provider)

abbrev pub KeepsPut : (Party → List Token) → Event → (Party → List Token) → Type 0
KeepsPut before (event.Tariff tariff) now = (provider : Party) → now provider ≡ before provider
KeepsPut before (event.Token token) now = KeepsToken before token now
KeepsPut before (event.Authorised hold) now = (provider : Party) → now provider ≡ before provider
KeepsPut before (event.Released release) now = (provider : Party) → now provider ≡ before provider
KeepsPut before (event.Cdr cdr cost) now = (provider : Party) → now provider ≡ before provider
KeepsPut before (event.Credit cdr amount) now = (provider : Party) → now provider ≡ before provider
KeepsPut before (event.Settled settlement) now = (provider : Party) → now provider ≡ before provider
KeepsPut before (event.Closed period) now = (provider : Party) → now provider ≡ before provider
