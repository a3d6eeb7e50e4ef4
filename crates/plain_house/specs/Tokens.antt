-- The tokens that accounts hold. A token is known by provider, uid and type; a later put replaces it.
use Rattle.std.specs.Prelude.{ℕ, List, [], ◌∷◌, Bool, ◌&&◌, Option, option_map, find, flat_map, reverse}
use Rattle.ocpi_json.specs.Folded.{same_folded}
use Rattle.ocpi_types.specs.declared.party.Party.{Party}
use Rattle.ocpi_types.specs.declared.token.Token.{Token}
use Rattle.ocpi_types.specs.declared.token.TokenKind.{TokenKind}
use Rattle.ocpi_types.specs.Party.{same_party}
use Rattle.ocpi_types.specs.TokenKind.{same_token_kind}
use Rattle.plain_house.specs.declared.entry.AccountEntry.{AccountEntry}
use Rattle.plain_house.specs.declared.entry.AccountEntry.TheVariants as account

abbrev pub token_in : AccountEntry → List Token
token_in (account.Token token) = token ∷ []
token_in (account.Hold hold) = []
token_in (account.Release release) = []
token_in (account.Charge charge) = []
token_in (account.Credit credit) = []
token_in (account.Settlement settlement) = []

abbrev pub tokens : List AccountEntry → List Token
tokens entries = flat_map token_in entries

-- a token of this provider and uid, of whatever type
abbrev pub has_uid : Party → List ℕ → Token → Bool
has_uid provider uid token = same_party token.provider provider && same_folded token.uid uid

-- the token of this provider, uid and type
abbrev pub is_token : Party → List ℕ → TokenKind → Token → Bool
is_token provider uid kind token = has_uid provider uid token && same_token_kind token.kind kind

-- whether the token is valid, as it was put last
abbrev pub validity : Party → List ℕ → TokenKind → List AccountEntry → Option Bool
validity provider uid kind entries =
    option_map (λ token. token.valid) (find (is_token provider uid kind) (reverse (tokens entries)))
