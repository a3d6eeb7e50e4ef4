-- What is known of tokens: the map gives what the entries give.
use Rattle.std.specs.Prelude.{◌≡◌, ℕ, List, Bool, ◌&&◌, Option}
use Rattle.indexmap.specs.IndexMap.{get}
use Rattle.ocpi_json.specs.Folded.{same_folded}
use Rattle.ocpi_types.specs.declared.party.Party.{Party}
use Rattle.ocpi_types.specs.declared.token.TokenKind.{TokenKind}
use Rattle.ocpi_types.specs.Party.{same_party}
use Rattle.ocpi_types.specs.TokenKind.{same_token_kind}
use Rattle.plain_house.specs.declared.entry.AccountEntry.{AccountEntry}
use Rattle.plain_house.specs.Tokens.{validity}
use Rattle.provider_account.specs.declared.tokens.TokenKey.{TokenKey}
use Rattle.provider_account.specs.declared.tokens.Tokens.{Tokens}

-- the same token
abbrev pub same_token : TokenKey → TokenKey → Bool
same_token a b = same_party a.provider b.provider && (same_folded a.uid b.uid && same_token_kind a.kind b.kind)

abbrev pub known_validity : Tokens → Party → List ℕ → TokenKind → Option Bool
known_validity tokens provider uid kind =
    get same_token tokens.valid (record { provider = provider; uid = uid; kind = kind })

-- for every token the map says what the entries say
abbrev pub KnowsTokens : Tokens → List AccountEntry → Type 0
KnowsTokens tokens entries =
    (provider : Party) (uid : List ℕ) (kind : TokenKind) → known_validity tokens provider uid kind ≡ validity provider uid kind entries
