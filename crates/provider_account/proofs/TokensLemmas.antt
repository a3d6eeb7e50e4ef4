-- Which token is valid, after one more entry.
use Rattle.std.proofs.Common.{◌≡◌, ℕ, List, [], ◌∷◌, ◌++◌, Bool, true, false, ◌&&◌, cond, Some, find, reverse, option_map, refl, sym, ap, ◌∙◌}
use denote.Enum.Bare.{sameb}
use Rattle.std.specs.Map.{lookup}
use Rattle.std.proofs.Math.Bool.{and_assoc}
use Rattle.std.proofs.lemmas.List.{append-nil, reverse-append}
use Rattle.std.proofs.lemmas.List.Concat.{flat_map-append}
use Rattle.indexmap.specs.IndexMap.{Updates, get}
use Rattle.ocpi_json.specs.Folded.{same_folded}
use Rattle.ocpi_types.specs.declared.party.Party.{Party}
use Rattle.ocpi_types.specs.declared.token.Token.{Token}
use Rattle.ocpi_types.specs.contracts.token.TokenKind.{the_type}
use Rattle.ocpi_types.specs.declared.token.TokenKind.{TokenKind}
use Rattle.ocpi_types.specs.declared.token.TokenKind.TheVariants.{AdHocUser, AppUser, Other, Rfid}
use Rattle.ocpi_types.specs.Party.{same_party}
use Rattle.ocpi_types.specs.TokenKind.{same_token_kind}
use Rattle.plain_house.specs.declared.entry.AccountEntry.{AccountEntry}
use Rattle.plain_house.specs.declared.entry.AccountEntry.TheVariants as account
use Rattle.plain_house.specs.Tokens.{is_token, token_in, tokens, validity}
use Rattle.provider_account.specs.declared.tokens.TokenKey.{TokenKey}
use Rattle.provider_account.specs.declared.tokens.Tokens.{Tokens}
use Rattle.provider_account.specs.Inner.Tokens.{KnowsTokens, same_token}

tokens-push : (entries : List AccountEntry) (entry : AccountEntry) → tokens (entries ++ entry ∷ []) ≡ tokens entries ++ token_in entry
tokens-push entries entry = flat_map-append token_in entries (entry ∷ []) ∙ ap (λ l. tokens entries ++ l) (append-nil (token_in entry))

validity-push : (provider : Party) (uid : List ℕ) (kind : TokenKind) (entries : List AccountEntry) (token : Token)
    → validity provider uid kind (entries ++ account.Token token ∷ []) ≡ cond (is_token provider uid kind token) (Some token.valid) (validity provider uid kind entries)
validity-push provider uid kind entries token =
    ap (λ l. option_map (λ (t : Token). t.valid) (find (is_token provider uid kind) (reverse l))) (tokens-push entries (account.Token token))
    ∙ ap (λ l. option_map (λ (t : Token). t.valid) (find (is_token provider uid kind) l)) (reverse-append (tokens entries) (token ∷ []))
    ∙ by (is_token provider uid kind token)
  where
    by : (b : Bool) → option_map (λ (t : Token). t.valid) (cond b (Some token) (find (is_token provider uid kind) (reverse (tokens entries)))) ≡ cond b (Some token.valid) (validity provider uid kind entries)
    by true = refl
    by false = refl

-- token types are compared as declared
same_kinds : (a b : TokenKind) → sameb the_type a b ≡ same_token_kind a b
same_kinds AdHocUser AdHocUser = refl
same_kinds AdHocUser AppUser = refl
same_kinds AdHocUser Other = refl
same_kinds AdHocUser Rfid = refl
same_kinds AppUser AdHocUser = refl
same_kinds AppUser AppUser = refl
same_kinds AppUser Other = refl
same_kinds AppUser Rfid = refl
same_kinds Other AdHocUser = refl
same_kinds Other AppUser = refl
same_kinds Other Other = refl
same_kinds Other Rfid = refl
same_kinds Rfid AdHocUser = refl
same_kinds Rfid AppUser = refl
same_kinds Rfid Other = refl
same_kinds Rfid Rfid = refl

abbrev pub compared : TokenKey → TokenKey → Bool
compared a b = same_party a.provider b.provider && (same_folded a.uid b.uid && sameb the_type a.kind b.kind)

as_compared : (known : Tokens) (q : TokenKey) → get same_token known.valid q ≡ get compared known.valid q
as_compared known q i =
    lookup (λ k. same_party q.provider k.provider && (same_folded q.uid k.uid && sym (same_kinds q.kind k.kind) i)) known.valid.entries

-- the put of a token
pub knows_token : (old new : Tokens) (token : Token) → Updates compared old.valid new.valid (record { provider = token.provider; uid = token.uid; kind = token.kind }) (Some token.valid)
    → (entries : List AccountEntry) → KnowsTokens old entries → KnowsTokens new (entries ++ account.Token token ∷ [])
knows_token old new token updates entries knows provider uid kind =
    let q : TokenKey = record { provider = provider; uid = uid; kind = kind } in
    let before = knows provider uid kind in
    as_compared new q ∙ updates.0 q
    ∙ (λ i. cond (same_party token.provider provider && (same_folded token.uid uid && same_kinds token.kind kind i)) (Some token.valid) ((sym (as_compared old q) ∙ before) i))
    ∙ ap (λ (b : Bool). cond b (Some token.valid) (validity provider uid kind entries)) (sym (and_assoc (same_party token.provider provider) (same_folded token.uid uid) (same_token_kind token.kind kind)))
    ∙ sym (validity-push provider uid kind entries token)
