-- The valid tokens of each provider.
use Rattle.std.proofs.Common.{◌≡◌, ◌≢◌, ◌∙◌, ◌&&◌, ◌||◌, ◌==◌, ℕ, refl, ap, ap₂, sym, subst, rules, Bool, true, false, cond, List, [], ◌∷◌, ◌++◌, Option, Some, find, reverse, option_map, append-nil}
use Rattle.std.specs.Cmp.{IsEquivalence}
use Rattle.std.specs.Cmp.Lexicographic.{pointwise, same_text}
use Rattle.std.specs.Cmp.Rules.{comparing}
use Rattle.std.specs.List.{list_any}
use Rattle.std.proofs.lemmas.List.{reverse-append}
use Rattle.std.proofs.lemmas.List.Concat.{flat_map-append}
use Rattle.std.proofs.lemmas.List.Folds.{list_any-append}
use Rattle.ocpi_json.specs.Folded.{folded, same_folded}
use Rattle.ocpi_types.specs.declared.config.Config.{Config}
use Rattle.ocpi_types.specs.declared.party.Party.{Party}
use Rattle.ocpi_types.specs.declared.token.Token.{Token}
use Rattle.ocpi_types.specs.declared.token.TokenKind.{TokenKind}
use Rattle.ocpi_types.specs.declared.token.TokenKind.TheVariants as kind
use Rattle.ocpi_types.specs.Party.{same_party}
use Rattle.ocpi_types.specs.TokenKind.{same_token_kind}
use Rattle.plain_house.specs.declared.entry.AccountEntry.{AccountEntry}
use Rattle.plain_house.specs.declared.event.Event.{Event}
use Rattle.plain_house.specs.declared.event.Event.TheVariants as event
use Rattle.plain_house.specs.declared.event.Hold.{Hold}
use Rattle.plain_house.specs.Entries.{EntriesAreDated, account_entries, account_entry, period_of}
use Rattle.plain_house.specs.Known.{known}
use Rattle.plain_house.specs.Tokens.{is_token, token_in, tokens, validity}
use Rattle.event_commands.specs.AskedAgain.{IsHeldAgain}
use Rattle.new_configuration.specs.Inner.ValidTokens.{HaveValidOf, KeepsPut, KeepsToken}

-- ---- tests

both_are : (a b : Bool) → (a && b) ≡ true → (a ≡ true) × (b ≡ true)
both_are true b h = (refl, h)
both_are false b h = absurd (cc)

or_false : (b : Bool) → (b || false) ≡ b
or_false true = refl
or_false false = refl

or_true : (b : Bool) → (b || true) ≡ true
or_true true = refl
or_true false = refl

-- ---- another spelling

party_laws : IsEquivalence same_party
party_laws = search (comparing, rules)

-- a token is of a provider in any spelling
same_tests : (a b : Party) (uid : List ℕ) (its : TokenKind) → same_party a b ≡ true → is_token a uid its ≡ is_token b uid its
same_tests a b uid its h = λ i token. (alike token i) && same_folded token.uid uid && same_token_kind token.kind its
  where
    alike : (token : Token) → same_party token.provider a ≡ same_party token.provider b
    alike token = party_laws.symm token.provider a ∙ party_laws.congr a b token.provider h ∙ party_laws.symm b token.provider

-- what is so of a provider's tokens is so in any spelling of the provider
pub in_any_spelling : (events : List Event) (a b : Party) (xs : List Token) → same_party a b ≡ true → HaveValidOf events a xs → HaveValidOf events b xs
in_any_spelling events a b xs h have uid its valid =
    let same : is_token a uid its ≡ is_token b uid its = same_tests a b uid its h in
    let as_a : validity a uid its (account_entries events) ≡ Some true =
    ap (λ (test : Token → Bool). option_map (λ (t : Token). t.valid) (find test (reverse (tokens (account_entries events))))) same ∙ valid in
    ap (λ (test : Token → Bool). list_any test xs) (sym same) ∙ have uid its as_a

same_kinds : (a b : TokenKind) → same_token_kind a b ≡ true → a ≡ b
same_kinds kind.AdHocUser kind.AdHocUser h = refl
same_kinds kind.AppUser kind.AppUser h = refl
same_kinds kind.Other kind.Other h = refl
same_kinds kind.Rfid kind.Rfid h = refl
same_kinds kind.AdHocUser kind.AppUser h = absurd (cc)
same_kinds kind.AdHocUser kind.Other h = absurd (cc)
same_kinds kind.AdHocUser kind.Rfid h = absurd (cc)
same_kinds kind.AppUser kind.AdHocUser h = absurd (cc)
same_kinds kind.AppUser kind.Other h = absurd (cc)
same_kinds kind.AppUser kind.Rfid h = absurd (cc)
same_kinds kind.Other kind.AdHocUser h = absurd (cc)
same_kinds kind.Other kind.AppUser h = absurd (cc)
same_kinds kind.Other kind.Rfid h = absurd (cc)
same_kinds kind.Rfid kind.AdHocUser h = absurd (cc)
same_kinds kind.Rfid kind.AppUser h = absurd (cc)
same_kinds kind.Rfid kind.Other h = absurd (cc)

-- a token is as valid as another spelling of it
as_valid : (entries : List AccountEntry) (provider : Party) (uid : List ℕ) (its : TokenKind) (token : Token) → same_folded token.uid uid ≡ true → same_token_kind token.kind its ≡ true
    → validity provider token.uid token.kind entries ≡ validity provider uid its entries
as_valid entries provider uid its token u k =
    ap₂ (λ (f : List ℕ) (x : TokenKind). option_map (λ (t : Token). t.valid) (find (λ (t : Token). same_party t.provider provider && pointwise ◌==◌ (folded t.uid) f && same_token_kind t.kind x) (reverse (tokens entries))))
    (same_text (folded token.uid) (folded uid) (sym u)) (same_kinds token.kind its k)

-- ---- a provider's tokens

-- a token that is not valid can be dropped
pub still_have : (events : List Event) (provider : Party) (xs : List Token) (x : Token) → HaveValidOf events provider (xs ++ x ∷ []) → validity provider x.uid x.kind (account_entries events) ≢ Some true
    → HaveValidOf events provider xs
still_have events provider xs x have invalid uid its valid =
    by (is_token provider uid its x) refl (sym (list_any-append (is_token provider uid its) xs (x ∷ [])) ∙ have uid its valid)
  where
    by : (b : Bool) → is_token provider uid its x ≡ b → (list_any (is_token provider uid its) xs || (b || false)) ≡ true → list_any (is_token provider uid its) xs ≡ true
    by true e g =
        let one = both_are (same_party x.provider provider && same_folded x.uid uid) (same_token_kind x.kind its) e in
        let two = both_are (same_party x.provider provider) (same_folded x.uid uid) one.0 in
        absurd (invalid (as_valid (account_entries events) provider uid its x two.1 one.1 ∙ valid))
    by false e g = sym (or_false (list_any (is_token provider uid its) xs)) ∙ g

-- without a token no authorisation adds the hold
pub none_left : (config : Config) (events : List Event) (hold : Hold) → HaveValidOf events hold.provider [] → IsHeldAgain config (known events) hold → ⊥
none_left config events hold have again =
    let found : list_any (is_token hold.provider again.some_uid again.some_kind) [] ≡ true = have again.some_uid again.some_kind again.its_token in
    absurd (cc)

abbrev pub AllHave : List Event → (Party → List Token) → Type 0
AllHave events tokens_of = (provider : Party) → HaveValidOf events provider (tokens_of provider)

-- the tokens of a provider are taken out, and others put in their place
pub put_back : (events : List Event) (before taken now : Party → List Token) (owner : Party) (xs : List Token)
    → ((other : Party) → same_party owner other ≡ false → taken other ≡ before other) → ((other : Party) → now other ≡ cond (same_party owner other) xs (taken other))
    → HaveValidOf events owner xs → AllHave events before → AllHave events now
put_back events before taken now owner xs others is its have provider = by (same_party owner provider) refl (is provider)
  where
    by : (b : Bool) → same_party owner provider ≡ b → now provider ≡ cond b xs (taken provider) → HaveValidOf events provider (now provider)
    by true e n = subst (HaveValidOf events provider) (sym n) (in_any_spelling events owner provider xs e its)
    by false e n = subst (HaveValidOf events provider) (sym (n ∙ others provider e)) (have provider)

-- ---- one more event

abbrev found_in : Party → List ℕ → TokenKind → List Token → Option Bool
found_in provider uid its xs = option_map (λ token. token.valid) (find (is_token provider uid its) (reverse xs))

tokens_are : EntriesAreDated → (events : List Event) (e : Event) → tokens (account_entries (events ++ e ∷ [])) ≡ tokens (account_entries events) ++ tokens (account_entry e (period_of events))
tokens_are dated events e =
    ap tokens ((dated events e []).in_accounts ∙ ap (λ (l : List AccountEntry). account_entries events ++ l) (append-nil (account_entry e (period_of events))))
    ∙ flat_map-append token_in (account_entries events) (account_entry e (period_of events))

-- an event that puts no token
silent : EntriesAreDated → (events : List Event) (e : Event) (before now : Party → List Token) → tokens (account_entry e (period_of events)) ≡ []
    → ((provider : Party) → now provider ≡ before provider) → AllHave events before → AllHave (events ++ e ∷ []) now
silent dated events e before now none is have provider uid its h =
    let same : tokens (account_entries (events ++ e ∷ [])) ≡ tokens (account_entries events) =
    tokens_are dated events e ∙ ap (λ (l : List Token). tokens (account_entries events) ++ l) none ∙ append-nil (tokens (account_entries events)) in
    ap (list_any (is_token provider uid its)) (is provider) ∙ have provider uid its (ap (found_in provider uid its) (sym same) ∙ h)

-- an item that passes is among the items, whether or not another is added
still_any : {X : Type 0} (test : X → Bool) (xs : List X) (x : X) (b : Bool) (now : List X) → list_any test xs ≡ true → now ≡ cond b (xs ++ x ∷ []) xs → list_any test now ≡ true
still_any test xs x true now any is = ap (list_any test) is ∙ list_any-append test xs (x ∷ []) ∙ ap (λ (c : Bool). c || list_any test (x ∷ [])) any
still_any test xs x false now any is = ap (list_any test) is ∙ any

-- or it is the item that is added
now_any : {X : Type 0} (test : X → Bool) (xs : List X) (x : X) (b d : Bool) (now : List X) → test x ≡ true → b ≡ true → d ≡ true → now ≡ cond (b && d) (xs ++ x ∷ []) xs
    → list_any test now ≡ true
now_any test xs x true true now passes b d is =
    ap (list_any test) is ∙ list_any-append test xs (x ∷ []) ∙ ap (λ (c : Bool). list_any test xs || (c || false)) passes ∙ or_true (list_any test xs)
now_any test xs x false d now passes b d_is is = absurd (cc)
now_any test xs x true false now passes b d is = absurd (cc)

-- an event that puts a token
one_more : EntriesAreDated → (events : List Event) (t : Token) (before now : Party → List Token) → KeepsToken before t now → AllHave events before
    → AllHave (events ++ event.Token t ∷ []) now
one_more dated events t before now kept have provider uid its h =
    let puts : List Token = tokens (account_entries events) in
    let same : tokens (account_entries (events ++ event.Token t ∷ [])) ≡ puts ++ t ∷ [] = tokens_are dated events (event.Token t) in
    let last : found_in provider uid its (puts ++ t ∷ []) ≡ Some true = ap (found_in provider uid its) (sym same) ∙ h in
    let first : option_map (λ (token : Token). token.valid) (find (is_token provider uid its) (t ∷ reverse puts)) ≡ Some true =
    ap (λ (l : List Token). option_map (λ (token : Token). token.valid) (find (is_token provider uid its) l)) (sym (reverse-append puts (t ∷ []))) ∙ last in
    by (is_token provider uid its t) refl first
  where
    by : (b : Bool) → is_token provider uid its t ≡ b
        → option_map (λ (token : Token). token.valid) (cond b (Some t) (find (is_token provider uid its) (reverse (tokens (account_entries events))))) ≡ Some true
        → list_any (is_token provider uid its) (now provider) ≡ true
    by true e g =
        let valid : t.valid ≡ true = cc in
        let one = both_are (same_party t.provider provider && same_folded t.uid uid) (same_token_kind t.kind its) e in
        let two = both_are (same_party t.provider provider) (same_folded t.uid uid) one.0 in
        now_any (is_token provider uid its) (before provider) t t.valid (same_party t.provider provider) (now provider) e valid two.0 (kept provider)
    by false e g = still_any (is_token provider uid its) (before provider) t (t.valid && same_party t.provider provider) (now provider) (have provider uid its g) (kept provider)

pub keeps_valid : EntriesAreDated → (events : List Event) (e : Event) (before now : Party → List Token) → KeepsPut before e now → AllHave events before → AllHave (events ++ e ∷ []) now
keeps_valid dated events (event.Tariff tariff) before now kept have = silent dated events (event.Tariff tariff) before now refl kept have
keeps_valid dated events (event.Token t) before now kept have = one_more dated events t before now kept have
keeps_valid dated events (event.Authorised hold) before now kept have = silent dated events (event.Authorised hold) before now refl kept have
keeps_valid dated events (event.Released release) before now kept have = silent dated events (event.Released release) before now refl kept have
keeps_valid dated events (event.Cdr cdr cost) before now kept have = silent dated events (event.Cdr cdr cost) before now refl kept have
keeps_valid dated events (event.Credit cdr amount) before now kept have = silent dated events (event.Credit cdr amount) before now refl kept have
keeps_valid dated events (event.Settled settlement) before now kept have = silent dated events (event.Settled settlement) before now refl kept have
keeps_valid dated events (event.Closed period) before now kept have = silent dated events (event.Closed period) before now refl kept have
