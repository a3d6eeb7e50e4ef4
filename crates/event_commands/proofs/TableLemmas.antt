-- The table of platforms, one party and one platform at a time.
use Rattle.std.proofs.Common.{◌≡◌, ◌∙◌, ◌||◌, ◌+◌, ◌<◌, ℕ, refl, ap, ap₂, sym, rules, Bool, true, false, cond, List, [], ◌∷◌, ◌++◌, Option, Some, None, is_some, option_map, find, length, take, get_or}
use Rattle.std.specs.Cmp.{IsEquivalence}
use Rattle.std.specs.Cmp.Rules.{comparing}
use Rattle.std.specs.List.{list_any}
use Rattle.std.specs.Map.{lookup}
use Rattle.std.specs.Option.{option_or}
use Rattle.std.proofs.lemmas.List.{take_more}
use Rattle.std.proofs.lemmas.List.Folds.{find-append, list_any-append}
use Rattle.indexmap.specs.IndexMap.{IndexMap, get}
use Rattle.ocpi_types.specs.declared.party.Party.{Party}
use Rattle.ocpi_types.specs.declared.config.Platform.{Platform}
use Rattle.ocpi_types.specs.Party.{same_party}
use Rattle.event_commands.specs.Inner.PlatformTable.{first_name, name_if}

party_laws : IsEquivalence same_party
party_laws = search (comparing, rules)

-- a map has the same for two keys that are the same
lookup_same : {K X : Type 0} {eq : K → K → Bool} (laws : IsEquivalence eq) (a b : K) (es : List (K × X)) → eq a b ≡ true
    → lookup (eq a) es ≡ lookup (eq b) es
lookup_same laws a b [] h = refl
lookup_same {eq = eq} laws a b (e ∷ es) h =
    ap₂ (λ (c : Bool) rest. cond c (Some e.1) rest) (laws.congr a b e.0 h) (lookup_same laws a b es h)

-- ---- one more of a list

pub take_item : {X : Type 0} (xs : List X) (i : ℕ) (x : X) → i < length xs → x ≡ get_or xs i x → take i xs ++ x ∷ [] ≡ take (i + 1) xs
take_item {X} xs i x within is = ap (λ (y : X). take i xs ++ y ∷ []) is ∙ sym (take_more xs i x within)

-- ---- one more party

-- what the table has for a party, by what it had before and whether the party is among these
abbrev pub named : Option (List ℕ) → Bool → List ℕ → Option (List ℕ)
named before among name = option_or before (name_if among name)

-- a party that has a platform already
stays : (before : Option (List ℕ)) (among same : Bool) (name : List ℕ) (now : Option (List ℕ)) → now ≡ named before among name
    → (same ≡ true → is_some now ≡ true) → now ≡ named before (among || same) name
stays (Some x) among same name now is has = is
stays None true same name now is has = is
stays None false false name now is has = is
stays None false true name now is has = let none : is_some now ≡ false = ap is_some is in let some : is_some now ≡ true = has refl in absurd (cc)

-- a party that has none yet
comes : (before : Option (List ℕ)) (among same : Bool) (name : List ℕ) (now : Option (List ℕ)) → now ≡ named before among name
    → (same ≡ true → is_some now ≡ false) → cond same (Some name) now ≡ named before (among || same) name
comes (Some x) among false name now is has = is ∙ refl
comes (Some x) among true name now is has = let some : is_some now ≡ true = ap is_some is in let none : is_some now ≡ false = has refl in absurd (cc)
comes None true false name now is has = is
comes None true true name now is has = refl
comes None false false name now is has = is
comes None false true name now is has = refl

or_false : (b : Bool) → (b || false) ≡ b
or_false true = refl
or_false false = refl

one_more : (parties : List Party) (i : ℕ) (party asked : Party) → i < length parties → party ≡ get_or parties i party
    → (list_any (λ other. same_party other asked) (take i parties) || same_party party asked) ≡ list_any (λ other. same_party other asked) (take (i + 1) parties)
one_more parties i party asked within is =
    let test : Party → Bool = λ other. same_party other asked in
    ap (λ (b : Bool). list_any test (take i parties) || b) (sym (or_false (test party))) ∙ sym (list_any-append test (take i parties) (party ∷ []))
    ∙ ap (list_any test) (take_item parties i party within is)

-- a party that has a platform keeps it
pub kept : {S : Type 0} (acting : IndexMap Party (List ℕ) S) (before : Option (List ℕ)) (parties : List Party) (i : ℕ) (party asked : Party) (name : List ℕ) → i < length parties
    → party ≡ get_or parties i party → is_some (get same_party acting party) ≡ true
    → get same_party acting asked ≡ named before (list_any (λ other. same_party other asked) (take i parties)) name
    → get same_party acting asked ≡ named before (list_any (λ other. same_party other asked) (take (i + 1) parties)) name
kept acting before parties i party asked name within is some now =
    stays before (list_any (λ other. same_party other asked) (take i parties)) (same_party party asked) name (get same_party acting asked) now
    (λ same. ap is_some (sym (lookup_same party_laws party asked acting.entries same)) ∙ some)
    ∙ ap (λ (b : Bool). named before b name) (one_more parties i party asked within is)

-- a party that has none gets this one
pub added : {S : Type 0} (acting : IndexMap Party (List ℕ) S) (before : Option (List ℕ)) (parties : List Party) (i : ℕ) (party asked : Party) (name : List ℕ) → i < length parties
    → party ≡ get_or parties i party → is_some (get same_party acting party) ≡ false
    → get same_party acting asked ≡ named before (list_any (λ other. same_party other asked) (take i parties)) name
    → cond (same_party party asked) (Some name) (get same_party acting asked) ≡ named before (list_any (λ other. same_party other asked) (take (i + 1) parties)) name
added acting before parties i party asked name within is none now =
    comes before (list_any (λ other. same_party other asked) (take i parties)) (same_party party asked) name (get same_party acting asked) now
    (λ same. ap is_some (sym (lookup_same party_laws party asked acting.entries same)) ∙ none)
    ∙ ap (λ (b : Bool). named before b name) (one_more parties i party asked within is)

-- ---- one more platform

-- the first that passes among one more
pub first_more : (test : Platform → Bool) (xs : List Platform) (x : Platform) → first_name test (xs ++ x ∷ []) ≡ named (first_name test xs) (test x) x.name
first_more test xs x = ap (option_map (λ platform. platform.name)) (find-append test xs (x ∷ [])) ∙ by (find test xs) (test x)
  where
    by : (o : Option Platform) (b : Bool) → option_map (λ platform. platform.name) (option_or o (cond b (Some x) None)) ≡ named (option_map (λ platform. platform.name) o) b x.name
    by (Some y) b = refl
    by None true = refl
    by None false = refl
