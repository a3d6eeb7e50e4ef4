-- The first platform that passes a test has the right by its name.
use Rattle.std.proofs.Common.{◌≡◌, ◌∙◌, ◌&&◌, ◌||◌, ℕ, refl, ap, sym, subst, rules, not, Bool, true, false, cond, List, [], ◌∷◌, Option, Some, None, IfSome, IfNone, find, option_map, unwrap_or}
use Rattle.std.specs.Cmp.{IsEquivalence}
use Rattle.std.specs.Cmp.Rules.{comparing}
use Rattle.std.specs.List.{list_any}
use Rattle.ocpi_json.specs.Folded.{same_folded}
use Rattle.ocpi_types.specs.declared.config.Config.{Config}
use Rattle.ocpi_types.specs.declared.config.Platform.{Platform}
use Rattle.ocpi_types.specs.Config.{alike_platforms, platform_of}
use Rattle.ocpi_types.specs.Different.{all_different}
use Rattle.event_commands.specs.Inner.PlatformTable.{first_name}

-- ---- items that a test finds

found_passes : {X : Type 0} (test : X → Bool) (xs : List X) (x : X) → find test xs ≡ Some x → test x ≡ true
found_passes test [] x h = absurd (cc)
found_passes {X} test (y ∷ ys) x h = by (test y) refl (found_passes test ys x) h
  where
    by : (b : Bool) → test y ≡ b → (find test ys ≡ Some x → test x ≡ true) → cond b (Some y) (find test ys) ≡ Some x → test x ≡ true
    by true e rest g = let same : y ≡ x = cc in subst (λ (z : X). test z ≡ true) same e
    by false e rest g = rest g

-- an item that is found passes no test that no item passes
found_fails : {X : Type 0} (test other : X → Bool) (xs : List X) (x : X) → find test xs ≡ Some x → list_any other xs ≡ false → other x ≡ false
found_fails test other [] x h none = absurd (cc)
found_fails {X} test other (y ∷ ys) x h none = by (test y) (other y) refl (found_fails test other ys x) h none
  where
    by : (b d : Bool) → other y ≡ d → (find test ys ≡ Some x → list_any other ys ≡ false → other x ≡ false)
        → cond b (Some y) (find test ys) ≡ Some x → (d || list_any other ys) ≡ false → other x ≡ false
    by b true e rest g n = absurd (cc)
    by true false e rest g n = let same : y ≡ x = cc in subst (λ (z : X). other z ≡ false) same e
    by false false e rest g n = rest g n

none_any : {X : Type 0} (test : X → Bool) (xs : List X) → find test xs ≡ None → list_any test xs ≡ false
none_any test [] h = refl
none_any test (y ∷ ys) h = by (test y) (none_any test ys) h
  where
    by : (b : Bool) → (find test ys ≡ None → list_any test ys ≡ false) → cond b (Some y) (find test ys) ≡ None → (b || list_any test ys) ≡ false
    by true rest g = absurd (cc)
    by false rest g = rest g

both_are : (a b : Bool) → (not a && b) ≡ true → (a ≡ false) × (b ≡ true)
both_are false b h = (refl, h)
both_are true b h = absurd (cc)

-- among items of which no two are alike, an item that is found is the first that is like it
found_first : {X : Type 0} (alike : X → X → Bool) → ((x : X) → alike x x ≡ true) → (test : X → Bool) (xs : List X) (x : X) → all_different alike xs ≡ true
    → find test xs ≡ Some x → find (λ y. alike y x) xs ≡ Some x
found_first alike own test [] x different h = absurd (cc)
found_first {X} alike own test (y ∷ ys) x different h =
    let parts = both_are (list_any (alike y) ys) (all_different alike ys) different in
    by (test y) (found_first alike own test ys x parts.1) (λ g. found_fails test (alike y) ys x g parts.0) h
  where
    by : (b : Bool) → (find test ys ≡ Some x → find (λ z. alike z x) ys ≡ Some x) → (find test ys ≡ Some x → alike y x ≡ false)
        → cond b (Some y) (find test ys) ≡ Some x → cond (alike y x) (Some y) (find (λ z. alike z x) ys) ≡ Some x
    by true rest other g =
        let same : y ≡ x = cc in
        ap (λ (c : Bool). cond c (Some y) (find (λ z. alike z x) ys)) (subst (λ (z : X). alike y z ≡ true) same (own y)) ∙ g
    by false rest other g = ap (λ (c : Bool). cond c (Some y) (find (λ z. alike z x) ys)) (other g) ∙ rest g

-- ---- platforms

name_laws : IsEquivalence same_folded
name_laws = search (comparing, rules)

-- the platform of that name passes the test
abbrev pub passes : (Platform → Bool) → Config → List ℕ → Bool
passes test config name = unwrap_or (option_map test (platform_of config name)) false

pub some_passes : (test : Platform → Bool) (config : Config) → all_different alike_platforms config.platforms ≡ true → (found : Option (List ℕ))
    → found ≡ first_name test config.platforms → IfSome found (λ name. passes test config name ≡ true)
some_passes test config different found is =
    subst (λ (o : Option (List ℕ)). IfSome o (λ name. passes test config name ≡ true)) (sym is) (by (find test config.platforms) refl)
  where
    by : (o : Option Platform) → find test config.platforms ≡ o → IfSome (option_map (λ platform. platform.name) o) (λ name. passes test config name ≡ true)
    by None e = tt
    by (Some platform) e =
        ap (λ (o : Option Platform). unwrap_or (option_map test o) false)
        (found_first alike_platforms (λ p. name_laws.refl p.name) test config.platforms platform different e)
        ∙ found_passes test config.platforms platform e

pub none_passes : (test : Platform → Bool) (config : Config) (found : Option (List ℕ)) → found ≡ first_name test config.platforms
    → IfNone found ((name : List ℕ) → passes test config name ≡ false)
none_passes test config found is =
    subst (λ (o : Option (List ℕ)). IfNone o ((name : List ℕ) → passes test config name ≡ false)) (sym is) (by (find test config.platforms) refl)
  where
    named : (name : List ℕ) (o : Option Platform) → platform_of config name ≡ o → find test config.platforms ≡ None → passes test config name ≡ false
    named name None e none = ap (λ (o : Option Platform). unwrap_or (option_map test o) false) e
    named name (Some platform) e none =
        ap (λ (o : Option Platform). unwrap_or (option_map test o) false) e
        ∙ found_fails (λ other. same_folded other.name name) test config.platforms platform e (none_any test config.platforms none)

    by : (o : Option Platform) → find test config.platforms ≡ o → IfNone (option_map (λ platform. platform.name) o) ((name : List ℕ) → passes test config name ≡ false)
    by None e = λ name. named name (platform_of config name) refl e
    by (Some platform) e = tt
