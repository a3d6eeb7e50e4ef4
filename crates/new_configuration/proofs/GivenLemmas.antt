-- Each event is added by some admitted command, or by none.
use Rattle.std.proofs.Common.{◌≡◌, ◌⊎◌, ⊎_elim, inl, inr, ◌&&◌, ◌==◌, ℕ, ℤ, pos, negsuc, List, [], ◌∷◌, Bool, true, false, cond, refl, sym, ap, ◌∙◌, subst, find, Option, Some, None, option_map, unwrap_or, Result, Ok, Err}
use Rattle.std.specs.Prelude.{reverse}
use Rattle.std.specs.Cmp.Lexicographic.{pointwise, same_text}
use Rattle.std.specs.Str.{bytes_eq}
use Rattle.std.proofs.lemmas.Bool.{eqb-false, eqb-true}
use Rattle.std.proofs.lemmas.Cmp.{nat_list_eq_equiv}
use Rattle.ocpi_json.specs.Folded.{folded, same_folded}
use Rattle.ocpi_types.specs.declared.cdr.Cdr.{Cdr}
use Rattle.ocpi_types.specs.declared.config.Config.{Config}
use Rattle.ocpi_types.specs.declared.config.Platform.{Platform}
use Rattle.ocpi_types.specs.declared.party.Party.{Party}
use Rattle.ocpi_types.specs.declared.refusal.Refusal.{Refusal}
use Rattle.ocpi_types.specs.declared.token.Token.{Token}
use Rattle.ocpi_types.specs.declared.token.TokenKind.{TokenKind}
use Rattle.ocpi_types.specs.declared.token.TokenKind.TheVariants.{AdHocUser, AppUser, Other, Rfid}
use Rattle.ocpi_types.specs.Config.{acts_for, platform_of}
use Rattle.ocpi_types.specs.Party.{same_party}
use Rattle.ocpi_types.specs.TokenKind.{same_token_kind}
use Rattle.cdr_checks.specs.Admission.{IsAdmitted, admission}
use Rattle.cdr_checks.specs.declared.request.Ask.{Ask}
use Rattle.cdr_checks.specs.declared.request.Ask.TheVariants as ask
use Rattle.cdr_checks.specs.declared.request.Authorize.{Authorize}
use Rattle.cdr_checks.specs.declared.request.Command.{Command}
use Rattle.cdr_checks.specs.declared.request.Command.TheVariants as command
use Rattle.cdr_checks.specs.declared.request.Request.{Request}
use Rattle.plain_house.specs.declared.entry.AccountEntry.{AccountEntry}
use Rattle.plain_house.specs.declared.event.Event.{Event}
use Rattle.plain_house.specs.declared.event.Event.TheVariants as event
use Rattle.plain_house.specs.declared.event.Hold.{Hold}
use Rattle.plain_house.specs.House.{hold_for, verdict}
use Rattle.plain_house.specs.Known.{Known}
use Rattle.plain_house.specs.Legal.{IsGivenBy}
use Rattle.plain_house.specs.Tokens.{is_token, tokens, validity}
use Rattle.plain_house.proofs.EventLemmas.{event_has}
use Rattle.event_commands.specs.AskedAgain.{AskedAgainIsGiven, HoldsAreAskedAgain, IsAskedBy, ask_again, has_right, hold_ask}
use Rattle.event_commands.specs.EventCommands.{CommandsAreDetermined, IsCommandOf}
use Rattle.event_commands.proofs.AskLemmas.{asked_as, of_asked}
use Rattle.event_commands.proofs.HoldLemmas.{authorize_of}
use Rattle.event_commands.proofs.PlatformLemmas.{passes}

abbrev pub Decided : Type 0 → Type 0
Decided A = A ⊎ (A → ⊥)

-- ---- values

same_naturals : (m n : ℕ) → Decided (m ≡ n)
same_naturals m n = by (m == n) refl
  where
    by : (b : Bool) → (m == n) ≡ b → Decided (m ≡ n)
    by true e = inl (eqb-true m n e)
    by false e = inr (eqb-false m n e)

same_integers : (a b : ℤ) → Decided (a ≡ b)
same_integers (pos m) (pos n) = ⊎_elim (λ same. inl (ap (λ (k : ℕ). pos k) same)) (λ other. inr (λ h. other (cc))) (same_naturals m n)
same_integers (pos m) (negsuc n) = inr (λ h. absurd (cc))
same_integers (negsuc m) (pos n) = inr (λ h. absurd (cc))
same_integers (negsuc m) (negsuc n) = ⊎_elim (λ same. inl (ap (λ (k : ℕ). negsuc k) same)) (λ other. inr (λ h. other (cc))) (same_naturals m n)

same_texts : (a b : List ℕ) → Decided (a ≡ b)
same_texts a b = by (bytes_eq a b) refl
  where
    by : (same : Bool) → bytes_eq a b ≡ same → Decided (a ≡ b)
    by true e = inl (same_text a b (sym e))
    by false e = inr (λ h. let yes : bytes_eq a b ≡ true = subst (λ (t : List ℕ). bytes_eq a t ≡ true) h (nat_list_eq_equiv.refl a) in cc)

both_are : (a b : Bool) → (a && b) ≡ true → (a ≡ true) × (b ≡ true)
both_are true b h = (refl, h)
both_are false b h = absurd (cc)

-- ---- a platform that has the right

same_platform : (one other : List ℕ) (platforms : List Platform) → same_folded one other ≡ true
    → find (λ platform. same_folded platform.name one) platforms ≡ find (λ platform. same_folded platform.name other) platforms
same_platform one other platforms same =
    ap (λ (text : List ℕ). find (λ platform. pointwise ◌==◌ (folded platform.name) text) platforms) (same_text (folded one) (folded other) (sym same))

module _ (config : Config) (test : Platform → Bool) where
  abbrev Passing : Type 0
  Passing = (name : List ℕ) × (passes test config name ≡ true)

  -- no platform of these passes
  abbrev FailAmong : List Platform → Type 0
  FailAmong platforms =
      (name : List ℕ) (platform : Platform) → find (λ other. same_folded other.name name) platforms ≡ Some platform → platform_of config name ≡ Some platform → test platform ≡ false

  by_platform : (name : List ℕ) (platform : Platform) → platform_of config name ≡ Some platform → passes test config name ≡ test platform
  by_platform name platform found = ap (λ (o : Option Platform). unwrap_or (option_map test o) false) found

  one_fails : (first : Platform) (platforms : List Platform) → passes test config first.name ≡ false → FailAmong platforms → FailAmong (first ∷ platforms)
  one_fails first platforms fails rest name platform found is = by (same_folded first.name name) refl found
    where
      by : (b : Bool) → same_folded first.name name ≡ b → cond b (Some first) (find (λ other. same_folded other.name name) platforms) ≡ Some platform → test platform ≡ false
      by true same g =
          sym (by_platform name platform is)
          ∙ ap (λ (o : Option Platform). unwrap_or (option_map test o) false) (sym (same_platform first.name name config.platforms same)) ∙ fails
      by false same g = rest name platform g is

  pass_among : (platforms : List Platform) → Passing ⊎ FailAmong platforms
  pass_among [] = inr (λ name platform found is. absurd (cc))
  pass_among (first ∷ platforms) = by (passes test config first.name) refl (pass_among platforms)
    where
      by : (b : Bool) → passes test config first.name ≡ b → Passing ⊎ FailAmong platforms → Passing ⊎ FailAmong (first ∷ platforms)
      by true e rest = inl (first.name, e)
      by false e rest = ⊎_elim (λ found. inl found) (λ fail. inr (one_fails first platforms e fail)) rest

  none_passes : FailAmong config.platforms → (name : List ℕ) → passes test config name ≡ false
  none_passes fail name = by (platform_of config name) refl
    where
      by : (o : Option Platform) → platform_of config name ≡ o → passes test config name ≡ false
      by None e = ap (λ (o : Option Platform). unwrap_or (option_map test o) false) e
      by (Some platform) e = by_platform name platform e ∙ fail name platform e e

  passing : Passing ⊎ ((name : List ℕ) → passes test config name ≡ false)
  passing = ⊎_elim (λ found. inl found) (λ fail. inr (none_passes fail)) (pass_among config.platforms)

abbrev RightOrNone : Config → Ask → Type 0
RightOrNone config asked = ((name : List ℕ) × (has_right config asked name ≡ true)) ⊎ ((name : List ℕ) → has_right config asked name ≡ false)

right_or_none : (config : Config) (asked : Ask) → RightOrNone config asked
right_or_none config (ask.PutTariff tariff) = passing config (λ platform. acts_for platform tariff.operator)
right_or_none config (ask.PutToken token) = passing config (λ platform. acts_for platform token.provider)
right_or_none config (ask.Authorize authorize) = passing config (λ platform. acts_for platform authorize.operator)
right_or_none config (ask.Release release) = passing config (λ platform. acts_for platform release.operator)
right_or_none config (ask.Post cdr) = passing config (λ platform. acts_for platform cdr.operator)
right_or_none config (ask.Close close) = passing config (λ platform. platform.hub)
right_or_none config (ask.Settle settlement) = passing config (λ platform. platform.hub)
right_or_none config (ask.Exposure exposure) = passing config (λ platform. acts_for platform exposure.provider)
right_or_none config (ask.Find find) = passing config (λ platform. acts_for platform find.operator)
right_or_none config (ask.Statement statement) = passing config (λ platform. acts_for platform statement.party)

-- ---- the event that a request adds

-- an event that a request can add
abbrev IsOfAsk : Ask → Event → Type 0
IsOfAsk (ask.PutTariff tariff) e = e ≡ event.Tariff tariff
IsOfAsk (ask.PutToken token) e = e ≡ event.Token token
IsOfAsk (ask.Authorize authorize) e = (hold : Hold) × (e ≡ event.Authorised hold)
IsOfAsk (ask.Release release) e = e ≡ event.Released release
IsOfAsk (ask.Post cdr) e = ((cost : ℕ) × (e ≡ event.Cdr cdr cost)) ⊎ ((amount : ℤ) × (e ≡ event.Credit cdr amount))
IsOfAsk (ask.Close close) e = e ≡ event.Closed close.period
IsOfAsk (ask.Settle settlement) e = e ≡ event.Settled settlement
IsOfAsk (ask.Exposure exposure) e = ⊥
IsOfAsk (ask.Find find) e = ⊥
IsOfAsk (ask.Statement statement) e = ⊥

of_command : (done : Command) (e : Event) → IsCommandOf e done → IsOfAsk (asked_as done) e
of_command done (event.Tariff tariff) is = subst (λ (d : Command). IsOfAsk (asked_as d) (event.Tariff tariff)) (sym is) refl
of_command done (event.Token token) is = subst (λ (d : Command). IsOfAsk (asked_as d) (event.Token token)) (sym is) refl
of_command done (event.Authorised hold) is = subst (λ (d : Command). IsOfAsk (asked_as d) (event.Authorised hold)) (sym is.is_it) (hold, refl)
of_command done (event.Released release) is = subst (λ (d : Command). IsOfAsk (asked_as d) (event.Released release)) (sym is) refl
of_command done (event.Cdr cdr cost) is =
    subst (λ (d : Command). IsOfAsk (asked_as d) (event.Cdr cdr cost)) (sym is.is_it) (inl (cost, ap (λ (c : Cdr). event.Cdr c cost) (sym is.cdr_is)))
of_command done (event.Credit cdr amount) is =
    subst (λ (d : Command). IsOfAsk (asked_as d) (event.Credit cdr amount)) (sym is.is_it) (inr (amount, ap (λ (c : Cdr). event.Credit c amount) (sym is.cdr_is)))
of_command done (event.Settled settlement) is = subst (λ (d : Command). IsOfAsk (asked_as d) (event.Settled settlement)) (sym is) refl
of_command done (event.Closed period) is = subst (λ (d : Command). IsOfAsk (asked_as d) (event.Closed period)) (sym is) refl

some_same : (a b : Ask) → Some a ≡ Some b → a ≡ b
some_same a b h = cc

of_again : (e : Event) (asked : Ask) → ask_again e ≡ Some asked → IsOfAsk asked e
of_again (event.Tariff tariff) asked is = subst (λ (a : Ask). IsOfAsk a (event.Tariff tariff)) (some_same (ask.PutTariff tariff) asked is) refl
of_again (event.Token token) asked is = subst (λ (a : Ask). IsOfAsk a (event.Token token)) (some_same (ask.PutToken token) asked is) refl
of_again (event.Authorised hold) asked is = absurd (cc)
of_again (event.Released release) asked is = subst (λ (a : Ask). IsOfAsk a (event.Released release)) (some_same (ask.Release release) asked is) refl
of_again (event.Cdr cdr cost) asked is = subst (λ (a : Ask). IsOfAsk a (event.Cdr cdr cost)) (some_same (ask.Post cdr) asked is) (inl (cost, refl))
of_again (event.Credit cdr amount) asked is = subst (λ (a : Ask). IsOfAsk a (event.Credit cdr amount)) (some_same (ask.Post cdr) asked is) (inr (amount, refl))
of_again (event.Settled settlement) asked is = subst (λ (a : Ask). IsOfAsk a (event.Settled settlement)) (some_same (ask.Settle settlement) asked is) refl
of_again (event.Closed period) asked is = subst (λ (a : Ask). IsOfAsk a (event.Closed period)) (some_same (ask.Close (record { period = period })) asked is) refl

-- two events that one request can add, of which one is no hold
no_hold : (hold : Hold) (e : Event) (asked : Ask) → e ≡ event.Authorised hold → ask_again e ≡ Some asked → ⊥
no_hold hold e asked same is = let none : None ≡ Some asked = ap ask_again (sym same) ∙ is in absurd (cc)

same_posts : (cdr : Cdr) (x e : Event) → IsOfAsk (ask.Post cdr) x → IsOfAsk (ask.Post cdr) e → Decided (x ≡ e)
same_posts cdr x e its again = ⊎_elim
    (λ one. ⊎_elim
    (λ other. ⊎_elim
    (λ same. inl (one.1 ∙ ap (λ (n : ℕ). event.Cdr cdr n) same ∙ sym other.1))
    (λ differs. inr (λ h. let both : event.Cdr cdr one.0 ≡ event.Cdr cdr other.0 = sym one.1 ∙ h ∙ other.1 in differs (cc))) (same_naturals one.0 other.0))
    (λ other. inr (λ h. let both : event.Cdr cdr one.0 ≡ event.Credit cdr other.0 = sym one.1 ∙ h ∙ other.1 in absurd (cc)))
    again)
    (λ one. ⊎_elim
    (λ other. inr (λ h. let both : event.Credit cdr one.0 ≡ event.Cdr cdr other.0 = sym one.1 ∙ h ∙ other.1 in absurd (cc)))
    (λ other. ⊎_elim
    (λ same. inl (one.1 ∙ ap (λ (z : ℤ). event.Credit cdr z) same ∙ sym other.1))
    (λ differs. inr (λ h. let both : event.Credit cdr one.0 ≡ event.Credit cdr other.0 = sym one.1 ∙ h ∙ other.1 in differs (cc))) (same_integers one.0 other.0))
    again)
    its

same_events : (asked : Ask) (x e : Event) → ask_again e ≡ Some asked → IsOfAsk asked x → IsOfAsk asked e → Decided (x ≡ e)
same_events (ask.PutTariff tariff) x e is its again = inl (its ∙ sym again)
same_events (ask.PutToken token) x e is its again = inl (its ∙ sym again)
same_events (ask.Authorize authorize) x e is its again = absurd (no_hold again.0 e (ask.Authorize authorize) again.1 is)
same_events (ask.Release release) x e is its again = inl (its ∙ sym again)
same_events (ask.Post cdr) x e is its again = same_posts cdr x e its again
same_events (ask.Close close) x e is its again = inl (its ∙ sym again)
same_events (ask.Settle settlement) x e is its again = inl (its ∙ sym again)
same_events (ask.Exposure exposure) x e is its again = absurd its
same_events (ask.Find find) x e is its again = absurd its
same_events (ask.Statement statement) x e is its again = absurd its

abbrev admits_it : Command → Result Command Refusal
admits_it done = Ok done

same_command : (one other : Command) → admits_it one ≡ admits_it other → one ≡ other
same_command one other h = cc

-- ---- what a platform's request does, if it is known that each platform's request adds the event or none does

module _ (config : Config) (known : Known) (e : Event) (asked : Ask) (platform : List ℕ) (by_it : IsGivenBy config known e → IsAskedBy config known e asked platform) where
  abbrev request : Request
  request = record { platform = platform; ask = asked }

  not_admitted : (why : Refusal) → admission config request ≡ Err why → IsGivenBy config known e → ⊥
  not_admitted why refused given = let its : Err why ≡ Ok (by_it given).command = sym refused ∙ (by_it given).admitted in absurd (cc)

  -- its command adds this
  adds : (done : Command) → admission config request ≡ Ok done → IsGivenBy config known e → (verdict config known done).event ≡ Some e
  adds done admits given =
      let its = by_it given in
      let both : admits_it its.command ≡ admits_it done = sym its.admitted ∙ admits in
      let same : its.command ≡ done = same_command its.command done both in
      subst (λ (d : Command). (verdict config known d).event ≡ Some e) same its.adds

  by_event : (done : Command) → admission config request ≡ Ok done → (o : Option Event) → (verdict config known done).event ≡ o
      → ((x : Event) → (verdict config known done).event ≡ Some x → Decided (x ≡ e)) → Decided (IsGivenBy config known e)
  unfolding IsAdmitted
  by_event done admits None is compared = inr (λ given. let both : None ≡ Some e = sym is ∙ adds done admits given in absurd (cc))
  by_event done admits (Some x) is compared = ⊎_elim
      (λ same. inl (done, (request, admits), is ∙ ap (λ (y : Event). Some y) same))
      (λ differs. inr (λ given. let both : Some x ≡ Some e = sym is ∙ adds done admits given in differs (cc)))
      (compared x is)

  by_request : ((done : Command) (x : Event) → admission config request ≡ Ok done → (verdict config known done).event ≡ Some x → Decided (x ≡ e)) → Decided (IsGivenBy config known e)
  by_request compared = by (admission config request) refl
    where
      by : (m : Result Command Refusal) → admission config request ≡ m → Decided (IsGivenBy config known e)
      by (Err why) is = inr (not_admitted why is)
      by (Ok done) is = by_event done is (verdict config known done).event refl (λ x adds. compared done x is adds)

-- ---- an event that is no hold

module _ (determined : CommandsAreDetermined) (again : AskedAgainIsGiven) (config : Config) (known : Known) where
  asked_event : (e : Event) (asked : Ask) → ask_again e ≡ Some asked → Decided (IsGivenBy config known e)
  asked_event e asked is = ⊎_elim
      (λ right. by_request config known e asked right.0 (λ given. (again config known e asked is given).by_each right.0 right.1)
      (λ done x admits adds.
      let of : asked ≡ asked_as done = (of_asked config (record { platform = right.0; ask = asked }) done admits).0 in
      same_events asked x e is (subst (λ (a : Ask). IsOfAsk a x) (sym of) (of_command done x (determined config known done x adds))) (of_again e asked is)))
      (λ none. inr (λ given.
      let its = again config known e asked is given in
      let lacks : has_right config asked its.some_platform ≡ false = none its.some_platform in
      let has : has_right config asked its.some_platform ≡ true = its.its_right in
      cc))
      (right_or_none config asked)

-- ---- a token that is valid

same_kind : (a b : TokenKind) → same_token_kind a b ≡ true → a ≡ b
same_kind AdHocUser AdHocUser h = refl
same_kind AdHocUser AppUser h = absurd (cc)
same_kind AdHocUser Other h = absurd (cc)
same_kind AdHocUser Rfid h = absurd (cc)
same_kind AppUser AdHocUser h = absurd (cc)
same_kind AppUser AppUser h = refl
same_kind AppUser Other h = absurd (cc)
same_kind AppUser Rfid h = absurd (cc)
same_kind Other AdHocUser h = absurd (cc)
same_kind Other AppUser h = absurd (cc)
same_kind Other Other h = refl
same_kind Other Rfid h = absurd (cc)
same_kind Rfid AdHocUser h = absurd (cc)
same_kind Rfid AppUser h = absurd (cc)
same_kind Rfid Other h = absurd (cc)
same_kind Rfid Rfid h = refl

module _ (provider : Party) (entries : List AccountEntry) where
  abbrev all : List Token
  all = reverse (tokens entries)

  abbrev Valid : Type 0
  Valid = (uid : List ℕ) × (kind : TokenKind) × (validity provider uid kind entries ≡ Some true)

  same_tokens : (uid other : List ℕ) (kind its : TokenKind) → same_folded uid other ≡ true → kind ≡ its → find (is_token provider uid kind) all ≡ find (is_token provider other its) all
  same_tokens uid other kind its same kinds =
      ap (λ (text : List ℕ). find (λ token. (same_party token.provider provider && pointwise ◌==◌ (folded token.uid) text) && same_token_kind token.kind kind) all)
      (same_text (folded uid) (folded other) (sym same))
      ∙ ap (λ (k : TokenKind). find (is_token provider other k) all) kinds

  -- none of these tokens is one that is found and valid
  abbrev NoneValid : List Token → Type 0
  NoneValid some =
      (uid : List ℕ) (kind : TokenKind) (token : Token) → find (is_token provider uid kind) some ≡ Some token → find (is_token provider uid kind) all ≡ Some token → token.valid ≡ false

  one_invalid : (first : Token) (some : List Token) → (validity provider first.uid first.kind entries ≡ Some true → ⊥) → NoneValid some → NoneValid (first ∷ some)
  one_invalid first some invalid rest uid kind token found is = by (is_token provider uid kind first) refl found
    where
      valid : (b : Bool) → token.valid ≡ b → is_token provider uid kind first ≡ true → token.valid ≡ false
      valid false e same = e
      valid true e same =
          let parts = both_are (same_party first.provider provider && same_folded first.uid uid) (same_token_kind first.kind kind) same in
          let uids = (both_are (same_party first.provider provider) (same_folded first.uid uid) parts.0).1 in
          let its : validity provider first.uid first.kind entries ≡ Some true =
          ap (option_map (λ (t : Token). t.valid)) (same_tokens first.uid uid first.kind kind uids (same_kind first.kind kind parts.1) ∙ is) ∙ ap (λ (b : Bool). Some b) e in
          absurd (invalid its)

      by : (b : Bool) → is_token provider uid kind first ≡ b → cond b (Some first) (find (is_token provider uid kind) some) ≡ Some token → token.valid ≡ false
      by true same g = valid token.valid refl same
      by false same g = rest uid kind token g is

  valid_among : (some : List Token) → Valid ⊎ NoneValid some
  valid_among [] = inr (λ uid kind token found is. absurd (cc))
  valid_among (first ∷ some) = by (validity provider first.uid first.kind entries) refl (valid_among some)
    where
      by : (v : Option Bool) → validity provider first.uid first.kind entries ≡ v → Valid ⊎ NoneValid some → Valid ⊎ NoneValid (first ∷ some)
      by (Some true) e rest = inl (first.uid, first.kind, e)
      by (Some false) e rest = ⊎_elim (λ found. inl found) (λ none. inr (one_invalid first some (λ h. let both : Some false ≡ Some true = sym e ∙ h in absurd (cc)) none)) rest
      by None e rest = ⊎_elim (λ found. inl found) (λ none. inr (one_invalid first some (λ h. let both : None ≡ Some true = sym e ∙ h in absurd (cc)) none)) rest

  none_valid : NoneValid all → (uid : List ℕ) (kind : TokenKind) → validity provider uid kind entries ≡ Some true → ⊥
  none_valid none uid kind = by (find (is_token provider uid kind) all) refl
    where
      by : (o : Option Token) → find (is_token provider uid kind) all ≡ o → validity provider uid kind entries ≡ Some true → ⊥
      by None e h = let both : None ≡ Some true = sym (ap (option_map (λ (t : Token). t.valid)) e) ∙ h in absurd (cc)
      by (Some token) e h =
          let both : Some token.valid ≡ Some true = sym (ap (option_map (λ (t : Token). t.valid)) e) ∙ h in
          let invalid : token.valid ≡ false = none uid kind token e e in
          absurd (cc)

  valid_or_none : Valid ⊎ ((uid : List ℕ) (kind : TokenKind) → validity provider uid kind entries ≡ Some true → ⊥)
  valid_or_none = ⊎_elim (λ found. inl found) (λ none. inr (none_valid none)) (valid_among all)

-- ---- a hold

-- only an authorisation asks for one
authorises : (done : Command) (a : Authorize) → ask.Authorize a ≡ asked_as done → done ≡ command.Authorize a
authorises (command.PutTariff tariff) a h = absurd (cc)
authorises (command.PutToken token) a h = absurd (cc)
authorises (command.Authorize b) a h = cc
authorises (command.Release release) a h = absurd (cc)
authorises (command.Post checked) a h = absurd (cc)
authorises (command.Close close) a h = absurd (cc)
authorises (command.Settle settlement) a h = absurd (cc)
authorises (command.Exposure exposure) a h = absurd (cc)
authorises (command.Find find) a h = absurd (cc)
authorises (command.Statement statement) a h = absurd (cc)

-- the hold that an authorisation adds
its_hold : (config : Config) (known : Known) (a : Authorize) (x : Event) → (verdict config known (command.Authorize a)).event ≡ Some x → x ≡ event.Authorised (hold_for config a known.account)
its_hold config known a x h = event_has config known (λ e. e ≡ event.Authorised (hold_for config a known.account)) x (command.Authorize a) (λ room covered. refl) h

abbrev with_amount : Hold → ℕ → List ℕ → Hold
with_amount hold amount reference =
    record { operator = hold.operator; provider = hold.provider; currency = hold.currency; amount = amount; reference = reference }

one_hold : (one other : Hold) → event.Authorised one ≡ event.Authorised other → one ≡ other
one_hold one other h = cc

same_holds : (hold : Hold) (amount : ℕ) (reference : List ℕ) → Decided (event.Authorised (with_amount hold amount reference) ≡ event.Authorised hold)
same_holds hold amount reference = ⊎_elim
    (λ same. ⊎_elim
    (λ its. inl (ap (λ (n : ℕ). event.Authorised (with_amount hold n reference)) same ∙ ap (λ (t : List ℕ). event.Authorised (with_amount hold hold.amount t)) its))
    (λ differs. inr (λ h. differs (ap (λ (k : Hold). k.reference) (one_hold (with_amount hold amount reference) hold h)))) (same_texts reference hold.reference))
    (λ differs. inr (λ h. differs (ap (λ (k : Hold). k.amount) (one_hold (with_amount hold amount reference) hold h))))
    (same_naturals amount hold.amount)

module _ (determined : CommandsAreDetermined) (again : AskedAgainIsGiven) (holds : HoldsAreAskedAgain) (config : Config) (known : Known) where
  hold_asked : (hold : Hold) (uid : List ℕ) (kind : TokenKind) → validity hold.provider uid kind known.account ≡ Some true → Decided (IsGivenBy config known (event.Authorised hold))
  hold_asked hold uid kind valid = ⊎_elim
      (λ right. by_request config known (event.Authorised hold) (hold_ask hold uid kind) right.0 (λ given. (holds config known hold given).by_each uid kind right.0 valid right.1)
      (λ done x admits adds.
      let is : done ≡ command.Authorize (authorize_of hold uid kind) =
      authorises done (authorize_of hold uid kind) (of_asked config (record { platform = right.0; ask = hold_ask hold uid kind }) done admits).0 in
      let its : x ≡ event.Authorised (hold_for config (authorize_of hold uid kind) known.account) =
      its_hold config known (authorize_of hold uid kind) x (subst (λ (d : Command). (verdict config known d).event ≡ Some x) is adds) in
      let made : Hold = hold_for config (authorize_of hold uid kind) known.account in
      subst (λ (y : Event). Decided (y ≡ event.Authorised hold)) (sym its) (same_holds hold made.amount made.reference)))
      (λ none. inr (λ given.
      let its = holds config known hold given in
      let lacks : has_right config (hold_ask hold its.some_uid its.some_kind) its.some_platform ≡ false = none its.some_platform in
      let has : has_right config (hold_ask hold its.some_uid its.some_kind) its.some_platform ≡ true = its.its_right in
      cc))
      (right_or_none config (hold_ask hold uid kind))

  hold_event : (hold : Hold) → Decided (IsGivenBy config known (event.Authorised hold))
  hold_event hold = ⊎_elim
      (λ valid. hold_asked hold valid.0 valid.1 valid.2)
      (λ none. inr (λ given. let its = holds config known hold given in none its.some_uid its.some_kind its.its_token))
      (valid_or_none hold.provider known.account)

  abbrev no_hold_event : (e : Event) (asked : Ask) → ask_again e ≡ Some asked → Decided (IsGivenBy config known e)
  no_hold_event e asked is = asked_event determined again config known e asked is

  pub given_or_not : (e : Event) → Decided (IsGivenBy config known e)
  given_or_not (event.Tariff tariff) = no_hold_event (event.Tariff tariff) _ refl
  given_or_not (event.Token token) = no_hold_event (event.Token token) _ refl
  given_or_not (event.Authorised hold) = hold_event hold
  given_or_not (event.Released release) = no_hold_event (event.Released release) _ refl
  given_or_not (event.Cdr cdr cost) = no_hold_event (event.Cdr cdr cost) _ refl
  given_or_not (event.Credit cdr amount) = no_hold_event (event.Credit cdr amount) _ refl
  given_or_not (event.Settled settlement) = no_hold_event (event.Settled settlement) _ refl
  given_or_not (event.Closed period) = no_hold_event (event.Closed period) _ refl
