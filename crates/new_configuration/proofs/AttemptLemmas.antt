-- What an authorisation that asks for a hold results in.
use Rattle.std.proofs.Common.{◌≡◌, ℕ, List, [], ◌∷◌, Bool, true, false, refl, ap, sym, subst, ◌∙◌, Option, None, Some, Result, Ok}
use Rattle.ocpi_types.specs.declared.config.Config.{Config}
use Rattle.ocpi_types.specs.declared.refusal.Refusal.{Refusal}
use Rattle.ocpi_types.specs.declared.refusal.Store.{Store}
use Rattle.ocpi_types.specs.declared.refusal.Store.TheVariants as store
use Rattle.ocpi_types.specs.declared.token.TokenKind.{TokenKind}
use Rattle.cdr_checks.specs.Admission.{IsAdmitted, admission}
use Rattle.cdr_checks.specs.declared.request.Ask.{Ask}
use Rattle.cdr_checks.specs.declared.request.Command.{Command}
use Rattle.plain_house.specs.declared.event.Event.{Event}
use Rattle.plain_house.specs.declared.event.Event.TheVariants as event
use Rattle.plain_house.specs.declared.event.Hold.{Hold}
use Rattle.plain_house.specs.declared.over_limit.OverLimit.{OverLimit}
use Rattle.plain_house.specs.Full.{first_full, is_account_full, is_order_full}
use Rattle.plain_house.specs.House.{allows, full_for, hold_for, over_credit, unless_covered, unless_valid, verdict}
use Rattle.plain_house.specs.Known.{Known, known}
use Rattle.plain_house.specs.Tokens.{validity}
use Rattle.plain_house.specs.Verdict.{Verdict, refused_at, unless}
use Rattle.event_commands.specs.AskedAgain.{IsAskedBy, IsHeldAgain, IsOfValid, has_right, hold_ask}
use Rattle.event_commands.proofs.AskLemmas.{of_asked}
use Rattle.event_commands.proofs.HoldLemmas.{any_token, authorize_of, command_of}
use Rattle.new_configuration.specs.Inner.Attempt.{EndsIn, TokenEndsIn, is_of_invalid}
use Rattle.new_configuration.specs.declared.holds.Attempt.{Attempt}
use Rattle.new_configuration.specs.declared.holds.Attempt.TheVariants as attempt
use Rattle.new_configuration.proofs.AddedLemmas.{is_added}

-- ---- replies

not_invalid : (full : Option Store) (found : Option OverLimit) (hold : Hold) → is_of_invalid (unless (refused_at full ∷ unless_covered found ∷ []) (allows hold)).reply ≡ false
not_invalid None None hold = refl
not_invalid None (Some over) hold = refl
not_invalid (Some what) found hold = refl

module _ (config : Config) (now : Known) (hold : Hold) (uid : List ℕ) (its : TokenKind) where
  abbrev tested : Option Bool → Verdict
  tested v =
      unless (unless_valid v ∷ full_for config now hold.provider ∷ unless_covered (over_credit config (authorize_of hold uid its) now.account) ∷ [])
      (allows (hold_for config (authorize_of hold uid its) now.account))

  abbrev Rejects : Bool → Type 0
  Rejects b = is_of_invalid (verdict config now (command_of hold uid its)).reply ≡ b

  valid_of : Rejects false → IsOfValid now hold uid its
  valid_of h = by (validity hold.provider uid its now.account) h
    where
      by : (v : Option Bool) → is_of_invalid (tested v).reply ≡ false → v ≡ Some true
      by None g = absurd (cc)
      by (Some true) g = refl
      by (Some false) g = absurd (cc)

  not_valid_of : Rejects true → IsOfValid now hold uid its → ⊥
  not_valid_of h valid =
      let other : is_of_invalid (tested (Some true)).reply ≡ false =
      not_invalid (first_full ((store.Account, is_account_full config hold.provider now.account) ∷ (store.Order, is_order_full config now.point) ∷ []))
      (over_credit config (authorize_of hold uid its) now.account) (hold_for config (authorize_of hold uid its) now.account) in
      let one : is_of_invalid (tested (Some true)).reply ≡ true = ap (λ (v : Option Bool). is_of_invalid (tested v).reply) (sym valid) ∙ h in
      cc

-- ---- the command of an authorisation

same_command : (one other : Command) (r : Result Command Refusal) → r ≡ Ok one → r ≡ Ok other → one ≡ other
same_command one other r h k = let both : Ok one ≡ Ok other = sym h ∙ k in cc

module _ (config : Config) (events : List Event) (hold : Hold) (uid : List ℕ) (its : TokenKind) where
  abbrev pub IsAdmittedFrom : List ℕ → Command → Type 0
  IsAdmittedFrom platform done = admission config (record { platform = platform; ask = hold_ask hold uid its }) ≡ Ok done

  token_ends : (platform : List ℕ) (done : Command) → IsAdmittedFrom platform done → IsAdmitted config done
      → (now : List Event) (a : Attempt) → EndsIn config events done (event.Authorised hold) now a → TokenEndsIn config events hold uid its now a
  token_ends platform done h admitted now attempt.Added ends = is_added config events done (event.Authorised hold) now admitted ends.0 ends.1
  token_ends platform done h admitted now attempt.Otherwise ends = λ again.
      let is : done ≡ command_of hold uid its = same_command done (command_of hold uid its) _ h (any_token config platform hold uid uid its its done h) in
      let accepts : is_of_invalid (verdict config (known events) (command_of hold uid its)).reply ≡ false =
      subst (λ (t : Command). is_of_invalid (verdict config (known events) t).reply ≡ false) is ends.1 in
      let right : has_right config (hold_ask hold uid its) platform ≡ true = (of_asked config (record { platform = platform; ask = hold_ask hold uid its }) done h).1 in
      let asked : IsAskedBy config (known events) (event.Authorised hold) (hold_ask hold uid its) platform = again.by_each uid its platform (valid_of config (known events) hold uid its accepts) right in
      let same : asked.command ≡ done = same_command asked.command done _ asked.admitted h in
      ends.0 (subst (λ (t : Command). (verdict config (known events) t).event ≡ Some (event.Authorised hold)) same asked.adds)
  token_ends platform done h admitted now attempt.InvalidToken ends =
      let is : done ≡ command_of hold uid its = same_command done (command_of hold uid its) _ h (any_token config platform hold uid uid its its done h) in
      (not_valid_of config (known events) hold uid its (subst (λ (t : Command). is_of_invalid (verdict config (known events) t).reply ≡ true) is ends.0), ends.1)

  none_ends : ((platform : List ℕ) (done : Command) → IsAdmittedFrom platform done → ⊥) → IsHeldAgain config (known events) hold → ⊥
  none_ends none again =
      let asked : IsAskedBy config (known events) (event.Authorised hold) (hold_ask hold again.some_uid again.some_kind) again.some_platform =
      again.by_each again.some_uid again.some_kind again.some_platform again.its_token again.its_right in
      none again.some_platform (command_of hold uid its) (any_token config again.some_platform hold again.some_uid uid again.some_kind its asked.command asked.admitted)

  -- ---- as the request is made

  pub some_admitted : (its_config : Config) → its_config ≡ config → (asked : Ask) → asked ≡ hold_ask hold uid its → (done : Command)
      → ((platform : List ℕ) × (admission config (record { platform = platform; ask = asked }) ≡ Ok done)) → IsAdmitted config done
      → (now : List Event) (a : Attempt) → EndsIn its_config events done (event.Authorised hold) now a → TokenEndsIn config events hold uid its now a
  some_admitted its_config same asked is done some admitted now a h =
      token_ends some.0 done (subst (λ (x : Ask). admission config (record { platform = some.0; ask = x }) ≡ Ok done) is some.1) admitted now a
      (subst (λ (c : Config). EndsIn c events done (event.Authorised hold) now a) same h)

  pub none_admitted : (asked : Ask) → asked ≡ hold_ask hold uid its
      → ((platform : List ℕ) (done : Command) → admission config (record { platform = platform; ask = asked }) ≡ Ok done → ⊥) → IsHeldAgain config (known events) hold → ⊥
  none_admitted asked is none =
      none_ends (λ platform done h. none platform done (subst (λ (x : Ask). admission config (record { platform = platform; ask = x }) ≡ Ok done) (sym is) h))
