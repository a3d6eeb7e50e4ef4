-- What is replied to a CDR that is booked already.
use Rattle.std.proofs.Common.{◌≡◌, ◌⊎◌, inl, inr, ℕ, ℤ, pos, List, [], ◌∷◌, Bool, true, false, refl, sym, ap, ◌∙◌, subst, find, if◌then◌else◌, Option, None, Some, Result, Ok, Err}
use Rattle.std.specs.Prelude.{◌&&◌, ◌==◌, is_some, option_map}
use Rattle.std.specs.Cmp.Lexicographic.{pointwise}
use Rattle.ocpi_json.specs.Folded.{folded}
use Rattle.ocpi_types.specs.declared.cdr.Cdr.{Cdr}
use Rattle.ocpi_types.specs.declared.config.Config.{Config}
use Rattle.ocpi_types.specs.declared.config.Operator.{Operator}
use Rattle.ocpi_types.specs.declared.party.Party.{Party}
use Rattle.ocpi_types.specs.declared.refusal.Refusal.{Refusal}
use Rattle.ocpi_types.specs.declared.refusal.Refusal.TheVariants as refusal
use Rattle.ocpi_types.specs.declared.refusal.Store.{Store}
use Rattle.ocpi_types.specs.declared.refusal.Store.TheVariants as store
use Rattle.ocpi_types.specs.Cdr.{is_credit}
use Rattle.ocpi_types.specs.Config.{operator_of}
use Rattle.ocpi_types.specs.SameCdr.{AreEqualFolded, SameCdrsAreEqualFolded, same_cdr}
use Rattle.cdr_rating.specs.Law.{SameCdrsCostTheSame}
use Rattle.cdr_rating.specs.Price.{price}
use Rattle.cdr_checks.specs.Checked.{Checked, IsCostOf}
use Rattle.cdr_checks.specs.Law.{IsChecked, PostsAreChecked}
use Rattle.cdr_checks.specs.declared.request.Command.TheVariants as command
use Rattle.plain_house.specs.declared.answer.Answer.{Answer}
use Rattle.plain_house.specs.declared.answer.Answer.TheVariants as answer
use Rattle.plain_house.specs.declared.entry.BookEntry.{BookEntry}
use Rattle.plain_house.specs.declared.entry.BookEntry.TheVariants as book
use Rattle.plain_house.specs.declared.event.Event.TheVariants as event
use Rattle.plain_house.specs.Booked.{Booked, booked_as, has_id}
use Rattle.plain_house.specs.Entries.{charge_of}
use Rattle.plain_house.specs.Full.{are_cdrs_full, first_full, is_account_full, is_order_full}
use Rattle.plain_house.specs.House.{cdr_posted, post_of, verdict}
use Rattle.plain_house.specs.Known.{Known}
use Rattle.plain_house.specs.LegalEntries.{IsLegalBook, LegalBooksAreCharged, LegalBooksAreTakenBack}
use Rattle.plain_house.specs.Posting.{booked_already, over_limit, unless_registered}
use Rattle.plain_house.specs.Tariffs.{lacks_registered}
use Rattle.plain_house.specs.Verdict.{accepts, refused_at, refused_for}
use Rattle.shared_house.specs.Laws.{RepeatedAtTheirCost}
use Rattle.shared_house.proofs.AnswerLemmas.{told_answer}
use Rattle.shared_house.proofs.BookedLemmas.{IsCdrOf, IsCreditOf, entry_of, names_original}
use Rattle.shared_house.proofs.PostLemmas.{Says, unless_says}

-- ---- what is repeated

-- what is booked under the operator and id of the CDR, with the same content, at this amount
record IsSameBooked (entries : List BookEntry) (cdr : Cdr) (amount : ℤ) : Type 0 where
  found : Booked
  booked_is : booked_as cdr.operator cdr.id entries ≡ Some found
  same : same_cdr found.cdr cdr ≡ true
  amount_is : found.amount ≡ amount

module _ (config : Config) (known : Known) (cdr : Cdr) where
  abbrev IsRepeat : Result Answer Refusal → Type 0
  IsRepeat reply = (amount : ℤ) (period : ℕ) → reply ≡ Ok (answer.Repeated amount period) → IsSameBooked known.book cdr amount

  booked_repeat : (found : Option Booked) → booked_as cdr.operator cdr.id known.book ≡ found → Says IsRepeat (booked_already cdr found)
  booked_repeat None is = tt
  booked_repeat (Some found) is = by (same_cdr found.cdr cdr) refl
    where
      by : (b : Bool) → same_cdr found.cdr cdr ≡ b → IsRepeat (if b then Ok (answer.Repeated found.amount found.period) else Err refusal.Conflict)
      by true same = λ amount period h. let is_amount : found.amount ≡ amount = cc in record { found = found; booked_is = is; same = same; amount_is = is_amount }
      by false same = λ amount period h. absurd (cc)

  registered_repeat : (lacks : Bool) → Says IsRepeat (unless_registered lacks)
  registered_repeat true = λ amount period h. absurd (cc)
  registered_repeat false = tt

  full_repeat : (full : Option Store) → Says IsRepeat (refused_at full)
  full_repeat None = tt
  full_repeat (Some what) = λ amount period h. absurd (cc)

  refused_repeat : (found : Option Refusal) → Says IsRepeat (refused_for found)
  refused_repeat None = tt
  refused_repeat (Some why) = λ amount period h. absurd (cc)

  posted_repeat : (cost : ℕ) → IsRepeat (cdr_posted config known cdr cost).reply
  posted_repeat cost =
      let full = first_full ((store.Cdrs, are_cdrs_full config cdr.operator known.book) ∷ (store.Account, is_account_full config cdr.cdr_token.provider known.account) ∷ (store.Order, is_order_full config known.point) ∷ []) in
      unless_says IsRepeat
      (booked_already cdr (booked_as cdr.operator cdr.id known.book) ∷ unless_registered (lacks_registered cdr known.book) ∷ refused_at full
      ∷ refused_for (over_limit config (charge_of cdr cost known.period) known.account) ∷ [])
      (accepts (answer.Accepted (pos cost) known.period) (event.Cdr cdr cost)) (
        booked_repeat (booked_as cdr.operator cdr.id known.book) refl,
        (
          registered_repeat (lacks_registered cdr known.book),
          (
            full_repeat full,
            (refused_repeat (over_limit config (charge_of cdr cost known.period) known.account), tt),
          ),
        ),
      )
      (λ amount period h. absurd (cc))

-- ---- CDRs with the same content

-- both are Credit CDRs, or none is
credits_alike : (a b : Cdr) → AreEqualFolded a b → is_credit a ≡ is_credit b
credits_alike a b e = sym (as_folded a.credit) ∙ ap (λ (o : Option (List ℕ)). is_some o) e.credit ∙ as_folded b.credit
  where
    as_folded : (o : Option (List ℕ)) → is_some (option_map folded o) ≡ is_some o
    as_folded None = refl
    as_folded (Some text) = refl

-- their operators are configured as one
operators_alike : (config : Config) (a b : Cdr) → AreEqualFolded a b → operator_of config a.operator ≡ operator_of config b.operator
operators_alike config a b e = ap of_folded e.operator
  where
    of_folded : Party → Option Operator
    of_folded party =
        find (λ operator. pointwise ◌==◌ (folded operator.party.country_code) party.country_code && pointwise ◌==◌ (folded operator.party.party_id) party.party_id) config.operators

-- ---- what is told

module _ (alike : SameCdrsAreEqualFolded) (cost_alike : SameCdrsCostTheSame) (checked_law : PostsAreChecked) (charged : LegalBooksAreCharged) (taken : LegalBooksAreTakenBack) where
  -- at the price of one zone, CDRs with the same content cost the same
  same_cost : (found : Cdr) (checked : Checked) (operator other : Operator) (booked_cost cost : ℕ) → same_cdr found checked.cdr ≡ true → operator ≡ other → checked.zone ≡ operator.zone → price found other.zone ≡ Ok (pos booked_cost)
      → price checked.cdr checked.zone ≡ Ok (pos cost) → pos booked_cost ≡ pos cost
  same_cost found checked operator other booked_cost cost same is in_zone booked_price checked_price =
      let of_booked = ap (λ (one : Operator). price found one.zone) is in
      let of_checked = ap (price checked.cdr) in_zone in
      let both : (let x : Result ℤ Refusal = Ok (pos booked_cost) in let y : Result ℤ Refusal = Ok (pos cost) in x ≡ y) =
      sym booked_price ∙ sym of_booked ∙ cost_alike found checked.cdr operator.zone same ∙ sym of_checked ∙ checked_price in
      let costs : pos booked_cost ≡ pos cost = cc in costs

  one_operator : (a b : Operator) (o p : Option Operator) → o ≡ Some a → p ≡ Some b → o ≡ p → a ≡ b
  one_operator a b o p is_a is_b same = let one : a ≡ b = cc in one

  is_at_cost : (config : Config) (entries : List BookEntry) → IsLegalBook config entries → (checked : Checked) (cost : ℕ) → IsChecked config checked → checked.cost ≡ Some cost → (amount : ℤ) → IsSameBooked entries checked.cdr amount → amount ≡ pos cost
  is_at_cost config entries legal checked cost is costs amount repeated =
      by (entry_of (has_id checked.cdr.operator checked.cdr.id) entries repeated.found repeated.booked_is)
    where
      equal : AreEqualFolded repeated.found.cdr checked.cdr
      equal = (alike repeated.found.cdr checked.cdr).0 repeated.same

      at : IsCostOf (Some cost) checked.cdr checked.zone
      at = subst (λ (o : Option ℕ). IsCostOf o checked.cdr checked.zone) costs is.at_cost

      by : IsCdrOf entries repeated.found ⊎ IsCreditOf entries repeated.found → amount ≡ pos cost
      by (inl of) =
          let has = charged config of.before of.later repeated.found.cdr of.cost repeated.found.period (subst (IsLegalBook config) of.entries_are legal) in
          let one = one_operator is.operator has.operator (operator_of config checked.cdr.operator) (operator_of config repeated.found.cdr.operator) is.has_operator has.configured (sym (operators_alike config repeated.found.cdr checked.cdr equal)) in
          sym repeated.amount_is ∙ of.amount_is ∙ same_cost repeated.found.cdr checked is.operator has.operator of.cost cost repeated.same one is.in_zone has.priced.1 at.1
      by (inr of) =
          let has = taken config of.before of.later repeated.found.cdr repeated.found.amount repeated.found.period (subst (IsLegalBook config) of.entries_are legal) in
          let credit = names_original repeated.found.cdr of.before has.original has.named in
          let none = sym credit ∙ credits_alike repeated.found.cdr checked.cdr equal ∙ at.0 in
          absurd (cc)

  pub repeated_at_cost : RepeatedAtTheirCost
  repeated_at_cost config checked cost least replied amount period admitted costs returns is =
      let told = returns.told refl in
      let answered = told_answer replied told.known.point (verdict config told.known (command.Post checked)).reply told.reply_is in
      let posted = ap (λ (o : Option ℕ). (post_of config told.known checked.cdr o).reply) costs in
      let repeated = posted_repeat config told.known checked.cdr cost amount period (sym posted ∙ answered ∙ ap (λ (a : Answer). Ok a) is) in
      is_at_cost config told.known.book (told.book refl) checked cost (checked_law config checked admitted) costs amount repeated
