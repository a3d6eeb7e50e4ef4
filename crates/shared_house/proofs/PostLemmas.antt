-- What is replied to a post.
use Rattle.std.proofs.Common.{◌≡◌, ◌<◌, ◌≤ℤ◌, ◌<ℤ◌, ℕ, ℤ, pos, neg_ℤ, List, [], ◌∷◌, ◌++◌, Bool, true, false, not, nat_lt, refl, sym, ap, ◌∙◌, subst, arith, if◌then◌else◌, Option, None, Some, Result, Ok, Err}
use Rattle.std.specs.Option.{option_or}
use Rattle.std.proofs.lemmas.Bool.{ltb-true}
use Rattle.std.proofs.lemmas.Int.{ints}
use Rattle.ocpi_types.specs.declared.cdr.Cdr.{Cdr}
use Rattle.ocpi_types.specs.declared.config.Config.{Config}
use Rattle.ocpi_types.specs.declared.refusal.Refusal.{Refusal}
use Rattle.ocpi_types.specs.declared.refusal.Refusal.TheVariants as refusal
use Rattle.ocpi_types.specs.declared.refusal.Store.{Store}
use Rattle.ocpi_types.specs.declared.refusal.Store.TheVariants as store
use Rattle.ocpi_types.specs.Cdr.{is_credit}
use Rattle.ocpi_types.specs.Config.{limit_of, pair_limit_of}
use Rattle.ocpi_types.specs.SameCdr.{same_cdr}
use Rattle.cdr_checks.specs.FirstRefusal.{◌>>=◌, ensure, or_refusal}
use Rattle.cdr_checks.specs.declared.request.Command.TheVariants as command
use Rattle.plain_house.specs.declared.answer.Answer.{Answer}
use Rattle.plain_house.specs.declared.answer.Answer.TheVariants as answer
use Rattle.plain_house.specs.declared.answer.Refused.{Refused}
use Rattle.plain_house.specs.declared.entry.AccountEntry.TheVariants as account
use Rattle.plain_house.specs.declared.entry.BookEntry.{BookEntry}
use Rattle.plain_house.specs.declared.event.Event.TheVariants as event
use Rattle.plain_house.specs.Booked.{Booked, booked_as, is_credited}
use Rattle.plain_house.specs.Entries.{charge_of}
use Rattle.plain_house.specs.Exposure.{exposure_of, of_pair, of_provider}
use Rattle.plain_house.specs.Full.{are_cdrs_full, first_full, is_account_full, is_order_full}
use Rattle.plain_house.specs.House.{cdr_posted, credit_posted, credit_taken, post_of, verdict}
use Rattle.plain_house.specs.Known.{Known}
use Rattle.plain_house.specs.LegalEntries.{IsLegalBook, LegalBooksAreTakenBack}
use Rattle.plain_house.specs.Posting.{above, above_if_any, booked_already, credited_amount, is_in_window, meets_original, original_of, over_limit, taken_back, unless_registered}
use Rattle.plain_house.specs.Replies.{is_no_memory, is_refusal_no_memory, stamped}
use Rattle.plain_house.specs.Tariffs.{lacks_registered}
use Rattle.plain_house.specs.Verdict.{Case, Verdict, accepts, refused_at, refused_for, unless}
use Rattle.shared_house.specs.Laws.{AcceptedAsDueBack, AcceptedAtTheirCost, IsDueBack, OverLimitsAreAbove}
use Rattle.shared_house.proofs.AnswerLemmas.{told_answer}
use Rattle.shared_house.proofs.BookedLemmas.{owed_back}

-- ---- cases

abbrev pub Says : (Result Answer Refusal → Type 0) → Case → Type 0
Says P None = Unit {0}
Says P (Some reply) = P reply

abbrev pub AllSay : (Result Answer Refusal → Type 0) → List Case → Type 0
AllSay P [] = Unit {0}
AllSay P (case ∷ cases) = Says P case × AllSay P cases

pub unless_says : (P : Result Answer Refusal → Type 0) (cases : List Case) (last : Verdict) → AllSay P cases → P last.reply → P (unless cases last).reply
unless_says P [] last all h = h
unless_says P (None ∷ cases) last all h = unless_says P cases last all.1 h
unless_says P (Some reply ∷ cases) last all h = all.0

-- ---- accepted CDRs

abbrev IsAtCost : ℕ → Result Answer Refusal → Type 0
IsAtCost cost reply = (amount : ℤ) (period : ℕ) → reply ≡ Ok (answer.Accepted amount period) → amount ≡ pos cost

module _ (cost : ℕ) where
  booked_at_cost : (cdr : Cdr) (found : Option Booked) → Says (IsAtCost cost) (booked_already cdr found)
  booked_at_cost cdr None = tt
  booked_at_cost cdr (Some found) = by (same_cdr found.cdr cdr)
    where
      by : (b : Bool) → IsAtCost cost (if b then Ok (answer.Repeated found.amount found.period) else Err refusal.Conflict)
      by true = λ amount period h. absurd (cc)
      by false = λ amount period h. absurd (cc)

  registered_at_cost : (lacks : Bool) → Says (IsAtCost cost) (unless_registered lacks)
  registered_at_cost true = λ amount period h. absurd (cc)
  registered_at_cost false = tt

  full_at_cost : (full : Option Store) → Says (IsAtCost cost) (refused_at full)
  full_at_cost None = tt
  full_at_cost (Some what) = λ amount period h. absurd (cc)

  refused_at_cost : (found : Option Refusal) → Says (IsAtCost cost) (refused_for found)
  refused_at_cost None = tt
  refused_at_cost (Some why) = λ amount period h. absurd (cc)

  posted_at_cost : (config : Config) (known : Known) (cdr : Cdr) → IsAtCost cost (cdr_posted config known cdr cost).reply
  posted_at_cost config known cdr =
      let full = first_full ((store.Cdrs, are_cdrs_full config cdr.operator known.book) ∷ (store.Account, is_account_full config cdr.cdr_token.provider known.account) ∷ (store.Order, is_order_full config known.point) ∷ []) in
      unless_says (IsAtCost cost)
      (booked_already cdr (booked_as cdr.operator cdr.id known.book) ∷ unless_registered (lacks_registered cdr known.book) ∷ refused_at full
      ∷ refused_for (over_limit config (charge_of cdr cost known.period) known.account) ∷ [])
      (accepts (answer.Accepted (pos cost) known.period) (event.Cdr cdr cost)) (
        booked_at_cost cdr (booked_as cdr.operator cdr.id known.book),
        (
          registered_at_cost (lacks_registered cdr known.book),
          (
            full_at_cost full,
            (refused_at_cost (over_limit config (charge_of cdr cost known.period) known.account), tt),
          ),
        ),
      )
      (λ amount period h. let same : pos cost ≡ amount = cc in sym same)

pub accepted_at_cost : AcceptedAtTheirCost
accepted_at_cost config checked cost least replied amount period costs returns is =
    let told = returns.told refl in
    let answered = told_answer replied told.known.point (verdict config told.known (command.Post checked)).reply told.reply_is in
    let posted = ap (λ (o : Option ℕ). (post_of config told.known checked.cdr o).reply) costs in
    posted_at_cost cost config told.known checked.cdr amount period (sym posted ∙ answered ∙ ap (λ (a : Answer). Ok a) is)

-- ---- accepted Credit CDRs

module _ (taken : LegalBooksAreTakenBack) (config : Config) (credit : Cdr) where
  back_due : (period : ℕ) (credited : Bool) (original : Booked) (amount : ℤ) → (is_credit original.cdr ≡ false → neg_ℤ original.amount ≤ℤ pos 0) → taken_back config period credit credited original ≡ Ok amount → IsDueBack config credit amount
  back_due period credited original amount at_most =
      by (is_credit original.cdr) (not credited) (is_in_window config.credit_window original.period period) (meets_original config credit original) refl refl
    where
      by : (a b c d : Bool) → is_credit original.cdr ≡ a → meets_original config credit original ≡ d → (ensure (not a) refusal.CreditOfCredit >>= λ _. (ensure b refusal.AlreadyCredited >>= λ _. (ensure c (refusal.TooLate original.period period) >>= λ _.
          (ensure d refusal.CreditDiffers >>= λ _. Ok (neg_ℤ original.amount))))) ≡ Ok amount → IsDueBack config credit amount
      by false true true true e f g = let same : neg_ℤ original.amount ≡ amount = cc in record { original = original; no_credit = e; negated = sym same; at_most_0 = subst (λ (a : ℤ). a ≤ℤ pos 0) same (at_most e); meets = f }
      by false true true false e f g = absurd (cc)
      by false true false d e f g = absurd (cc)
      by false false c d e f g = absurd (cc)
      by true b c d e f g = absurd (cc)

  amount_due : (period : ℕ) (entries : List BookEntry) (amount : ℤ) → IsLegalBook config entries → credited_amount config period credit entries ≡ Ok amount → IsDueBack config credit amount
  amount_due period entries amount legal = by (original_of credit entries) refl
    where
      by : (o : Option Booked) → original_of credit entries ≡ o → (or_refusal refusal.UnknownOriginal o >>= λ original. taken_back config period credit (is_credited original.cdr.operator original.cdr.id entries) original) ≡ Ok amount → IsDueBack config credit amount
      by None is e = absurd (cc)
      by (Some original) is e = back_due period (is_credited original.cdr.operator original.cdr.id entries) original amount (owed_back taken config entries legal credit original is) e

  abbrev IsDue : Result Answer Refusal → Type 0
  IsDue reply = (amount : ℤ) (period : ℕ) → reply ≡ Ok (answer.Accepted amount period) → IsDueBack config credit amount

  booked_due : (found : Option Booked) → Says IsDue (booked_already credit found)
  booked_due None = tt
  booked_due (Some found) = by (same_cdr found.cdr credit)
    where
      by : (b : Bool) → IsDue (if b then Ok (answer.Repeated found.amount found.period) else Err refusal.Conflict)
      by true = λ amount period h. absurd (cc)
      by false = λ amount period h. absurd (cc)

  full_due : (full : Option Store) → Says IsDue (refused_at full)
  full_due None = tt
  full_due (Some what) = λ amount period h. absurd (cc)

  taken_due : (known : Known) (found : Result ℤ Refusal) → ((amount : ℤ) → found ≡ Ok amount → IsDueBack config credit amount) → IsDue (credit_taken config known credit found).reply
  taken_due known (Err why) h = λ amount period g. absurd (cc)
  taken_due known (Ok found) h =
      let full = first_full ((store.Cdrs, are_cdrs_full config credit.operator known.book) ∷ (store.Account, is_account_full config credit.cdr_token.provider known.account) ∷ (store.Order, is_order_full config known.point) ∷ []) in
      unless_says IsDue (refused_at full ∷ []) (accepts (answer.Accepted found known.period) (event.Credit credit found)) (full_due full, tt)
      (λ amount period g. let same : found ≡ amount = cc in subst (IsDueBack config credit) same (h found refl))

  credit_due : (known : Known) → IsLegalBook config known.book → IsDue (credit_posted config known credit).reply
  credit_due known legal =
      unless_says IsDue (booked_already credit (booked_as credit.operator credit.id known.book) ∷ []) (credit_taken config known credit (credited_amount config known.period credit known.book))
      (booked_due (booked_as credit.operator credit.id known.book), tt) (taken_due known (credited_amount config known.period credit known.book) (λ amount. amount_due known.period known.book amount legal))

pub accepted_as_due : LegalBooksAreTakenBack → AcceptedAsDueBack
accepted_as_due taken config checked least replied amount period costs returns is =
    let told = returns.told refl in
    let answered = told_answer replied told.known.point (verdict config told.known (command.Post checked)).reply told.reply_is in
    let posted = ap (λ (o : Option ℕ). (post_of config told.known checked.cdr o).reply) costs in
    credit_due taken config checked.cdr told.known (told.book refl) amount period (sym posted ∙ answered ∙ ap (λ (a : Answer). Ok a) is)

-- ---- exposures above limits

abbrev IsAbove : Result Answer Refusal → Type 0
IsAbove reply = (exposure limit : ℤ) (pair : Bool) → reply ≡ Err (refusal.OverLimit exposure limit pair) → limit <ℤ exposure

booked_above : (cdr : Cdr) (found : Option Booked) → Says IsAbove (booked_already cdr found)
booked_above cdr None = tt
booked_above cdr (Some found) = by (same_cdr found.cdr cdr)
  where
    by : (b : Bool) → IsAbove (if b then Ok (answer.Repeated found.amount found.period) else Err refusal.Conflict)
    by true = λ exposure limit pair h. absurd (cc)
    by false = λ exposure limit pair h. absurd (cc)

registered_above : (lacks : Bool) → Says IsAbove (unless_registered lacks)
registered_above true = λ exposure limit pair h. absurd (cc)
registered_above false = tt

full_above : (full : Option Store) → Says IsAbove (refused_at full)
full_above None = tt
full_above (Some what) = λ exposure limit pair h. absurd (cc)

found_above : (most found : ℕ) (is_pair : Bool) → Says IsAbove (refused_for (above most found is_pair))
found_above most found is_pair = by (nat_lt most found) refl
  where
    by : (b : Bool) → nat_lt most found ≡ b → Says IsAbove (refused_for (if b then Some (refusal.OverLimit (pos found) (pos most) is_pair) else None))
    by false e = tt
    by true e = λ exposure limit pair h.
        let found_is : pos found ≡ exposure = cc in
        let most_is : pos most ≡ limit = cc in
        let less : most < found = ltb-true most found e in
        subst (λ (x : ℤ). limit <ℤ x) found_is (subst (λ (x : ℤ). x <ℤ pos found) most_is (omega (arith, ints, less)))

if_any_above : (most : Option ℕ) (found : ℕ) → Says IsAbove (refused_for (above_if_any most found))
if_any_above None found = tt
if_any_above (Some most) found = found_above most found true

either_above : (one other : Option Refusal) → Says IsAbove (refused_for one) → Says IsAbove (refused_for other) → Says IsAbove (refused_for (option_or one other))
either_above None other a b = b
either_above (Some why) other a b = a

back_above : (config : Config) (period : ℕ) (credit : Cdr) (credited : Bool) (original : Booked) (why : Refusal) → taken_back config period credit credited original ≡ Err why → IsAbove (Err why)
back_above config period credit credited original why = by (not (is_credit original.cdr)) (not credited) (is_in_window config.credit_window original.period period) (meets_original config credit original)
  where
    by : (a b c d : Bool) → (ensure a refusal.CreditOfCredit >>= λ _. (ensure b refusal.AlreadyCredited >>= λ _. (ensure c (refusal.TooLate original.period period) >>= λ _.
        (ensure d refusal.CreditDiffers >>= λ _. Ok (neg_ℤ original.amount))))) ≡ Err why → IsAbove (Err why)
    by true true true true e = absurd (cc)
    by true true true false e = λ exposure limit pair h. absurd (cc)
    by true true false d e = λ exposure limit pair h. absurd (cc)
    by true false c d e = λ exposure limit pair h. absurd (cc)
    by false b c d e = λ exposure limit pair h. absurd (cc)

credited_above : (config : Config) (period : ℕ) (credit : Cdr) (entries : List BookEntry) (why : Refusal) → credited_amount config period credit entries ≡ Err why → IsAbove (Err why)
credited_above config period credit entries why = by (original_of credit entries)
  where
    by : (o : Option Booked) → (or_refusal refusal.UnknownOriginal o >>= λ original. taken_back config period credit (is_credited original.cdr.operator original.cdr.id entries) original) ≡ Err why → IsAbove (Err why)
    by None e = λ exposure limit pair h. absurd (cc)
    by (Some original) e = back_above config period credit (is_credited original.cdr.operator original.cdr.id entries) original why e

module _ (config : Config) (known : Known) (cdr : Cdr) where
  abbrev cdr_full : Option Store
  cdr_full = first_full ((store.Cdrs, are_cdrs_full config cdr.operator known.book) ∷ (store.Account, is_account_full config cdr.cdr_token.provider known.account) ∷ (store.Order, is_order_full config known.point) ∷ [])

  cdr_above : (cost : ℕ) → IsAbove (cdr_posted config known cdr cost).reply
  cdr_above cost =
      let charge = charge_of cdr cost known.period in
      let all = exposure_of (of_provider charge.provider charge.currency) (known.account ++ account.Charge charge ∷ []) in
      let both = exposure_of (of_pair charge.operator charge.provider charge.currency) (known.account ++ account.Charge charge ∷ []) in
      let limit = limit_of config charge.provider charge.currency in
      let pair = pair_limit_of config charge.operator charge.provider charge.currency in
      unless_says IsAbove
      (booked_already cdr (booked_as cdr.operator cdr.id known.book) ∷ unless_registered (lacks_registered cdr known.book) ∷ refused_at cdr_full
      ∷ refused_for (over_limit config (charge_of cdr cost known.period) known.account) ∷ [])
      (accepts (answer.Accepted (pos cost) known.period) (event.Cdr cdr cost)) (
        booked_above cdr (booked_as cdr.operator cdr.id known.book),
        (
          registered_above (lacks_registered cdr known.book),
          (
            full_above cdr_full,
            (either_above (above limit all false) (above_if_any pair both) (found_above limit all false) (if_any_above pair both), tt),
          ),
        ),
      )
      (λ exposure limit pair h. absurd (cc))

  taken_above : (amount : Result ℤ Refusal) → ((why : Refusal) → amount ≡ Err why → IsAbove (Err why)) → IsAbove (credit_taken config known cdr amount).reply
  taken_above (Err why) h = h why refl
  taken_above (Ok amount) h =
      unless_says IsAbove (refused_at cdr_full ∷ []) (accepts (answer.Accepted amount known.period) (event.Credit cdr amount)) (full_above cdr_full, tt) (λ exposure limit pair h. absurd (cc))

  post_above : (cost : Option ℕ) → IsAbove (post_of config known cdr cost).reply
  post_above None =
      unless_says IsAbove (booked_already cdr (booked_as cdr.operator cdr.id known.book) ∷ []) (credit_taken config known cdr (credited_amount config known.period cdr known.book))
      (booked_above cdr (booked_as cdr.operator cdr.id known.book), tt)
      (taken_above (credited_amount config known.period cdr known.book) (credited_above config known.period cdr known.book))
  post_above (Some cost) = cdr_above cost

told_refusal : (refused : Refused) (at : ℕ) (reply : Result Answer Refusal) → Err refused ≡ stamped at reply → reply ≡ Err refused.refusal
told_refusal refused at (Ok a) h = absurd (cc)
told_refusal refused at (Err why) h =
    let same : refused ≡ record { at = Some at; refusal = why } = cc in
    ap (λ (x : Refusal). Err x) (sym (ap (λ (r : Refused). r.refusal) same))

pub over_limits_above : OverLimitsAreAbove
over_limits_above config checked least refused exposure limit pair returns is =
    let found : is_no_memory (Err refused) ≡ false = ap (λ (r : Refusal). is_refusal_no_memory r) is in
    let told = returns.told found in
    let refusal_is = told_refusal refused told.known.point (verdict config told.known (command.Post checked)).reply told.reply_is in
    post_above config told.known checked.cdr checked.cost exposure limit pair (refusal_is ∙ ap (λ (r : Refusal). Err r) is)
