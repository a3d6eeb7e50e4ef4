-- A post by what the operator's book says to it.
use Rattle.std.proofs.Common.{◌≡◌, ℕ, ℤ, pos, List, [], ◌∷◌, Bool, true, false, ap, refl, Option, None, Some, Result, Ok, Err}
use Rattle.ocpi_types.specs.declared.cdr.Cdr.{Cdr}
use Rattle.ocpi_types.specs.declared.config.Config.{Config}
use Rattle.ocpi_types.specs.declared.refusal.Refusal.{Refusal}
use Rattle.plain_house.specs.declared.answer.Answer.{Answer}
use Rattle.plain_house.specs.declared.answer.Answer.TheVariants as answer
use Rattle.plain_house.specs.declared.event.Event.TheVariants as event
use Rattle.plain_house.specs.Booked.{Booked, booked_as}
use Rattle.plain_house.specs.Entries.{charge_of}
use Rattle.plain_house.specs.House.{cdr_posted, credit_posted, credit_taken, full_for_cdr}
use Rattle.plain_house.specs.Known.{Known}
use Rattle.plain_house.specs.Posting.{booked_already, credited_amount, judged_by, judged_cdr, judged_credit, over_limit, unless_registered}
use Rattle.plain_house.specs.Tariffs.{lacks_registered}
use Rattle.plain_house.specs.Verdict.{Case, Verdict, accepts, first_reply, refused_for, replies, unless}

module _ (config : Config) (known : Known) (cdr : Cdr) where
  abbrev left : ℕ → List Case
  left cost = full_for_cdr config known cdr ∷ refused_for (over_limit config (charge_of cdr cost known.period) known.account) ∷ []

  abbrev taken : ℕ → Verdict
  taken cost = accepts (answer.Accepted (pos cost) known.period) (event.Cdr cdr cost)

  pub cdr_replied : (cost : ℕ) (reply : Result Answer Refusal) → judged_cdr cdr known.book ≡ Some reply → cdr_posted config known cdr cost ≡ replies reply
  cdr_replied cost reply h = by (booked_as cdr.operator cdr.id known.book) (lacks_registered cdr known.book) h
    where
      by : (found : Option Booked) (lacks : Bool) → first_reply (booked_already cdr found ∷ unless_registered lacks ∷ []) ≡ Some reply
          → unless (booked_already cdr found ∷ unless_registered lacks ∷ left cost) (taken cost) ≡ replies reply
      by (Some found) lacks h = cc
      by None true h = cc
      by None false h = absurd (cc)

  pub cdr_left : (cost : ℕ) → judged_cdr cdr known.book ≡ None → cdr_posted config known cdr cost ≡ unless (left cost) (taken cost)
  cdr_left cost h = by (booked_as cdr.operator cdr.id known.book) (lacks_registered cdr known.book) h
    where
      by : (found : Option Booked) (lacks : Bool) → first_reply (booked_already cdr found ∷ unless_registered lacks ∷ []) ≡ None
          → unless (booked_already cdr found ∷ unless_registered lacks ∷ left cost) (taken cost) ≡ unless (left cost) (taken cost)
      by (Some found) lacks h = absurd (cc)
      by None true h = absurd (cc)
      by None false h = refl

  pub credit_replied : (reply : Result Answer Refusal) → judged_credit config known.period cdr known.book ≡ Err reply → credit_posted config known cdr ≡ replies reply
  credit_replied reply h = by (booked_as cdr.operator cdr.id known.book) (credited_amount config known.period cdr known.book) h
    where
      by : (found : Option Booked) (amount : Result ℤ Refusal) → judged_by (booked_already cdr found) amount ≡ Err reply
          → unless (booked_already cdr found ∷ []) (credit_taken config known cdr amount) ≡ replies reply
      by (Some found) amount h = cc
      by None (Ok amount) h = absurd (cc)
      by None (Err why) h = cc

  pub credit_left : (amount : ℤ) → judged_credit config known.period cdr known.book ≡ Ok amount → credit_posted config known cdr ≡ credit_taken config known cdr (Ok amount)
  credit_left amount h = by (booked_as cdr.operator cdr.id known.book) (credited_amount config known.period cdr known.book) h
    where
      by : (found : Option Booked) (amounts : Result ℤ Refusal) → judged_by (booked_already cdr found) amounts ≡ Ok amount
          → unless (booked_already cdr found ∷ []) (credit_taken config known cdr amounts) ≡ credit_taken config known cdr (Ok amount)
      by (Some found) amounts h = absurd (cc)
      by None (Ok other) h = let same : other ≡ amount = cc in ap (λ (n : ℤ). credit_taken config known cdr (Ok n)) same
      by None (Err why) h = absurd (cc)
