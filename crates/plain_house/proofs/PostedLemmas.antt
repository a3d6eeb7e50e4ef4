-- What is left to be asked of a CDR that is not booked.
use Rattle.std.proofs.Common.{◌≡◌, ℕ, pos, [], ◌∷◌, true, false, refl, None, Err}
use Rattle.ocpi_types.specs.declared.cdr.Cdr.{Cdr}
use Rattle.ocpi_types.specs.declared.config.Config.{Config}
use Rattle.ocpi_types.specs.declared.refusal.Refusal.TheVariants as refusal
use Rattle.plain_house.specs.declared.answer.Answer.TheVariants as answer
use Rattle.plain_house.specs.declared.event.Event.TheVariants as event
use Rattle.plain_house.specs.Booked.{booked_as}
use Rattle.plain_house.specs.Entries.{charge_of}
use Rattle.plain_house.specs.House.{cdr_posted, credit_posted, credit_taken, full_for_cdr}
use Rattle.plain_house.specs.Known.{Known}
use Rattle.plain_house.specs.Posting.{credited_amount, over_limit}
use Rattle.plain_house.specs.Tariffs.{lacks_registered}
use Rattle.plain_house.specs.Verdict.{accepts, refused_for, replies, unless}

module _ (config : Config) (known : Known) (cdr : Cdr) (unknown : booked_as cdr.operator cdr.id known.book ≡ None) where
  pub cdr_left : (cost : ℕ) → lacks_registered cdr known.book ≡ false
      → unless (full_for_cdr config known cdr ∷ refused_for (over_limit config (charge_of cdr cost known.period) known.account) ∷ []) (accepts (answer.Accepted (pos cost) known.period) (event.Cdr cdr cost))
      ≡ cdr_posted config known cdr cost
  cdr_left cost registered = rw (unknown, registered) refl

  pub cdr_unregistered : (cost : ℕ) → lacks_registered cdr known.book ≡ true → replies (Err refusal.TariffNotRegistered) ≡ cdr_posted config known cdr cost
  cdr_unregistered cost unregistered = rw (unknown, unregistered) refl

  pub credit_left : credit_taken config known cdr (credited_amount config known.period cdr known.book) ≡ credit_posted config known cdr
  credit_left = rw unknown refl
