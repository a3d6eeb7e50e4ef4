-- What holds of a Credit CDR that a book takes.
use Rattle.std.proofs.Common.{◌≡◌, ℕ, ℤ, neg_ℤ, Bool, true, false, not, refl, List, Option, Some, None, Ok}
use Rattle.ocpi_types.specs.declared.cdr.Cdr.{Cdr}
use Rattle.ocpi_types.specs.declared.config.Config.{Config}
use Rattle.ocpi_types.specs.declared.refusal.Refusal.TheVariants as refusal
use Rattle.ocpi_types.specs.Cdr.{is_credit}
use Rattle.cdr_checks.specs.FirstRefusal.{◌>>=◌, ensure, or_refusal}
use Rattle.plain_house.specs.declared.entry.BookEntry.{BookEntry}
use Rattle.plain_house.specs.Booked.{Booked, is_credited}
use Rattle.plain_house.specs.Posting.{credited_amount, is_in_window, meets_original, original_of, taken_back}

-- what an original is that gives an amount
pub record Gives (config : Config) (period : ℕ) (credit : Cdr) (entries : List BookEntry) (amount : ℤ) (original : Booked) : Type 0 where
  pub negated : amount ≡ neg_ℤ original.amount
  pub no_credit : is_credit original.cdr ≡ false
  pub once : is_credited original.cdr.operator original.cdr.id entries ≡ false
  pub in_window : is_in_window config.credit_window original.period period ≡ true
  pub same : meets_original config credit original ≡ true

not_true : (b : Bool) → not b ≡ true → b ≡ false
not_true true h = absurd (cc)
not_true false h = refl

gives : (config : Config) (period : ℕ) (credit : Cdr) (entries : List BookEntry) (original : Booked) (amount : ℤ)
    → taken_back config period credit (is_credited original.cdr.operator original.cdr.id entries) original ≡ Ok amount → Gives config period credit entries amount original
gives config period credit entries original amount h =
    by (not (is_credit original.cdr)) (not (is_credited original.cdr.operator original.cdr.id entries)) (is_in_window config.credit_window original.period period) (meets_original config credit original) refl refl refl refl h
  where
    by : (a b c d : Bool) → not (is_credit original.cdr) ≡ a → not (is_credited original.cdr.operator original.cdr.id entries) ≡ b
        → is_in_window config.credit_window original.period period ≡ c → meets_original config credit original ≡ d
        → (ensure a refusal.CreditOfCredit >>= λ _. (ensure b refusal.AlreadyCredited >>= λ _. (ensure c (refusal.TooLate original.period period) >>= λ _.
        (ensure d refusal.CreditDiffers >>= λ _. Ok (neg_ℤ original.amount))))) ≡ Ok amount
        → Gives config period credit entries amount original
    by true true true true p q r s g = record {
      negated = let same : amount ≡ neg_ℤ original.amount = cc in same;
      no_credit = not_true (is_credit original.cdr) p;
      once = not_true (is_credited original.cdr.operator original.cdr.id entries) q;
      in_window = r;
      same = s;
    }
    by true true true false p q r s g = absurd (cc)
    by true true false d p q r s g = absurd (cc)
    by true false c d p q r s g = absurd (cc)
    by false b c d p q r s g = absurd (cc)

pub taken_from : (config : Config) (period : ℕ) (credit : Cdr) (entries : List BookEntry) (amount : ℤ) → credited_amount config period credit entries ≡ Ok amount
    → (original : Booked) × (original_of credit entries ≡ Some original) × Gives config period credit entries amount original
taken_from config period credit entries amount h = by (original_of credit entries) refl h
  where
    by : (o : Option Booked) → original_of credit entries ≡ o → (or_refusal refusal.UnknownOriginal o >>= λ original. taken_back config period credit (is_credited original.cdr.operator original.cdr.id entries) original) ≡ Ok amount
        → (original : Booked) × (original_of credit entries ≡ Some original) × Gives config period credit entries amount original
    by None e g = absurd (cc)
    by (Some original) e g = (original, e, gives config period credit entries original amount g)
