-- What sound parts say of locks and of calls.
use Rattle.std.proofs.Common.{◌≡◌, ℕ, true, refl, sym, ap, ◌∙◌, Option, None, Some, is_some, option_map, slice_get}
use Rattle.std.specs.Option.{option_and_then}
use Rattle.std.proofs.lemmas.Option.{none-some, slice_get-map}
use Rattle.cdr_checks.specs.declared.request.Command.{Command}
use Rattle.house_core.specs.declared.running_call.RunningCall.{RunningCall}
use Rattle.house_core.specs.declared.locks.AccountLock.{AccountLock}
use Rattle.house_core.specs.declared.locks.BookLock.{BookLock}
use Rattle.house_core.specs.declared.parts.Parts.{Parts}
use Rattle.house_core.specs.declared.stage.Carried.{Carried}
use Rattle.house_core.specs.declared.stage.Stage.{Stage}
use Rattle.house_core.specs.declared.stage.Stage.TheVariants as stage
use Rattle.house_core.specs.Calls.{begun, held_account, held_book, ordered, waiting}
use Rattle.house_core.specs.Inner.Moves.{begun_when}
use Rattle.house_core.specs.Inner.Ready.{AreSound}
use Rattle.house_core.specs.Inner.Shown.{shown_account, shown_book}

module _ (parts : Parts) (sound : AreSound parts) where
  pub holds_book : (n : ℕ) (call : RunningCall) (at : ℕ) → slice_get parts.calls.items n ≡ Some call → held_book call ≡ Some at
      → option_and_then (λ (l : BookLock). l.holder) (slice_get parts.books.items at) ≡ Some n
  holds_book n call at there holds =
      by (slice_get parts.books.items at) (ap (option_and_then (λ l. l.holder)) (sym (slice_get-map shown_book parts.books.items at)) ∙ sound.holds.books.holding n call at there holds)
    where
      by : (o : Option BookLock) → option_and_then (λ l. l.holder) (option_map shown_book o) ≡ Some n → option_and_then (λ (l : BookLock). l.holder) o ≡ Some n
      by None h = h
      by (Some lock) h = h

  pub holds_account : (n : ℕ) (call : RunningCall) (at : ℕ) → slice_get parts.calls.items n ≡ Some call → held_account call ≡ Some at
      → option_and_then (λ (l : AccountLock). l.holder) (slice_get parts.accounts.items at) ≡ Some n
  holds_account n call at there holds =
      by (slice_get parts.accounts.items at) (ap (option_and_then (λ l. l.holder)) (sym (slice_get-map shown_account parts.accounts.items at)) ∙ sound.holds.accounts.holding n call at there holds)
    where
      by : (o : Option AccountLock) → option_and_then (λ l. l.holder) (option_map shown_account o) ≡ Some n → option_and_then (λ (l : AccountLock). l.holder) o ≡ Some n
      by None h = h
      by (Some lock) h = h

-- a call that has begun, and no place yet, carries nothing
pub begun_carries_nothing : (s : Stage) → is_some (begun s) ≡ true → ordered s ≡ None
begun_carries_nothing (stage.Waiting command) h = refl
begun_carries_nothing (stage.Begun command) h = refl
begun_carries_nothing (stage.Ordered carried) h = absurd (cc)
begun_carries_nothing (stage.Netting netting) h = refl
begun_carries_nothing (stage.Stating stating) h = refl
begun_carries_nothing stage.Ended h = refl

-- one that begins carries what it did, and holds what it did
pub begins_with : (point : ℕ) (call : RunningCall) (o : Option Command) → (held_book (begun_when point call o) ≡ held_book call) × (held_account (begun_when point call o) ≡ held_account call)
begins_with point call None = (refl, refl)
begins_with point call (Some command) = (refl, refl)

pub begins_carrying : (point : ℕ) (call : RunningCall) (s : Stage) (carried : Carried) → call.stage ≡ s → ordered (begun_when point call (waiting s)).stage ≡ Some carried → ordered call.stage ≡ Some carried
begins_carrying point call (stage.Waiting command) carried e h = absurd (none-some carried h)
begins_carrying point call (stage.Begun command) carried e h = h
begins_carrying point call (stage.Ordered own) carried e h = h
begins_carrying point call (stage.Netting netting) carried e h = h
begins_carrying point call (stage.Stating stating) carried e h = h
begins_carrying point call stage.Ended carried e h = h
