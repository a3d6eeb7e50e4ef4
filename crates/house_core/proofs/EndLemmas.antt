-- A call that ends.
use Rattle.std.proofs.Common.{◌≡◌, ℕ, true, false, sym, ap, ◌∙◌, append-nil, None, Some, is_some, option_map, slice_get, slice_set}
use Rattle.std.specs.Option.{option_and_then}
use Rattle.cdr_checks.specs.declared.request.Command.{Command}
use Rattle.plain_house.specs.Replies.{stamped}
use Rattle.house_core.specs.declared.running_call.RunningCall.{RunningCall}
use Rattle.house_core.specs.declared.running_call.ReplyDue.{ReplyDue}
use Rattle.house_core.specs.declared.finished.Done.TheVariants as done
use Rattle.house_core.specs.declared.stage.Stage.TheVariants as stage
use Rattle.house_core.specs.declared.step.Action.TheVariants as action
use Rattle.house_core.specs.Calls.{begun, held_account, held_book, reply_due}
use Rattle.house_core.specs.Locks.{freed, lock_at, with_lock}
use Rattle.house_core.specs.Steps.{abandon, changed, end, ended, finishes, step}
use Rattle.house_core.specs.World.{PlainWorld}
use Rattle.house_core.proofs.PutLemmas.{some_there}
use Rattle.house_core.proofs.StepLemmas.{call_changed, stepped, with_call}

module _ (world : PlainWorld) (number : ℕ) (call : RunningCall) (is : slice_get world.calls number ≡ Some call) where
  -- ---- given up

  abbrev pub given_up : RunningCall
  given_up = record call { has_book = false; has_account = false; stage = stage.Ended }

  pub did_abandon : is_some (begun call.stage) ≡ true
      → record {
        config = world.config;
        books = with_lock world.books call.book (option_map freed (lock_at world.books (held_book call)));
        accounts = with_lock world.accounts call.account (option_map freed (lock_at world.accounts (held_account call)));
        order = world.order;
        calls = slice_set world.calls number given_up;
      } ≡ step world (record { call = number; action = action.Abandon })
  did_abandon begins =
      let one = some_there (begun call.stage) begins in
      (λ i. record {
        config = world.config;
        books = with_lock world.books call.book (option_map freed (lock_at world.books (held_book call)));
        accounts = with_lock world.accounts call.account (option_map freed (lock_at world.accounts (held_account call)));
        order = sym (append-nil world.order) i;
        calls = slice_set world.calls number given_up;
      })
      ∙ ap (changed world number)
      (sym (ap (option_map (λ (command : Command). abandon call (lock_at world.books (held_book call)) (lock_at world.accounts (held_account call)))) one.1))
      ∙ sym (stepped world number call action.Abandon is)

  pub tells_abandoned : is_some (begun call.stage) ≡ true → Some (ended world number call done.Abandoned) ≡ finishes world (record { call = number; action = action.Abandon })
  tells_abandoned begins =
      let one = some_there (begun call.stage) begins in
      sym (ap (option_and_then (λ (c : RunningCall). option_map (λ (command : Command). ended world number c done.Abandoned) (begun c.stage))) is
      ∙ ap (option_map (λ (command : Command). ended world number call done.Abandoned)) one.1)

  -- ---- with its reply

  pub did_end : (due : ReplyDue) → reply_due call ≡ Some due → with_call world number (record call { stage = stage.Ended }) ≡ step world (record { call = number; action = action.End })
  did_end due is_due =
      sym (call_changed world number (record call { stage = stage.Ended }))
      ∙ ap (changed world number) (sym (ap (option_map (λ (t : ReplyDue). end call)) is_due))
      ∙ sym (stepped world number call action.End is)

  pub not_ended : reply_due call ≡ None → world ≡ step world (record { call = number; action = action.End })
  not_ended none = ap (changed world number) (sym (ap (option_map (λ (t : ReplyDue). end call)) none)) ∙ sym (stepped world number call action.End is)

  pub tells_end : (due : ReplyDue) → reply_due call ≡ Some due
      → Some (ended world number call (done.Answered due.point (stamped due.point due.reply))) ≡ finishes world (record { call = number; action = action.End })
  tells_end due is_due =
      sym (ap (option_and_then (λ (c : RunningCall). option_map (λ (t : ReplyDue). ended world number c (done.Answered t.point (stamped t.point t.reply))) (reply_due c))) is
      ∙ ap (option_map (λ (t : ReplyDue). ended world number call (done.Answered t.point (stamped t.point t.reply)))) is_due)

  pub tells_nothing : reply_due call ≡ None → None ≡ finishes world (record { call = number; action = action.End })
  tells_nothing none =
      sym (ap (option_and_then (λ (c : RunningCall). option_map (λ (t : ReplyDue). ended world number c (done.Answered t.point (stamped t.point t.reply))) (reply_due c))) is
      ∙ ap (option_map (λ (t : ReplyDue). ended world number call (done.Answered t.point (stamped t.point t.reply)))) none)
