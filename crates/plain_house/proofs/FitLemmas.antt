-- What a house replies has few rows.
use Rattle.std.proofs.Common.{arith, ◌≡◌, ◌≤◌, ℕ, Bool, true, false, refl, sym, subst, length, Result, Ok, Err}
use Rattle.ocpi_types.specs.declared.refusal.Refusal.{Refusal}
use Rattle.plain_house.specs.declared.answer.Answer.{Answer}
use Rattle.plain_house.specs.House.{verdict}
use Rattle.plain_house.specs.Known.{known}
use Rattle.plain_house.specs.Laws.{RepliesAreShort, rows_of}
use Rattle.plain_house.specs.Replies.{is_no_memory, stamped}
use Rattle.plain_house.specs.ReplyRoom.{FitsIn, RepliesFit}

stamped_fits : (most at : ℕ) (reply : Result Answer Refusal) → rows_of reply ≤ most → FitsIn most (stamped at reply)
stamped_fits most at (Ok answer) short = short
stamped_fits most at (Err refusal) short = tt

pub replies_do : RepliesAreShort → RepliesFit
replies_do short config events command reply now most enough netted does = by (is_no_memory reply) refl
  where
    by : (b : Bool) → is_no_memory reply ≡ b → FitsIn most reply
    by true lacking = subst (FitsIn most) (sym (does.refused lacking).0) tt
    by false told =
        let fits : rows_of (verdict config (known events) command).reply ≤ most = omega (arith, enough, short config (known events) command netted) in
        subst (FitsIn most) (sym (does.told told).0) (stamped_fits most (length events) (verdict config (known events) command).reply fits)
