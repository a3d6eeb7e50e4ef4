-- What a call returns fits in the room made for it, and what a pass keeps of it.
use Rattle.std.proofs.Common.{cond, count_by, ◌∷◌, ◌++◌, ◌≡◌, ℕ, ◌+◌, List, [], Bool, true, false, refl, sym, ap, ◌∙◌, subst, arith, Result, Ok, Err, if◌then◌else◌}
use Rattle.std.proofs.lemmas.List.Elements.{All-push}
use Rattle.std.proofs.lemmas.List.Sums.{sum_by_push}
use Rattle.ocpi_types.specs.declared.config.Config.{Config}
use Rattle.ocpi_types.specs.declared.refusal.Refusal.{Refusal}
use Rattle.cdr_checks.specs.Admission.{IsAdmitted}
use Rattle.cdr_checks.specs.declared.request.Command.{Command}
use Rattle.plain_house.specs.declared.answer.Answer.{Answer}
use Rattle.plain_house.specs.declared.answer.Replied.{Replied}
use Rattle.plain_house.specs.House.{verdict}
use Rattle.plain_house.specs.Laws.{RepliesAreShort, adds_event, rows_in, rows_of}
use Rattle.plain_house.specs.LegalEntries.{LegalBooksCanBeNetted}
use Rattle.plain_house.specs.LegalLists.{CanBeNetted}
use Rattle.plain_house.specs.Replies.{Reply, stamped}
use Rattle.period_order.specs.Kept.{IsConfiguration}
use Rattle.shared_house.specs.Calls.{IsTold, call_adds_event, event_count, is_collecting}
use Rattle.shared_house.specs.Points.{AreAdmitted}
use Rattle.shared_house.specs.declared.call.Call.{Call}
use Rattle.shared_house.specs.Inner.PassKeeps.{PassKeeps}
use Rattle.shared_house.specs.Laws.{RepliesOfCallsFit}

-- ---- rows

told_netted : LegalBooksCanBeNetted → (config : Config) → IsConfiguration config → (command : Command) (reply : Reply) → (told : IsTold config command reply) → CanBeNetted config told.known.book
told_netted netted config is_config command reply told = by (is_collecting command) refl
  where
    by : (b : Bool) → is_collecting command ≡ b → CanBeNetted config told.known.book
    by true e = (told.books e).netted
    by false e = netted config told.known.book is_config.operators is_config.cdrs (told.book e)

rows_stamped : (replied : Replied) (at : ℕ) (reply : Result Answer Refusal) → Ok replied ≡ stamped at reply → rows_in replied.answer ≡ rows_of reply
rows_stamped replied at (Ok answer) h = let same : replied ≡ record { at = at; answer = answer } = cc in ap (λ (r : Replied). rows_in r.answer) same
rows_stamped replied at (Err refusal) h = absurd (cc)

pub calls_fit : LegalBooksCanBeNetted → RepliesAreShort → RepliesOfCallsFit
calls_fit netted short config command least (Err refused) most is_config room returns = tt
calls_fit netted short config command least (Ok replied) most is_config room returns =
    let told = returns.told refl in
    let few = short config told.known command (told_netted netted config is_config command (Ok replied) told) in
    let rows = rows_stamped replied told.known.point (verdict config told.known command).reply told.reply_is in
    omega (arith, rows, few, room)

-- ---- a pass

pub pass_kept : (config : Config) (old mid new : List Call) (call : Call) (reply : Reply) (parts parts' share share' : ℕ) → PassKeeps config old parts share → IsAdmitted config call.command
    → call.reply ≡ reply → parts' ≡ 1 → share' ≡ share + event_count reply → mid ≡ old → new ≡ mid ++ call ∷ [] → PassKeeps config new parts' share'
pass_kept config old mid new call reply parts parts' share share' is admitted same one more m n =
    let grown : new ≡ old ++ call ∷ [] = n ∙ ap (λ l. l ++ call ∷ []) m in
    let counted = picked (adds_event call.reply) ∙ ap event_count same in
    record {
      part = one;
      counted = omega (arith, is.counted, more, counted, ap (count_by call_adds_event) grown ∙ sum_by_push (λ (x : Call). cond {A = ℕ} (call_adds_event x) 1 0) old call);
      admitted = subst (AreAdmitted config) (sym grown) (All-push (λ (x : Call). IsAdmitted config x.command) old call is.admitted admitted);
    }
  where
    picked : (b : Bool) → cond {A = ℕ} b 1 0 ≡ (if b then 1 else 0)
    picked true = refl
    picked false = refl
