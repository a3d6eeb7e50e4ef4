-- What a command adds.
use Rattle.std.proofs.Common.{◌≡◌, ◌↔◌, ◌-◌, ℕ, List, [], ◌∷◌, ◌++◌, Bool, true, false, arith, refl, ap, sym, subst, ◌∙◌, Some, Result, Ok, Err, is_some, length, length-append, slice_get}
use Rattle.ocpi_types.specs.declared.config.Config.{Config}
use Rattle.ocpi_types.specs.declared.refusal.Refusal.{Refusal}
use Rattle.cdr_checks.specs.Admission.{IsAdmitted, admission}
use Rattle.cdr_checks.specs.declared.request.Ask.{Ask}
use Rattle.cdr_checks.specs.declared.request.Command.{Command}
use Rattle.plain_house.specs.declared.answer.Answer.{Answer}
use Rattle.plain_house.specs.declared.event.Event.{Event}
use Rattle.plain_house.specs.House.{Does, events_after, verdict}
use Rattle.plain_house.specs.Known.{known}
use Rattle.plain_house.specs.Laws.{RepliesTellEvents, adds_event, tells_event}
use Rattle.plain_house.specs.Replies.{Reply, is_no_memory, stamped, with_event}
use Rattle.event_commands.specs.AskedAgain.{IsAskedAgain, IsAskedBy, has_right}
use Rattle.event_commands.proofs.AskLemmas.{of_asked}
use Rattle.new_configuration.specs.Inner.Added.{IsAdded}
use Rattle.new_configuration.specs.Inner.Attempt.{EndsIn, is_of_invalid, rejects_token}
use Rattle.new_configuration.specs.declared.holds.Attempt.TheVariants as attempt

last_pushed : {X : Type 0} (xs : List X) (x : X) → slice_get (xs ++ x ∷ []) (length (xs ++ x ∷ []) - 1) ≡ Some x
last_pushed xs x =
    ap (slice_get (xs ++ x ∷ [])) (let n : length (xs ++ x ∷ []) - 1 ≡ length xs = omega (arith, length-append xs (x ∷ [])) in n) ∙ seam xs
  where
    seam : (xs : List _) → slice_get (xs ++ x ∷ []) (length xs) ≡ Some x
    seam [] = refl
    seam (y ∷ ys) = seam ys

adds_stamped : (at : ℕ) (r : Result Answer Refusal) → adds_event (stamped at r) ≡ tells_event r
adds_stamped at (Ok given) = refl
adds_stamped at (Err why) = refl

rejects_stamped : (at : ℕ) (r : Result Answer Refusal) → rejects_token (stamped at r) ≡ is_of_invalid r
rejects_stamped at (Ok given) = refl
rejects_stamped at (Err why) = refl

-- neither is the token rejected nor is this event the last
pub ends_otherwise : RepliesTellEvents → (config : Config) (events : List Event) (done : Command) (e : Event) (reply : Reply) (now : List Event)
    → Does config events done reply now → is_no_memory reply ≡ false → rejects_token reply ≡ false
    → ((adds_event reply ≡ true) × (slice_get now (length now - 1) ≡ Some e) → ⊥) → EndsIn config events done e now attempt.Otherwise
ends_otherwise tells config events done e reply now does has valid other =
    let said = does.told has in (
      (λ h.
          let adds : adds_event reply ≡ true =
          ap adds_event said.0 ∙ adds_stamped (length events) (verdict config (known events) done).reply ∙ sym (tells config (known events) done) ∙ ap is_some h in
          let here : now ≡ events ++ e ∷ [] = said.1 ∙ ap (with_event events) h in
          other (adds, subst (λ (l : List Event). slice_get l (length l - 1) ≡ Some e) (sym here) (last_pushed events e))),
      sym (rejects_stamped (length events) (verdict config (known events) done).reply) ∙ ap rejects_token (sym said.0) ∙ valid,
    )

pub is_added : (config : Config) (events : List Event) (done : Command) (e : Event) (now : List Event) → IsAdmitted config done
    → (verdict config (known events) done).event ≡ Some e → now ≡ events_after config events done → IsAdded config events e now
is_added config events done e now admitted h is = record { given = (done, admitted, h); now_is = is ∙ ap (with_event events) h }

-- a request that adds the event from each platform with the right adds it from this one
pub asked_otherwise : (config its_config : Config) → its_config ≡ config → (events : List Event) (e : Event) (asked : Ask) (done : Command)
    → ((platform : List ℕ) × (admission config (record { platform = platform; ask = asked }) ≡ Ok done))
    → (added : Bool) → (added ≡ true) ↔ ((verdict its_config (known events) done).event ≡ Some e) → added ≡ false → IsAskedAgain config (known events) e asked → ⊥
asked_otherwise config its_config is events e asked done some added iff false_is again =
    let platform : List ℕ = some.0 in
    let right : has_right config asked platform ≡ true = (of_asked config (record { platform = platform; ask = asked }) done some.1).1 in
    let by_this : IsAskedBy config (known events) e asked platform = again.by_each platform right in
    let both : Ok by_this.command ≡ Ok done = sym by_this.admitted ∙ some.1 in
    let one : by_this.command ≡ done = cc in
    let adds : (verdict config (known events) done).event ≡ Some e = subst (λ (t : Command). (verdict config (known events) t).event ≡ Some e) one by_this.adds in
    let yes : added ≡ true = iff.1 (subst (λ (c : Config). (verdict c (known events) done).event ≡ Some e) (sym is) adds) in
    cc
