-- Parts behind a step are sound.
use Rattle.std.proofs.Common.{◌≡◌, ℕ, zero, suc, List, [], ◌∷◌, length, refl, sym, ap, subst, ◌∙◌, map, None, Some, Result, Ok, Err, slice_get}
use Rattle.std.specs.List.{All}
use Rattle.std.specs.Prelude.{OnErr, OnOk}
use Rattle.std.proofs.lemmas.List.Elements.{All-head, All-tail}
use Rattle.std.proofs.lemmas.Option.{none-some, same_Some}
use Rattle.ocpi_types.specs.declared.config.Config.{Config}
use Rattle.cdr_checks.specs.declared.request.Command.{Command}
use Rattle.cdr_checks.specs.Admission.{IsAdmitted}
use Rattle.plain_house.specs.declared.event.Event.{Event}
use Rattle.house_core.specs.declared.running_call.RunningCall.{RunningCall}
use Rattle.house_core.specs.declared.parts.Parts.{Parts}
use Rattle.house_core.specs.declared.step.Step.{Step}
use Rattle.house_core.specs.Calls.{ordered}
use Rattle.house_core.specs.Inner.Ready.{ArePartsReady, AreSound, shown}
use Rattle.house_core.specs.Inner.Sound.{Holds}
use Rattle.house_core.specs.Inner.Steps.{EventsGo, StepsKeep}
use Rattle.period_order.specs.Kept.{IsConfiguration}
use Rattle.house_core.specs.Start.{call_of, start}
use Rattle.house_core.specs.Steps.{step}
use Rattle.house_core.specs.World.{PlainWorld}

module _ (parts now : Parts) (sound : AreSound parts) (ready : ArePartsReady now) where
  sound_with : (events : List Event) → Holds parts.config sound.commands events (shown now) → AreSound now
  sound_with events holds = record {
    commands = sound.commands;
    events = events;
    config = subst IsConfiguration (sym holds.config_is) sound.config;
    holds = subst (λ (c : Config). Holds c sound.commands events (shown now)) (sym holds.config_is) holds;
    ready = ready;
  }

  pub sound_after : {T E : Type 0} → StepsKeep → (one : Step) (r : Result T E) → OnOk r (shown now ≡ step (shown parts) one) → OnErr r (shown now ≡ shown parts) → AreSound now
  sound_after keep one (Ok t) ok err =
      let kept = keep.keeps parts.config sound.commands sound.events (shown parts) one sound.config sound.holds in
      sound_with kept.events (subst (λ (w : PlainWorld). Holds parts.config sound.commands kept.events w) (sym ok) kept.holds)
  sound_after keep one (Err e) ok err = sound_with sound.events (subst (λ (w : PlainWorld). Holds parts.config sound.commands sound.events w) (sym err) sound.holds)

pub events_go : {T E : Type 0} (parts now : Parts) (sound : AreSound parts) → StepsKeep → (one : Step) (r : Result T E) → OnOk r (shown now ≡ step (shown parts) one) → OnOk r (EventsGo (shown parts) (shown now) one.call)
events_go parts now sound keep one (Ok t) ok =
    subst (λ (w : PlainWorld). EventsGo (shown parts) w one.call) (sym ok) (keep.keeps parts.config sound.commands sound.events (shown parts) one sound.config sound.holds).goes
events_go parts now sound keep one (Err e) ok = tt

-- ---- before any step

carries_nothing : (config : Config) (commands : List Command) (n : ℕ) (call : RunningCall) → slice_get (map (call_of config) commands) n ≡ Some call → ordered call.stage ≡ None
carries_nothing config [] n call h = absurd (none-some call h)
carries_nothing config (x ∷ xs) zero call h = ap (λ (c : RunningCall). ordered c.stage) (sym (same_Some (call_of config x) call h))
carries_nothing config (x ∷ xs) (suc n) call h = carries_nothing config xs n call h

pub each_admitted : (config : Config) (commands : List Command) → All (IsAdmitted config) commands → (n : ℕ) (own : Command) → slice_get commands n ≡ Some own → IsAdmitted config own
each_admitted config [] all n own h = absurd (none-some own h)
each_admitted config (x ∷ xs) all zero own h = subst (IsAdmitted config) (same_Some x own h) (All-head (IsAdmitted config) x xs all)
each_admitted config (x ∷ xs) all (suc n) own h = each_admitted config xs (All-tail (IsAdmitted config) x xs all) n own h

pub sound_first : StepsKeep → (config : Config) (commands : List Command) → IsConfiguration config → All (IsAdmitted config) commands → (now : Parts) → shown now ≡ start config commands → AreSound now
sound_first keep config commands is_config admitted now is =
    let holds : Holds config commands [] (shown now) = subst (Holds config commands []) (sym is) (keep.starts config commands is_config (each_admitted config commands admitted)) in
    let calls : now.calls.items ≡ map (call_of config) commands = ap (λ (w : PlainWorld). w.calls) is in
    record {
      commands = commands;
      events = [];
      config = subst IsConfiguration (sym holds.config_is) is_config;
      holds = subst (λ (c : Config). Holds c commands [] (shown now)) (sym holds.config_is) holds;
      ready = record {
        books = λ n at call lock there holds_it here carried event carries has.
            absurd (none-some carried (sym (carries_nothing config commands n call (ap (λ l. slice_get l n) (sym calls) ∙ there)) ∙ carries));
        accounts = λ n at call lock there holds_it here carried event carries has.
            absurd (none-some carried (sym (carries_nothing config commands n call (ap (λ l. slice_get l n) (sym calls) ∙ there)) ∙ carries));
      };
    }

-- ---- behind the last step

pub nothing_left : {X : Type 0} (xs : List X) → length xs ≡ 0 → xs ≡ []
nothing_left [] h = refl
nothing_left (x ∷ xs) h = absurd (cc)
