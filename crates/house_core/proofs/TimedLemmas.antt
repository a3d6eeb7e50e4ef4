-- Each call that ends has the numbers of events at its Begin step and at its last.
use Rattle.std.proofs.Common.{◌≡◌, ℕ, List, [], ◌∷◌, ◌++◌, refl, sym, ap, subst, ◌∙◌, length, append_assoc, Option, None, Some, option_to_list, slice_get}
use Rattle.std.specs.List.{AllByRecursion}
use Rattle.std.specs.Option.{option_and_then}
use Rattle.cdr_checks.specs.declared.request.Command.{Command}
use Rattle.house_core.specs.declared.finished.Finished.{Finished}
use Rattle.house_core.specs.declared.running_call.RunningCall.{RunningCall}
use Rattle.house_core.specs.declared.step.Action.TheVariants as action
use Rattle.house_core.specs.declared.step.Step.{Step}
use Rattle.house_core.specs.Calls.{waiting}
use Rattle.house_core.specs.OneHouse.{after, finished}
use Rattle.house_core.specs.Steps.{begins, finishes, step}
use Rattle.house_core.specs.World.{PlainWorld}
use Rattle.house_core.proofs.Folds.{each-append}
use Rattle.house_core.proofs.OwnPlaces.{after-append}
use Rattle.house_core.proofs.TimeLemmas.{BeganAt, finishes_began, step_began}

module _ (first : PlainWorld) where
  -- as in `HasBegun`, by the length of the order
  pub record BegunAt (past : List Step) (call begin : ℕ) : Type 0 where
    pub earlier : List Step
    pub later : List Step
    pub command : Command
    pub split : past ≡ earlier ++ record { call = call; action = action.Begin } ∷ later
    pub taken : begins (after first earlier) (record { call = call; action = action.Begin }) ≡ Some command
    pub at : begin ≡ length (after first earlier).order

  -- as in `IsTimed`
  pub record TimedAt (steps : List Step) (call : Finished) : Type 0 where
    pub earlier : List Step
    pub last : Step
    pub later : List Step
    pub split : steps ≡ earlier ++ last ∷ later
    pub taken : finishes (after first earlier) last ≡ Some call
    pub begun : BegunAt earlier call.call call.begin
    pub at : call.end ≡ length (after first earlier).order

  -- each call that has begun did so at its begin
  abbrev pub AllBegun : List Step → Type 0
  AllBegun past = (n : ℕ) → BeganAt (BegunAt past n) n (after first past)

  begun_longer : (past more : List Step) (call begin : ℕ) → BegunAt past call begin → BegunAt (past ++ more) call begin
  begun_longer past more call begin is = record {
    earlier = is.earlier;
    later = is.later ++ more;
    command = is.command;
    split = ap (λ (l : List Step). l ++ more) is.split ∙ append_assoc is.earlier (record { call = call; action = action.Begin } ∷ is.later) more;
    taken = is.taken;
    at = is.at;
  }

  -- the step that begins a call
  begun_here : (past : List Step) (one : Step) (n : ℕ) → n ≡ one.call → one.action ≡ action.Begin → (call : RunningCall) → slice_get (after first past).calls one.call ≡ Some call
      → (own : Command) → waiting call.stage ≡ Some own → BegunAt (past ++ one ∷ []) n (length (after first past).order)
  begun_here past one n same begins call is own w = record {
    earlier = past;
    later = [];
    command = own;
    split = λ i. past ++ record { call = sym same i; action = begins i } ∷ [];
    taken = ap (λ (number : ℕ). option_and_then (λ (c : RunningCall). waiting c.stage) (slice_get (after first past).calls number)) same ∙ ap (option_and_then (λ (c : RunningCall). waiting c.stage)) is ∙ w;
    at = refl;
  }

  all_begun : (past : List Step) (one : Step) → AllBegun past → AllBegun (past ++ one ∷ [])
  all_begun past one all n call there =
      step_began (BegunAt (past ++ one ∷ []) n) n (after first past) one (λ same begins other is own w. begun_here past one n same begins other is own w)
      (λ other is begun. begun_longer past (one ∷ []) n other.begin (all n other is begun)) call
      (ap (λ (w : PlainWorld). slice_get w.calls n) (sym (after-append first past (one ∷ []))) ∙ there)

  all_timed : (past rest : List Step) → AllBegun past → AllByRecursion (TimedAt (past ++ rest)) (finished (after first past) rest)
  all_timed past [] all = tt
  all_timed past (one ∷ rest) all =
      each-append (TimedAt (past ++ one ∷ rest)) (option_to_list (finishes (after first past) one)) (finished (step (after first past) one) rest)
      (here (finishes (after first past) one) refl)
      (subst (λ (w : PlainWorld). AllByRecursion (TimedAt (past ++ one ∷ rest)) (finished w rest)) (after-append first past (one ∷ []))
      (subst (λ (l : List Step). AllByRecursion (TimedAt l) (finished (after first (past ++ one ∷ [])) rest)) (append_assoc past (one ∷ []) rest)
      (all_timed (past ++ one ∷ []) rest (all_begun past one all))))
    where
      here : (o : Option Finished) → finishes (after first past) one ≡ o → AllByRecursion (TimedAt (past ++ one ∷ rest)) (option_to_list o)
      here None e = tt
      here (Some f) e = (
        record {
          earlier = past;
          last = one;
          later = rest;
          split = refl;
          taken = e;
          begun = (finishes_began (BegunAt past f.call) (after first past) one f e).0 (all f.call);
          at = (finishes_began (BegunAt past f.call) (after first past) one f e).1;
        },
        tt,
      )

  pub each_timed : (steps : List Step) → AllBegun [] → AllByRecursion (TimedAt steps) (finished first steps)
  each_timed steps all = all_timed [] steps all
