-- What follows of each step of an admission.
use Rattle.std.proofs.Common.{◌≡◌, Bool, true, false, refl, sym, ap, Option, Some, None, Result, Ok, Err}
use Rattle.std.specs.Prelude.{IfOk}
use Rattle.ocpi_types.specs.declared.config.Config.{Config}
use Rattle.cdr_checks.specs.declared.cause.Cause.{Cause}
use Rattle.cdr_checks.specs.declared.request.Command.{Command}
use Rattle.cdr_checks.specs.declared.request.Request.{Request}
use Rattle.cdr_checks.specs.Admission.{IsAdmitted, admission, ask_admission, judged}
use Rattle.cdr_checks.specs.Cause.{with_refusal}
use Rattle.cdr_checks.specs.FirstRefusal.{◌>>=◌, ensure, or_refusal, unless}
use Rattle.cdr_checks.specs.HandedBack.{handed_back}

module _ {A : Type 0} where
  -- a test that holds, and what comes after it
  pub ensured : (b : Bool) (why : Cause) (rest : Result A Cause) (x : A) → (ensure b why >>= λ _. rest) ≡ Ok x → (b ≡ true) × (rest ≡ Ok x)
  ensured true why rest x h = (refl, h)
  ensured false why rest x h = absurd (cc)

  -- nothing is found, and what comes after
  pub unless_none : {X : Type 0} (o : Option X) (why : X → Cause) (rest : Result A Cause) (x : A) → (unless o why >>= λ _. rest) ≡ Ok x → (o ≡ None) × (rest ≡ Ok x)
  unless_none None why rest x h = (refl, h)
  unless_none (Some found) why rest x h = absurd (cc)

  -- what is there, and what goes on with it
  pub there : {X : Type 0} (o : Option X) (why : Cause) (rest : X → Result A Cause) (x : A) → (or_refusal why o >>= rest) ≡ Ok x
      → (found : X) × (o ≡ Some found) × (rest found ≡ Ok x)
  there None why rest x h = absurd (cc)
  there (Some found) why rest x h = (found, refl, h)

  pub goes_on : {X : Type 0} (m : Result X Cause) (rest : X → Result A Cause) (x : A) → (m >>= rest) ≡ Ok x → (given : X) × (m ≡ Ok given) × (rest given ≡ Ok x)
  goes_on (Ok given) rest x h = (given, refl, h)
  goes_on (Err why) rest x h = absurd (cc)

  -- the refusal in the place of the cause changes nothing of what is there
  pub accepted : (m : Result A Cause) (x : A) → with_refusal m ≡ Ok x → m ≡ Ok x
  accepted (Ok y) x h = let same : y ≡ x = cc in ap (λ (z : A). Ok z) same
  accepted (Err why) x h = absurd (cc)

-- what is not handed back is admitted
pub not_handed_back : {X A : Type 0} (x : X) (m : Result A Cause) (a : A) → Ok a ≡ handed_back x m → Ok a ≡ m
not_handed_back x (Ok b) a h = let same : a ≡ b = cc in ap (λ z. Ok z) same
not_handed_back x (Err cause) a h = absurd (cc)

pub admission_is : (config : Config) (request : Request) (command : Command) → admission config request ≡ Ok command → ask_admission config request.platform request.ask ≡ Ok command
unfolding admission judged
admission_is config request command h = accepted (ask_admission config request.platform request.ask) command h

pub is_admission : (config : Config) (request : Request) (command : Command) → ask_admission config request.platform request.ask ≡ Ok command → admission config request ≡ Ok command
unfolding admission judged
is_admission config request command h = ap with_refusal h

pub admitted : (config : Config) (request : Request) (result : Result Command Cause) → result ≡ ask_admission config request.platform request.ask → IfOk result (IsAdmitted config)
unfolding IsAdmitted
admitted config request (Ok command) e = (request, is_admission config request command (sym e))
admitted config request (Err why) e = tt
