-- Calls that only read, one after another.
use Rattle.std.proofs.Common.{Result, Ok, Err, ◌∙◌}
use Rattle.std.specs.Prelude.{OnOk, IfOk, IfErr}
use Rattle.sqlite_disk.specs.declared.Disk.{Ghosts}
use Rattle.kept_batches.specs.Reading.{OnlyReads}

pub reads_twice : {D : Type 0} (g : Ghosts D) (old mid new : D) → OnlyReads g old mid → OnlyReads g mid new → OnlyReads g old new
reads_twice g old mid new first second = record {
  seen = second.seen ∙ first.seen;
  crash = λ c left. first.crash c (second.crash c left);
  usable = second.usable;
  clean = λ now. first.clean (second.clean now);
}

pub in_any_case : {T E P : Type 0} (result : Result T E) → P → OnOk result P
in_any_case (Ok x) holds = holds
in_any_case (Err e) holds = tt

pub if_ok : {T E : Type 0} (result : Result T E) {P Q : T → Type 0} → ((x : T) → P x → Q x) → IfOk result P → IfOk result Q
if_ok (Ok x) f holds = f x holds
if_ok (Err e) f holds = tt

pub if_err : {T E : Type 0} (result : Result T E) {P Q : E → Type 0} → ((e : E) → P e → Q e) → IfErr result P → IfErr result Q
if_err (Ok x) f holds = tt
if_err (Err e) f holds = f e holds
