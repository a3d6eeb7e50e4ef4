use Rattle.std.proofs.Common.{rules, ◌≡◌, List, ℕ, ◌++◌, ◌-◌, codes, length, subst, take}
use Rattle.std.proofs.lemmas.Bool.Decides.{Decides-eqb}
use Rattle.std.proofs.lemmas.List.{append_cancel_left}
use Rattle.std.proofs.lemmas.Slice.Eq.{ends_is}
use Rattle.clear_cli.proofs.out_folder.is_statement.Goals as goal

pub returns-in-Some : goal.returns-in-Some
returns-in-Some c =
    let rest = c.in-Some.rest.now in
    let split : c.args.name.now ≡ codes "statement-" ++ rest = search rules in
    let ends = ends_is Decides-eqb rest (codes ".csv") c.ends_with.result c.ends_with.ensures.value in (
      (λ is_end. (take (length rest - 4) rest, subst (λ (tail : List ℕ). c.args.name.now ≡ codes "statement-" ++ tail) (ends.0 is_end) split)),
      (λ named. ends.1 named.0 (append_cancel_left (codes "statement-") rest (named.0 ++ codes ".csv") (subst (λ (name : List ℕ). name ≡ codes "statement-" ++ (named.0 ++ codes ".csv")) split named.1))),
    )
