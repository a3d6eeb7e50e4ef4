use Rattle.std.proofs.Common.{rules, ◌≡◌, ℕ, List, ◌++◌, ◌∙◌, ap, append_assoc, codes, decimal, string_bytes, sym}
use Rattle.std.proofs.lemmas.Result.{IfOk-weaker}
use Rattle.clear_cli.specs.Outputs.{IsStatementName, statement_name}
use Rattle.clear_cli.proofs.outputs.statement_name.Goals as goal

-- what stands between the two ends of a statement's name
named_between : (period country_code party_id : List ℕ) →
    period ++ (codes "-" ++ (country_code ++ (codes "-" ++ (party_id ++ codes ".csv")))) ≡ period ++ (codes "-" ++ (country_code ++ (codes "-" ++ party_id))) ++ codes ".csv"
named_between period country_code party_id =
    ap (λ (tail : List ℕ). period ++ (codes "-" ++ tail)) (sym (append_assoc country_code (codes "-" ++ party_id) (codes ".csv")))
    ∙ sym (append_assoc period (codes "-" ++ (country_code ++ (codes "-" ++ party_id))) (codes ".csv"))

pub returns-clause-form : goal.returns-clause-form
returns-clause-form c =
    let party = c.args.party.now in
    let country_code : List ℕ = party.country_code in
    let party_id : List ℕ = party.party_id in
    IfOk-weaker c.format.result (λ name. string_bytes name ≡ statement_name c.args.period party) (λ name. IsStatementName (string_bytes name))
    (λ name is. (
      decimal c.args.period ++ (codes "-" ++ (country_code ++ (codes "-" ++ party_id))),
      is ∙ ap (λ (tail : List ℕ). codes "statement-" ++ tail) (named_between (decimal c.args.period) country_code party_id),
    ))
    (search rules)
