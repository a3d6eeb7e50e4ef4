use Rattle.std.proofs.Common.{◌≡◌, ◌∙◌, refl, rules, sym}
use Rattle.request_lines.specs.declared.script.Scripted.{Scripted}
use Rattle.request_lines.specs.declared.one_line.Once.{Once}
use Rattle.request_lines.specs.Script.{script_rule}
use Rattle.request_lines.proofs.SeenRuns.{Shows, in_turn_at, at_fault_at}
use Rattle.request_lines.proofs.SeenTogether.{seen_together}
use Rattle.request_lines.proofs.script.run_script_together.Goals as goal

pub returns-clause-told : goal.returns-clause-told
returns-clause-told g c =
    let config = c.args.config.now in
    let Stays : Scripted g.row.S.Denot Once g.S.Sequential → Scripted g.row.S.Denot Once g.S.Sequential → Type 0 =
    λ s a. (a.house.ghost_name ≡ s.house.ghost_name) × (a.config.now ≡ config) in
    let shows : (s : Scripted g.row.S.Denot Once g.S.Sequential) → Shows _ (script_rule config) (λ a. g.S.Sequential.events a.house.now) (Stays s) =
    λ s. record {
      answers = λ a b lines text k h.
          let step = in_turn_at config a.config.now b.config.now (g.S.Sequential.events a.house.now) lines text (g.S.Sequential.events b.house.now) k.1 h.1 in
          ((h.0 ∙ k.0, step.0), step.1);
      gives_up = λ a b line k h.
          let step = at_fault_at config a.config.now b.config.now (g.S.Sequential.events a.house.now) line (g.S.Sequential.events b.house.now) k.1 h.1 h.2 in
          ((h.0 ∙ k.0, step.0), step.1);
    } in
    let seen = seen_together _ _ _ Stays shows _ _ _ _ _ _ _ _ c.run_lines_together.result c.run_lines_together.ensures.told (refl, refl) in
    seen.1 _ (search (rules, sym seen.0.0))
