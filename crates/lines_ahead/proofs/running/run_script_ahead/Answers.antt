use Rattle.std.proofs.Common.{◌≡◌, ◌∙◌, refl, rules, sym}
use Rattle.request_lines.specs.Script.{script_rule}
use Rattle.request_lines.proofs.SeenRuns.{at_fault_at, in_turn_at}
use Rattle.request_lines.proofs.SeenTogether.{seen_together}
use Rattle.lines_ahead.proofs.running.run_script_ahead.Goals as goal

pub invariant_of-scripted : goal.invariant_of-scripted
invariant_of-scripted g c = record { same = c.requires; ahead_same = c.in-Some.ensures }

pub returns-clause-told : goal.returns-clause-told
returns-clause-told g c =
    let config = c.args.config.now in
    let seen = seen_together _ (script_rule config) (λ a. g.S.Sequential.events a.house.now) (λ s a. (a.house.ghost_name ≡ s.house.ghost_name) × (a.config.now ≡ config))
    (λ s. record {
      answers = λ a b lines text k h.
          let step = in_turn_at config a.config.now b.config.now (g.S.Sequential.events a.house.now) lines text (g.S.Sequential.events b.house.now) k.1 h.1 in
          ((h.0 ∙ k.0, step.0), step.1);
      gives_up = λ a b line k h.
          let step = at_fault_at config a.config.now b.config.now (g.S.Sequential.events a.house.now) line (g.S.Sequential.events b.house.now) k.1 h.1 h.2 in
          ((h.0 ∙ k.0, step.0), step.1);
    }) _ _ _ _ _ _ _ _ c.run_lines_together-told.result c.run_lines_together-told.ensures.told (refl, refl) in
    seen.1 _ (search (rules, sym seen.0.0))
