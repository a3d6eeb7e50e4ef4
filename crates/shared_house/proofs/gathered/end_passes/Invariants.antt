use Rattle.std.proofs.Common.{◌≡◌, ◌≤◌, length, sum_by, map}
use Rattle.std.specs.Prelude.{All, count_by}
use Rattle.shared_house.specs.Calls.{call_adds_event}
use Rattle.shared_house.specs.Points.{AreAdmitted}
use Rattle.shared_house.proofs.gathered.end_passes.Given as goal

abbrev pub invariant-loop-pass : goal.invariant-loop-pass
invariant-loop-pass g l = record {
  parts : l.events.parts ≡ length l.yielded;
  apart : l.events.parts ≤ g.N.Events.Ledger.parts;
  events : l.events.amount ≡ sum_by (λ calls. count_by call_adds_event calls.items) l.all.items;
  calls : map (λ calls. calls.items) l.all.items ≡ map (λ pass. pass.calls) l.yielded;
  admitted : All (λ calls. AreAdmitted g.N.BookEntries.Configured.config calls.items) l.all.items;
}
