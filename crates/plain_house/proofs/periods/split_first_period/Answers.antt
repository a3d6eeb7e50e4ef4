use Rattle.std.proofs.Common.{◌≡◌, ◌+◌, ◌⊎◌, ℕ, inl, inr, length, Some, None}
use Rattle.plain_house.proofs.FirstPeriodLemmas.{first_of, later_of}
use Rattle.plain_house.proofs.periods.split_first_period.Goals as goal
use Rattle.plain_house.proofs.periods.split_first_period.Goals.{in-Some, in-None}

pub returns-clause-first : goal.returns-clause-first
returns-clause-first c =
    let is : ((place : ℕ) × (c.first_close.result ≡ Some place) × (c.match-first_close.length ≡ place + 1)) ⊎ ((c.first_close.result ≡ None) × (c.match-first_close.length ≡ length c.args.events.now)) =
    elim c.match-first_close.branch [ in-Some w ↦ inl (w.in-Some.close, w.in-Some.is, w.length-is) | in-None w ↦ inr (w.in-None.is, w.length-is) ] in
    first_of c.args.events.now c.split_at.result.0.now c.split_at.result.1.now c.first_close.result c.match-first_close.length c.first_close.ensures is c.split_at.ensures.front c.split_at.ensures.back

pub returns-clause-later : goal.returns-clause-later
returns-clause-later c =
    let is : ((place : ℕ) × (c.first_close.result ≡ Some place) × (c.match-first_close.length ≡ place + 1)) ⊎ ((c.first_close.result ≡ None) × (c.match-first_close.length ≡ length c.args.events.now)) =
    elim c.match-first_close.branch [ in-Some w ↦ inl (w.in-Some.close, w.in-Some.is, w.length-is) | in-None w ↦ inr (w.in-None.is, w.length-is) ] in
    later_of c.args.events.now c.split_at.result.0.now c.split_at.result.1.now c.first_close.result c.match-first_close.length c.first_close.ensures is c.split_at.ensures.front c.split_at.ensures.back
