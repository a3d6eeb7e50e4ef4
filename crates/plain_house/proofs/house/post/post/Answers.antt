use Rattle.std.proofs.Common.{ℕ, Option, None, Some, subst}
use Rattle.ocpi_types.specs.declared.cdr.Cdr.{Cdr}
use Rattle.plain_house.specs.Known.{known}
use Rattle.plain_house.specs.House.{post_of}
use Rattle.plain_house.specs.Replies.{Follows}
use Rattle.plain_house.proofs.house.post.post.Goals as goal

pub returns-in-Some : goal.returns-in-Some
returns-in-Some c =
    let config = c.args.config.now in
    let events = c.args.events.now.items in
    subst (λ (cost : Option ℕ). Follows (post_of config (known events) c.args.checked.cdr cost) events c.post_cdr.result c.post_cdr.new.events.items) c.in-Some.ensures.value
    (subst (λ (cdr : Cdr). Follows (post_of config (known events) cdr (Some c.in-Some.cost)) events c.post_cdr.result c.post_cdr.new.events.items) c.into_cdr-cdr.ensures c.post_cdr.ensures)

pub returns-in-None : goal.returns-in-None
returns-in-None c =
    let config = c.args.config.now in
    let events = c.args.events.now.items in
    subst (λ (cost : Option ℕ). Follows (post_of config (known events) c.args.checked.cdr cost) events c.post_credit.result c.post_credit.new.events.items) c.in-None.ensures.value
    (subst (λ (cdr : Cdr). Follows (post_of config (known events) cdr None) events c.post_credit.result c.post_credit.new.events.items) c.into_cdr-cdr.ensures c.post_credit.ensures)
