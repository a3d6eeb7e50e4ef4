use Rattle.std.proofs.Common.{◌≡◌, Err, ap, List, Vec, Global, map, subst, sym}
use Rattle.operator_book.specs.State.{PlainBook}
use Rattle.period_order.specs.declared.order_entry.OrderEntry.{OrderEntry}
use Rattle.period_order.specs.Resolved.{entries_of_accounts, entries_of_books}
use Rattle.provider_account.specs.State.{PlainAccount}
use Rattle.shared_house.specs.declared.certifying.CertifyFault.TheVariants as fault
use Rattle.shared_house.specs.declared.call.Call.{Call}
use Rattle.shared_house.specs.Certified.{IsTornFirst}
use Rattle.shared_house.specs.Points.{AreAllAdmitted}
use Rattle.shared_house.proofs.ended.Ended.certified.Goals as goal

pub certify-certified-requires : goal.certify-certified-requires
certify-certified-requires g c = (
  c.type_bounds.sync-R,
  subst (λ (l : List (Vec Call Global)). AreAllAdmitted c.args.config.now (map (λ (pass : Vec Call Global). pass.items) l)) (sym c.as_slice-4.ensures.value) c.requires,
)

pub returns-clause-torn : goal.returns-clause-torn
returns-clause-torn g c = λ entry is.
    let same : c.in-Err.fault ≡ fault.Torn entry = cc in
    subst (λ (l : List (Vec Call Global)). IsTornFirst c.args.config.now (entries_of_books c.args.gathered.books.items) (entries_of_accounts c.args.gathered.accounts.items) c.args.gathered.entries.items (map (λ (pass : Vec Call Global). pass.items) l) entry) c.as_slice-4.ensures.value
    (subst (λ (l : List PlainAccount). IsTornFirst c.args.config.now (entries_of_books c.args.gathered.books.items) (entries_of_accounts l) c.args.gathered.entries.items (map (λ (pass : Vec Call Global). pass.items) c.as_slice-4.result.now) entry) c.as_slice-3.ensures.value
    (subst (λ (l : List PlainBook). IsTornFirst c.args.config.now (entries_of_books l) (entries_of_accounts c.as_slice-3.result.now) c.args.gathered.entries.items (map (λ (pass : Vec Call Global). pass.items) c.as_slice-4.result.now) entry) c.as_slice-2.ensures.value
    (subst (λ (l : List OrderEntry). IsTornFirst c.args.config.now (entries_of_books c.as_slice-2.result.now) (entries_of_accounts c.as_slice-3.result.now) l (map (λ (pass : Vec Call Global). pass.items) c.as_slice-4.result.now) entry) c.as_slice.ensures.value
    (c.in-Err.ensures.torn entry (ap Err same)))))
